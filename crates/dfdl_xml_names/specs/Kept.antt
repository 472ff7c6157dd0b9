-- Mirror for the prover: what the sets and maps beside a list answer.
use Rattle.std.specs.Prelude.{◌≡◌, ℕ, List, option_map, chars, IsUtf8, String}
use Rattle.std.specs.BTreeMap.{BTreeMap, get_by_text}
use Rattle.std.specs.BTreeSet.{BTreeSet, contains_text}
use Rattle.std.specs.List.{list_any}
use Rattle.std.specs.Str.{bytes_eq}
use Rattle.dfdl_markup.specs.Grammar.{name_characters}
use Rattle.dfdl_markup.specs.Values as values
use Rattle.dfdl_markup.specs.Values.{found}
use Rattle.dfdl_xml_names.specs.Shown.{text_of}
use Rattle.dfdl_xml_names.specs.declared.bindings.Binding.{Binding}

-- a binding
abbrev pub binding_of : Binding → values.Binding
binding_of binding = record {
  prefix = text_of binding.prefix;
  namespace = text_of binding.namespace;
}

-- the map has the namespace of the first binding of each prefix
abbrev pub HasFirst : {A : Type 0} → BTreeMap (String A) (String A) → List values.Binding → Type 0
HasFirst first bindings =
    (q : List ℕ) → IsUtf8 q
    → option_map text_of (get_by_text first q) ≡ found bindings (chars q)

-- the set has the names of the attributes, and no other
abbrev pub HasNames : {A : Type 0} → BTreeSet (String A) → List values.Attribute → Type 0
HasNames names attributes =
    (q : List ℕ) → IsUtf8 q
    → contains_text names q ≡ list_any (λ a. bytes_eq (name_characters a.name) (chars q)) attributes
