-- A list with one item more, and the set or map beside it.
use Rattle.std.specs.Prelude.{◌≡◌, ℕ, Bool, true, false, ◌||◌, List, ◌++◌, ◌∷◌, [], String, Option, Some, None, option_map}
use Rattle.std.specs.Prelude.{if◌then◌else◌}
use Rattle.std.specs.List.{list_any, cons_option}
use Rattle.std.specs.Option.{option_or}
use Rattle.std.specs.Str.{bytes_eq, chars, IsUtf8}
use Rattle.std.specs.String.{string_bytes}
use Rattle.std.specs.BTreeMap.{BTreeMap, get_by_text}
use Rattle.std.specs.BTreeSet.{BTreeSet, contains_text}
use Rattle.std.proofs.Common.{refl, sym, ap, ◌∙◌}
use Rattle.std.proofs.lemmas.List.Folds.{list_any-append}
use Rattle.dfdl_markup.specs.Grammar.{Name, name_characters}
use Rattle.dfdl_markup.specs.Values as values
use Rattle.dfdl_markup.specs.Values.{found}
use Rattle.dfdl_xml_names.specs.Shown.{text_of}
use Rattle.dfdl_xml_names.specs.Kept.{HasFirst, HasNames}
use Rattle.dfdl_xml_names.proofs.Texts.{same_chars}

abbrev pub the_binding : List ℕ → List ℕ → values.Binding
the_binding prefix namespace = record { prefix = prefix; namespace = namespace }

-- what is found in two lists, one behind the other
pub found_append : (xs ys : List values.Binding) (p : List ℕ) → found (xs ++ ys) p ≡ option_or (found xs p) (found ys p)
found_append [] ys p = refl
found_append (x ∷ xs) ys p = found_more (bytes_eq x.prefix p) x.namespace _ _ (found ys p) (found_append xs ys p)
  where
    found_more : (b : Bool) (n : List ℕ) (r s t : Option (List ℕ)) → r ≡ option_or s t
        → (if b then Some n else r) ≡ option_or (if b then Some n else s) t
    found_more true n r s t e = refl
    found_more false n r s t e = e

map_or : {A B : Type 0} (f : A → B) (a b : Option A) → option_map f (option_or a b) ≡ option_or (option_map f a) (option_map f b)
map_or f None b = refl
map_or f (Some x) b = refl

map_text : {A : Type 0} (o : Option (String A)) → option_map text_of o ≡ option_map chars (option_map string_bytes o)
map_text None = refl
map_text (Some x) = refl

map_if : (b : Bool) (n : List ℕ) → option_map chars (if b then Some n else None) ≡ (if b then Some (chars n) else None)
map_if true n = refl
map_if false n = refl

-- one binding more, and the map that keeps the first of each prefix
pub with_first : {A : Type 0} (old new : BTreeMap (String A) (String A)) (bindings : List values.Binding) (prefix namespace : List ℕ)
    → IsUtf8 prefix
    → ((q : List ℕ) → option_map string_bytes (get_by_text new q) ≡ option_or (option_map string_bytes (get_by_text old q)) (if bytes_eq prefix q then Some namespace else None))
    → HasFirst old bindings
    → HasFirst new (bindings ++ record { prefix = chars prefix; namespace = chars namespace } ∷ [])
with_first old new bindings prefix namespace text step kept = λ q u.
    map_text (get_by_text new q)
    ∙ (ap (option_map chars) (step q)
    ∙ (map_or chars (option_map string_bytes (get_by_text old q)) (if bytes_eq prefix q then Some namespace else None)
    ∙ (ap (λ o. option_or o (option_map chars (if bytes_eq prefix q then Some namespace else None))) (sym (map_text (get_by_text old q)) ∙ kept q u)
    ∙ (ap (option_or (found bindings (chars q)))
    (map_if (bytes_eq prefix q) namespace ∙ ap (λ b. if b then Some (chars namespace) else None) (sym (same_chars prefix q text u)))
    ∙ sym (found_append bindings (record { prefix = chars prefix; namespace = chars namespace } ∷ []) (chars q))))))

or_last : (a b : Bool) → (if a then true else b) ≡ (b || (a || false))
or_last true true = refl
or_last true false = refl
or_last false true = refl
or_last false false = refl

-- one attribute more, and the set of the names
pub with_name : {A : Type 0} (old new : BTreeSet (String A)) (attributes : List values.Attribute) (more : values.Attribute) (text : List ℕ)
    → IsUtf8 text → chars text ≡ name_characters more.name
    → ((q : List ℕ) → contains_text new q ≡ (if bytes_eq text q then true else contains_text old q))
    → HasNames old attributes → HasNames new (attributes ++ more ∷ [])
with_name old new attributes more text utf8 is step kept = λ q u.
    step q
    ∙ (ap (λ b. if b then true else contains_text old q) (sym (same_chars text q utf8 u) ∙ ap (λ l. bytes_eq l (chars q)) is)
    ∙ (ap (λ b. if bytes_eq (name_characters more.name) (chars q) then true else b) (kept q u)
    ∙ (or_last (bytes_eq (name_characters more.name) (chars q)) (list_any (λ a. bytes_eq (name_characters a.name) (chars q)) attributes)
    ∙ sym (list_any-append (λ a. bytes_eq (name_characters a.name) (chars q)) attributes (more ∷ [])))))

-- a binding of these two texts
pub same_binding : (p n q m : List ℕ) → p ≡ q → n ≡ m
    → the_binding (chars p) (chars n) ≡ the_binding (chars q) (chars m)
same_binding p n q m e f = ap (λ l. the_binding (chars l) (chars n)) e ∙ ap (λ l. the_binding (chars q) (chars l)) f

-- a prefix that no binding has, with one binding more
pub lacks_more : (old : List values.Binding) (more : values.Binding) (p : List ℕ) (has now : Bool)
    → (has ≡ false → found old p ≡ None) → now ≡ (has || bytes_eq more.prefix p) → now ≡ false
    → found (old ++ more ∷ []) p ≡ None
lacks_more old more p has now before step none =
    found_append old (more ∷ []) p ∙ both has (bytes_eq more.prefix p) before (sym step ∙ none)
  where
    both : (h b : Bool) → (h ≡ false → found old p ≡ None) → (h || b) ≡ false
        → option_or (found old p) (if b then Some more.namespace else None) ≡ None
    both true b before none = absurd (cc)
    both false true before none = absurd (cc)
    both false false before none = ap (λ o. option_or o None) (before refl)

-- what an attribute declares
abbrev pub bound_by : Name → List ℕ → List values.Binding
bound_by name value = values.bindings_of (record { name = name; value = value } ∷ [])

-- an attribute's name that declares nothing, and one that declares a prefix
pub bound_none : (name : Name) (value : List ℕ) → values.declares name ≡ None → bound_by name value ≡ []
bound_none name value is = ap (λ o. cons_option (values.bound_to value o) []) is

pub bound_one : (name : Name) (value prefix : List ℕ) → values.declares name ≡ Some prefix
    → bound_by name value ≡ record { prefix = prefix; namespace = value } ∷ []
bound_one name value prefix is = ap (λ o. cons_option (values.bound_to value o) []) is
