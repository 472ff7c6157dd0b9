-- Mirror for the prover: the names whose prefix is not found, by their prefix.
use Rattle.std.specs.Prelude.{◌≡◌, ℕ, List, [], ◌∷◌, Option, Some, None, map, String, Vec, chars, IsUtf8, if◌then◌else◌}
use Rattle.std.specs.BTreeMap.{get_by_text}
use Rattle.std.specs.Str.{bytes_eq}
use Rattle.dfdl_markup.specs.Grammar.{Name, Plain, Prefixed}
use Rattle.dfdl_markup.specs.Values.{Binding, found, xmlns_prefix}
use Rattle.dfdl_xml_names.specs.Shown.{text_of}
use Rattle.dfdl_xml_names.specs.declared.waiting.Waiting.{Waiting}

-- the parts, if there are some
abbrev pub parts_in : {A B : Type 0} → Option (Vec (String A) B) → List (List ℕ)
parts_in None = []
parts_in (Some parts) = map text_of parts.items

-- the parts that wait at a prefix
abbrev pub parts_at : Waiting → List ℕ → List (List ℕ)
parts_at waiting prefix =
    if bytes_eq prefix xmlns_prefix then map text_of waiting.declarations.items else parts_in (get_by_text waiting.others prefix)

-- the local parts of the names with this prefix, in their order
abbrev pub parts_of : List ℕ → List Name → List (List ℕ)
parts_of prefix [] = []
parts_of prefix (Plain part ∷ names) = parts_of prefix names
parts_of prefix (Prefixed other part ∷ names) =
    if bytes_eq other prefix then part ∷ parts_of prefix names else parts_of prefix names

-- the same, unless the prefix is found
abbrev pub parts_left : Option (List ℕ) → List ℕ → List Name → List (List ℕ)
parts_left (Some namespace) prefix names = []
parts_left None prefix names = parts_of prefix names

-- what waits are the names whose prefix is not found
abbrev pub IsWaiting : Waiting → List Binding → List Name → Type 0
IsWaiting waiting scope names =
    (q : List ℕ) → IsUtf8 q → parts_at waiting q ≡ parts_left (found scope (chars q)) (chars q) names
