-- The names as they are written, with one attribute more.
use Rattle.std.specs.Prelude.{◌≡◌, ℕ, ◌||◌, true, if◌then◌else◌, List, ◌++◌, ◌∷◌, []}
use Rattle.std.specs.BTreeSet.{contains_text}
use Rattle.std.specs.List.{list_any}
use Rattle.std.specs.Str.{bytes_eq, chars, IsUtf8}
use Rattle.std.proofs.Common.{sym, ap, ◌∙◌}
use Rattle.std.proofs.lemmas.List.{map-append}
use Rattle.dfdl_markup.specs.Grammar as grammar
use Rattle.dfdl_markup.specs.Grammar.{name_characters}
use Rattle.dfdl_markup.specs.Values as values
use Rattle.dfdl_markup.specs.Values.{have_same, names_of, same_name}
use Rattle.dfdl_xml_names.specs.Indexed.{IsWritten}
use Rattle.dfdl_xml_names.specs.declared.names.Written.{Written}
use Rattle.dfdl_xml_names.proofs.Expanded.{same_behind}
use Rattle.dfdl_xml_names.proofs.Kept.{with_name}
use Rattle.dfdl_xml_names.proofs.Lists.{any_name}

pub with_written : (old new : Written) (attributes : List values.Attribute) (more : values.Attribute) (text : List ℕ)
    → IsUtf8 text → chars text ≡ name_characters more.name
    → ((q : List ℕ) → contains_text new.names q ≡ (if bytes_eq text q then true else contains_text old.names q))
    → new.repeated ≡ (old.repeated || contains_text old.names text)
    → IsWritten old attributes → IsWritten new (attributes ++ more ∷ [])
with_written old new attributes more text utf8 is names repeated kept = record {
  names = with_name old.names new.names attributes more text utf8 is names kept.names;
  repeated =
      repeated
      ∙ (ap (λ b. b || contains_text old.names text) kept.repeated
      ∙ (ap (λ b. have_same same_name (names_of attributes) || b)
      (kept.names text utf8
      ∙ (ap (λ l. list_any (λ (a : values.Attribute). bytes_eq (name_characters a.name) l) attributes) is
      ∙ sym (any_name (λ (other : grammar.Name). same_name other more.name) attributes)))
      ∙ sym (ap (have_same same_name) (map-append (λ (a : values.Attribute). a.name) attributes (more ∷ []))
      ∙ same_behind same_name (names_of attributes) more.name)));
}
