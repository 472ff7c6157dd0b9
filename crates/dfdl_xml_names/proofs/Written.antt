-- Names as they are written, in bytes.
use Rattle.std.specs.Prelude.{◌≡◌, ℕ, Bool, true, false, not, nat_eq, ◌++◌, ◌∷◌, [], length}
use Rattle.std.specs.Str.{chars, IsUtf8, encode_utf8_all}
use Rattle.std.specs.String.{string_bytes}
use Rattle.std.proofs.Common.{refl, sym, ap, ◌∙◌, arith}
use Rattle.std.proofs.lemmas.Bool.Decides.{nat_tests}
use Rattle.std.proofs.lemmas.Str.{encodes-chars, IsUtf8-append}
use Rattle.std.proofs.lemmas.Slice.Eq.{bytes_eq-Decides}
use Rattle.dfdl_markup.specs.Grammar.{name_characters}
use Rattle.dfdl_markup.specs.Values.{same_name}
use Rattle.dfdl_xml_names.specs.Shown.{name_of, written_bytes}
use Rattle.dfdl_xml_names.specs.declared.name.Name.{Name}
use Rattle.dfdl_xml_names.specs.declared.name.Name.TheVariants.{Plain, Prefixed}
use Rattle.dfdl_xml_names.proofs.Texts.{joined_chars, is_text, colon_is_utf8}

written_chars : (name : Name) → chars (written_bytes name) ≡ name_characters (name_of name)
written_chars (Plain part) = refl
written_chars (Prefixed prefix part) = joined_chars (string_bytes prefix) (string_bytes part) (is_text prefix) (is_text part)

written_is_utf8 : (name : Name) → IsUtf8 (written_bytes name)
written_is_utf8 (Plain part) = is_text part
written_is_utf8 (Prefixed prefix part) =
    IsUtf8-append (string_bytes prefix ++ 58 ∷ []) (string_bytes part)
    (IsUtf8-append (string_bytes prefix) (58 ∷ []) (is_text prefix) colon_is_utf8) (is_text part)

-- names that are written alike have as many bytes
pub sizes_alike : (a b : Name) → same_name (name_of a) (name_of b) ≡ true → length (written_bytes a) ≡ length (written_bytes b)
sizes_alike a b alike =
    ap length
    (sym (encodes-chars (written_bytes a) (written_is_utf8 a))
    ∙ (ap encode_utf8_all
    (written_chars a ∙ ((bytes_eq-Decides (name_characters (name_of a)) (name_characters (name_of b))).0 alike ∙ sym (written_chars b)))
    ∙ encodes-chars (written_bytes b) (written_is_utf8 b)))

-- a test that fails where two numbers differ
pub differ_by : (x y : ℕ) (b : Bool) → (b ≡ true → x ≡ y) → not (nat_eq x y) ≡ true → b ≡ false
differ_by x y false same apart = refl
differ_by x y true same apart = let is = same refl in absurd (grind (arith, nat_tests, is, apart))
