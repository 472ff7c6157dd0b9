-- Plain characters of names by the rows of ASCII.
use Rattle.std.specs.Prelude.{◌≡◌, ℕ, Bool, true, false, ◌&&◌}
use Rattle.std.proofs.Common.{refl, sym}
use Rattle.std.proofs.lemmas.Bool.{and_parts, ltb-true}
use Rattle.dfdl_xml_chars.specs.Characters.{is_in, is_name_char, low_name_rows}
use Rattle.dfdl_xml_chars.proofs.Tables.{low_char}
use Rattle.dfdl_doc_tree.specs.Plain.{is_plain}

under : (b x y : Bool) → (b ≡ true → x ≡ y) → (b && x) ≡ (b && y)
under true x y same = same refl
under false x y same = refl

plain_is_low : (c : ℕ) → is_plain c ≡ true → is_in low_name_rows c ≡ is_name_char c
unfolding is_plain
plain_is_low c plain = sym (low_char c (ltb-true c 128 (and_parts _ _ plain).0))

pub name_byte : (c : ℕ) → (is_plain c && is_in low_name_rows c) ≡ (is_plain c && is_name_char c)
name_byte c = under (is_plain c) (is_in low_name_rows c) (is_name_char c) (plain_is_low c)
