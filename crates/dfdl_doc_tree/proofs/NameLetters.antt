-- What ends a name.
use Rattle.std.proofs.Common.{◌≡◌, ◌≢◌, ℕ, true, false, refl, sym, ◌∙◌, ap, Some, None}
use Rattle.std.specs.Prelude.{Option, if◌then◌else◌}
use Rattle.dfdl_markup.specs.Grammar.{Name, is_white}
use Rattle.dfdl_markup.specs.Machine.{tag_of}
use Rattle.dfdl_markup.specs.Building.{Stays, Enters, Leaves, tag_effect}
use Rattle.dfdl_doc_tree.specs.ScannerShown.{close_effect}
use Rattle.std.proofs.lemmas.Bool.{true≢false, ne_eqb}
use Rattle.dfdl_xml_chars.specs.Characters.{is_name_char, is_name_start, low_name_rows, low_start_rows}
use Rattle.dfdl_xml_chars.specs.Characters.{high_name_rows, high_mark_rows, high_start_rows}

semicolon : is_name_char 59 ≡ false
unfolding is_name_char low_name_rows low_start_rows high_name_rows high_mark_rows high_start_rows
semicolon = refl

greater : is_name_char 62 ≡ false
unfolding is_name_char low_name_rows low_start_rows high_name_rows high_mark_rows high_start_rows
greater = refl

pub no_semicolon : (c : ℕ) → is_name_char c ≡ true → c ≢ 59
no_semicolon c is e = true≢false (sym is ∙ (ap is_name_char e ∙ semicolon))

pub no_greater : (c : ℕ) → is_name_char c ≡ true → c ≢ 62
no_greater c is e = true≢false (sym is ∙ (ap is_name_char e ∙ greater))

start_greater : is_name_start 62 ≡ false
unfolding is_name_start low_start_rows high_start_rows
start_greater = refl

pub no_start_greater : (c : ℕ) → is_name_start c ≡ true → c ≢ 62
no_start_greater c is e = true≢false (sym is ∙ (ap is_name_start e ∙ start_greater))

-- and it does nothing to the tree
pub stays_in_name : (whole : Option Name) (c : ℕ) → c ≢ 62 → tag_effect whole c ≡ Stays
stays_in_name None c other = refl
stays_in_name (Some name) c other = ap (λ b. if b then Enters (tag_of name) else Stays) (ne_eqb c 62 other)

pub no_end : (c : ℕ) → c ≢ 62 → close_effect c ≡ Stays
no_end c other = ap (λ b. if b then Leaves else Stays) (ne_eqb c 62 other)

white_greater : is_white 62 ≡ false
unfolding is_white
white_greater = refl

pub white_stays : (c : ℕ) → is_white c ≡ true → close_effect c ≡ Stays
white_stays c is = no_end c (λ e. true≢false (sym is ∙ (ap is_white e ∙ white_greater)))
