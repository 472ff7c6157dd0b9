use Rattle.std.proofs.Common.{◌≡◌, ◌-◌, ◌<◌, ◌&&◌, ◌==◌, nat_lt, true, [], ◌∷◌, length, sym, ap, ◌∙◌, arith, if◌then◌else◌}
use Rattle.std.proofs.lemmas.Bool.{ltb-true, eqb-true}
use Rattle.dfdl_text_string.specs.Padding.{bare, is_trim, keeps_one}
use Rattle.dfdl_text_string.proofs.PaddingLemmas.{zero_at, zero_tests}
use Rattle.dfdl_text_string.proofs.padding.trim.Goals as goal

pub returns-then-is_zero_kept-clause-kept : goal.returns-then-is_zero_kept-clause-kept
returns-then-is_zero_kept-clause-kept c =
    let form = c.args.form.now in
    let text = c.args.chars.now in
    let range = c.bare_range-begin in
    let size : length (bare form text) ≡ range.result.1 - range.result.0 = omega (arith, range.ensures.end) in
    let keeps : keeps_one form text ≡ true =
    ap (λ n. form.keeps_zero && (is_trim form.trim 48 && (nat_lt 0 (length text) && (n == 0)))) size ∙ sym c.is_zero_kept.ensures ∙ c.if-is_zero_kept.true in
    let tests : (is_trim form.trim 48 ≡ true) × (nat_lt 0 (length text) ≡ true) × ((length (bare form text) == 0) ≡ true) =
    zero_tests form.keeps_zero (is_trim form.trim 48) (nat_lt 0 (length text)) (length (bare form text) == 0) keeps in
    let some : 0 < length text = ltb-true 0 (length text) tests.1 in
    let none : length (bare form text) ≡ 0 = eqb-true (length (bare form text)) 0 tests.2 in
    let inside : c.saturating_sub-at.result < length text = omega (arith, c.saturating_sub-at.ensures, range.ensures.within, range.ensures.end, some) in
    zero_at form.justify form.trim text c.saturating_sub-at.result tests.0 inside none
    ∙ sym (ap (λ b. if b then 48 ∷ [] else bare form text) keeps)
