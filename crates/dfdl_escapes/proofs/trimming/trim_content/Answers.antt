use Rattle.std.proofs.Common.{◌≡◌, ℕ, ◌-◌, ◌<◌, Bool, ◌&&◌, ◌==◌, nat_lt, true, [], ◌∷◌, length, sym, ap, ◌∙◌, arith, if◌then◌else◌}
use Rattle.std.proofs.lemmas.Bool.{ltb-true, eqb-true}
use Rattle.dfdl_text_string.specs.Padding.{is_trim}
use Rattle.dfdl_escapes.specs.Trims.{bare_content, keeps_one_zero, unescaped}
use Rattle.dfdl_escapes.proofs.TrimmedContents.{zero_at, zero_tests}
use Rattle.dfdl_escapes.proofs.trimming.trim_content.Goals as goal

pub returns-then-is_zero_kept-clause-kept : goal.returns-then-is_zero_kept-clause-kept
returns-then-is_zero_kept-clause-kept c =
    let form = c.args.form.now in
    let characters = c.args.characters.now in
    let range = c.bare_range-begin in
    let size : length (bare_content form characters) ≡ range.result.1 - range.result.0 = omega (arith, range.ensures.end) in
    let keeps : keeps_one_zero form characters ≡ true =
    ap (λ (n : ℕ). form.keeps_zero && (is_trim form.trim 48 && (nat_lt 0 (length characters) && (n == 0)))) size
    ∙ sym c.is_zero_kept.ensures ∙ c.if-is_zero_kept.true in
    let tests : (is_trim form.trim 48 ≡ true) × (nat_lt 0 (length characters) ≡ true) × ((length (bare_content form characters) == 0) ≡ true) =
    zero_tests form.keeps_zero (is_trim form.trim 48) (nat_lt 0 (length characters)) (length (bare_content form characters) == 0) keeps in
    let some : 0 < length characters = ltb-true 0 (length characters) tests.1 in
    let none : length (bare_content form characters) ≡ 0 = eqb-true (length (bare_content form characters)) 0 tests.2 in
    let inside : c.saturating_sub-at.result < length characters = omega (arith, c.saturating_sub-at.ensures, range.ensures.within, range.ensures.end, some) in
    zero_at form characters c.saturating_sub-at.result tests.0 inside none
    ∙ sym (ap (λ (b : Bool). if b then unescaped 48 ∷ [] else bare_content form characters) keeps)
