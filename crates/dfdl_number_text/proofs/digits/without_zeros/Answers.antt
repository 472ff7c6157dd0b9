use Rattle.std.proofs.Common.{◌≡◌, ◌-◌, ◌≤◌, ℕ, suc, map, ap, sym, ◌∙◌, arith}
use Rattle.dfdl_number_text.specs.Writing.{fraction_digits}
use Rattle.dfdl_number_text.specs.Digits.{digits_at, digit_character}
use Rattle.dfdl_number_text.proofs.WriteLists.{zero_off, none_off, least_digits}
use Rattle.dfdl_number_text.proofs.digits.without_zeros.Goals as goal

pub loop-count-preserved : goal.loop-count-preserved
loop-count-preserved c =
    let before : ℕ = c.loop-count.count - 1 in
    let here : c.loop-count.count ≡ suc before = omega arith in
    let fits : c.args.least ≤ before = omega arith in
    record {
      digits = c.loop-count.invariant.digits
          ∙ ap (λ (k : ℕ). fraction_digits c.args.least k c.loop-count.number) here
          ∙ zero_off c.args.least before c.loop-count.number fits (sym c.last_digit-last.ensures.digit ∙ c.if-last-ne0.false)
          ∙ ap (fraction_digits c.args.least before) (sym c.last_digit-last.ensures.front);
      least = fits;
      most = omega (arith, c.loop-count.invariant.most);
    }

pub returns-then-last-ne0-clause-digits : goal.returns-then-last-ne0-clause-digits
returns-then-last-ne0-clause-digits c =
    let before : ℕ = c.loop-count.count - 1 in
    let here : c.loop-count.count ≡ suc before = omega arith in
    let all : fraction_digits c.args.least c.loop-count.count c.loop-count.number ≡ map digit_character (digits_at 10 c.loop-count.count c.loop-count.number) =
    rw here (none_off c.args.least before c.loop-count.number (omega arith) (λ none. c.if-last-ne0.true (c.last_digit-last.ensures.digit ∙ none))) in
    c.loop-count.invariant.digits ∙ all

pub returns-after-loop-count-clause-digits : goal.returns-after-loop-count-clause-digits
returns-after-loop-count-clause-digits c =
    let least : c.loop-count.count ≡ c.args.least = omega (arith, c.loop-count.invariant.least) in
    c.loop-count.invariant.digits ∙ rw least (least_digits c.args.least c.loop-count.number)
