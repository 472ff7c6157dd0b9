use Rattle.std.proofs.Common.{◌≡◌, ◌+◌, ◌-◌, ◌*◌, true, drop, filter, ap, sym, ◌∙◌, arith}
use Rattle.std.specs.Char.{is_ascii_digit}
use Rattle.dfdl_value.specs.Texts.{number_after}
use Rattle.dfdl_number_text.proofs.BodyDigits.{number_after-digit, number_after-digit_ge}
use Rattle.dfdl_number_text.proofs.body_digits.appended.Goals as goal

pub returns-in_err-shifted : goal.returns-in_err-shifted
returns-in_err-shifted c =
    let digit : is_ascii_digit c.c-item.result ≡ true = sym c.is_ascii_digit.ensures.value ∙ c.if-not-is_ascii_digit.false in
    let least = number_after-digit_ge c.loop-c.number _ c.args.text.now c.loop-c.c-index c.c-item.result c.loop-c-test.true c.c-item.is digit c.loop-c.invariant.rest in
    rw c.from_residual.ensures (λ fits. c.in_err-shifted.ensures (omega (arith, least, fits)))

pub returns-in_err-number : goal.returns-in_err-number
returns-in_err-number c =
    let digit : is_ascii_digit c.c-item.result ≡ true = sym c.is_ascii_digit.ensures.value ∙ c.if-not-is_ascii_digit.false in
    let least = number_after-digit_ge c.loop-c.number _ c.args.text.now c.loop-c.c-index c.c-item.result c.loop-c-test.true c.c-item.is digit c.loop-c.invariant.rest in
    rw c.from_residual-in_err-number.ensures (λ fits. c.in_err-number.ensures (omega (arith, least, fits)))

pub loop-c-preserved : goal.loop-c-preserved
loop-c-preserved c =
    let digit : is_ascii_digit c.c-item.result ≡ true = sym c.is_ascii_digit.ensures.value ∙ c.if-not-is_ascii_digit.false in
    let is : c.in_ok-number.number ≡ c.loop-c.number * 10 + (c.c-item.result - 48) = omega (arith, c.in_ok-number.ensures.1, c.in_ok-shifted.ensures.1, c.from.ensures) in
    record {
      fits = omega (arith, c.in_ok-number.ensures.0, c.in_ok-number.ensures.1);
      rest = ap (λ n. number_after n (filter is_ascii_digit (drop (c.loop-c.c-index + 1) c.args.text.now))) is
          ∙ number_after-digit c.loop-c.number _ c.args.text.now c.loop-c.c-index c.c-item.result c.loop-c-test.true c.c-item.is digit c.loop-c.invariant.rest;
    }
