use Rattle.std.proofs.Common.{◌≡◌, ℕ, ◌+◌, ◌-◌, ◌*◌, true, length, drop, filter, ap, sym, ◌∙◌, arith}
use Rattle.std.specs.Char.{is_ascii_digit}
use Rattle.dfdl_value.specs.Texts.{number_after}
use Rattle.dfdl_number_text.proofs.BodyDigits.{number_after-digit, number_after-other}
use Rattle.dfdl_number_text.proofs.ShortNumbers.{digit_small, digit_fits, room_for_digit, room_without}
use Rattle.dfdl_number_text.proofs.body_digits.appended_short.Goals as goal

pub loop-c-preserved-then-not-is_ascii_digit : goal.loop-c-preserved-then-not-is_ascii_digit
loop-c-preserved-then-not-is_ascii_digit c = record {
  small = room_without c.loop-c.number _ (length c.args.text.now) c.loop-c.c-index c.loop-c.invariant.small;
  rest = number_after-other c.loop-c.number _ c.args.text.now c.loop-c.c-index c.c-item.result c.loop-c-test.true c.c-item.is
      (sym c.is_ascii_digit.ensures.value ∙ c.if-not-is_ascii_digit.true) c.loop-c.invariant.rest;
}

pub overflow_mul-number : goal.overflow_mul-number
overflow_mul-number c =
    let digit : is_ascii_digit c.c-item.result ≡ true = sym c.is_ascii_digit.ensures.value ∙ c.if-not-is_ascii_digit.false in
    omega (arith, digit_fits c.loop-c.number (c.c-item.result - 48) _ (length c.args.text.now) c.loop-c.c-index c.loop-c-test.true (digit_small c.c-item.result digit) c.loop-c.invariant.small c.requires)

pub overflow_add-number : goal.overflow_add-number
overflow_add-number c =
    let digit : is_ascii_digit c.c-item.result ≡ true = sym c.is_ascii_digit.ensures.value ∙ c.if-not-is_ascii_digit.false in
    omega (arith, digit_fits c.loop-c.number (c.c-item.result - 48) _ (length c.args.text.now) c.loop-c.c-index c.loop-c-test.true (digit_small c.c-item.result digit) c.loop-c.invariant.small c.requires, c.from.ensures)

pub loop-c-preserved : goal.loop-c-preserved
loop-c-preserved c =
    let text = c.args.text.now in
    let digit : is_ascii_digit c.c-item.result ≡ true = sym c.is_ascii_digit.ensures.value ∙ c.if-not-is_ascii_digit.false in
    let is : c.loop-c.number * 10 + c.from.result ≡ c.loop-c.number * 10 + (c.c-item.result - 48) = ap (λ (d : ℕ). c.loop-c.number * 10 + d) c.from.ensures in
    record {
      small = rw is (room_for_digit c.loop-c.number (c.c-item.result - 48) _ (length text) c.loop-c.c-index c.loop-c-test.true (digit_small c.c-item.result digit) c.loop-c.invariant.small);
      rest = ap (λ n. number_after n (filter is_ascii_digit (drop (c.loop-c.c-index + 1) text))) is
          ∙ number_after-digit c.loop-c.number _ text c.loop-c.c-index c.c-item.result c.loop-c-test.true c.c-item.is digit c.loop-c.invariant.rest;
    }
