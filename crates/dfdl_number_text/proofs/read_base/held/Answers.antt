use Rattle.std.proofs.Common.{◌≡◌, ◌+◌, ◌*◌, nat_lt, true, false, drop, ap, sym, ◌∙◌, arith}
use Rattle.std.specs.Char.{digit_value}
use Rattle.std.proofs.lemmas.Bool.{le-ltb}
use Rattle.std.proofs.lemmas.List.Folds.{list_all_at}
use Rattle.dfdl_number_text.proofs.BodyDigits.{behind, behind-digit, behind-digit_ge}
use Rattle.dfdl_number_text.proofs.read_base.held.Goals as goal

false_true : ¬ (false ≡ true)
false_true e = absurd (cc)

pub returns-in_err-digit : goal.returns-in_err-digit
returns-in_err-digit c =
    let digits = list_all_at (λ x. nat_lt (digit_value x) c.args.base) c.args.digits.now c.loop-c.c-index c.c-item.result c.loop-c-test.true in
    let past = le-ltb (digit_value c.c-item.result) c.args.base (omega (arith, c.in_err-digit.ensures.value)) in
    let none = digits (ap (λ x. nat_lt (digit_value x) c.args.base) (sym c.c-item.is) ∙ past) in
    absurd (false_true (sym none ∙ c.requires.digits))

pub returns-in_err-shifted : goal.returns-in_err-shifted
returns-in_err-shifted c =
    let least = behind-digit_ge c.args.base c.loop-c.number _ c.args.digits.now c.loop-c.c-index c.c-item.result (omega arith) c.loop-c-test.true c.c-item.is c.loop-c.invariant.rest in
    let same = ap (λ b. c.loop-c.number * b) c.from.ensures in
    rw c.from_residual-in_err-shifted.ensures (λ fits. c.in_err-shifted.ensures (omega (arith, least, fits, same)))

pub returns-in_err-number : goal.returns-in_err-number
returns-in_err-number c =
    let least = behind-digit_ge c.args.base c.loop-c.number _ c.args.digits.now c.loop-c.c-index c.c-item.result (omega arith) c.loop-c-test.true c.c-item.is c.loop-c.invariant.rest in
    let same = ap (λ b. c.loop-c.number * b) c.from.ensures in
    rw c.from_residual-in_err-number.ensures
    (λ fits. c.in_err-number.ensures (omega (arith, least, fits, same, c.in_ok-shifted.ensures.1, c.from-in-loop-c.ensures, c.in_ok-digit.ensures.value.1)))

pub loop-c-preserved : goal.loop-c-preserved
loop-c-preserved c =
    let same = ap (λ b. c.loop-c.number * b) c.from.ensures in
    let is : c.in_ok-number.number ≡ c.loop-c.number * c.args.base + digit_value c.c-item.result =
    omega (arith, same, c.in_ok-number.ensures.1, c.in_ok-shifted.ensures.1, c.from-in-loop-c.ensures, c.in_ok-digit.ensures.value.1) in
    record {
      fits = omega (arith, c.in_ok-number.ensures.0, c.in_ok-number.ensures.1);
      rest = ap (λ n. behind c.args.base n (drop (c.loop-c.c-index + 1) c.args.digits.now)) is
          ∙ behind-digit c.args.base c.loop-c.number _ c.args.digits.now c.loop-c.c-index c.c-item.result c.loop-c-test.true c.c-item.is c.loop-c.invariant.rest;
    }
