use Rattle.std.proofs.Common.{ℕ, ◌+◌, ◌*◌, ◌%◌, ◌^◌, ◌<◌, ◌≡◌, ◌∙◌, sym, ap, subst, arith}
use Rattle.std.specs.Option.{SomeIff}
use Rattle.dfdl_decimal.proofs.DivisionLemmas.{next_quotient, next_rest}
use Rattle.dfdl_operators.proofs.division.long.Goals as goal

pub loop-zeros-preserved : goal.loop-zeros-preserved
loop-zeros-preserved c =
    let x = c.args.dividend in
    let y = c.args.divisor in
    let k = c.loop-zeros.zeros in
    let d = c.ten_times-step.result.times in
    let r = c.ten_times-step.result.rest in
    let less : r < y = c.ten_times-step.ensures.rest in
    let is : d * y + r ≡ x * 10 ^ k % y * 10 = c.ten_times-step.ensures.sum ∙ ap (λ n. n * 10) c.loop-zeros.invariant.rest in
    let P : ℕ → Type 0 = λ n. SomeIff c.extended-number.result (n < 2 ^ 128) n in
    record {
      few = omega (arith, c.loop-zeros.invariant.few);
      rest = sym (next_rest x k y d r c.requires less is);
      number = subst P (sym (next_quotient x k y d r c.requires less is)) (c.extended-number.ensures _ c.loop-zeros.invariant.number);
    }
