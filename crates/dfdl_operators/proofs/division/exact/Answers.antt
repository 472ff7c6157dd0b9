use Rattle.std.proofs.Common.{ℕ, ◌+◌, ◌*◌, ◌%◌, ◌^◌, ◌<◌, ◌≡◌, ◌∙◌, sym, ap, subst, arith}
use Rattle.std.specs.Option.{SomeIff}
use Rattle.dfdl_decimal.proofs.DivisionLemmas.{next_quotient, next_rest, next_last}
use Rattle.dfdl_operators.proofs.division.exact.Goals as goal

pub loop-rest-preserved : goal.loop-rest-preserved
loop-rest-preserved c =
    let x = c.args.dividend in
    let y = c.args.divisor in
    let k = c.loop-rest.zeros in
    let d = c.ten_times-step.result.times in
    let r = c.ten_times-step.result.rest in
    let less : r < y = c.ten_times-step.ensures.rest in
    let is : d * y + r ≡ x * 10 ^ k % y * 10 = c.ten_times-step.ensures.sum ∙ ap (λ n. n * 10) c.loop-rest.invariant.rest in
    let P : ℕ → Type 0 = λ n. SomeIff c.extended-number.result (n < 2 ^ 128) n in
    let left : 0 < x * 10 ^ k % y = omega (arith, c.loop-rest.invariant.rest) in
    record {
      few = omega (arith, c.loop-rest.invariant.few);
      rest = sym (next_rest x k y d r c.requires less is);
      number = subst P (sym (next_quotient x k y d r c.requires less is)) (c.extended-number.ensures _ c.loop-rest.invariant.number);
      last = λ _ none. next_last x k y d r c.requires less is left none;
    }
