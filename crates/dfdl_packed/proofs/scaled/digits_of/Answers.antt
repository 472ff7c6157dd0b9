use Rattle.std.proofs.Common.{◌≡◌, ℕ, ◌+◌, ◌-◌, ◌/◌, ◌^◌, ◌<◌, ◌≤◌, inl, inr, ap, ◌∙◌, arith}
use Rattle.std.proofs.lemmas.Bool.{cases_lt}
use Rattle.std.proofs.Math.Nat.{pow-le-pow_right}
use Rattle.dfdl_packed.proofs.ScaledLemmas.{digits_below, digits_above, next_quotient}
use Rattle.dfdl_packed.proofs.scaled.digits_of.Goals as goal

pub loop-rest-preserved : goal.loop-rest-preserved
loop-rest-preserved c =
    let n : ℕ = c.args.number in
    let k : ℕ = c.loop-rest.len - 1 in
    let some : 1 ≤ c.loop-rest.len = c.loop-rest.invariant.some in
    let cut : c.loop-rest.len + 1 - 1 ≡ k + 1 = omega arith in
    let large : 10 ≤ n / 10 ^ k = omega (arith, c.loop-rest.invariant.rest) in
    let above : 10 ^ (k + 1) ≤ n = digits_above n k large in
    record {
      rest = rw cut (c.cut-rest.ensures.rest ∙ ap (λ (x : ℕ). x / 10) c.loop-rest.invariant.rest ∙ next_quotient n k);
      some = omega arith;
      above = λ more. rw cut above;
      few = elim (cases_lt c.loop-rest.len 39) [
        | inl fits ↦ omega arith
        | inr over ↦
            let room : 39 ≤ k + 1 = omega arith in
            let most : 10 ^ 39 ≤ 10 ^ (k + 1) = pow-le-pow_right {n = 10} (omega arith) room in
            absurd (omega arith)
      ];
    }

pub returns-clause-digits : goal.returns-clause-digits
returns-clause-digits c =
    let some : 1 ≤ c.loop-rest.len = c.loop-rest.invariant.some in
    let cut : c.loop-rest.len - 1 + 1 ≡ c.loop-rest.len = omega arith in
    let small : c.args.number / 10 ^ (c.loop-rest.len - 1) < 10 = omega (arith, c.loop-rest.invariant.rest) in
    record {
      some = some;
      below = rw cut at (digits_below c.args.number (c.loop-rest.len - 1) small);
      above = c.loop-rest.invariant.above;
    }
