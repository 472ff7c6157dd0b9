use Rattle.std.proofs.Common.{◌≡◌, ℕ, ◌+◌, ◌-◌, ◌*◌, ◌^◌, ◌<◌, ◌≤◌, inl, inr, ap, sym, ◌∙◌, arith}
use Rattle.std.proofs.lemmas.Bool.{cases_lt}
use Rattle.std.proofs.Math.Nat.{pow-le-pow_right}
use Rattle.dfdl_number_text.proofs.RoundingLemmas.{power_some}
use Rattle.dfdl_number_text.proofs.DigitLemmas.{power_more}
use Rattle.dfdl_number_text.proofs.digits.decimal_count.Goals as goal

-- a number of at most 18 digits reaches no later power
few_more : (count number : ℕ) → number < 10 ^ 18 → 10 ^ count ≤ number → count < 18
few_more count number small least = elim (cases_lt count 18) [
  | inl few ↦ few
  | inr many ↦
      let large : 10 ^ 18 ≤ 10 ^ count = pow-le-pow_right {n = 10} (omega arith) many in
      absurd (omega (arith, large, least, small))
]

pub loop-power-preserved : goal.loop-power-preserved
loop-power-preserved c =
    let here : c.loop-power.count + 1 - 1 ≡ c.loop-power.count = omega arith in
    let power = c.loop-power.invariant.power in
    let least : 10 ^ c.loop-power.count ≤ c.args.number = omega (arith, power, c.loop-power-test.true) in
    record {
      power = ap (λ (p : ℕ). p * 10) power ∙ sym (power_more 10 c.loop-power.count);
      above = λ some. rw here least;
      few = omega (arith, few_more c.loop-power.count c.args.number c.requires least);
    }

pub returns-clause-digits : goal.returns-clause-digits
returns-clause-digits c =
    let power = c.loop-power.invariant.power in
    record { below = omega (arith, power, c.loop-power-test.false); above = c.loop-power.invariant.above }

pub loop-power-smaller : goal.loop-power-smaller
loop-power-smaller c =
    let power = c.loop-power.invariant.power in
    omega (arith, power, power_some 10 c.loop-power.count (omega arith), c.loop-power-test.true)
