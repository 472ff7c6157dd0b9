use Rattle.std.proofs.Common.{◌≡◌, ◌+◌, ◌-◌, ◌/◌, ◌^◌, ◌≤◌, ℕ, ap, ◌∙◌, arith}
use Rattle.dfdl_number_text.proofs.DigitLemmas.{next_quotient, quotient_some, quotient_none, digits_within}
use Rattle.dfdl_number_text.proofs.digits.digit_count.Goals as goal

pub overflow_add-count : goal.overflow_add-count
overflow_add-count c =
    let base : ℕ = c.args.base in
    let least : base ^ c.loop-rest.count ≤ c.args.number = quotient_some base c.args.number c.loop-rest.count c.requires (omega (arith, c.loop-rest.invariant.rest, c.loop-rest-test.true)) in
    omega (arith, digits_within base c.args.number c.loop-rest.count c.requires c.ranges.number.fits least)

pub loop-rest-preserved : goal.loop-rest-preserved
loop-rest-preserved c =
    let base : ℕ = c.args.base in
    let least : base ^ c.loop-rest.count ≤ c.args.number = quotient_some base c.args.number c.loop-rest.count c.requires (omega (arith, c.loop-rest.invariant.rest, c.loop-rest-test.true)) in
    let here : c.loop-rest.count + 1 - 1 ≡ c.loop-rest.count = omega arith in
    record {
      rest = c.last_digit-rest.ensures.front ∙ (ap (λ (n : ℕ). n / base) c.loop-rest.invariant.rest ∙ next_quotient base c.args.number c.loop-rest.count);
      above = λ some. rw here least;
      few = omega (arith, digits_within base c.args.number c.loop-rest.count c.requires c.ranges.number.fits least);
    }

pub returns-clause-digits : goal.returns-clause-digits
returns-clause-digits c = record {
  below = quotient_none c.args.base c.args.number c.loop-rest.count c.requires (omega (arith, c.loop-rest.invariant.rest, c.loop-rest-test.false));
  above = c.loop-rest.invariant.above;
}
