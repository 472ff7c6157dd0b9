use Rattle.std.proofs.Common.{◌≡◌, ◌≢◌, ◌*◌, ◌/◌, ◌%◌, ◌^◌, ◌-◌, ◌<◌, ◌≤◌}
use Rattle.std.specs.Option.{SomeIff}
use Rattle.dfdl_operators.proofs.division.exact.Given as goal

abbrev pub invariant-loop-rest : goal.invariant-loop-rest
invariant-loop-rest l = record {
  few : l.zeros ≤ l.most;
  rest : l.rest ≡ l.dividend * 10 ^ l.zeros % l.divisor;
  number : SomeIff l.number (l.dividend * 10 ^ l.zeros / l.divisor < 2 ^ 128) (l.dividend * 10 ^ l.zeros / l.divisor);
  last : 0 < l.zeros → l.rest ≡ 0 → l.dividend * 10 ^ l.zeros / l.divisor % 10 ≢ 0;
}

abbrev pub decreases-loop-rest : goal.decreases-loop-rest
decreases-loop-rest l = l.most - l.zeros
