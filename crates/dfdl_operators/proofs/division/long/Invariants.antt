use Rattle.std.proofs.Common.{◌≡◌, ◌*◌, ◌/◌, ◌%◌, ◌^◌, ◌-◌, ◌<◌, ◌≤◌}
use Rattle.std.specs.Option.{SomeIff}
use Rattle.dfdl_operators.proofs.division.long.Given as goal

abbrev pub invariant-loop-zeros : goal.invariant-loop-zeros
invariant-loop-zeros l = record {
  few : l.zeros ≤ l.most;
  rest : l.rest ≡ l.dividend * 10 ^ l.zeros % l.divisor;
  number : SomeIff l.number (l.dividend * 10 ^ l.zeros / l.divisor < 2 ^ 128) (l.dividend * 10 ^ l.zeros / l.divisor);
}

abbrev pub decreases-loop-zeros : goal.decreases-loop-zeros
decreases-loop-zeros l = l.most - l.zeros
