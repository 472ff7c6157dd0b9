use Rattle.std.proofs.Common.{◌≡◌, ◌+◌, ◌*◌, ◌^◌, ◌≤◌}
use Rattle.dfdl_packed.proofs.size.Size.of.Given as goal

abbrev pub invariant-loop-mantissa : goal.invariant-loop-mantissa
invariant-loop-mantissa l = record {
  some : 1 ≤ l.mantissa;
  product : l.number ≡ l.mantissa * 10 ^ l.zeros;
  bound : l.zeros + l.mantissa ≤ l.number;
}

abbrev pub decreases-loop-mantissa : goal.decreases-loop-mantissa
decreases-loop-mantissa l = l.mantissa
