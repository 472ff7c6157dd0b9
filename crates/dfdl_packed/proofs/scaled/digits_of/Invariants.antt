use Rattle.std.proofs.Common.{◌≡◌, ◌-◌, ◌/◌, ◌^◌, ◌≤◌, ◌<◌}
use Rattle.dfdl_packed.proofs.scaled.digits_of.Given as goal

abbrev pub invariant-loop-rest : goal.invariant-loop-rest
invariant-loop-rest l = record {
  rest : l.rest ≡ l.number / 10 ^ (l.len - 1);
  some : 1 ≤ l.len;
  above : 1 < l.len → 10 ^ (l.len - 1) ≤ l.number;
  few : l.len ≤ 39;
}

abbrev pub decreases-loop-rest : goal.decreases-loop-rest
decreases-loop-rest l = l.rest
