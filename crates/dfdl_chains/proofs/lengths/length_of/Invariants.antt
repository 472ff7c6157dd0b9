use Rattle.std.proofs.Common.{◌≡◌, ◌≤◌, ◌+◌, ◌-◌, ◌*◌, ◌^◌, drop, length, min}
use Rattle.dfdl_constructs.specs.Values.{number}
use Rattle.dfdl_chains.proofs.lengths.length_of.Given as goal

abbrev pub invariant-loop-digit : goal.invariant-loop-digit
invariant-loop-digit l = record {
  same : min (l.length * 10 ^ length (drop l.digit-index l.digit-items) + number (drop l.digit-index l.digit-items)) (2 ^ 64 - 1)
      ≡ min (number l.digit-items) (2 ^ 64 - 1);
  few : l.length ≤ 2 ^ 64 - 1;
}
