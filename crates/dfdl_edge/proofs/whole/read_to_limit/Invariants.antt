use Rattle.std.proofs.Common.{◌-◌, ◌≡◌, ◌≤◌, take, vec_len}
use Rattle.dfdl_edge.specs.Whole.{IsAfter}
use Rattle.dfdl_edge.proofs.whole.read_to_limit.Given as goal

-- the filled bytes are what the source has given, with no fault
abbrev pub invariant-loop-filled : goal.invariant-loop-filled
invariant-loop-filled g l = record {
  given : IsAfter (g.S.Source.seen l.initial.source).left (take l.filled l.bytes.items) (g.S.Source.seen l.source).left;
  within : l.filled ≤ vec_len l.bytes;
  fits : vec_len l.bytes ≤ l.most;
  faults : (g.S.Source.seen l.source).faults ≡ (g.S.Source.seen l.initial.source).faults;
}

abbrev pub decreases-loop-filled : goal.decreases-loop-filled
decreases-loop-filled g l = l.most - l.filled
