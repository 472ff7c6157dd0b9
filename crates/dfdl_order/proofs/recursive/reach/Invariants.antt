use Rattle.std.proofs.Common.{◌≤◌, ◌-◌, length}
use Rattle.dfdl_order.specs.Parts.{uses_of}
use Rattle.dfdl_order.specs.Reaching.{AreReached, AreListed, HasPartsBefore}
use Rattle.dfdl_order.proofs.recursive.reach.Given as goal

abbrev pub invariant-loop-next : goal.invariant-loop-next
invariant-loop-next l = record {
  reached : AreReached l.uses l.from l.reached;
  first : AreListed (length l.uses) l.reached (uses_of l.uses l.from);
  closed : HasPartsBefore l.uses l.next l.reached;
  within : l.next ≤ length l.reached.list;
}

abbrev pub decreases-loop-next : goal.decreases-loop-next
decreases-loop-next l = length l.uses - l.next
