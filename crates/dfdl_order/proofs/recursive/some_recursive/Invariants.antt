use Rattle.std.proofs.Common.{◌-◌, length}
use Rattle.dfdl_order.specs.Filling.{IsUnplaced}
use Rattle.dfdl_order.specs.Reaching.{IsWay}
use Rattle.dfdl_order.proofs.recursive.some_recursive.Given as goal

abbrev pub invariant-loop-way : goal.invariant-loop-way
invariant-loop-way l = record {
  way : IsWay l.uses l.way l.component;
  unplaced : IsUnplaced l.uses l.order l.component;
}

abbrev pub decreases-loop-way : goal.decreases-loop-way
decreases-loop-way l = length l.uses - length l.way.list
