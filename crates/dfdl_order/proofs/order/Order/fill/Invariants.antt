use Rattle.std.proofs.Common.{◌-◌, length}
use Rattle.dfdl_order.specs.Filling.{IsPart}
use Rattle.dfdl_order.proofs.order.Order.fill.Given as goal

abbrev pub invariant-loop-component : goal.invariant-loop-component
invariant-loop-component l = IsPart l.uses l.self

abbrev pub decreases-loop-component : goal.decreases-loop-component
decreases-loop-component l = length l.uses - length l.self.list
