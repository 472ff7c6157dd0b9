use Rattle.dfdl_order.specs.Filling.{IsPart}
use Rattle.dfdl_order.proofs.order.Order.follow.Given as goal

abbrev pub invariant-loop-component : goal.invariant-loop-component
invariant-loop-component l = IsPart l.uses l.self
