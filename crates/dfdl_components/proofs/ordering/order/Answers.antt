use Rattle.std.proofs.Common.{◌≡◌, ℕ, List, subst, sym}
use Rattle.dfdl_order.specs.Cycles.{IsFaultOf}
use Rattle.dfdl_order.specs.Parts.{IsClosed, IsOrder}
use Rattle.dfdl_components.proofs.Consisting.{closed}
use Rattle.dfdl_components.proofs.Unrecursive.{none_recursive}
use Rattle.dfdl_components.proofs.ordering.order.Goals as goal

pub order_of-requires : goal.order_of-requires
order_of-requires c = subst IsClosed (sym c.in-Ok-uses_of.ensures.uses) (closed c.args.schema.now)

pub unreachable-requires : goal.unreachable-requires
unreachable-requires c =
    none_recursive c.args.schema.now c.in-Ok-uses_of.uses c.in-Err-Recursive.field-0-0 c.in-Ok-uses_of.ensures.uses c.requires
    (subst (IsFaultOf c.in-Ok-uses_of.uses) c.in-Err-Recursive.field-0-is c.in-Err-Recursive.ensures.fault)
