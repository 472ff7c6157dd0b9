use Rattle.dfdl_order.proofs.Ends.{is_order}
use Rattle.dfdl_order.proofs.order.order_of.Goals as goal

pub returns-in_default-unplaced-clause-ordered : goal.returns-in_default-unplaced-clause-ordered
returns-in_default-unplaced-clause-ordered c = is_order c.args.uses.now c.in-Ok-largest.order c.in-Ok-largest.ensures.part c.in_default-unplaced.ensures
