use Rattle.std.proofs.Common.{sym, subst}
use Rattle.dfdl_order.specs.Filling.{IsPart}
use Rattle.dfdl_order.proofs.Fill.{added}
use Rattle.dfdl_order.proofs.order.Order.add.Goals as goal

pub returns-clause-part : goal.returns-clause-part
returns-clause-part c = subst (IsPart c.args.uses.now) (sym c.in_ok-put.ensures.put)
    (added c.args.uses.now c.args.self.now.list c.args.self.now.rank c.args.component c.requires.within c.requires.closed c.requires.part c.requires.ready)
