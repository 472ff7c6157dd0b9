use Rattle.std.proofs.Common.{arith}
use Rattle.dfdl_constructs.proofs.Walking.{so_far_all}
use Rattle.dfdl_constructs.proofs.roles.roles_of.Goals as goal

pub returns : goal.returns
returns c =
    so_far_all c.loop-element.element c.args.tree.now c.loop-element.roles.items
    (omega (arith, c.loop-element-test.false, c.loop-element.auto.element-end, c.count-element-end.ensures)) c.loop-element.invariant
