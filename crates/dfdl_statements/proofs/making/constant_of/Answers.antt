use Rattle.dfdl_statements.proofs.Constants.{never_none}
use Rattle.dfdl_statements.proofs.making.constant_of.Goals as goal

pub unreachable-requires : goal.unreachable-requires
unreachable-requires c = never_none c.args.value _ c.in-None.ensures.sound c.in_ok-constant_nodes.ensures
