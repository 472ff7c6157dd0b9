use Rattle.dfdl_rows.proofs.Pushed.{before_size}
use Rattle.dfdl_rows.proofs.framing.size_before.Goals as goal

pub returns-clause-size : goal.returns-clause-size
returns-clause-size c =
    before_size c.args.framing c.statements_size.result c.statements_size-2.result c.skip_size.result c.align_size.result c.initiator_size.result
    c.statements_size.ensures.size c.statements_size-2.ensures.size c.skip_size.ensures.size c.align_size.ensures.size c.initiator_size.ensures.size
