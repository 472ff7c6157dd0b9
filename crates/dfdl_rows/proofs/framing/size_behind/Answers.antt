use Rattle.dfdl_rows.proofs.Pushed.{behind_size}
use Rattle.dfdl_rows.proofs.framing.size_behind.Goals as goal

pub returns-clause-size : goal.returns-clause-size
returns-clause-size c =
    behind_size c.args.framing c.args.separators c.terminator_size.result c.skip_size.result
    c.terminator_size.ensures.size c.skip_size.ensures.size
