use Rattle.std.proofs.Common.{arith}
use Rattle.dfdl_pieces.proofs.Moving.{all_laid}
use Rattle.dfdl_pieces.proofs.unparsing.Unparser.run.Goals as goal

pub returns : goal.returns
returns c =
    all_laid c.args.terms.now c.args.events.now c.loop-task.self _ (omega (arith, c.in_default.ensures.cases.0, c.loop-task.self.tasks.ok)) c.loop-task.invariant
