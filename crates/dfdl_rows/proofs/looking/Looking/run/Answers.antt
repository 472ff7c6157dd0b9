use Rattle.std.proofs.Common.{◌∙◌, arith}
use Rattle.dfdl_rows.specs.Looking.{stand_of}
use Rattle.dfdl_rows.proofs.Named.{left_nothing}
use Rattle.dfdl_rows.proofs.looking.Looking.run.Goals as goal

pub returns : goal.returns
returns c =
    left_nothing c.args.components.now c.loop-task.self.tasks.items (stand_of c.loop-task.self.level c.loop-task.self.outer.items)
    (omega (arith, c.in_default.ensures.cases.0, c.loop-task.self.tasks.ok))
    ∙ c.loop-task.invariant.same
