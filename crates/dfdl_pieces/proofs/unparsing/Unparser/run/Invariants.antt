use Rattle.std.proofs.Common.{◌≡◌}
use Rattle.dfdl_pieces.specs.Unparsing.{left, outcome, steps_left}
use Rattle.dfdl_pieces.proofs.unparsing.Unparser.run.Given as goal

abbrev pub invariant-loop-task : goal.invariant-loop-task
invariant-loop-task l = outcome l.self l.events (left l.terms l.self.tasks.items l.self.around) ≡ outcome l.fn.self l.events (left l.terms l.fn.self.tasks.items l.fn.self.around)

abbrev pub decreases-loop-task : goal.decreases-loop-task
decreases-loop-task l = steps_left l.terms l.self.tasks.items
