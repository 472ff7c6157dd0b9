use Rattle.std.proofs.Common.{◌≡◌}
use Rattle.dfdl_json.specs.Reading.{all_found, data_at, steps_left}
use Rattle.dfdl_json.proofs.reading.Reading.run.Given as goal

abbrev pub invariant-loop-task : goal.invariant-loop-task
invariant-loop-task l = all_found l.terms l.self ≡ all_found l.terms l.fn.self

abbrev pub decreases-loop-task : goal.decreases-loop-task
decreases-loop-task l = steps_left l.terms l.self.tasks.items (data_at l.self.contents.items)
