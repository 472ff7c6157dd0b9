use Rattle.std.proofs.Common.{◌≡◌, ◌<◌, length, All}
use Rattle.dfdl_rows.specs.Walk.{made, all_done, component_of, steps_left}
use Rattle.dfdl_rows.proofs.walk.Walk.run.Given as goal

abbrev pub invariant-loop-task : goal.invariant-loop-task
invariant-loop-task l = record {
  same : all_done l.components l.self.tasks.items (made l.self.rows.items l.self.lasts.items)
      ≡ all_done l.components l.fn.self.tasks.items (made l.fn.self.rows.items l.fn.self.lasts.items);
  within : All (λ t. component_of t < length l.components.uses) l.self.tasks.items;
}

abbrev pub decreases-loop-task : goal.decreases-loop-task
decreases-loop-task l = steps_left l.components l.self.tasks.items
