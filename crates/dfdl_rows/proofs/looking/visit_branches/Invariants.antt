use Rattle.std.proofs.Common.{◌≡◌, ◌≤◌, ◌++◌, length, drop}
use Rattle.dfdl_rows.specs.Looking.{branch_tasks}
use Rattle.dfdl_rows.proofs.looking.visit_branches.Given as goal

abbrev pub invariant-loop-at : goal.invariant-loop-at
invariant-loop-at l = record {
  within : l.at ≤ length l.parts;
  same : l.tasks.items ≡ branch_tasks (drop l.at l.parts) ++ l.fn.tasks.items;
}
