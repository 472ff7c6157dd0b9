use Rattle.std.proofs.Common.{◌≡◌, ◌≤◌, ◌++◌, length, map, drop}
use Rattle.dfdl_rows.specs.declared.looking.Task.TheVariants.{Visit}
use Rattle.dfdl_rows.proofs.looking.visit_all.Given as goal

abbrev pub invariant-loop-at : goal.invariant-loop-at
invariant-loop-at l = record {
  within : l.at ≤ length l.parts;
  same : l.tasks.items ≡ map Visit (drop l.at l.parts) ++ l.fn.tasks.items;
}
