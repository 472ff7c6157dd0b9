use Rattle.std.proofs.Common.{◌≡◌, ◌++◌, length}
use Rattle.dfdl_rows.specs.Framing.{instances_from, outermost}
use Rattle.dfdl_rows.proofs.framing.push_instances.Given as goal

abbrev pub invariant-loop-behind : goal.invariant-loop-behind
invariant-loop-behind l = record {
  rows : l.rows.items ++ instances_from l.openings.first l.behind l.body (length l.rows.items)
      ≡ l.fn.rows.items ++ instances_from l.openings.first l.openings.count l.fn.content (length l.fn.rows.items);
  outermost : outermost l.behind l.body (length l.rows.items) ≡ outermost l.openings.count l.fn.content (length l.fn.rows.items);
}
