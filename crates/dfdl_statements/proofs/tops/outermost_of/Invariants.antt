use Rattle.std.proofs.Common.{◌≡◌, ◌++◌, drop}
use Rattle.dfdl_statements.specs.Elements.{outermost_of}
use Rattle.dfdl_statements.proofs.tops.outermost_of.Given as goal

abbrev pub invariant-loop-row : goal.invariant-loop-row
invariant-loop-row l = l.list.items ++ outermost_of l.table (drop l.row-index l.rows) ≡ outermost_of l.table l.rows
