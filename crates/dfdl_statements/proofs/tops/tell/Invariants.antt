use Rattle.std.proofs.Common.{◌≡◌, drop}
use Rattle.dfdl_statements.specs.Elements.{told}
use Rattle.dfdl_statements.proofs.tops.tell.Given as goal

abbrev pub invariant-loop-row : goal.invariant-loop-row
invariant-loop-row l = told l.around (drop l.row-index l.rows) l.table.items ≡ told l.around l.rows l.initial.table.items
