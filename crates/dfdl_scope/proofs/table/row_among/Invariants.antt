use Rattle.std.proofs.Common.{◌≡◌, drop, map}
use Rattle.dfdl_scope.specs.Table.{row_named}
use Rattle.dfdl_scope.specs.TableShown.{row_shown}
use Rattle.dfdl_scope.proofs.table.row_among.Given as goal

-- what is left has the same row as all
abbrev pub invariant-loop-row : goal.invariant-loop-row
invariant-loop-row l =
    row_named (map row_shown (drop l.row-index l.rows)) l.name ≡ row_named (map row_shown l.rows) l.name
