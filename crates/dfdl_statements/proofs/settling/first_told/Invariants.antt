use Rattle.std.proofs.Common.{◌≡◌, drop}
use Rattle.dfdl_statements.specs.Settled.{first_told}
use Rattle.dfdl_statements.proofs.settling.first_told.Given as goal

abbrev pub invariant-loop-row : goal.invariant-loop-row
invariant-loop-row l = first_told l.table (drop l.row-index l.rows) ≡ first_told l.table l.rows
