use Rattle.std.proofs.Common.{◌≡◌, ℕ, ◌<◌, Some, length}
use Rattle.std.specs.List.{slice_get}
use Rattle.dfdl_suspend.specs.Formulas.{NamesWithin}
use Rattle.dfdl_suspend.specs.declared.table.Formula.{Formula}
use Rattle.dfdl_suspend.proofs.table.are_within.Given as goal

abbrev pub invariant-loop-row : goal.invariant-loop-row
invariant-loop-row l = (cell : ℕ) (formula : Formula) → cell < l.row-index → slice_get l.rows cell ≡ Some formula → NamesWithin (length l.rows) formula
