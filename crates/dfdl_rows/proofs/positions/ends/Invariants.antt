use Rattle.std.proofs.Common.{ℕ, Option, None}
use Rattle.dfdl_rows.specs.Saturated.{saturated_end_from}
use Rattle.dfdl_rows.proofs.Tables.{IsKnown}
use Rattle.dfdl_rows.proofs.positions.ends.Given as goal

abbrev pub invariant-loop-number : goal.invariant-loop-number
invariant-loop-number l = IsKnown (Option ℕ) l.components.uses (saturated_end_from l.components l.place) None l.number-items l.number-index l.known.items
