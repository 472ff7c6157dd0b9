use Rattle.std.proofs.Common.{ℕ}
use Rattle.dfdl_rows.specs.Saturated.{saturated_depth_from}
use Rattle.dfdl_rows.proofs.Tables.{IsKnown}
use Rattle.dfdl_rows.proofs.depths.depths.Given as goal

abbrev pub invariant-loop-number : goal.invariant-loop-number
invariant-loop-number l = IsKnown ℕ l.components.uses (saturated_depth_from l.components.components) 0 l.number-items l.number-index l.known.items
