use Rattle.std.proofs.Common.{ℕ}
use Rattle.dfdl_rows.specs.Saturated.{saturated_size_from}
use Rattle.dfdl_rows.proofs.Tables.{IsKnown}
use Rattle.dfdl_rows.proofs.sizes.sizes.Given as goal

abbrev pub invariant-loop-number : goal.invariant-loop-number
invariant-loop-number l = IsKnown ℕ l.components.uses (saturated_size_from l.components) 0 l.number-items l.number-index l.known.items
