use Rattle.std.proofs.Common.{Bool, false}
use Rattle.dfdl_rows.specs.Looking.{idle_from}
use Rattle.dfdl_rows.proofs.Tables.{IsKnown}
use Rattle.dfdl_rows.proofs.idle.idle.Given as goal

abbrev pub invariant-loop-number : goal.invariant-loop-number
invariant-loop-number l =
    IsKnown Bool l.components.uses (idle_from l.components) false l.number-items l.number-index l.known.items
