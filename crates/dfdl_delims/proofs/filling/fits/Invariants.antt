use Rattle.std.proofs.Common.{◌≡◌, ◌+◌, drop}
use Rattle.dfdl_delims.specs.Registers.{units_of}
use Rattle.dfdl_delims.proofs.filling.fits.Given as goal

-- the literals that were seen take up the room that was taken
abbrev pub invariant-loop-at : goal.invariant-loop-at
invariant-loop-at l = l.left + units_of l.literals ≡ l.room + units_of (drop l.at l.literals)
