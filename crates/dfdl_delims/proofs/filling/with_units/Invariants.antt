use Rattle.std.proofs.Common.{◌≡◌, ◌+◌, drop}
use Rattle.dfdl_delims.specs.Registers.{units_of}
use Rattle.dfdl_delims.proofs.filling.with_units.Given as goal

-- the literals that are left are still to be counted
abbrev pub invariant-loop-at : goal.invariant-loop-at
invariant-loop-at l = l.sum + units_of (drop l.at l.literals) ≡ l.before + units_of l.literals
