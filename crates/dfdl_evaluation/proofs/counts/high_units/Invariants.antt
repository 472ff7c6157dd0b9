use Rattle.std.proofs.Common.{◌≡◌, ◌+◌, ◌-◌, ◌≤◌, drop, length}
use Rattle.dfdl_cells.specs.Pieces.{high_units}
use Rattle.dfdl_evaluation.proofs.counts.high_units.Given as goal

-- those so far and those that are left are all
abbrev pub invariant-loop-at : goal.invariant-loop-at
invariant-loop-at l = (l.count + high_units (drop l.at l.bytes) ≡ high_units l.bytes) × (l.count ≤ l.at)

abbrev pub decreases-loop-at : goal.decreases-loop-at
decreases-loop-at l = length l.bytes - l.at
