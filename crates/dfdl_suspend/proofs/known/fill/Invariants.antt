use Rattle.std.proofs.Common.{◌≡◌, None, length, replicate, ◌++◌, ◌-◌, ◌≤◌, max}
use Rattle.std.specs.Vec.{vec_capacity}
use Rattle.dfdl_suspend.proofs.known.fill.Given as goal

abbrev pub invariant-filling : goal.invariant-filling
invariant-filling l =
    (l.values.items ≡ l.fn.values.items ++ replicate (l.at - length l.fn.values.items) None) × (vec_capacity l.fn.values ≤ vec_capacity l.values)
    × (l.at ≤ max l.count (length l.fn.values.items)) × (length l.fn.values.items ≤ l.at)
