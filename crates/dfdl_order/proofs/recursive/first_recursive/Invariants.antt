use Rattle.std.proofs.Common.{◌≡◌, ◌<◌, ℕ, false}
use Rattle.dfdl_order.specs.Cycles.{reaches_itself}
use Rattle.dfdl_order.proofs.recursive.first_recursive.Given as goal

abbrev pub invariant-loop-component : goal.invariant-loop-component
invariant-loop-component l = (b : ℕ) → b < l.component → reaches_itself l.uses b ≡ false
