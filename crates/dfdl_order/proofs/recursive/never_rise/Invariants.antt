use Rattle.std.proofs.Common.{◌<◌, ◌≤◌, ℕ, All, get_or}
use Rattle.dfdl_order.specs.Parts.{uses_of}
use Rattle.dfdl_order.proofs.recursive.never_rise.Given as goal

abbrev pub invariant-loop-component : goal.invariant-loop-component
invariant-loop-component l = (c : ℕ) → c < l.component → All (λ p. get_or l.levels p 0 ≤ get_or l.levels c 0) (uses_of l.uses c)
