use Rattle.std.proofs.Common.{◌<◌, ℕ, length, All}
use Rattle.dfdl_order.specs.Parts.{uses_of}
use Rattle.dfdl_order.proofs.uses.Uses.is_closed.Given as goal

abbrev pub invariant-loop-component : goal.invariant-loop-component
invariant-loop-component l = (c : ℕ) → c < l.component → All (λ p. p < length l.self) (uses_of l.self c)
