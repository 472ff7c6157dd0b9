use Rattle.std.proofs.Common.{◌<◌, ℕ}
use Rattle.dfdl_order.specs.Parts.{uses_of}
use Rattle.dfdl_rows.specs.Components.{CanHave, component_at}
use Rattle.dfdl_rows.proofs.components.are_of_one.Given as goal

abbrev pub invariant-loop-number : goal.invariant-loop-number
invariant-loop-number l = (c : ℕ) → c < l.number → CanHave (component_at l.components c) (uses_of l.uses c)
