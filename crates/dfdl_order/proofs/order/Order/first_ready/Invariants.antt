use Rattle.std.proofs.Common.{◌≡◌, ◌<◌, ℕ, false}
use Rattle.dfdl_order.specs.Filling.{is_ready}
use Rattle.dfdl_order.proofs.order.Order.first_ready.Given as goal

abbrev pub invariant-loop-component : goal.invariant-loop-component
invariant-loop-component l = (c : ℕ) → c < l.component → is_ready l.uses l.self c ≡ false
