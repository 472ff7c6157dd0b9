use Rattle.std.proofs.Common.{◌<◌, ℕ, length, get_or}
use Rattle.dfdl_order.proofs.order.Order.unplaced.Given as goal

abbrev pub invariant-loop-component : goal.invariant-loop-component
invariant-loop-component l = (b : ℕ) → b < l.component → get_or l.self.rank b 0 < length l.uses
