use Rattle.std.proofs.Common.{◌≡◌, ◌*◌, Bool}
use Rattle.dfdl_decimal.specs.Decimal.{shortest_from, with_sign}
use Rattle.dfdl_operators.proofs.product.reduced.Given as goal

abbrev pub invariant-loop-scale : goal.invariant-loop-scale
invariant-loop-scale l = (b : Bool) → shortest_from l.scale (with_sign b (l.left * l.right)) ≡ shortest_from l.fn.product.scale (with_sign b (l.fn.product.left * l.fn.product.right))

abbrev pub decreases-loop-scale : goal.decreases-loop-scale
decreases-loop-scale l = l.scale
