use Rattle.std.proofs.Common.{◌≡◌, Bool}
use Rattle.dfdl_decimal.specs.Decimal.{shortest_from, with_sign}
use Rattle.dfdl_decimal.proofs.fixed.without_some_zeros.Given as goal

abbrev pub invariant-loop-scale : goal.invariant-loop-scale
invariant-loop-scale l = (b : Bool) → shortest_from l.scale (with_sign b l.magnitude) ≡ shortest_from l.fn.digits.scale (with_sign b l.fn.digits.magnitude)

abbrev pub decreases-loop-scale : goal.decreases-loop-scale
decreases-loop-scale l = l.scale
