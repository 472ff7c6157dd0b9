use Rattle.std.proofs.Common.{◌≡◌, ◌^◌, pos, ◌*ℤ◌}
use Rattle.dfdl_int_binary.proofs.decimal.with_zeros.Given as goal

abbrev pub invariant-loop-place : goal.invariant-loop-place
invariant-loop-place l = l.product ≡ l.fn.integer *ℤ pos (10 ^ l._place)
