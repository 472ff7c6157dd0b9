use Rattle.std.proofs.Common.{◌≡◌, ℕ, ◌<◌, false, slice_index}
use Rattle.dfdl_bits.specs.ByteSets.{has_byte}
use Rattle.dfdl_bits.proofs.window.count_outside.Given as goal

-- the set has none of the bytes before the one that is tested
abbrev pub invariant-loop-at : goal.invariant-loop-at
invariant-loop-at l = (i : ℕ) → i < l.at → has_byte l.set (slice_index l.bytes i) ≡ false
