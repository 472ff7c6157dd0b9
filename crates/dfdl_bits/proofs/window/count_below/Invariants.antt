use Rattle.std.proofs.Common.{ℕ, ◌<◌, slice_index}
use Rattle.dfdl_bits.proofs.window.count_below.Given as goal

-- the bytes before the one that is tested are below the limit
abbrev pub invariant-loop-at : goal.invariant-loop-at
invariant-loop-at l = (i : ℕ) → i < l.at → slice_index l.bytes i < l.limit
