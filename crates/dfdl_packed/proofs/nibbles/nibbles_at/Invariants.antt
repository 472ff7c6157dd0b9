use Rattle.std.proofs.Common.{◌≡◌, ℕ, ◌+◌, ◌*◌, ◌<◌, length, get_or}
use Rattle.dfdl_bits.specs.Bits.{number_of}
use Rattle.dfdl_forms.specs.declared.order.ByteOrder.TheVariants.{Big}
use Rattle.dfdl_packed.proofs.nibbles.nibbles_at.Given as goal

abbrev pub invariant-loop-at : goal.invariant-loop-at
invariant-loop-at l = record {
  long : length l.nibbles ≡ 39;
  read : (k : ℕ) → k < l.at → get_or l.nibbles k 0 ≡ number_of l.bytes (l.bit + 4 * k) 4 Big l.bits_by;
}
