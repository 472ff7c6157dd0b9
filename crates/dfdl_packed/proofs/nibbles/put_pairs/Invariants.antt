use Rattle.std.proofs.Common.{◌≡◌, ℕ, ◌+◌, ◌*◌, ◌<◌, get_or}
use Rattle.dfdl_bits.specs.Bits.{number_of, KeepsOutside}
use Rattle.dfdl_forms.specs.declared.order.ByteOrder.TheVariants.{Big}
use Rattle.dfdl_packed.proofs.nibbles.put_pairs.Given as goal

abbrev pub invariant-loop-at : goal.invariant-loop-at
invariant-loop-at l = record {
  written : (k : ℕ) → k < 2 * l.at → number_of l.bytes (l.bit + 4 * k) 4 Big l.bits_by ≡ get_or l.nibbles k 0;
  kept : KeepsOutside l.bits_by l.fn.bytes l.bytes l.bit (8 * l.at);
}
