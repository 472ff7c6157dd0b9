use Rattle.std.proofs.Common.{◌≡◌, ◌+◌, ◌*◌, ◌%◌, ◌^◌}
use Rattle.dfdl_bits.specs.Bits.{Puts}
use Rattle.dfdl_forms.specs.declared.order.BitOrder.TheVariants.{LeastFirst}
use Rattle.dfdl_forms.specs.declared.order.ByteOrder.TheVariants.{Little}
use Rattle.dfdl_bits.proofs.put.put_rising.Given as goal

-- the bits of the bytes written so far
abbrev pub invariant-loop-at : goal.invariant-loop-at
invariant-loop-at l = record {
  puts : Puts Little LeastFirst l.fn.bytes l.bytes (8 * l.first + l.skip) l.put (l.value % 2 ^ l.put);
  put : 8 * l.first + l.skip + l.put ≡ 8 * l.at;
}
