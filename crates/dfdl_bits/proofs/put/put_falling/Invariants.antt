use Rattle.std.proofs.Common.{◌≡◌, ◌+◌, ◌-◌, ◌*◌, ◌/◌, ◌^◌}
use Rattle.dfdl_bits.specs.Bits.{Puts}
use Rattle.dfdl_forms.specs.declared.order.BitOrder.TheVariants.{MostFirst}
use Rattle.dfdl_forms.specs.declared.order.ByteOrder.TheVariants.{Big}
use Rattle.dfdl_bits.proofs.put.put_falling.Given as goal

-- the bits of the bytes written so far
abbrev pub invariant-loop-at : goal.invariant-loop-at
invariant-loop-at l = record {
  puts : Puts Big MostFirst l.fn.bytes l.bytes (8 * l.first + l.skip) (l.len - l.left) (l.value / 2 ^ l.left);
  left : l.left + 8 * l.at ≡ 8 * l.first + l.skip + l.len;
}
