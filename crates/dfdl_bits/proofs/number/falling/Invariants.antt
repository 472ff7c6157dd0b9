use Rattle.std.proofs.Common.{◌≡◌, ◌+◌, ◌-◌, ◌*◌}
use Rattle.dfdl_bits.specs.Bits.{number_of}
use Rattle.dfdl_forms.specs.declared.order.BitOrder.TheVariants.{MostFirst}
use Rattle.dfdl_forms.specs.declared.order.ByteOrder.TheVariants.{Big}
use Rattle.dfdl_bits.proofs.number.falling.Given as goal

-- the bits of the bytes read so far
abbrev pub invariant-loop-byte : goal.invariant-loop-byte
invariant-loop-byte l = l.number ≡ number_of l.bytes (8 * l.first + l.skip) (8 * (l.byte-index + 1) - l.skip) Big MostFirst
