use Rattle.std.proofs.Common.{◌≡◌, ◌+◌, ◌*◌}
use Rattle.dfdl_bits.specs.Bits.{number_of}
use Rattle.dfdl_forms.specs.declared.order.BitOrder.TheVariants.{MostFirst}
use Rattle.dfdl_forms.specs.declared.order.ByteOrder.TheVariants.{Little}
use Rattle.dfdl_bits.proofs.number.grouped.Given as goal

-- the groups read so far
abbrev pub invariant-loop-group : goal.invariant-loop-group
invariant-loop-group l = l.number ≡ number_of l.bytes (8 * l.first + l.skip) (8 * l.group) Little MostFirst
