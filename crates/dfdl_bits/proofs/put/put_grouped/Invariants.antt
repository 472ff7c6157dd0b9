use Rattle.std.proofs.Common.{◌+◌, ◌*◌, ◌%◌, ◌^◌}
use Rattle.dfdl_bits.specs.Bits.{Puts}
use Rattle.dfdl_forms.specs.declared.order.BitOrder.TheVariants.{MostFirst}
use Rattle.dfdl_forms.specs.declared.order.ByteOrder.TheVariants.{Little}
use Rattle.dfdl_bits.proofs.put.put_grouped.Given as goal

-- the groups written so far
abbrev pub invariant-loop-group : goal.invariant-loop-group
invariant-loop-group l = Puts Little MostFirst l.fn.bytes l.bytes (8 * l.first + l.skip) (8 * l.group) (l.value % 2 ^ (8 * l.group))
