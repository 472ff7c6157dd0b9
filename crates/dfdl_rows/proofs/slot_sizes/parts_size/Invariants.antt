use Rattle.std.proofs.Common.{◌≡◌, ◌+◌, ◌<◌, ◌^◌, drop}
use Rattle.dfdl_rows.specs.Saturated.{saturated}
use Rattle.dfdl_rows.specs.Slots.{parts_size}
use Rattle.dfdl_rows.proofs.slot_sizes.parts_size.Given as goal

abbrev pub invariant-loop-times : goal.invariant-loop-times
invariant-loop-times l = record {
  same : saturated (l.size + parts_size l.way (drop l.times-index l.slots)) ≡ saturated (parts_size l.way l.slots);
  small : l.size < 2 ^ 64;
}
