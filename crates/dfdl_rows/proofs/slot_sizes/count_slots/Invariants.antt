use Rattle.std.proofs.Common.{◌≡◌, ◌+◌, ◌<◌, ◌^◌, drop}
use Rattle.dfdl_rows.specs.Saturated.{saturated}
use Rattle.dfdl_rows.specs.Slots.{count_slots}
use Rattle.dfdl_rows.proofs.slot_sizes.count_slots.Given as goal

abbrev pub invariant-loop-times : goal.invariant-loop-times
invariant-loop-times l = record {
  same : saturated (l.count + count_slots (drop l.times-index l.slots)) ≡ saturated (count_slots l.slots);
  small : l.count < 2 ^ 64;
}
