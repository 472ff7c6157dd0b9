use Rattle.std.proofs.Common.{◌≡◌, ◌+◌, ◌<◌, ◌^◌, drop, length}
use Rattle.dfdl_rows.specs.Slots.{all_laid, laid, lay, parts_size}
use Rattle.dfdl_rows.proofs.slots.lay.Given as goal

abbrev pub invariant-loop-at : goal.invariant-loop-at
invariant-loop-at l = record {
  same : lay l.initiated l.way l.first l.parts (drop l.at l.slots) l.at (laid l.rows.items l.children.items l.taken) ≡ all_laid l.initiated l.way l.slots l.parts l.first;
  few : l.first + length l.rows.items + parts_size l.way (drop l.at l.slots) < 2 ^ 32;
}
