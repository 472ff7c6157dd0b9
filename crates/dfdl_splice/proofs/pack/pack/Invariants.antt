use Rattle.std.proofs.Common.{◌≡◌, ◌≤◌, length, take, drop, vec_capacity}
use Rattle.dfdl_splice.specs.Entries.{Packing}
use Rattle.dfdl_splice.proofs.pack.pack.Given as goal

abbrev pub invariant-loop-at : goal.invariant-loop-at
invariant-loop-at l = record {
  packing : Packing (drop l.head l.fn.entries.items) l.arena.bits (take l.kept l.entries.items) (drop l.at l.entries.items) l.spare.bits;
  few : l.kept ≤ l.at;
  len : length l.entries.items ≡ length l.fn.entries.items;
  capacity : vec_capacity l.entries ≡ vec_capacity l.fn.entries;
  order : l.spare.order ≡ l.fn.spare.order;
  room : l.spare.room ≡ l.fn.spare.room;
}
