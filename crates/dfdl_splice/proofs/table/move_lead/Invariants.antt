use Rattle.std.proofs.Common.{◌≡◌, ◌++◌, length, drop}
use Rattle.dfdl_splice.specs.Splicing.{known_bits}
use Rattle.dfdl_splice.specs.Entries.{slots, stretch_of, AreWithin}
use Rattle.dfdl_splice.proofs.table.move_lead.Given as goal

abbrev pub invariant-loop-at : goal.invariant-loop-at
invariant-loop-at l = record {
  lead : l.front.bits ++ known_bits (stretch_of (slots l.arena.bits (drop l.at l.entries))).known
      ≡ l.fn.front.bits ++ known_bits (stretch_of (slots l.arena.bits (drop l.head l.entries))).known;
  awaited : (stretch_of (slots l.arena.bits (drop l.at l.entries))).awaited ≡ (stretch_of (slots l.arena.bits (drop l.head l.entries))).awaited;
  within : AreWithin (length l.arena.bits) (drop l.at l.entries);
  order : l.front.order ≡ l.fn.front.order;
  room : l.front.room ≡ l.fn.front.room;
}
