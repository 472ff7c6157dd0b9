use Rattle.std.proofs.Common.{◌≡◌, ◌+◌, ◌++◌, All, drop, length}
use Rattle.std.specs.Vec.Iter.{into_iter_items, into_iter_len}
use Rattle.dfdl_written.specs.Noting.{IsNotedWithin, StatesWithin, noted_each}
use Rattle.dfdl_written.proofs.noting.note.Given as goal

-- those so far, and those of the components that are left
abbrev pub invariant-loop-one : goal.invariant-loop-one
invariant-loop-one l =
    (l.noted.items ++ noted_each l.schema (drop l.at l.sites) (into_iter_items l.one-iterator) ≡ noted_each l.schema l.sites l.fn.stated.items)
    × (l.at + length (into_iter_items l.one-iterator) ≡ length l.sites) × (into_iter_len l.one-iterator ≡ length (into_iter_items l.one-iterator))
    × All (StatesWithin l.schema) (into_iter_items l.one-iterator) × All (IsNotedWithin l.schema) l.noted.items
