-- Mirror for the prover: what a table of entries stands for.
use Rattle.std.specs.Prelude.{◌≡◌, ℕ, ◌*◌, ◌^◌, ◌<◌, ◌≤◌, ◌+◌, Option, None, List, length, drop, slice_index_or, vec_capacity}
use Rattle.dfdl_splice.specs.declared.entry.Entry.{Entry}
use Rattle.dfdl_splice.specs.declared.entry.Entry.TheVariants.{Awaits}
use Rattle.dfdl_splice.specs.declared.table.Table.{Table}
use Rattle.dfdl_splice.specs.Copying.{Buffered}
use Rattle.dfdl_splice.specs.Splicing.{Stretch, behind_count}
use Rattle.dfdl_splice.specs.Entries.{slots, stretch_of, runs_in, bits_in, AreWithin, Rising}

-- the entries from the head on
abbrev pub live : Table → List Entry
live table = drop table.head table.entries.items

abbrev pub stretch_in : Table → Stretch
stretch_in table = stretch_of (slots table.arena.bits (live table))

pub record IsSound (table : Table) : Type 0 where
  pub head : table.head ≤ length table.entries.items
  pub order : table.spare.order ≡ table.arena.order
  pub room : table.spare.room ≡ table.arena.room
  pub bound : table.arena.room < 2 ^ 40
  pub within : AreWithin (length table.arena.bits) (live table)
  pub rising : Rising 0 (live table) table.next
  pub runs : table.runs ≡ runs_in (stretch_in table)
  pub bits : bits_in (stretch_in table) ≤ 8 * table.arena.room

-- a table that stands for what another one does
pub record Keeps (old new : Table) : Type 0 where
  pub sound : IsSound new
  pub stretch : stretch_in new ≡ stretch_in old
  pub runs : new.runs ≡ old.runs
  pub next : new.next ≡ old.next
  pub order : new.arena.order ≡ old.arena.order
  pub room : new.arena.room ≡ old.arena.room
  pub capacity : vec_capacity old.entries ≤ vec_capacity new.entries

-- the piece of this number is awaited at a place
abbrev pub IsAwaitedAt : Table → ℕ → ℕ → Type 0
IsAwaitedAt table at piece = (table.head ≤ at) × (want : Option ℕ) × ((any : Entry) → slice_index_or table.entries.items at any ≡ Awaits piece want)

-- the parts of a splice
pub record Stands (most_pieces most_bytes : ℕ) (front : Buffered) (table : Table) (held : ℕ) : Type 0 where
  pub sound : IsSound table
  pub known : (stretch_in table).known ≡ None
  pub order : table.arena.order ≡ front.order
  pub front_room : front.room ≡ most_bytes
  pub room : most_bytes ≤ table.arena.room
  pub entries : most_pieces ≤ vec_capacity table.entries
  pub count : held ≡ length front.bits + behind_count (stretch_in table).awaited
  pub few : held ≤ 8 * most_bytes
