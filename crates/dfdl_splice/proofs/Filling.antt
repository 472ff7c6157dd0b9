-- A table of which one piece gets its bits.
use Rattle.std.proofs.Common.{◌≡◌, ℕ, ◌+◌, ◌-◌, ◌<◌, ◌≤◌, List, [], ◌∷◌, ◌++◌, length, take, drop, set, get_or, ap, sym, ◌∙◌, arith}
use Rattle.std.proofs.lemmas.List.{take_rest}
use Rattle.dfdl_splice.specs.declared.entry.Entry.{Entry}
use Rattle.dfdl_splice.specs.declared.entry.Entry.TheVariants.{Awaits, Known}
use Rattle.dfdl_splice.specs.declared.table.Table.{Table}
use Rattle.dfdl_splice.specs.Entries.{Slot, Waits, slots, piece_of, stretch_of, runs_in, ends_has, begins_has}
use Rattle.dfdl_splice.specs.Tables.{IsSound, IsAwaitedAt, live}
use Rattle.dfdl_splice.proofs.Slots.{fill_runs, ends_few, begins_few}
use Rattle.dfdl_splice.proofs.Entries.{slots-append, live_set, live_at}
use Rattle.dfdl_splice.proofs.Tables.{known_is}

-- what was told of the entries around
module _ (items one other : List Entry) (head at ends begins : ℕ) (arena : List ℕ) (one_is : one ≡ items) (other_is : other ≡ items)
    (ends_told : (bits : List ℕ) → ends ≡ ends_has (slots bits (take (at - head) (drop head one))))
    (begins_told : (bits : List ℕ) → begins ≡ begins_has (slots bits (take (length other - (at + 1)) (drop (at + 1) other)))) where
  pub ends_are : ends ≡ ends_has (slots arena (take (at - head) (drop head items)))
  ends_are = ends_told arena ∙ ap (λ (all : List Entry). ends_has (slots arena (take (at - head) (drop head all)))) one_is

  pub begins_are : begins ≡ begins_has (slots arena (drop (at + 1) items))
  begins_are =
      begins_told arena
      ∙ ap (λ (all : List Entry). begins_has (slots arena all)) (take_rest other (at + 1))
      ∙ ap (λ (all : List Entry). begins_has (slots arena (drop (at + 1) all))) other_is

  pub joins_fit : ends + begins ≤ 2
  joins_fit =
      omega (arith, ends_are, begins_are, ends_few (slots arena (take (at - head) (drop head items))), begins_few (slots arena (drop (at + 1) items)))

module _ (old : Table) (at piece : ℕ) (sound : IsSound old) (there : IsAwaitedAt old at piece) (within : at < length old.entries.items) where
  abbrev pub front : List Entry
  front = take (at - old.head) (drop old.head old.entries.items)

  abbrev pub back : List Entry
  back = drop (at + 1) old.entries.items

  pub old_live : live old ≡ front ++ Awaits piece there.1 ∷ back
  old_live = live_at old.entries.items old.head at (Awaits piece there.1) there.0 within (there.2 (Awaits piece there.1))

  pub joins_few : ends_has (slots old.arena.bits front) + begins_has (slots old.arena.bits back) ≤ old.runs
  joins_few =
      let all : slots old.arena.bits (live old) ≡ slots old.arena.bits front ++ Waits piece there.1 ∷ slots old.arena.bits back =
      ap (slots old.arena.bits) old_live ∙ slots-append old.arena.bits front (Awaits piece there.1 ∷ back) in
      let runs : old.runs ≡ runs_in (stretch_of (slots old.arena.bits front ++ Waits piece there.1 ∷ slots old.arena.bits back)) =
      sound.runs ∙ ap (λ (s : List Slot). runs_in (stretch_of s)) all in
      omega (arith, runs, fill_runs (slots old.arena.bits front) (slots old.arena.bits back) piece there.1 [])

  -- the piece of the entry
  pub piece_told : (told : ℕ) (index : Entry) → told ≡ piece_of index → index ≡ get_or old.entries.items at index → told ≡ piece
  piece_told told index is here = is ∙ ap piece_of (here ∙ there.2 index)

  pub new_live : (told begin count : ℕ) (bits : List ℕ) → told ≡ piece → begin ≡ length old.arena.bits → length bits ≡ count
      → drop old.head (set old.entries.items at (Known told begin count)) ≡ front ++ Known piece (length old.arena.bits) (length bits) ∷ back
  new_live told begin count bits told_is begin_is count_is =
      live_set old.entries.items old.head at (Known told begin count) there.0 within
      ∙ ap (λ (e : Entry). front ++ e ∷ back) (known_is told piece begin (length old.arena.bits) count (length bits) told_is begin_is (sym count_is))
