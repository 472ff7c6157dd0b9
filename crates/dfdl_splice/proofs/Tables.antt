-- A table, and what it stands for.
use Rattle.std.proofs.Common.{◌≡◌, ℕ, ◌+◌, ◌*◌, ◌<◌, ◌≤◌, Option, None, List, [], ◌∷◌, ◌++◌, length, get_or, refl, ap, sym, ◌∙◌, arith}
use Rattle.std.proofs.lemmas.List.{get_or-drop, get_or_default, length-drop, append-nil}
use Rattle.dfdl_splice.specs.declared.entry.Entry.{Entry}
use Rattle.dfdl_splice.specs.declared.entry.Entry.TheVariants.{Awaits, Known}
use Rattle.dfdl_splice.specs.declared.table.Table.{Table}
use Rattle.dfdl_splice.specs.Copying.{Buffered}
use Rattle.dfdl_splice.specs.Splicing.{filled, IsAwaited}
use Rattle.dfdl_splice.specs.Entries.{Waits, slots, piece_of, stretch_of, runs_in, bits_in, ends_has, begins_has, Packing}
use Rattle.dfdl_splice.specs.Tables.{IsSound, IsAwaitedAt, live, stretch_in}
use Rattle.dfdl_splice.proofs.Slots.{push, push_bits, snoc_runs}
use Rattle.dfdl_splice.proofs.Entries.{slots-append, within-append, rising-push, awaited_at, for_piece, for_awaits, put_stretch, put_runs, put_bits, put_within, put_rising}

pub known_is : (p q b c m n : ℕ) → p ≡ q → b ≡ c → m ≡ n → Known p b m ≡ Known q c n
known_is p q b c m n e f g = cc

-- where a piece is found
pub found : (table : Table) (piece count result : ℕ) → IsAwaited piece count (stretch_in table).awaited
    → ((i : ℕ) (any : Entry) → i < length (live table) → piece_of (get_or (live table) i any) ≡ piece → result ≡ i)
    → (table.head + result < length table.entries.items) × IsAwaitedAt table (table.head + result) piece
found table piece count result awaited finds =
    let there = awaited_at table.arena.bits (live table) piece count awaited in
    let any : Entry = Awaits piece None in
    let here = for_awaits (get_or (live table) there.0 any) piece count (there.2 any) in
    let is : result ≡ there.0 = finds there.0 any there.1 (for_piece (get_or (live table) there.0 any) piece count (there.2 any)) in (
      omega (arith, there.1, length-drop table.head table.entries.items),
      (
        omega arith,
        here.0,
        λ other.
            rw is (sym (get_or-drop table.head table.entries.items there.0 other) ∙ get_or_default (live table) there.0 other any there.1 ∙ here.1),
      ),
    )

-- the bits of a piece are put
module _ (old new : Table) (A B : List Entry) (piece : ℕ) (want : Option ℕ) (bits : List ℕ)
    (sound : IsSound old) (old_is : live old ≡ A ++ Awaits piece want ∷ B) (new_is : live new ≡ A ++ Known piece (length old.arena.bits) (length bits) ∷ B)
    (arena : new.arena ≡ record old.arena { bits = old.arena.bits ++ bits }) (spare : new.spare ≡ old.spare) (next : new.next ≡ old.next)
    (head : new.head ≤ length new.entries.items) (room : bits_in (stretch_in old) + length bits ≤ 8 * old.arena.room)
    (runs : new.runs + (ends_has (slots old.arena.bits A) + begins_has (slots old.arena.bits B)) ≡ old.runs) where
  all_bits : new.arena.bits ≡ old.arena.bits ++ bits
  all_bits = ap (λ (b : Buffered). b.bits) arena

  same_room : new.arena.room ≡ old.arena.room
  same_room = ap (λ (b : Buffered). b.room) arena

  pub fill_stretch : stretch_in new ≡ filled piece bits (stretch_in old).known (stretch_in old).awaited
  fill_stretch = rw all_bits (put_stretch old.arena.bits bits A B (live old) (live new) piece want old.next old_is new_is sound.within sound.rising)

  pub fill_bits : bits_in (stretch_in new) ≡ bits_in (stretch_in old) + length bits
  fill_bits = rw all_bits (put_bits old.arena.bits bits A B (live old) (live new) piece want old.next old_is new_is sound.within sound.rising)

  fill_runs : new.runs ≡ runs_in (stretch_in new)
  fill_runs =
      let counted : runs_in (stretch_in new) + (ends_has (slots old.arena.bits A) + begins_has (slots old.arena.bits B)) ≡ runs_in (stretch_in old) =
      rw all_bits (put_runs old.arena.bits bits A B (live old) (live new) piece want old.next old_is new_is sound.within sound.rising) in
      omega (arith, sound.runs)

  pub fill_sound : IsSound new
  fill_sound = record {
    head = head;
    order = ap (λ (b : Buffered). b.order) spare ∙ sound.order ∙ sym (ap (λ (b : Buffered). b.order) arena);
    room = ap (λ (b : Buffered). b.room) spare ∙ sound.room ∙ sym same_room;
    bound = rw same_room sound.bound;
    within = rw all_bits (put_within old.arena.bits bits A B (live old) (live new) piece want old.next old_is new_is sound.within sound.rising);
    rising = rw next (put_rising old.arena.bits bits A B (live old) (live new) piece want old.next old_is new_is sound.within sound.rising);
    runs = fill_runs;
    bits = omega (arith, fill_bits, same_room);
  }

-- a piece more
module _ (old new : Table) (want : Option ℕ) (sound : IsSound old) (new_is : live new ≡ live old ++ Awaits old.next want ∷ [])
    (arena : new.arena ≡ old.arena) (spare : new.spare ≡ old.spare) (next : new.next ≡ old.next + 1)
    (head : new.head ≤ length new.entries.items) (runs : new.runs ≡ old.runs + 1) where
  all_slots : slots new.arena.bits (live new) ≡ slots old.arena.bits (live old) ++ Waits old.next want ∷ []
  all_slots = rw (arena, new_is) (slots-append old.arena.bits (live old) (Awaits old.next want ∷ []))

  pub push_stretch : stretch_in new ≡ record (stretch_in old) { awaited = (stretch_in old).awaited ++ record { piece = old.next; bits = want; behind = None } ∷ [] }
  push_stretch = ap stretch_of all_slots ∙ push (slots old.arena.bits (live old)) old.next want

  pub push_sound : IsSound new
  push_sound = record {
    head = head;
    order = ap (λ (b : Buffered). b.order) spare ∙ sound.order ∙ sym (ap (λ (b : Buffered). b.order) arena);
    room = ap (λ (b : Buffered). b.room) spare ∙ sound.room ∙ sym (ap (λ (b : Buffered). b.room) arena);
    bound = rw arena sound.bound;
    within = rw (arena, new_is) (within-append (length old.arena.bits) (live old) (Awaits old.next want ∷ []) sound.within (tt, tt));
    rising = rw (next, new_is) (rising-push 0 (live old) old.next (Awaits old.next want) refl sound.rising);
    runs =
        let snoc : runs_in (stretch_of (slots old.arena.bits (live old) ++ Waits old.next want ∷ [])) + ends_has (slots old.arena.bits (live old)) * 0 ≡ runs_in (stretch_in old) + 1 =
        snoc_runs (slots old.arena.bits (live old)) (Waits old.next want) in
        rw all_slots (omega (arith, sound.runs));
    bits = rw (all_slots, arena) (omega (arith, sound.bits, push_bits (slots old.arena.bits (live old)) old.next want));
  }

-- entries that were written anew
module _ (old new : Table) (sound : IsSound old) (packed : Packing (live old) old.arena.bits new.entries.items [] new.arena.bits)
    (head : new.head ≡ 0) (next : new.next ≡ old.next) (runs : new.runs ≡ old.runs)
    (order : new.arena.order ≡ old.arena.order) (orders : new.spare.order ≡ new.arena.order)
    (room : new.arena.room ≡ old.arena.room) (rooms : new.spare.room ≡ new.arena.room) where
  pub pack_stretch : stretch_in new ≡ stretch_in old
  pack_stretch = rw head (rw append-nil at packed.stretch)

  pub pack_runs : length new.entries.items ≡ new.runs
  pack_runs =
      let same : stretch_of (slots new.arena.bits new.entries.items) ≡ stretch_in old = rw append-nil at packed.stretch in
      let counted : length new.entries.items ≡ runs_in (stretch_in old) = rw same at packed.runs in
      omega (arith, sound.runs)

  pub pack_sound : IsSound new
  pack_sound = record {
    head = rw head (omega arith);
    order = orders;
    room = rooms;
    bound = rw room sound.bound;
    within = rw head packed.within;
    rising = rw (head, next) (rw append-nil at (packed.rising old.next sound.rising));
    runs = rw (pack_stretch, runs) sound.runs;
    bits = rw (pack_stretch, room) sound.bits;
  }
