-- The pieces before the first one that is awaited.
use Rattle.std.proofs.Common.{◌≡◌, ℕ, ◌+◌, ◌-◌, ◌<◌, ◌≤◌, Option, None, Some, List, [], ◌∷◌, ◌++◌, length, take, drop, get_or, refl, ap, sym, ◌∙◌, arith, length-append}
use Rattle.std.proofs.lemmas.List.{append-nil, drop_more, drop-drop}
use Rattle.dfdl_forms.specs.declared.order.BitOrder.{BitOrder}
use Rattle.dfdl_splice.specs.declared.entry.Entry.{Entry}
use Rattle.dfdl_splice.specs.declared.entry.Entry.TheVariants.{Known}
use Rattle.dfdl_splice.specs.declared.table.Table.{Table}
use Rattle.dfdl_splice.specs.Splicing.{Awaited, Spliced, Stretch, known_bits, one_run, behind_count, filled}
use Rattle.dfdl_splice.specs.Entries.{Slot, Waits, Has, slots, stretch_of, begins_has, AreWithin}
use Rattle.dfdl_splice.specs.Tables.{IsSound, live, stretch_in}
use Rattle.dfdl_splice.proofs.Slots.{filled_behind}
use Rattle.dfdl_splice.proofs.Entries.{within-drop, rising-drop}
use Rattle.dfdl_splice.proofs.Packs.{known_length}

-- there is room for the bits of one entry where there is for all
pub lead_room : (arena : List ℕ) (entries : List Entry) (at piece begin count room : ℕ) (any : Entry) (front all : List ℕ)
    → get_or entries at any ≡ Known piece begin count → at < length entries → AreWithin (length arena) (drop at entries)
    → front ++ known_bits (stretch_of (slots arena (drop at entries))).known ≡ all → length all ≤ room → length front + count ≤ room
lead_room arena entries at piece begin count room any front all is below within whole few =
    let rest : List ℕ = known_bits (stretch_of (slots arena (drop (at + 1) entries))).known in
    let here : drop at entries ≡ Known piece begin count ∷ drop (at + 1) entries = drop_more entries at any below ∙ ap (λ (e : Entry). e ∷ drop (at + 1) entries) is in
    let inside : AreWithin (length arena) (Known piece begin count ∷ drop (at + 1) entries) = rw here at within in
    let sum : front ++ (take count (drop begin arena) ++ rest) ≡ all = rw here at whole in
    omega (arith, ap length sum, length-append front (take count (drop begin arena) ++ rest), length-append (take count (drop begin arena)) rest, known_length arena begin count inside.0)

-- they count as one
pub lead_count : (slots : List Slot) → begins_has slots ≡ one_run (stretch_of slots).known
lead_count [] = refl
lead_count (Waits piece want ∷ slots) = refl
lead_count (Has piece bits ∷ slots) = refl

-- a table without them
pub lead_sound : (old new : Table) → IsSound old → old.head ≤ new.head → new.head ≤ length new.entries.items → new.entries.items ≡ old.entries.items
    → stretch_in new ≡ record { known = None; awaited = (stretch_in old).awaited } → new.arena ≡ old.arena → new.spare ≡ old.spare → new.next ≡ old.next
    → new.runs + begins_has (slots old.arena.bits (live old)) ≡ old.runs → IsSound new
lead_sound old new sound behind inside items stretch arena spare next runs =
    let place : old.head + (new.head - old.head) ≡ new.head = omega arith in
    let live_is : live new ≡ drop (new.head - old.head) (live old) =
    ap (drop new.head) items ∙ ap (λ (k : ℕ). drop k old.entries.items) (sym place) ∙ sym (drop-drop (new.head - old.head) old.head old.entries.items) in
    record {
      head = inside;
      order = rw (arena, spare) sound.order;
      room = rw (arena, spare) sound.room;
      bound = rw arena sound.bound;
      within = rw (live_is, arena) (within-drop (length old.arena.bits) (new.head - old.head) (live old) sound.within);
      rising = rw (live_is, next) (rising-drop (new.head - old.head) (live old) old.next sound.rising);
      runs = rw stretch (omega (arith, sound.runs, lead_count (slots old.arena.bits (live old))));
      bits = rw (stretch, arena) (omega (arith, sound.bits));
    }

-- a piece that has no bits yet
pub behind-push : (awaited : List Awaited) (piece : ℕ) (want : Option ℕ)
    → behind_count (awaited ++ record { piece = piece; bits = want; behind = None } ∷ []) ≡ behind_count awaited
behind-push [] piece want = refl
behind-push (first ∷ rest) piece want = omega (arith, behind-push rest piece want)

-- the bits of a piece behind a front
pub filled_front : (piece : ℕ) (bits front : List ℕ) (awaited : List Awaited)
    → filled piece bits (Some front) awaited ≡ record { known = Some (front ++ known_bits (filled piece bits None awaited).known); awaited = (filled piece bits None awaited).awaited }
filled_front piece bits front awaited = rw append-nil at (filled_behind piece bits front None awaited)

abbrev spliced : ℕ → ℕ → BitOrder → ℕ → List ℕ → List Awaited → Spliced
spliced most_pieces most_bytes order added front awaited =
    record { most_pieces = most_pieces; most_bytes = most_bytes; order = order; added = added; front = front; awaited = awaited }

-- the front and what is awaited behind it
pub put_view : (piece : ℕ) (bits front newer : List ℕ) (old put last : Stretch) (most_pieces most_bytes : ℕ) (o p : BitOrder) (m n : ℕ)
    → old.known ≡ None → put ≡ filled piece bits old.known old.awaited → last ≡ record { known = None; awaited = put.awaited }
    → newer ≡ front ++ known_bits put.known → o ≡ p → m ≡ n
    → spliced most_pieces most_bytes o m newer last.awaited
    ≡ spliced most_pieces most_bytes p n (known_bits (filled piece bits (Some front) old.awaited).known) (filled piece bits (Some front) old.awaited).awaited
put_view piece bits front newer old put last most_pieces most_bytes o p m n none is_put is_last is_newer same_order same_next =
    let is : put ≡ filled piece bits None old.awaited = is_put ∙ ap (λ (known : Option (List ℕ)). filled piece bits known old.awaited) none in
    rw (same_order, same_next, is_newer, is_last, filled_front piece bits front old.awaited, is) refl
