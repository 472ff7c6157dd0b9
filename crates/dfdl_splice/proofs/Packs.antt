-- Entries that are written anew.
use Rattle.std.proofs.Common.{◌≡◌, ℕ, zero, suc, ◌+◌, ◌-◌, ◌*◌, ◌<◌, ◌≤◌, Some, List, [], ◌∷◌, ◌++◌, length, take, drop, set, get_or, refl, ap, sym, ◌∙◌, subst, arith, append_assoc, length-append}
use Rattle.std.proofs.lemmas.List.{take_more, take_more_set, drop-drop, append-nil, take_all, drop_at, drop-append-le, length-drop, length-take-le}
use Rattle.dfdl_lemmas.proofs.Lists.{left_at}
use Rattle.dfdl_splice.specs.declared.entry.Entry.{Entry}
use Rattle.dfdl_splice.specs.declared.entry.Entry.TheVariants.{Awaits, Known}
use Rattle.dfdl_splice.specs.Splicing.{known_bits}
use Rattle.dfdl_splice.specs.Entries.{Slot, Waits, Has, slot_of, slots, piece_of, before, stretch_of, runs_in, bits_in, has, ends_has, IsWithin, AreWithin, Rising, entry_bits, moved_to, joined_with, kept_with, EndsWith, LastEndsWith, Packing}
use Rattle.dfdl_splice.proofs.Slots.{snoc_runs, bits_before, slot_bits}
use Rattle.dfdl_splice.proofs.Entries.{slot_of-more, is_within-more, rising-other, rising-without}

-- an entry behind others, by the last of them
pub kept_with-last : (front : List Entry) (last entry : Entry) → kept_with (front ++ last ∷ []) entry ≡ front ++ joined_with last entry
kept_with-last [] last entry = refl
kept_with-last (first ∷ []) last entry = refl
kept_with-last (first ∷ (next ∷ rest)) last entry = ap (λ (all : List Entry). first ∷ all) (kept_with-last (next ∷ rest) last entry)

-- how many bits an entry has
entry_length : (arena : List ℕ) (entry : Entry) → length (entry_bits arena entry) ≡ slot_bits (slot_of arena entry)
entry_length arena (Awaits piece want) = refl
entry_length arena (Known piece begin count) = refl

pub known_length : (arena : List ℕ) (begin count : ℕ) → begin + count ≤ length arena → length (take count (drop begin arena)) ≡ count
known_length arena begin count within = length-take-le count (drop begin arena) (omega (arith, length-drop begin arena))

-- the slot of an entry whose bits were put behind others
new_slot : (arena spare : List ℕ) (entry : Entry) → IsWithin (length arena) entry
    → slot_of (spare ++ entry_bits arena entry) (moved_to (length spare) entry) ≡ slot_of arena entry
new_slot arena spare (Awaits piece want) within = refl
new_slot arena spare (Known piece begin count) within =
    ap (Has piece) (ap (take count) (drop_at spare (take count (drop begin arena)) (length spare) refl)
    ∙ take_all count (take count (drop begin arena)) (omega (arith, known_length arena begin count within)))

-- bits that end a buffer, and those behind them
joined_bits : (spare bits : List ℕ) (begin count more : ℕ) → begin + count ≡ length spare → length bits ≡ more
    → take (count + more) (drop begin (spare ++ bits)) ≡ take count (drop begin spare) ++ bits
joined_bits spare bits begin count more ends size =
    let rest : length (drop begin spare) ≡ count = omega (arith, length-drop begin spare) in
    ap (take (count + more)) (drop-append-le begin spare bits (omega arith))
    ∙ take_all (count + more) (drop begin spare ++ bits) (omega (arith, length-append (drop begin spare) bits))
    ∙ ap (λ (front : List ℕ). front ++ bits) (sym (take_all count (drop begin spare) (omega arith)))

-- a list with an entry more has one
joined_some : (first entry : Entry) → 0 < length (joined_with first entry)
joined_some (Awaits q want) entry = omega arith
joined_some (Known q begin count) (Awaits p want) = omega arith
joined_some (Known q begin count) (Known p place more) = omega arith

kept_some : (written : List Entry) (entry : Entry) → 0 < length (kept_with written entry)
kept_some [] entry = omega arith
kept_some (last ∷ []) entry = joined_some last entry
kept_some (first ∷ (next ∷ rest)) entry = omega arith

-- the last entry of a longer list
last_of : (size : ℕ) (first : Entry) (entries : List Entry) → 0 < length entries → LastEndsWith size entries → LastEndsWith size (first ∷ entries)
last_of size first [] some ends = absurd (omega arith)
last_of size first (next ∷ rest) some ends = ends

module _ (arena spare : List ℕ) where
  -- what the entries stand for
  pub keep_stretch : (written : List Entry) (entry : Entry) (left : List Slot) → AreWithin (length spare) written → LastEndsWith (length spare) written → IsWithin (length arena) entry
      → stretch_of (slots (spare ++ entry_bits arena entry) (kept_with written (moved_to (length spare) entry)) ++ left) ≡ stretch_of (slots spare written ++ slot_of arena entry ∷ left)
  keep_stretch [] entry left within ends here =
      ap (λ (s : Slot). before s (stretch_of left)) (new_slot arena spare entry here)
  keep_stretch (Awaits q want ∷ []) entry left within ends here =
      ap (λ (s : Slot). before (Waits q want) (before s (stretch_of left))) (new_slot arena spare entry here)
  keep_stretch (Known q begin count ∷ []) (Awaits p want) left within ends here =
      ap (λ (s : Slot). before s (before (Waits p want) (stretch_of left))) (slot_of-more spare [] (Known q begin count) within.0)
  keep_stretch (Known q begin count ∷ []) (Known p place more) left within ends here =
      let bits : List ℕ = take more (drop place arena) in
      let known : List ℕ = known_bits (stretch_of left).known in
      ap (λ (all : List ℕ). before (Has q all) (stretch_of left)) (joined_bits spare bits begin count more ends (known_length arena place more here))
      ∙ ap (λ (all : List ℕ). record { known = Some all; awaited = (stretch_of left).awaited }) (append_assoc (take count (drop begin spare)) bits known)
  keep_stretch (first ∷ (next ∷ rest)) entry left within ends here =
      ap (λ (s : Slot). before s (stretch_of (slots (spare ++ entry_bits arena entry) (kept_with (next ∷ rest) (moved_to (length spare) entry)) ++ left))) (slot_of-more spare (entry_bits arena entry) first within.0)
      ∙ ap (before (slot_of spare first)) (keep_stretch (next ∷ rest) entry left within.1 ends here)

  larger : (entry : Entry) → length (spare ++ entry_bits arena entry) ≡ length spare + length (entry_bits arena entry)
  larger entry = length-append spare (entry_bits arena entry)

  -- the entry itself ends the buffer
  moved_ends : (entry : Entry) → IsWithin (length arena) entry → EndsWith (length (spare ++ entry_bits arena entry)) (moved_to (length spare) entry)
  moved_ends (Awaits p want) here = tt
  moved_ends (Known p place more) here = omega (arith, larger (Known p place more), known_length arena place more here)

  pub moved_within : (entry : Entry) → IsWithin (length arena) entry → IsWithin (length (spare ++ entry_bits arena entry)) (moved_to (length spare) entry)
  moved_within (Awaits p want) here = tt
  moved_within (Known p place more) here = omega (arith, larger (Known p place more), known_length arena place more here)

  pub keep_within : (written : List Entry) (entry : Entry) → AreWithin (length spare) written → LastEndsWith (length spare) written → IsWithin (length arena) entry
      → AreWithin (length (spare ++ entry_bits arena entry)) (kept_with written (moved_to (length spare) entry))
  keep_within [] entry within ends here = (moved_within entry here, tt)
  keep_within (Awaits q want ∷ []) entry within ends here = (tt, (moved_within entry here, tt))
  keep_within (Known q begin count ∷ []) (Awaits p want) within ends here = (omega (arith, within.0, larger (Awaits p want)), (tt, tt))
  keep_within (Known q begin count ∷ []) (Known p place more) within ends here =
      (omega (arith, larger (Known p place more), known_length arena place more here), tt)
  keep_within (first ∷ (next ∷ rest)) entry within ends here =
      (is_within-more (length spare) _ first (omega (arith, larger entry)) within.0, keep_within (next ∷ rest) entry within.1 ends here)

  pub keep_ends : (written : List Entry) (entry : Entry) → LastEndsWith (length spare) written → IsWithin (length arena) entry
      → LastEndsWith (length (spare ++ entry_bits arena entry)) (kept_with written (moved_to (length spare) entry))
  keep_ends [] entry ends here = moved_ends entry here
  keep_ends (Awaits q want ∷ []) entry ends here = moved_ends entry here
  keep_ends (Known q begin count ∷ []) (Awaits p want) ends here = tt
  keep_ends (Known q begin count ∷ []) (Known p place more) ends here =
      omega (arith, larger (Known p place more), known_length arena place more here)
  keep_ends (first ∷ (next ∷ rest)) entry ends here =
      last_of _ first (kept_with (next ∷ rest) (moved_to (length spare) entry)) (kept_some (next ∷ rest) (moved_to (length spare) entry)) (keep_ends (next ∷ rest) entry ends here)

  -- how many entries there are
  keep_length : (written : List Entry) (entry : Entry)
      → length (kept_with written (moved_to (length spare) entry)) + ends_has (slots spare written) * has (slot_of arena entry) ≡ length written + 1
  keep_length [] (Awaits p want) = refl
  keep_length [] (Known p place more) = refl
  keep_length (Awaits q want ∷ []) (Awaits p wants) = refl
  keep_length (Awaits q want ∷ []) (Known p place more) = refl
  keep_length (Known q begin count ∷ []) (Awaits p want) = refl
  keep_length (Known q begin count ∷ []) (Known p place more) = refl
  keep_length (first ∷ (next ∷ rest)) entry = omega (arith, keep_length (next ∷ rest) entry)

  keep_runs : (written : List Entry) (entry : Entry) → AreWithin (length spare) written → LastEndsWith (length spare) written → IsWithin (length arena) entry
      → length written ≡ runs_in (stretch_of (slots spare written))
      → length (kept_with written (moved_to (length spare) entry)) ≡ runs_in (stretch_of (slots (spare ++ entry_bits arena entry) (kept_with written (moved_to (length spare) entry))))
  keep_runs written entry within ends here runs =
      let all : stretch_of (slots (spare ++ entry_bits arena entry) (kept_with written (moved_to (length spare) entry))) ≡ stretch_of (slots spare written ++ slot_of arena entry ∷ []) =
      rw append-nil at (keep_stretch written entry [] within ends here) in
      let snoc : runs_in (stretch_of (slots spare written ++ slot_of arena entry ∷ [])) + ends_has (slots spare written) * has (slot_of arena entry) ≡ runs_in (stretch_of (slots spare written)) + 1 =
      snoc_runs (slots spare written) (slot_of arena entry) in
      let count : length (kept_with written (moved_to (length spare) entry)) + ends_has (slots spare written) * has (slot_of arena entry) ≡ length written + 1 = keep_length written entry in
      rw all (omega arith)

  moved_piece : (entry : Entry) → piece_of (moved_to (length spare) entry) ≡ piece_of entry
  moved_piece (Awaits p want) = refl
  moved_piece (Known p place more) = refl

  keep_rising : (low : ℕ) (written : List Entry) (entry : Entry) (rest : List Entry) (next : ℕ) → Rising low (written ++ entry ∷ rest) next
      → Rising low (kept_with written (moved_to (length spare) entry) ++ rest) next
  keep_rising low [] entry rest next rising = rising-other low [] rest next entry (moved_to (length spare) entry) (moved_piece entry) rising
  keep_rising low (Awaits q want ∷ []) entry rest next rising =
      (rising.0, rising-other (q + 1) [] rest next entry (moved_to (length spare) entry) (moved_piece entry) rising.1)
  keep_rising low (Known q begin count ∷ []) (Awaits p want) rest next rising = rising
  keep_rising low (Known q begin count ∷ []) (Known p place more) rest next rising =
      (rising.0, rising-without (q + 1) [] rest next (Known p place more) rising.1)
  keep_rising low (first ∷ (second ∷ others)) entry rest next rising =
      (rising.0, keep_rising (piece_of first + 1) (second ∷ others) entry rest next rising.1)

  -- one entry more is written
  pub packing_more : (old written rest : List Entry) (entry : Entry) → Packing old arena written (entry ∷ rest) spare
      → Packing old arena (kept_with written (moved_to (length spare) entry)) rest (spare ++ entry_bits arena entry)
  packing_more old written rest entry p = record {
    stretch = keep_stretch written entry (slots arena rest) p.within p.ends p.left.0 ∙ p.stretch;
    within = keep_within written entry p.within p.ends p.left.0;
    left = p.left.1;
    ends = keep_ends written entry p.ends p.left.0;
    bits = omega (arith, p.bits, larger entry, entry_length arena entry, bits_before (slot_of arena entry) (stretch_of (slots arena rest)));
    runs = keep_runs written entry p.within p.ends p.left.0 p.runs;
    rising = λ next rising. keep_rising 0 written entry rest next (p.rising next rising);
  }

  -- there is room for the bits of the next entry
  pub packing_room : (old written rest : List Entry) (entry : Entry) (room : ℕ) → Packing old arena written (entry ∷ rest) spare
      → bits_in (stretch_of (slots arena old)) ≤ room → length spare + length (entry_bits arena entry) ≤ room
  packing_room old written rest entry room p few =
      omega (arith, p.bits, entry_length arena entry, bits_before (slot_of arena entry) (stretch_of (slots arena rest)))

-- nothing is written yet
pub packing_none : (arena : List ℕ) (old : List Entry) → AreWithin (length arena) old → Packing old arena [] old []
packing_none arena old within = record {
  stretch = refl;
  within = tt;
  left = within;
  ends = tt;
  bits = omega arith;
  runs = refl;
  rising = λ next rising. rising;
}

-- an entry written over the one that it joins
pub kept_joined : (entries : List Entry) (k n : ℕ) (last entry both : Entry) → k ≡ n + 1 → n < length entries → last ≡ get_or entries n last
    → joined_with last entry ≡ both ∷ [] → take k (set entries n both) ≡ kept_with (take k entries) entry
kept_joined entries k n last entry both more below is joined =
    let front : take (n + 1) entries ≡ take n entries ++ last ∷ [] = take_more entries n last below ∙ ap (λ (x : Entry). take n entries ++ x ∷ []) (sym is) in
    rw (more, take_more_set entries n both below, front, kept_with-last (take n entries) last entry, joined) refl

-- an entry written behind others
pub kept_behind : (entries : List Entry) (k n : ℕ) (last entry : Entry) → k ≡ n + 1 → k < length entries → last ≡ get_or entries n last
    → joined_with last entry ≡ last ∷ (entry ∷ []) → take (k + 1) (set entries k entry) ≡ kept_with (take k entries) entry
kept_behind entries k n last entry more below is joined =
    let front : take k entries ≡ take n entries ++ last ∷ [] = rw more (take_more entries n last (omega arith) ∙ ap (λ (x : Entry). take n entries ++ x ∷ []) (sym is)) in
    take_more_set entries k entry below
    ∙ rw (front, kept_with-last (take n entries) last entry, joined) (append_assoc (take n entries) (last ∷ []) (entry ∷ []))

within_get : (size k : ℕ) (entries : List Entry) (i : ℕ) (any : Entry) → AreWithin size (take k entries) → i < k → i < length entries → IsWithin size (get_or entries i any)
within_get size k [] i any within less below = absurd (omega arith)
within_get size zero (e ∷ rest) i any within less below = absurd (omega arith)
within_get size (suc k) (e ∷ rest) zero any within less below = within.0
within_get size (suc k) (e ∷ rest) (suc i) any within less below = within_get size k rest i any within.1 (omega arith) (omega arith)

pub within_at : (size k : ℕ) (entries : List Entry) (i : ℕ) (entry : Entry) → AreWithin size (take k entries) → i < k → i < length entries → entry ≡ get_or entries i entry → IsWithin size entry
within_at size k entries i entry within less below is =
    subst (λ (x : Entry). IsWithin size x) (sym is) (within_get size k entries i entry within less below)

-- a step of the loop that writes entries anew
pub packing_step : (old : List Entry) (arena spare grown : List ℕ) (items new : List Entry) (kept count at : ℕ) (entry moved : Entry)
    → Packing old arena (take kept items) (drop at items) spare → at < length items → entry ≡ get_or items at entry → kept ≤ at
    → moved ≡ moved_to (length spare) entry → grown ≡ spare ++ entry_bits arena entry
    → take count new ≡ kept_with (take kept items) moved → drop (kept + 1) new ≡ drop (kept + 1) items
    → Packing old arena (take count new) (drop (at + 1) new) grown
packing_step old arena spare grown items new kept count at entry moved p below is few is_moved is_grown written rest =
    let here : drop at items ≡ entry ∷ drop (at + 1) items = left_at items at entry below is in
    let place : kept + 1 + (at - kept) ≡ at + 1 = omega arith in
    let left : drop (at + 1) new ≡ drop (at + 1) items =
    rw (← place, ← drop-drop (at - kept) (kept + 1) new, ← drop-drop (at - kept) (kept + 1) items, rest) refl in
    rw (written, left, is_moved, is_grown) (packing_more arena spare old (take kept items) (drop (at + 1) items) entry (rw here at p))
