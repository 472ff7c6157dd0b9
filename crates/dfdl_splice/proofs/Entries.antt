-- Entries, and the slots that they stand for.
use Rattle.std.proofs.Common.{◌≡◌, ℕ, zero, suc, ◌+◌, ◌-◌, ◌<◌, ◌≤◌, Option, List, [], ◌∷◌, ◌++◌, length, take, drop, set, get_or, refl, ap, sym, ◌∙◌, inl, inr, arith, length-append}
use Rattle.std.proofs.lemmas.List.{drop-set-add, set_split, set-get_or, drop-drop, take_all, drop_at, take-append-le, drop-append-le, length-drop}
use Rattle.dfdl_splice.specs.declared.entry.Entry.{Entry}
use Rattle.dfdl_splice.specs.declared.entry.Entry.TheVariants.{Awaits, Known}
use Rattle.dfdl_splice.specs.Splicing.{filled, IsAwaited}
use Rattle.dfdl_splice.specs.Entries.{Slot, Waits, Has, slot_of, slots, piece_of, stretch_of, runs_in, bits_in, has, ends_has, begins_has, IsFor, IsWithin, AreWithin, Rising}
use Rattle.dfdl_splice.proofs.Slots.{NoneIs, fill, fill_runs, fill_bits}

-- the last entry of a list
pub ends_at : (bits : List ℕ) (entries : List Entry) (i : ℕ) (d : Entry) → length entries ≡ suc i → ends_has (slots bits entries) ≡ has (slot_of bits (get_or entries i d))
ends_at bits [] i d len = absurd (omega arith)
ends_at bits (e ∷ []) zero d len = refl
ends_at bits (e ∷ []) (suc i) d len = absurd (omega arith)
ends_at bits (e ∷ (f ∷ rest)) zero d len = absurd (omega arith)
ends_at bits (e ∷ (f ∷ rest)) (suc i) d len = ends_at bits (f ∷ rest) i d (omega arith)

pub begins_at : (bits : List ℕ) (entries : List Entry) (d : Entry) → 0 < length entries → begins_has (slots bits entries) ≡ has (slot_of bits (get_or entries 0 d))
begins_at bits [] d some = absurd (omega arith)
begins_at bits (e ∷ rest) d some = refl

pub slots-append : (bits : List ℕ) (A B : List Entry) → slots bits (A ++ B) ≡ slots bits A ++ slots bits B
slots-append bits [] B = refl
slots-append bits (e ∷ A) B = ap (λ (rest : List Slot). slot_of bits e ∷ rest) (slots-append bits A B)

-- bits behind those of a buffer change no slot
pub slot_of-more : (bits more : List ℕ) (entry : Entry) → IsWithin (length bits) entry → slot_of (bits ++ more) entry ≡ slot_of bits entry
slot_of-more bits more (Awaits piece want) within = refl
slot_of-more bits more (Known piece begin count) within =
    ap (Has piece) (ap (take count) (drop-append-le begin bits more (omega arith)) ∙ take-append-le count (drop begin bits) more (omega (arith, length-drop begin bits)))

pub slots-more : (bits more : List ℕ) (entries : List Entry) → AreWithin (length bits) entries → slots (bits ++ more) entries ≡ slots bits entries
slots-more bits more [] within = refl
slots-more bits more (e ∷ rest) within = rw (slot_of-more bits more e within.0, slots-more bits more rest within.1) refl

-- a larger buffer
pub is_within-more : (m n : ℕ) (entry : Entry) → m ≤ n → IsWithin m entry → IsWithin n entry
is_within-more m n (Awaits piece want) more within = tt
is_within-more m n (Known piece begin count) more within = omega arith

pub within-more : (m n : ℕ) (entries : List Entry) → m ≤ n → AreWithin m entries → AreWithin n entries
within-more m n [] more within = tt
within-more m n (e ∷ rest) more within = (is_within-more m n e more within.0, within-more m n rest more within.1)

pub within-append : (m : ℕ) (A B : List Entry) → AreWithin m A → AreWithin m B → AreWithin m (A ++ B)
within-append m [] B front rest = rest
within-append m (e ∷ A) B front rest = (front.0, within-append m A B front.1 rest)

pub within-front : (m : ℕ) (A B : List Entry) → AreWithin m (A ++ B) → AreWithin m A
within-front m [] B all = tt
within-front m (e ∷ A) B all = (all.0, within-front m A B all.1)

pub within-rest : (m : ℕ) (A B : List Entry) → AreWithin m (A ++ B) → AreWithin m B
within-rest m [] B all = all
within-rest m (e ∷ A) B all = within-rest m A B all.1

pub within-drop : (m k : ℕ) (entries : List Entry) → AreWithin m entries → AreWithin m (drop k entries)
within-drop m zero entries all = all
within-drop m (suc k) [] all = tt
within-drop m (suc k) (e ∷ rest) all = within-drop m k rest all.1

-- a lower bound
pub rising-lower : (low lower : ℕ) (entries : List Entry) (high : ℕ) → lower ≤ low → Rising low entries high → Rising lower entries high
rising-lower low lower [] high less rising = omega arith
rising-lower low lower (e ∷ rest) high less rising = (omega (arith, rising.0), rising.1)

pub rising-drop : (k : ℕ) (entries : List Entry) (high : ℕ) → Rising 0 entries high → Rising 0 (drop k entries) high
rising-drop zero entries high rising = rising
rising-drop (suc k) [] high rising = rising
rising-drop (suc k) (e ∷ rest) high rising = rising-drop k rest high (rising-lower (piece_of e + 1) 0 rest high (omega arith) rising.1)

-- a piece more
pub rising-push : (low : ℕ) (entries : List Entry) (high : ℕ) (entry : Entry) → piece_of entry ≡ high → Rising low entries high → Rising low (entries ++ entry ∷ []) (high + 1)
rising-push low [] high entry is rising = (omega arith, omega arith)
rising-push low (e ∷ rest) high entry is rising = (rising.0, rising-push (piece_of e + 1) rest high entry is rising.1)

-- another entry of the same piece
pub rising-other : (low : ℕ) (A B : List Entry) (high : ℕ) (old new : Entry) → piece_of new ≡ piece_of old → Rising low (A ++ old ∷ B) high → Rising low (A ++ new ∷ B) high
rising-other low [] B high old new same rising = rw same rising
rising-other low (e ∷ A) B high old new same rising = (rising.0, rising-other (piece_of e + 1) A B high old new same rising.1)

-- without an entry
pub rising-without : (low : ℕ) (A B : List Entry) (high : ℕ) (entry : Entry) → Rising low (A ++ entry ∷ B) high → Rising low (A ++ B) high
rising-without low [] B high entry rising = rising-lower (piece_of entry + 1) low B high (omega (arith, rising.0)) rising.1
rising-without low (e ∷ A) B high entry rising = (rising.0, rising-without (piece_of e + 1) A B high entry rising.1)

rising_at : (low : ℕ) (A B : List Entry) (high : ℕ) (entry : Entry) → Rising low (A ++ entry ∷ B) high → low ≤ piece_of entry
rising_at low [] B high entry rising = rising.0
rising_at low (e ∷ A) B high entry rising = omega (arith, rising.0, rising_at (piece_of e + 1) A B high entry rising.1)

-- the entries before one have other numbers
pub none_before : (bits : List ℕ) (low : ℕ) (A B : List Entry) (high : ℕ) (entry : Entry) → Rising low (A ++ entry ∷ B) high → NoneIs (piece_of entry) (slots bits A)
none_before bits low [] B high entry rising = tt
none_before bits low (Awaits q want ∷ A) B high entry rising =
    (omega (arith, rising_at (q + 1) A B high entry rising.1), none_before bits (q + 1) A B high entry rising.1)
none_before bits low (Known q begin count ∷ A) B high entry rising = none_before bits (q + 1) A B high entry rising.1

-- the numbers by place
rising_from : (low : ℕ) (entries : List Entry) (high : ℕ) → Rising low entries high → (i : ℕ) (d : Entry) → i < length entries → low ≤ piece_of (get_or entries i d)
rising_from low [] high rising i d below = absurd (omega arith)
rising_from low (e ∷ rest) high rising zero d below = rising.0
rising_from low (e ∷ rest) high rising (suc i) d below = omega (arith, rising.0, rising_from (piece_of e + 1) rest high rising.1 i d (omega arith))

pub rising_order : (low : ℕ) (entries : List Entry) (high : ℕ) → Rising low entries high → (i j : ℕ) (d : Entry) → i < j → j < length entries
    → piece_of (get_or entries i d) < piece_of (get_or entries j d)
rising_order low [] high rising i j d less below = absurd (omega arith)
rising_order low (e ∷ rest) high rising i zero d less below = absurd (omega arith)
rising_order low (e ∷ rest) high rising zero (suc j) d less below = omega (arith, rising_from (piece_of e + 1) rest high rising.1 j d (omega arith))
rising_order low (e ∷ rest) high rising (suc i) (suc j) d less below = rising_order (piece_of e + 1) rest high rising.1 i j d (omega arith) (omega arith)

-- where a piece is awaited
pub awaited_at : (bits : List ℕ) (entries : List Entry) (piece count : ℕ) → IsAwaited piece count (stretch_of (slots bits entries)).awaited
    → (i : ℕ) × (i < length entries) × ((any : Entry) → IsFor (get_or entries i any) piece count)
awaited_at bits [] piece count there = absurd there
awaited_at bits (Awaits q want ∷ rest) piece count (inl here) = (0, omega arith, λ any. here)
awaited_at bits (Awaits q want ∷ rest) piece count (inr there) =
    let more = awaited_at bits rest piece count there in
    (suc more.0, omega (arith, more.1), λ any. more.2 any)
awaited_at bits (Known q begin many ∷ rest) piece count there =
    let more = awaited_at bits rest piece count there in
    (suc more.0, omega (arith, more.1), λ any. more.2 any)

-- and that it is
pub awaited_of : (bits : List ℕ) (entries : List Entry) (piece count i : ℕ) (any : Entry) → i < length entries → IsFor (get_or entries i any) piece count
    → IsAwaited piece count (stretch_of (slots bits entries)).awaited
awaited_of bits [] piece count i any below here = absurd (omega arith)
awaited_of bits (Awaits q want ∷ rest) piece count zero any below here = inl here
awaited_of bits (Awaits q want ∷ rest) piece count (suc i) any below here = inr (awaited_of bits rest piece count i any (omega arith) here)
awaited_of bits (Known q begin many ∷ rest) piece count zero any below here = absurd here
awaited_of bits (Known q begin many ∷ rest) piece count (suc i) any below here = awaited_of bits rest piece count i any (omega arith) here

-- the entry of an awaited piece
pub for_piece : (entry : Entry) (piece count : ℕ) → IsFor entry piece count → piece_of entry ≡ piece
for_piece (Awaits q want) piece count here = here.0
for_piece (Known q begin many) piece count here = absurd here

pub for_awaits : (entry : Entry) (piece count : ℕ) → IsFor entry piece count → (want : Option ℕ) × (entry ≡ Awaits piece want)
for_awaits (Awaits q want) piece count here = (want, ap (λ (p : ℕ). Awaits p want) here.0)
for_awaits (Known q begin many) piece count here = absurd here

-- an entry whose bits are put behind those of the buffer
module _ (arena bits : List ℕ) (A B old new : List Entry) (piece : ℕ) (want : Option ℕ) (next : ℕ)
    (old_is : old ≡ A ++ Awaits piece want ∷ B) (new_is : new ≡ A ++ Known piece (length arena) (length bits) ∷ B)
    (within : AreWithin (length arena) old) (rising : Rising 0 old next) where
  all_within : AreWithin (length arena) (A ++ Awaits piece want ∷ B)
  all_within = rw old_is at within

  front_within : AreWithin (length arena) A
  front_within = within-front (length arena) A (Awaits piece want ∷ B) all_within

  rest_within : AreWithin (length arena) B
  rest_within = (within-rest (length arena) A (Awaits piece want ∷ B) all_within).1

  new_slots : slots (arena ++ bits) new ≡ slots arena A ++ Has piece bits ∷ slots arena B
  new_slots =
      let here : take (length bits) (drop (length arena) (arena ++ bits)) ≡ bits =
      ap (take (length bits)) (drop_at arena bits (length arena) refl) ∙ take_all (length bits) bits (omega arith) in
      rw (new_is, slots-append (arena ++ bits) A (Known piece (length arena) (length bits) ∷ B), slots-more arena bits A front_within, slots-more arena bits B rest_within, here) refl

  old_slots : slots arena old ≡ slots arena A ++ Waits piece want ∷ slots arena B
  old_slots = rw old_is (slots-append arena A (Awaits piece want ∷ B))

  pub put_stretch : stretch_of (slots (arena ++ bits) new) ≡ filled piece bits (stretch_of (slots arena old)).known (stretch_of (slots arena old)).awaited
  put_stretch =
      let none : NoneIs piece (slots arena A) = none_before arena 0 A B next (Awaits piece want) (rw old_is at rising) in
      rw (new_slots, old_slots) (sym (fill (slots arena A) (slots arena B) piece want bits none))

  pub put_runs : runs_in (stretch_of (slots (arena ++ bits) new)) + (ends_has (slots arena A) + begins_has (slots arena B)) ≡ runs_in (stretch_of (slots arena old))
  put_runs = rw (new_slots, old_slots) (fill_runs (slots arena A) (slots arena B) piece want bits)

  pub put_bits : bits_in (stretch_of (slots (arena ++ bits) new)) ≡ bits_in (stretch_of (slots arena old)) + length bits
  put_bits = rw (new_slots, old_slots) (fill_bits (slots arena A) (slots arena B) piece want bits)

  pub put_within : AreWithin (length (arena ++ bits)) new
  put_within =
      let larger : length (arena ++ bits) ≡ length arena + length bits = length-append arena bits in
      rw new_is
      (within-append (length (arena ++ bits)) A (Known piece (length arena) (length bits) ∷ B)
      (within-more (length arena) _ A (omega arith) front_within)
      (omega arith, within-more (length arena) _ B (omega arith) rest_within))

  pub put_rising : Rising 0 new next
  put_rising = rw new_is (rising-other 0 A B next (Awaits piece want) (Known piece (length arena) (length bits)) refl (rw old_is at rising))

-- the entries from a head on, cut at a place
pub live_set : (items : List Entry) (head at : ℕ) (entry : Entry) → head ≤ at → at < length items
    → drop head (set items at entry) ≡ take (at - head) (drop head items) ++ entry ∷ drop (at + 1) items
live_set items head at entry behind below =
    let i : ℕ = at - head in
    let place : at ≡ head + i = omega arith in
    let last : head + suc i ≡ at + 1 = omega arith in
    ap (λ (k : ℕ). drop head (set items k entry)) place
    ∙ drop-set-add head items i entry
    ∙ set_split (drop head items) i entry (omega (arith, length-drop head items))
    ∙ ap (λ (rest : List Entry). take i (drop head items) ++ entry ∷ rest) (drop-drop (suc i) head items ∙ ap (λ (k : ℕ). drop k items) last)

pub live_at : (items : List Entry) (head at : ℕ) (entry : Entry) → head ≤ at → at < length items → get_or items at entry ≡ entry
    → drop head items ≡ take (at - head) (drop head items) ++ entry ∷ drop (at + 1) items
live_at items head at entry behind below is =
    let same : set items at entry ≡ items = ap (set items at) (sym is) ∙ set-get_or items at entry in
    ap (drop head) (sym same) ∙ live_set items head at entry behind below
