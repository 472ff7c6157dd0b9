-- Mirror for the prover: what the entries of a table stand for.
use Rattle.std.specs.Prelude.{◌≡◌, ℕ, ◌+◌, ◌≤◌, Option, None, Some, List, [], ◌∷◌, ◌++◌, length, take, drop}
use Rattle.dfdl_splice.specs.declared.entry.Entry.{Entry}
use Rattle.dfdl_splice.specs.declared.entry.Entry.TheVariants.{Awaits, Known}
use Rattle.dfdl_splice.specs.Splicing.{Stretch, known_bits, one_run, awaited_count, behind_count, Fits}

-- a piece that is awaited, or the bits of pieces that are put
pub data Slot : Type 0 where
  Waits : (piece : ℕ) → (bits : Option ℕ) → Slot
  Has : (piece : ℕ) → (bits : List ℕ) → Slot

abbrev pub slot_of : List ℕ → Entry → Slot
slot_of bits (Awaits piece count) = Waits piece count
slot_of bits (Known piece begin count) = Has piece (take count (drop begin bits))

-- the slots of entries over the bits of a buffer
abbrev pub slots : List ℕ → List Entry → List Slot
slots bits [] = []
slots bits (entry ∷ entries) = slot_of bits entry ∷ slots bits entries

abbrev pub piece_of : Entry → ℕ
piece_of (Awaits piece count) = piece
piece_of (Known piece begin count) = piece

-- a slot before others
abbrev pub before : Slot → Stretch → Stretch
before (Waits piece bits) behind = record { known = None; awaited = record { piece = piece; bits = bits; behind = behind.known } ∷ behind.awaited }
before (Has piece bits) behind = record { known = Some (bits ++ known_bits behind.known); awaited = behind.awaited }

abbrev pub stretch_of : List Slot → Stretch
stretch_of [] = record { known = None; awaited = [] }
stretch_of (slot ∷ slots) = before slot (stretch_of slots)

abbrev pub runs_in : Stretch → ℕ
runs_in stretch = one_run stretch.known + awaited_count stretch.awaited

abbrev pub bits_in : Stretch → ℕ
bits_in stretch = length (known_bits stretch.known) + behind_count stretch.awaited

-- 1 where a slot has bits, and where the last and the first one of a list has
abbrev pub has : Slot → ℕ
has (Waits piece bits) = 0
has (Has piece bits) = 1

abbrev pub ends_has : List Slot → ℕ
ends_has [] = 0
ends_has (slot ∷ []) = has slot
ends_has (slot ∷ (next ∷ slots)) = ends_has (next ∷ slots)

abbrev pub begins_has : List Slot → ℕ
begins_has [] = 0
begins_has (slot ∷ slots) = has slot

-- the piece of this number is awaited at the entry, and so many bits fit it
abbrev pub IsFor : Entry → ℕ → ℕ → Type 0
IsFor (Awaits piece want) number count = (piece ≡ number) × Fits want count
IsFor (Known piece begin size) number count = ⊥

-- the bits of the entry lie in a buffer of this size
abbrev pub IsWithin : ℕ → Entry → Type 0
IsWithin size (Awaits piece count) = Unit {0}
IsWithin size (Known piece begin count) = begin + count ≤ size

abbrev pub AreWithin : ℕ → List Entry → Type 0
AreWithin size [] = Unit {0}
AreWithin size (entry ∷ entries) = IsWithin size entry × AreWithin size entries

-- the numbers of the pieces rise, from one on and below another
abbrev pub Rising : ℕ → List Entry → ℕ → Type 0
Rising low [] high = low ≤ high
Rising low (entry ∷ entries) high = (low ≤ piece_of entry) × Rising (piece_of entry + 1) entries high

-- the bits of an entry over a buffer
abbrev pub entry_bits : List ℕ → Entry → List ℕ
entry_bits bits (Awaits piece count) = []
entry_bits bits (Known piece begin count) = take count (drop begin bits)

-- an entry whose bits begin elsewhere
abbrev pub moved_to : ℕ → Entry → Entry
moved_to place (Awaits piece count) = Awaits piece count
moved_to place (Known piece begin count) = Known piece place count

-- an entry behind another one, joined where both have bits, which stand behind one another
abbrev pub joined_with : Entry → Entry → List Entry
joined_with (Known piece begin count) (Known next place more) = Known piece begin (count + more) ∷ []
joined_with (Known piece begin count) (Awaits next bits) = Known piece begin count ∷ (Awaits next bits ∷ [])
joined_with (Awaits piece bits) entry = Awaits piece bits ∷ (entry ∷ [])

-- one entry in place of two, or both
abbrev pub one_or_both : Option Entry → Entry → Entry → List Entry
one_or_both None first next = first ∷ (next ∷ [])
one_or_both (Some one) first next = one ∷ []

-- an entry behind others
abbrev pub kept_with : List Entry → Entry → List Entry
kept_with [] entry = entry ∷ []
kept_with (last ∷ []) entry = joined_with last entry
kept_with (first ∷ (next ∷ rest)) entry = first ∷ kept_with (next ∷ rest) entry

-- the bits of the last entry, where it has some, end with the buffer
abbrev pub EndsWith : ℕ → Entry → Type 0
EndsWith size (Awaits piece count) = Unit {0}
EndsWith size (Known piece begin count) = begin + count ≡ size

abbrev pub LastEndsWith : ℕ → List Entry → Type 0
LastEndsWith size [] = Unit {0}
LastEndsWith size (last ∷ []) = EndsWith size last
LastEndsWith size (first ∷ (next ∷ rest)) = LastEndsWith size (next ∷ rest)

-- Entries of a buffer of bits while they are written anew: those that are written, over another buffer, and those that are left.
pub record Packing (old : List Entry) (arena : List ℕ) (written rest : List Entry) (spare : List ℕ) : Type 0 where
  pub stretch : stretch_of (slots spare written ++ slots arena rest) ≡ stretch_of (slots arena old)
  pub within : AreWithin (length spare) written
  pub left : AreWithin (length arena) rest
  pub ends : LastEndsWith (length spare) written
  pub bits : length spare + bits_in (stretch_of (slots arena rest)) ≡ bits_in (stretch_of (slots arena old))
  pub runs : length written ≡ runs_in (stretch_of (slots spare written))
  pub rising : (next : ℕ) → Rising 0 old next → Rising 0 (written ++ rest) next
