-- Slots, and the pieces that they stand for.
use Rattle.std.proofs.Common.{◌≡◌, ℕ, ◌+◌, ◌*◌, ◌<◌, ◌≤◌, Option, None, Some, Bool, true, false, cond, eqb, List, [], ◌∷◌, ◌++◌, length, refl, ap, ◌∙◌, inl, inr, arith, append_assoc, length-append}
use Rattle.std.proofs.lemmas.Bool.Decides.{eqb_tells}
use Rattle.dfdl_splice.specs.Splicing.{Awaited, Stretch, known_bits, joined, filled}
use Rattle.dfdl_splice.specs.Entries.{Slot, Waits, Has, before, stretch_of, runs_in, bits_in, has, ends_has, begins_has}

-- at most one
has_few : (s : Slot) → has s ≤ 1
has_few (Waits p c) = omega arith
has_few (Has p b) = omega arith

pub ends_few : (slots : List Slot) → ends_has slots ≤ 1
ends_few [] = omega arith
ends_few (s ∷ []) = has_few s
ends_few (s ∷ (t ∷ rest)) = ends_few (t ∷ rest)

pub begins_few : (slots : List Slot) → begins_has slots ≤ 1
begins_few [] = omega arith
begins_few (s ∷ rest) = has_few s

-- one slot more at the end
pub snoc_runs : (slots : List Slot) (s : Slot) → runs_in (stretch_of (slots ++ s ∷ [])) + ends_has slots * has s ≡ runs_in (stretch_of slots) + 1
snoc_runs [] (Waits p c) = refl
snoc_runs [] (Has p b) = refl
snoc_runs (Waits q d ∷ []) (Waits p c) = refl
snoc_runs (Waits q d ∷ []) (Has p c) = refl
snoc_runs (Has q d ∷ []) (Waits p c) = refl
snoc_runs (Has q d ∷ []) (Has p c) = refl
snoc_runs (Waits q d ∷ (t ∷ rest)) s = omega (arith, snoc_runs (t ∷ rest) s)
snoc_runs (Has q d ∷ (Waits r e ∷ rest)) s = omega (arith, snoc_runs (Waits r e ∷ rest) s)
snoc_runs (Has q d ∷ (Has r e ∷ rest)) s = omega (arith, snoc_runs (Has r e ∷ rest) s)

-- a piece that is awaited gets its bits: it joins what stands beside it
pub fill_runs : (A B : List Slot) (piece : ℕ) (want : Option ℕ) (bits : List ℕ)
    → runs_in (stretch_of (A ++ Has piece bits ∷ B)) + (ends_has A + begins_has B) ≡ runs_in (stretch_of (A ++ Waits piece want ∷ B))
fill_runs [] [] piece want bits = refl
fill_runs [] (Waits q d ∷ rest) piece want bits = omega arith
fill_runs [] (Has q d ∷ rest) piece want bits = omega arith
fill_runs (Waits q d ∷ []) B piece want bits = omega (arith, fill_runs [] B piece want bits)
fill_runs (Has q d ∷ []) B piece want bits = omega (arith, fill_runs [] B piece want bits)
fill_runs (Waits q d ∷ (t ∷ rest)) B piece want bits = omega (arith, fill_runs (t ∷ rest) B piece want bits)
fill_runs (Has q d ∷ (Waits r e ∷ rest)) B piece want bits = omega (arith, fill_runs (Waits r e ∷ rest) B piece want bits)
fill_runs (Has q d ∷ (Has r e ∷ rest)) B piece want bits = omega (arith, fill_runs (Has r e ∷ rest) B piece want bits)

-- what a piece joins, or what stands before it
abbrev stretch : Option (List ℕ) → List Awaited → Stretch
stretch known awaited = record { known = known; awaited = awaited }

chosen : (t : Bool) (front bits : List ℕ) (known behind : Option (List ℕ)) (rest others : List Awaited)
    → cond t (stretch (joined (Some (front ++ known_bits known)) bits behind) rest) (stretch (Some (front ++ known_bits known)) others)
    ≡ stretch (Some (front ++ known_bits (cond t (stretch (joined known bits behind) rest) (stretch known others)).known)) (cond t (stretch (joined known bits behind) rest) (stretch known others)).awaited
chosen true front bits known behind rest others =
    ap (λ (all : List ℕ). stretch (Some all) rest) (append_assoc front (known_bits known) (bits ++ known_bits behind))
chosen false front bits known behind rest others = refl

-- bits before what is known stay before it
pub filled_behind : (piece : ℕ) (bits front : List ℕ) (known : Option (List ℕ)) (awaited : List Awaited)
    → filled piece bits (Some (front ++ known_bits known)) awaited ≡ stretch (Some (front ++ known_bits (filled piece bits known awaited).known)) (filled piece bits known awaited).awaited
filled_behind piece bits front known [] = refl
filled_behind piece bits front known (first ∷ rest) =
    chosen (eqb first.piece piece) front bits known first.behind rest _

eqb_same : (a : ℕ) → eqb a a ≡ true
eqb_same a = elim (eqb_tells a a) [ inl e ↦ e.0 | inr e ↦ absurd (e.1 refl) ]

eqb_below : (a b : ℕ) → a < b → eqb a b ≡ false
eqb_below a b less = elim (eqb_tells a b) [ inl e ↦ absurd (omega (arith, e.1)) | inr e ↦ e.0 ]

-- no piece of this number is awaited in a list
abbrev pub NoneIs : ℕ → List Slot → Type 0
NoneIs piece [] = Unit {0}
NoneIs piece (Waits other bits ∷ slots) = (other < piece) × NoneIs piece slots
NoneIs piece (Has other bits ∷ slots) = NoneIs piece slots

-- what a piece that is awaited becomes
pub fill : (A B : List Slot) (piece : ℕ) (want : Option ℕ) (bits : List ℕ) → NoneIs piece A
    → filled piece bits (stretch_of (A ++ Waits piece want ∷ B)).known (stretch_of (A ++ Waits piece want ∷ B)).awaited ≡ stretch_of (A ++ Has piece bits ∷ B)
fill [] B piece want bits none = rw (eqb_same piece) refl
fill (Waits q d ∷ A) B piece want bits none =
    let other : eqb q piece ≡ false = eqb_below q piece none.0 in
    rw other (ap (before (Waits q d)) (fill A B piece want bits none.1))
fill (Has q d ∷ A) B piece want bits none =
    filled_behind piece bits d (stretch_of (A ++ Waits piece want ∷ B)).known (stretch_of (A ++ Waits piece want ∷ B)).awaited
    ∙ ap (before (Has q d)) (fill A B piece want bits none)

pub fill_bits : (A B : List Slot) (piece : ℕ) (want : Option ℕ) (bits : List ℕ)
    → bits_in (stretch_of (A ++ Has piece bits ∷ B)) ≡ bits_in (stretch_of (A ++ Waits piece want ∷ B)) + length bits
fill_bits [] B piece want bits = omega (arith, length-append bits (known_bits (stretch_of B).known))
fill_bits (Waits q d ∷ A) B piece want bits = omega (arith, fill_bits A B piece want bits)
fill_bits (Has q d ∷ A) B piece want bits =
    omega (arith, fill_bits A B piece want bits, length-append d (known_bits (stretch_of (A ++ Has piece bits ∷ B)).known), length-append d (known_bits (stretch_of (A ++ Waits piece want ∷ B)).known))

-- one piece more that is awaited
pub push : (slots : List Slot) (piece : ℕ) (want : Option ℕ)
    → stretch_of (slots ++ Waits piece want ∷ []) ≡ stretch (stretch_of slots).known ((stretch_of slots).awaited ++ record { piece = piece; bits = want; behind = None } ∷ [])
push [] piece want = refl
push (Waits q d ∷ slots) piece want = ap (before (Waits q d)) (push slots piece want)
push (Has q d ∷ slots) piece want = ap (before (Has q d)) (push slots piece want)

pub push_bits : (slots : List Slot) (piece : ℕ) (want : Option ℕ) → bits_in (stretch_of (slots ++ Waits piece want ∷ [])) ≡ bits_in (stretch_of slots)
push_bits [] piece want = refl
push_bits (Waits q d ∷ slots) piece want = omega (arith, push_bits slots piece want)
push_bits (Has q d ∷ slots) piece want =
    omega (arith, push_bits slots piece want, length-append d (known_bits (stretch_of (slots ++ Waits piece want ∷ [])).known), length-append d (known_bits (stretch_of slots).known))

abbrev pub slot_bits : Slot → ℕ
slot_bits (Waits piece want) = 0
slot_bits (Has piece bits) = length bits

-- the bits of a slot and those behind it
pub bits_before : (s : Slot) (behind : Stretch) → bits_in (before s behind) ≡ slot_bits s + bits_in behind
bits_before (Waits q d) behind = omega arith
bits_before (Has q d) behind = omega (arith, length-append d (known_bits behind.known))
