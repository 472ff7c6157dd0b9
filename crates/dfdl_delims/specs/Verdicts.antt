-- Mirror for the prover: what the first byte of the data tells of the texts of open lists, by what is kept of their first bytes.
use Rattle.std.specs.Prelude.{◌≡◌, ℕ, ◌+◌, ◌<◌, List, [], ◌∷◌, ◌++◌, map, slice_get, Option, Some, None, Bool, true, false, ◌&&◌, ◌||◌, ◌==◌, if◌then◌else◌, nat_lt}
use Rattle.std.specs.List.{list_any}
use Rattle.dfdl_bits.specs.ByteSets.{has_byte}
use Rattle.dfdl_bits.specs.declared.byte_set.ByteSet.{ByteSet}
use Rattle.dfdl_forms.specs.declared.literals.Piece.{Piece}
use Rattle.dfdl_delims.specs.declared.candidate.Candidate.{Candidate}
use Rattle.dfdl_delims.specs.declared.firsts.Firsts.{Firsts}
use Rattle.dfdl_delims.specs.declared.verdict.Verdict.{Verdict}
use Rattle.dfdl_delims.specs.declared.verdict.Verdict.TheVariants.{Alone, Longer}
use Rattle.dfdl_delims.specs.Candidates.{complete, some_dead}
use Rattle.dfdl_delims.specs.Firsts.{AreFirsts, Tells}
use Rattle.dfdl_delims.specs.Hits.{IsLast, counted}
use Rattle.dfdl_delims.specs.Lists.{Opened, is_text_at, is_text_in}

-- What completes the candidates, all of the list at one place, are these texts, and none of them is dead.
pub record StandAt (pieces : List Piece) (candidates : List Candidate) (place : ℕ) (is_text : List ℕ → Bool) : Type 0 where
  pub is : (other : ℕ) (bytes : List ℕ) → complete pieces other candidates bytes ≡ ((place == other) && is_text bytes)
  pub live : some_dead pieces candidates ≡ false

-- what a byte tells of these texts: whether it alone is one, and whether longer ones begin with it
pub record IsTold (alone longer : Bool) (is_text : List ℕ → Bool) (byte : ℕ) : Type 0 where
  pub alone_is : alone ≡ is_text (byte ∷ [])
  pub none : longer ≡ false → (next : ℕ) (rest : List ℕ) → is_text (byte ∷ next ∷ rest) ≡ false

-- The sets are so of these texts as far as the bytes below a number tell.
pub record TellsBelow (n : ℕ) (ones more : ByteSet) (is_text : List ℕ → Bool) : Type 0 where
  pub ones_are : (byte : ℕ) → byte < 256 → has_byte ones byte ≡ (nat_lt byte n && is_text (byte ∷ []))
  pub more_are : (byte : ℕ) → byte < 256 → byte < n → has_byte more byte ≡ false → (next : ℕ) (rest : List ℕ)
      → is_text (byte ∷ next ∷ rest) ≡ false

-- what is kept of a list's texts was put behind the others
pub record IsPut (old new : List Firsts) (list : Opened) : Type 0 where
  pub first : Firsts
  pub is : new ≡ old ++ first ∷ []
  pub tells : Tells first (is_text_in list)

-- what is kept of the lists that numbers name
abbrev pub named_firsts : List Firsts → List ℕ → List (Option Firsts)
named_firsts firsts numbers = map (slice_get firsts) numbers

abbrev pub if_some : (Firsts → Bool) → Option Firsts → Bool
if_some test None = false
if_some test (Some firsts) = test firsts

-- what is kept of one of them passes a test
unfoldable pub some_first : (Firsts → Bool) → List (Option Firsts) → Bool
some_first test firsts = list_any (if_some test) firsts

abbrev pub is_empty : Firsts → Bool
is_empty firsts = firsts.empty

abbrev pub has_some : Firsts → Bool
has_some firsts = firsts.some

-- what a byte tells, from the list at a place on: longer texts may begin with it, or it alone is a text of the innermost list, if of any
unfoldable pub verdict_of : ℕ → ℕ → Option ℕ → List (Option Firsts) → Verdict
verdict_of byte place best [] = Alone best
verdict_of byte place best (None ∷ rest) = verdict_of byte (place + 1) best rest
verdict_of byte place best (Some firsts ∷ rest) =
    if has_byte firsts.more byte then Longer
    else verdict_of byte (place + 1) (counted best place (has_byte firsts.ones byte)) rest

-- The lists have a text with a byte, and none without one.
pub record ArePlain (lists : List Opened) : Type 0 where
  pub none : (place : ℕ) → is_text_at lists place [] ≡ false
  pub place : ℕ
  pub next : ℕ
  pub more : List ℕ
  pub is : is_text_at lists place (next ∷ more) ≡ true

-- What a byte tells of the texts of lists is so: either no text of more bytes begins with it, and it alone is a text of the list at the
-- place and of none further in, or nothing is told.
abbrev pub Told : List Opened → ℕ → Verdict → Type 0
Told lists byte (Alone best) = IsLast (λ place. is_text_at lists place (byte ∷ [])) best
    × ((place next : ℕ) (rest : List ℕ) → is_text_at lists place (byte ∷ next ∷ rest) ≡ false)
Told lists byte Longer = Unit {0}

-- a text of a list may begin with the byte
abbrev pub begins_with : ℕ → Firsts → Bool
begins_with byte firsts = has_byte firsts.ones byte || has_byte firsts.more byte

-- what is kept of the lists that are open, by their numbers
pub record IsKept (lists : List Opened) (firsts : List Firsts) (numbers : List ℕ) : Type 0 where
  pub own : List Firsts
  pub named : named_firsts firsts numbers ≡ map Some own
  pub are : AreFirsts lists own
