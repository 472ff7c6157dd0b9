-- Mirror for the prover: the begins of the lists that numbers name, and what begins stand for.
use Rattle.std.specs.Prelude.{◌≡◌, ℕ, ◌+◌, ◌-◌, ◌<◌, false, List, [], ◌∷◌, ◌++◌, length, take, drop, slice_get, Option, Some, None}
use Rattle.dfdl_forms.specs.declared.literals.Piece.{Piece}
use Rattle.dfdl_delims.specs.declared.candidate.Candidate.{Candidate}
use Rattle.dfdl_delims.specs.declared.mark.Mark.{Mark}
use Rattle.dfdl_delims.specs.Candidates.{complete, some_dead}
use Rattle.dfdl_delims.specs.Lists.{Opened, is_text_at}

-- What completes the candidates are the texts of the lists at their places, and none of them is dead.
pub record StandFor (pieces : List Piece) (candidates : List Candidate) (lists : List Opened) : Type 0 where
  pub is : (place : ℕ) (bytes : List ℕ) → complete pieces place candidates bytes ≡ is_text_at lists place bytes
  pub live : some_dead pieces candidates ≡ false

-- the begins from one place to another
abbrev pub begins_from : List Candidate → ℕ → ℕ → List Candidate
begins_from starts from end = take (end - from) (drop from starts)

-- the first of the begins from a place on, and those behind it
abbrev pub IsFirst : List Candidate → ℕ → ℕ → Option Candidate → Type 0
IsFirst starts from end None = begins_from starts from end ≡ []
IsFirst starts from end (Some begin) = (from < end) × (begins_from starts from end ≡ begin ∷ begins_from starts (from + 1) end)

-- where the begins of a list end: where those of the next one start, or at the end of all
abbrev pub end_by : List Candidate → Option Mark → ℕ
end_by starts None = length starts
end_by starts (Some next) = next.starts

-- the begins of a list, from its mark to that of the next one
abbrev pub begins_by : List Candidate → Option Mark → Option Mark → List Candidate
begins_by starts None next = []
begins_by starts (Some mark) next = begins_from starts mark.starts (end_by starts next)

-- the begins of the list of a number
unfoldable pub begins_in : List Mark → List Candidate → ℕ → List Candidate
begins_in marks starts number = begins_by starts (slice_get marks number) (slice_get marks (number + 1))

-- the same begins, of the list at a place
unfoldable pub placed : ℕ → List Candidate → List Candidate
placed place [] = []
placed place (begin ∷ begins) = record begin { list = place } ∷ placed place begins

-- the begins of the lists that numbers name, each of the list at its place, from a place on
unfoldable pub begins_of : List Mark → List Candidate → ℕ → List ℕ → List Candidate
begins_of marks starts place [] = []
begins_of marks starts place (number ∷ numbers) = placed place (begins_in marks starts number) ++ begins_of marks starts (place + 1) numbers
