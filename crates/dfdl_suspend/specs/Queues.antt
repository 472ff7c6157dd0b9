-- Mirror for the prover: the lists of those that wait, linked through the numbers of unknowns.
use Rattle.std.specs.Prelude.{◌≡◌, ◌≢◌, ℕ, ◌-◌, ◌^◌, ◌<◌, ◌≤◌, true, false, Some, List, [], ◌∷◌, length, get_or}
use Rattle.std.specs.List.{slice_get}
use Rattle.dfdl_suspend.specs.declared.mark.Mark.{Mark}
use Rattle.dfdl_suspend.specs.declared.mark.Mark.TheVariants.{Done, Waits}
use Rattle.dfdl_suspend.specs.Asks.{is_in}
use Rattle.dfdl_suspend.specs.Marks.{IsReadyList}

-- the number that ends a list
abbrev pub list_end : ℕ
list_end = 2 ^ 32 - 1

-- these unknowns wait for one, and are linked from a head on, each once
abbrev pub IsLinked : List Mark → List ℕ → ℕ → ℕ → List ℕ → Type 0
IsLinked marks next unknown head [] = head ≡ list_end
IsLinked marks next unknown head (cell ∷ cells) =
    (cell ≡ head) × (slice_get marks cell ≡ Some (Waits unknown)) × (is_in cell cells ≡ false) × IsLinked marks next unknown (get_or next cell 0) cells

-- from a head on all others are linked that wait for an unknown
pub record IsWaited (marks : List Mark) (next : List ℕ) (unknown head : ℕ) : Type 0 where
  pub cells : List ℕ
  pub linked : IsLinked marks next unknown head cells
  pub others : is_in unknown cells ≡ false
  pub all : (cell : ℕ) → slice_get marks cell ≡ Some (Waits unknown) → cell ≢ unknown → is_in cell cells ≡ true

-- from a place on all are linked that still wait for an unknown that got a value
pub record IsWaking (marks : List Mark) (next : List ℕ) (unknown head : ℕ) : Type 0 where
  pub cells : List ℕ
  pub linked : IsLinked marks next unknown head cells
  pub all : (cell : ℕ) → slice_get marks cell ≡ Some (Waits unknown) → is_in cell cells ≡ true

-- the lists of a board
pub record IsQueue (marks : List Mark) (ready first next : List ℕ) : Type 0 where
  pub readies : IsReadyList marks ready
  pub firsts : length first ≡ length marks
  pub nexts : length next ≡ length marks
  pub few : length marks ≤ list_end
  pub waits : (cell unknown : ℕ) → slice_get marks cell ≡ Some (Waits unknown) → (unknown < length marks) × (slice_get marks unknown ≢ Some Done)
  pub lists : (unknown : ℕ) → unknown < length marks → slice_get marks unknown ≢ Some Done → IsWaited marks next unknown (get_or first unknown 0)

-- the memory that was taken: for as many unknowns as were opened
pub record HasRoom (room added marks ready first next : ℕ) : Type 0 where
  pub within : added ≤ room
  pub marks_fit : room ≤ marks
  pub ready_fit : room ≤ ready
  pub first_fit : room ≤ first
  pub next_fit : room ≤ next
