-- A board: what is known, and where each unknown stands that was added.
use Rattle.std.specs.Prelude.{◌≡◌, ◌≢◌, ℕ, ◌+◌, ◌-◌, ◌*◌, ◌≤◌, ◌==◌, Option, Some, None, List, [], ◌∷◌, ◌++◌, length, slice_set, if◌then◌else◌, Result, Ok, Err}
use Rattle.std.specs.List.{slice_get}
use Rattle.dfdl_suspend.specs.declared.known.Held.{Held}
use Rattle.dfdl_suspend.specs.declared.mark.Mark.{Mark}
use Rattle.dfdl_suspend.specs.declared.mark.Mark.TheVariants.{Ready, Done, Waits, Faulty}
use Rattle.dfdl_suspend.specs.Asks.{Asks, AsksWithin, Gives, Gets, Faults, WaitsFor, at, filled, gives}
use Rattle.dfdl_suspend.specs.Marks.{IsReadyList}
use Rattle.dfdl_suspend.specs.Rounds.{Reached}

-- what is known, the mark of each unknown that was added, and those that are ready
pub record Boarded : Type 0 where
  pub known : List (Option Held)
  pub marks : List Mark
  pub ready : List ℕ

-- one more unknown, which is ready
abbrev pub with_added : Boarded → Boarded
with_added board = record { known = board.known; marks = board.marks ++ Ready ∷ []; ready = board.ready ++ length board.marks ∷ [] }

-- an unknown that waited for itself is ready
abbrev pub with_set : Boarded → ℕ → Boarded
with_set board cell = record { known = board.known; marks = slice_set board.marks cell Ready; ready = board.ready ++ cell ∷ [] }

-- what a board shows of itself: the unknowns with a value are those that are done, and each ready one has one place
pub record IsShown (board : Boarded) : Type 0 where
  pub few : length board.marks ≤ length board.known
  pub readies : IsReadyList board.marks board.ready
  pub done : (cell : ℕ) (value : Held) → at board.known cell ≡ Some value → slice_get board.marks cell ≡ Some Done
  pub filled : (cell : ℕ) → slice_get board.marks cell ≡ Some Done → at board.known cell ≢ None

-- what an equation gives agrees with the mark of its unknown
abbrev pub Agrees : {V : Type 0} → Mark → Gives V → Type 0
Agrees Ready given = Unit {0}
Agrees Done given = Unit {0}
Agrees (Waits unknown) given = given ≡ WaitsFor unknown
Agrees (Faulty cause) given = given ≡ Faults cause

-- a board fits equations: the unknowns added are theirs, what is known is reached, and they give what was recorded
pub record Fits (count : ℕ) (equation : ℕ → Asks Held) (board : Boarded) : Type 0 where
  pub added : length board.marks ≡ count
  pub reached : Reached (length board.known) equation board.known
  pub recorded : (cell : ℕ) (mark : Mark) → slice_get board.marks cell ≡ Some mark → Agrees mark (gives (equation cell) board.known)

-- what is known with what an equation gives
abbrev pub with_given : {V : Type 0} → Gives V → ℕ → List (Option V) → List (Option V)
with_given (Gets value) cell known = slice_set known cell (Some value)
with_given (Faults cause) cell known = known
with_given (WaitsFor unknown) cell known = known

-- what is left to be done, at most: it falls at each run
abbrev pub weight : Boarded → ℕ
weight board = (length board.known - filled board.known) * (length board.known + 1) + length board.ready

-- how often a number is in a list
abbrev pub times : ℕ → List ℕ → ℕ
times cell [] = 0
times cell (other ∷ cells) = (if cell == other then 1 else 0) + times cell cells

-- one where there is a value
abbrev pub one_if : {V : Type 0} → Option V → ℕ
one_if None = 0
one_if (Some value) = 1

-- how many of some unknowns have a value
abbrev pub how_many : {V : Type 0} → List (Option V) → List ℕ → ℕ
how_many known [] = 0
how_many known (cell ∷ cells) = one_if (at known cell) + how_many known cells

-- one where an unknown was run since it was last made ready
abbrev pub had_run : Mark → ℕ
had_run Ready = 0
had_run Done = 1
had_run (Waits unknown) = 1
had_run (Faulty cause) = 1

-- after these runs and settings no unknown was run more often than the times that it was set, and once, and once for each
-- unknown that its equation may ask for and that has a value
pub record Runs (equation : ℕ → Asks Held) (board : Boarded) (ran were_set : List ℕ) : Type 0 where
  pub bound : (cell : ℕ) (mark : Mark) (asked : List ℕ) → slice_get board.marks cell ≡ Some mark → AsksWithin asked (equation cell)
      → times cell ran ≤ times cell were_set + had_run mark + how_many board.known asked
  pub fresh : (cell : ℕ) → length board.marks ≤ cell → times cell ran ≡ 0

-- one where a call failed
abbrev pub failed : {T E : Type 0} → Result T E → ℕ
failed (Ok value) = 0
failed (Err fault) = 1

-- the history after a call: some more runs, one for each step; a step that found no memory is no run
pub record WentOn (equation : ℕ → Asks Held) (board : Boarded) (ran were_set : List ℕ) (steps : ℕ) : Type 0 where
  pub more : List ℕ
  pub runs : Runs equation board (ran ++ more) were_set
  pub counted : length more ≡ steps
