-- Mirror for the prover: how an answer is recorded, and how what is known lies beside the marks.
use Rattle.std.specs.Prelude.{◌≡◌, ◌≢◌, ℕ, ◌+◌, ◌<◌, ◌≤◌, Option, Some, None, List, length, slice_set}
use Rattle.std.specs.List.{slice_get}
use Rattle.dfdl_suspend.specs.declared.equations.Answer.{Answer}
use Rattle.dfdl_suspend.specs.declared.equations.Answer.TheVariants.{Value, Wait, Fault}
use Rattle.dfdl_suspend.specs.declared.known.Held.{Held}
use Rattle.dfdl_suspend.specs.declared.mark.Mark.{Mark}
use Rattle.dfdl_suspend.specs.declared.mark.Mark.TheVariants.{Done, Waits, Faulty}
use Rattle.dfdl_suspend.specs.Asks.{at}
use Rattle.dfdl_suspend.specs.Marks.{all_woken}
use Rattle.dfdl_suspend.specs.Queued.{Queued}

-- an unknown that is waited for is there and has no value
abbrev pub IsRecordable : List Mark → Answer → Type 0
IsRecordable marks Value = Unit {0}
IsRecordable marks (Wait unknown) = (unknown < length marks) × (slice_get marks unknown ≢ Some Done)
IsRecordable marks (Fault cause) = Unit {0}

-- the marks after an answer, and how many are ready
abbrev pub IsRecorded : Answer → ℕ → Queued → Queued → Type 0
IsRecorded Value cell old new = new.marks ≡ all_woken cell (slice_set old.marks cell Done)
IsRecorded (Wait unknown) cell old new = (new.marks ≡ slice_set old.marks cell (Waits unknown)) × (length new.ready + 1 ≡ length old.ready)
IsRecorded (Fault cause) cell old new = (new.marks ≡ slice_set old.marks cell (Faulty cause)) × (length new.ready + 1 ≡ length old.ready)

-- what is known lies beside the marks
pub record IsTied (known : List (Option Held)) (marks : List Mark) : Type 0 where
  pub few : length marks ≤ length known
  pub done : (cell : ℕ) (value : Held) → at known cell ≡ Some value → slice_get marks cell ≡ Some Done
  pub filled : (cell : ℕ) → slice_get marks cell ≡ Some Done → at known cell ≢ None
