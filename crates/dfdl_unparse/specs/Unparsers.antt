-- What an unparser is between two calls, and what stops it.
use Rattle.std.specs.Prelude.{◌≡◌, ℕ, ◌-◌, Bool, true, false, Option, Some, None, List, length, Result, Ok, Err}
use Rattle.dfdl_report.specs.declared.cause.LimitCause.{LimitCause}
use Rattle.dfdl_report.specs.declared.cause.LimitCause.TheVariants.{Cells, Held}
use Rattle.dfdl_splice.specs.Splicing.{Spliced}
use Rattle.dfdl_suspend.specs.Asks.{Asks}
use Rattle.dfdl_suspend.specs.Boards.{Boarded, Fits}
use Rattle.dfdl_suspend.specs.Outcomes.{IsOutcome}
use Rattle.dfdl_suspend.specs.Rounds.{solution}
use Rattle.dfdl_suspend.specs.declared.solved.Solved.TheVariants.{All, Cycle, Fault}
use Rattle.dfdl_suspend.specs.declared.known.Held.{Held as Value}
use Rattle.dfdl_unparse.specs.Documents.{Pieces, told}
use Rattle.dfdl_unparse.specs.Fronts.{bits_known, front, whole}
use Rattle.dfdl_unparse.specs.Splices.{IsSpliced}
use Rattle.dfdl_unparse.specs.declared.stop.End.{End}
use Rattle.dfdl_unparse.specs.declared.stop.End.TheVariants as end
use Rattle.dfdl_unparse.specs.declared.stop.Refusal.{Refusal}
use Rattle.dfdl_unparse.specs.declared.stop.Refusal.TheVariants as refusal
use Rattle.dfdl_unparse.specs.declared.stop.Stop.{Stop}
use Rattle.dfdl_unparse.specs.declared.stop.Stop.TheVariants as stop

-- The board is at rest: each unknown has been computed as far as it can be, so what is known is the least solution; and of the pieces all that is known
-- was put, and the whole bytes of the known front were written.
pub record IsReady (unknowns : ℕ) (equation : ℕ → Asks Value) (pieces : Pieces) (board : Boarded) (splice : Spliced) : Type 0 where
  pub fits : Fits unknowns equation board
  pub idle : length board.ready ≡ 0
  pub least : board.known ≡ solution (length board.known) equation
  pub spliced : IsSpliced pieces.order (told pieces board.known) (whole (front (told pieces board.known))) splice
  pub room : splice.most_pieces ≡ length board.known

-- how many bits are held back of what is known, where the whole bytes of these bits were written
abbrev pub held_back : Pieces → List (Option Value) → List ℕ → ℕ
held_back pieces known written = bits_known (told pieces known) - whole written

-- the limit of the lowest number that is passed: one of the document's own, that of unknowns, or that of bits that are held back
abbrev pub first_limit : Option LimitCause → Bool → Bool → Option LimitCause
first_limit (Some cause) cells held = Some cause
first_limit None true held = Some Cells
first_limit None false true = Some Held
first_limit None false false = None

-- a document that lays an event is refused exactly by the limit that it passes; only memory may want
abbrev pub IsRefusedBy : Option LimitCause → Result (Unit {0}) Refusal → Type 0
IsRefusedBy limit (Ok done) = limit ≡ None
IsRefusedBy limit (Err (refusal.Limit cause)) = limit ≡ Some cause
IsRefusedBy limit (Err refusal.OutOfMemory) = Unit {0}

-- the stop of a refusal
abbrev pub stop_of : Refusal → Stop
stop_of (refusal.Limit cause) = stop.Limit cause
stop_of refusal.OutOfMemory = stop.OutOfMemory

-- so is an unparser
abbrev pub IsStoppedBy : Option LimitCause → Result (Unit {0}) Stop → Type 0
IsStoppedBy limit (Ok done) = limit ≡ None
IsStoppedBy limit (Err stop.Sink) = limit ≡ None
IsStoppedBy limit (Err (stop.Limit cause)) = limit ≡ Some cause
IsStoppedBy limit (Err stop.OutOfMemory) = Unit {0}

-- what holds where bits are held back past a limit, which is the only one
abbrev pub IfHeldBack : Type 0 → Result (Unit {0}) Refusal → Type 0
IfHeldBack P (Ok done) = Unit {0}
IfHeldBack P (Err (refusal.Limit cause)) = (cause ≡ Held) × P
IfHeldBack P (Err refusal.OutOfMemory) = Unit {0}

-- what holds where a write failed
abbrev pub IfSinkFailed : Type 0 → Result (Unit {0}) Stop → Type 0
IfSinkFailed P (Ok done) = Unit {0}
IfSinkFailed P (Err stop.Sink) = P
IfSinkFailed P (Err (stop.Limit cause)) = Unit {0}
IfSinkFailed P (Err stop.OutOfMemory) = Unit {0}

-- what holds where nothing was written
abbrev pub IfUnwritten : Type 0 → Result (Unit {0}) Stop → Type 0
IfUnwritten P (Ok done) = Unit {0}
IfUnwritten P (Err stop.Sink) = Unit {0}
IfUnwritten P (Err (stop.Limit cause)) = P
IfUnwritten P (Err stop.OutOfMemory) = P

-- an unparser has stopped by what it answers, and else it goes on
abbrev pub HasStopped : Result (Unit {0}) Stop → Option Stop → Type 0
HasStopped (Ok done) stopped = stopped ≡ None
HasStopped (Err stop) stopped = stopped ≡ Some stop

-- what an unparser that hasn't stopped answers at the end, by what is known
abbrev pub IsEnd : (ℕ → ℕ → Bool) → ℕ → (ℕ → Asks Value) → List (Option Value) → Result (Unit {0}) End → Type 0
IsEnd earlier count equation known (Ok done) = IsOutcome earlier count equation known All
IsEnd earlier count equation known (Err (end.Fault cell cause)) = IsOutcome earlier count equation known (Fault cell cause)
IsEnd earlier count equation known (Err (end.Cycle cell)) = IsOutcome earlier count equation known (Cycle cell)
IsEnd earlier count equation known (Err (end.Stopped stop)) = ⊥
