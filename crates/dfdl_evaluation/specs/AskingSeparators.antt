-- Mirror for the prover: what is answered to the questions of separators, over what is known. That an equation gives just this is a lemma for each
-- (proofs/SlotsAnswered).
use Rattle.std.specs.Prelude.{ℕ, ◌+◌, ◌*◌, ◌==◌, Bool, true, false, not, List, if◌then◌else◌, Option, None, Some, Result, Ok, Err}
use Rattle.dfdl_separators.specs.declared.policy.SeparatorPosition.{SeparatorPosition}
use Rattle.dfdl_suspend.specs.declared.known.Held.{Held}
use Rattle.dfdl_suspend.specs.declared.known.Held.TheVariants as held
use Rattle.dfdl_writings.specs.declared.fault.Unwritten.{Unwritten}
use Rattle.dfdl_cells.specs.Asking.{number, onward, passed, passed_all}
use Rattle.dfdl_cells.specs.Books.{Book}
use Rattle.dfdl_cells.specs.Lengths.{cause_of}
use Rattle.dfdl_cells.specs.Separators.{is_there, is_told, one_if, steps_of, tells}
use Rattle.dfdl_cells.specs.declared.asking.Stop.{Stop}
use Rattle.dfdl_cells.specs.declared.asking.Stop.TheVariants.{Fault}
use Rattle.dfdl_cells.specs.declared.piece.Earlier.{Earlier}
use Rattle.dfdl_cells.specs.declared.piece.Earlier.TheVariants as earlier
use Rattle.dfdl_cells.specs.declared.piece.SlotEnd.{SlotEnd}
use Rattle.dfdl_cells.specs.declared.piece.Stands.{Stands}
use Rattle.dfdl_cells.specs.declared.piece.Stands.TheVariants.{Always, IfLong, IfLater}
use Rattle.dfdl_cells.specs.declared.cell.Cell.{Cell}
use Rattle.dfdl_cells.specs.declared.step.Step.{Step}
use Rattle.dfdl_cells.specs.declared.step.Step.TheVariants.{Fixed, Align, Marked, Length, Separator}

-- behind a step that is none of an alignment
abbrev pub passed_if : List Cell → List (Option Held) → Step → ℕ → Result ℕ Stop
passed_if cells known (Fixed bits) n = passed cells known (Fixed bits) n
passed_if cells known (Align bits) n = Ok n
passed_if cells known (Marked mark) n = passed cells known (Marked mark) n
passed_if cells known (Length cell) n = passed cells known (Length cell) n
passed_if cells known (Separator cell) n = passed cells known (Separator cell) n

-- whether a slot has a bit
abbrev pub is_long : Book → List (Option Held) → SlotEnd → Result Bool Stop
is_long book known slot = onward (passed_all book.cells known (steps_of book slot) 0) (λ bits. Ok (not (bits == 0)))

-- whether the slot of a separator is written, or one before it
abbrev pub told_by : List (Option Held) → ℕ → Result Bool Stop
told_by known cell = onward (number known cell) (λ told. Ok (is_told told))

-- whether the slot of a later separator is written, if there is one
abbrev pub is_later : List (Option Held) → Option ℕ → Result Bool Stop
is_later known None = Ok false
is_later known (Some cell) = told_by known cell

-- whether a slot is written
abbrev pub stands : Book → List (Option Held) → Stands → Result Bool Stop
stands book known Always = Ok true
stands book known (IfLong slot) = is_long book known slot
stands book known (IfLater slot later) = onward (is_long book known slot) (λ long. if long then Ok true else is_later known later)

-- whether an earlier one is
abbrev pub is_earlier : Book → List (Option Held) → Earlier → Result Bool Stop
is_earlier book known earlier.None = Ok false
is_earlier book known earlier.Some = Ok true
is_earlier book known (earlier.IfLong slot) = is_long book known slot
is_earlier book known (earlier.Told cell) = told_by known cell

-- what a separator of so many bits tells that stands or doesn't, and that tells of slots so
abbrev pub number_of : Bool → ℕ → Bool → ℕ
number_of there bits told = (if there then 2 * bits else 0) + one_if told

-- the same of one that has no writing, for this cause
abbrev pub told_or : Bool → Bool → Unwritten → Result Held Stop
told_or there told cause = if there then Err (Fault (cause_of cause)) else Ok (held.Number (one_if told))

-- what the unknown of a separator tells by its bits, if it has a writing
abbrev pub tells_by : SeparatorPosition → Stands → Bool → Bool → Result ℕ Unwritten → Result Held Stop
tells_by position slot written before (Ok bits) = Ok (held.Number (number_of (is_there position written before) bits (tells slot written before)))
tells_by position slot written before (Err cause) = told_or (is_there position written before) (tells slot written before) cause

-- the same by what is known of slots
abbrev pub separator : Book → List (Option Held) → SeparatorPosition → Stands → Earlier → Result ℕ Unwritten → Result Held Stop
separator book known position slot before bits =
    onward (is_earlier book known before) (λ is_before. onward (stands book known slot) (λ is_written. tells_by position slot is_written is_before bits))
