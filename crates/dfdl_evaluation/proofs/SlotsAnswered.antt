-- The answers to what separators ask are those that the definitions give.
use Rattle.std.proofs.Common.{ℕ, ◌+◌, ◌*◌, ◌==◌, Bool, true, false, not, if◌then◌else◌, List, Option, None, Some, Result, Ok, Err}
use Rattle.dfdl_separators.specs.declared.policy.SeparatorPosition.{SeparatorPosition}
use Rattle.dfdl_suspend.specs.Asks.{Asks}
use Rattle.dfdl_suspend.specs.declared.known.Held.{Held}
use Rattle.dfdl_suspend.specs.declared.known.Held.TheVariants as held
use Rattle.dfdl_writings.specs.declared.fault.Unwritten.{Unwritten}
use Rattle.dfdl_writings.specs.declared.form.Written.{Written}
use Rattle.dfdl_cells.proofs.Answered.{all_passed_answers, at_once, chained, number_answers}
use Rattle.dfdl_cells.specs.Answers.{Answers}
use Rattle.dfdl_cells.specs.Books.{Book}
use Rattle.dfdl_cells.specs.Lengths.{bits_in, cause_of}
use Rattle.dfdl_cells.specs.Pieces.{separator_or}
use Rattle.dfdl_cells.specs.Places as places
use Rattle.dfdl_cells.specs.Separators as separators
use Rattle.dfdl_cells.specs.Values as values
use Rattle.dfdl_cells.specs.declared.piece.Earlier.{Earlier}
use Rattle.dfdl_cells.specs.declared.piece.Earlier.TheVariants as earlier
use Rattle.dfdl_cells.specs.declared.piece.SlotEnd.{SlotEnd}
use Rattle.dfdl_cells.specs.declared.piece.Stands.{Stands}
use Rattle.dfdl_cells.specs.declared.piece.Stands.TheVariants.{Always, IfLong, IfLater}
use Rattle.dfdl_evaluation.proofs.Coming.{Comes, comes_behind, comes_fails, comes_if, comes_is}
use Rattle.dfdl_evaluation.specs.AskingSeparators as asking

module _ (known : List (Option Held)) where
  told_answers : (cell : ℕ) → Answers (λ (go : Bool → Asks Held). values.asked_number cell (λ number. go (separators.is_told number))) known
      (asking.told_by known cell)
  told_answers cell =
      chained known (values.asked_number cell) (λ number (go : Bool → Asks Held). go (separators.is_told number)) _ _
      (number_answers known cell) (λ number. at_once known (separators.is_told number))

  later_answers : (later : Option ℕ) → Answers (separators.is_later later) known (asking.is_later known later)
  later_answers None = at_once known false
  later_answers (Some cell) = told_answers cell

  unless_answers : (later : Option ℕ) (long : Bool)
      → Answers (λ (go : Bool → Asks Held). if long then go true else separators.is_later later go) known (if long then Ok true else asking.is_later known later)
  unless_answers later true = at_once known true
  unless_answers later false = later_answers later

  module _ (book : Book) where
    long_answers : (slot : SlotEnd) → Answers (separators.is_long book slot) known (asking.is_long book known slot)
    long_answers slot =
        chained known (places.passed_all book.cells (separators.steps_of book slot) 0) (λ bits (go : Bool → Asks Held). go (not (bits == 0))) _ _
        (all_passed_answers known book.cells (separators.steps_of book slot) 0) (λ bits. at_once known (not (bits == 0)))

    pub stands_answers : (slot : Stands) → Answers (separators.stands book slot) known (asking.stands book known slot)
    stands_answers Always = at_once known true
    stands_answers (IfLong slot) = long_answers slot
    stands_answers (IfLater slot later) =
        chained known (separators.is_long book slot) (λ long (go : Bool → Asks Held). if long then go true else separators.is_later later go) _ _
        (long_answers slot) (unless_answers later)

    pub earlier_answers : (before : Earlier) → Answers (separators.is_earlier book before) known (asking.is_earlier book known before)
    earlier_answers earlier.None = at_once known false
    earlier_answers earlier.Some = at_once known true
    earlier_answers (earlier.IfLong slot) = long_answers slot
    earlier_answers (earlier.Told cell) = told_answers cell

    -- what the unknown of a separator tells
    pub separator_comes : (position : SeparatorPosition) (slot : Stands) (before : Earlier) (one : Result Written Unwritten)
        → Comes (separator_or book position slot before one) known (asking.separator book known position slot before (bits_in one))
    separator_comes position slot before (Ok one) =
        comes_behind known (separators.is_earlier book before)
        (λ is_before. separators.stands book slot (λ is_written. separators.told position one.bits slot is_written is_before)) _ _
        (earlier_answers before)
        (λ is_before. comes_behind known (separators.stands book slot) (λ is_written. separators.told position one.bits slot is_written is_before) _ _
        (stands_answers slot)
        (λ is_written. comes_is known (held.Number
        ((if separators.is_there position is_written is_before then 2 * one.bits else 0) + separators.one_if (separators.tells slot is_written is_before)))))
    separator_comes position slot before (Err cause) =
        comes_behind known (separators.is_earlier book before)
        (λ is_before. separators.stands book slot (λ is_written. separators.told_or position slot is_written is_before (cause_of cause))) _ _
        (earlier_answers before)
        (λ is_before. comes_behind known (separators.stands book slot) (λ is_written. separators.told_or position slot is_written is_before (cause_of cause)) _ _
        (stands_answers slot)
        (λ is_written. comes_if known (separators.is_there position is_written is_before) _ _ _ _ (comes_fails known (cause_of cause))
        (comes_is known (held.Number (separators.one_if (separators.tells slot is_written is_before))))))
