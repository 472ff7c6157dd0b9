-- Equations give what the definitions say.
use Rattle.std.proofs.Common.{◌≡◌, ℕ, List, slice_get, Option, None, Some, Result, Ok, Err, subst, sym}
use Rattle.dfdl_suspend.specs.Answers.{Meets}
use Rattle.dfdl_suspend.specs.Asks.{Asks, at}
use Rattle.dfdl_suspend.specs.declared.equations.Answer.{Answer}
use Rattle.dfdl_suspend.specs.declared.known.Held.{Held}
use Rattle.dfdl_suspend.specs.declared.known.Held.TheVariants as held
use Rattle.dfdl_terms.specs.declared.writing.Writing.{Writing}
use Rattle.dfdl_writings.specs.declared.fault.Unwritten.{Unwritten}
use Rattle.dfdl_writings.specs.declared.fault.Unwritten.TheVariants as unwritten
use Rattle.dfdl_cells.proofs.Answered.{number_answers, place_answers, value_answers}
use Rattle.dfdl_cells.specs.Books.{Book}
use Rattle.dfdl_cells.specs.Equations as equations
use Rattle.dfdl_cells.specs.Equations.{constant_of}
use Rattle.dfdl_cells.specs.Lengths as lengths
use Rattle.dfdl_cells.specs.Pieces.{written_at}
use Rattle.dfdl_cells.specs.Places as places
use Rattle.dfdl_cells.specs.Plans.{Form, Plan, form_of, writing_of}
use Rattle.dfdl_cells.specs.Values as values
use Rattle.dfdl_cells.specs.declared.asking.Stop.{Stop}
use Rattle.dfdl_cells.specs.declared.asking.Stop.TheVariants.{Wait, Fault}
use Rattle.dfdl_cells.specs.declared.cell.Cell.{Cell}
use Rattle.dfdl_cells.specs.declared.cell.Cell.TheVariants.{Waiting, Faulty, Given, Nil, Items, ValueLength, ContentLength, Reached, Boxed, Bits}
use Rattle.dfdl_cells.specs.declared.piece.Piece.{Piece}
use Rattle.dfdl_evaluation.proofs.Coming.{Comes, comes_behind, comes_fails, comes_is}
use Rattle.dfdl_evaluation.proofs.PiecesAnswered.{piece_comes, waiting_comes}
use Rattle.dfdl_evaluation.specs.AskingCells as asking
use Rattle.dfdl_evaluation.specs.AskingCells.{Settles}

module _ (known : List (Option Held)) where
  length_comes : (told : Result ℕ Unwritten) → Comes (lengths.length_or told) known (asking.length_told told)
  length_comes (Ok bits) = comes_is known (held.Number bits)
  length_comes (Err cause) = comes_fails known (lengths.cause_of cause)

  value_length_comes : (writing : Option Writing) (form : Option Form) (told : values.Told)
      → Comes (equations.value_length_by writing form told) known (asking.value_length_by writing form told)
  value_length_comes None form told = comes_fails known (lengths.cause_of unwritten.BinaryForm)
  value_length_comes (Some writing) None told = comes_fails known (lengths.cause_of unwritten.BinaryForm)
  value_length_comes (Some writing) (Some form) told = length_comes (lengths.told_length writing.text form told)

  boxed_comes : (size : Option ℕ) (inside : ℕ) → Comes (equations.boxed size inside) known (asking.boxed known size inside)
  boxed_comes (Some bits) inside = comes_is known (held.Number bits)
  boxed_comes None inside =
      comes_behind known (values.asked_number inside) equations.is_number _ _ (number_answers known inside) (λ n. comes_is known (held.Number n))

  module _ (plan : Plan) (book : Book) where
    content_length_comes : (component first markup : ℕ) (constant : Option ℕ)
        → Comes (equations.content_length_by plan book component first markup constant) known
        (asking.content_length_by plan book known component first markup constant)
    content_length_comes component first markup (Some bits) = comes_is known (held.Number bits)
    content_length_comes component first markup None =
        comes_behind known (values.asked_value book.cells first)
        (λ told. lengths.length_or (lengths.size_in (written_at plan book component markup told))) _ _
        (value_answers known book.cells first) (λ told. length_comes (lengths.size_in (written_at plan book component markup told)))

    bits_comes : (cell : ℕ) → at known cell ≡ None → (one : Option Piece)
        → Comes (equations.bits_of plan book cell one) known (asking.bits_of plan book known cell one)
    bits_comes cell none None = waiting_comes known cell none
    bits_comes cell none (Some one) = piece_comes known book plan cell none one

    cell_comes : (cell : ℕ) → at known cell ≡ None → (one : Cell)
        → Comes (equations.equation_of plan book cell one) known (asking.of_cell plan book known cell one)
    cell_comes cell none Waiting = waiting_comes known cell none
    cell_comes cell none (Faulty cause) = comes_fails known cause
    cell_comes cell none (Given value) = comes_is known held.Given
    cell_comes cell none Nil = comes_is known held.Given
    cell_comes cell none (Items items) = comes_is known held.Given
    cell_comes cell none (ValueLength component first) =
        comes_behind known (values.asked_value book.cells first)
        (λ told. equations.value_length_by (writing_of plan component) (form_of plan component) told) _ _
        (value_answers known book.cells first) (λ told. value_length_comes (writing_of plan component) (form_of plan component) told)
    cell_comes cell none (ContentLength component first markup) =
        content_length_comes component first markup (constant_of (form_of plan component))
    cell_comes cell none (Reached place) =
        comes_behind known (places.asked_place book place) equations.is_number _ _ (place_answers known book place) (λ n. comes_is known (held.Number n))
    cell_comes cell none (Boxed size inside) = boxed_comes size inside
    cell_comes cell none (Bits one) = bits_comes cell none (slice_get book.pieces one)

    comes_or : (cell : ℕ) → at known cell ≡ None → (one : Option Cell)
        → Comes (equations.equation_or plan book cell one) known (asking.of_cell_or plan book known cell one)
    comes_or cell none None = waiting_comes known cell none
    comes_or cell none (Some one) = cell_comes cell none one

    -- the equation of an unknown without a value
    pub told_comes : (cell : ℕ) → at known cell ≡ None → Comes (equations.equation_in plan book cell) known (asking.told plan book known cell)
    told_comes cell none = comes_or cell none (slice_get book.cells cell)

-- what is settled is what the equation gives
met : (equation : Asks Held) (cell : ℕ) (old new : List (Option Held)) (answer : Answer) (told : Result Held Stop)
    → Comes equation old told → Settles cell old new told answer → Meets equation cell old new answer
met equation cell old new answer (Ok one) comes settles =
    subst (Meets equation cell old new) (sym settles.0) (one, comes.gives_so, settles.1)
met equation cell old new answer (Err (Wait other)) comes settles =
    subst (Meets equation cell old new) (sym settles.0) (comes.gives_so, settles.1)
met equation cell old new answer (Err (Fault cause)) comes settles =
    subst (Meets equation cell old new) (sym settles.0) (comes.gives_so, settles.1)

pub meets : (plan : Plan) (book : Book) (cell : ℕ) (old new : List (Option Held)) (answer : Answer) (told : Result Held Stop) → at old cell ≡ None
    → told ≡ asking.told plan book old cell → Settles cell old new told answer → Meets (equations.equation_in plan book cell) cell old new answer
meets plan book cell old new answer told none is settles =
    met (equations.equation_in plan book cell) cell old new answer (asking.told plan book old cell) (told_comes old plan book cell none)
    (subst (λ (t : Result Held Stop). Settles cell old new t answer) is settles)
