-- The bits of pieces are known where the definitions say so.
use Rattle.std.proofs.Common.{◌≡◌, ℕ, nat_lt, if◌then◌else◌, List, Option, None, Some, Result, Ok, Err, refl}
use Rattle.dfdl_suspend.specs.Asks.{Is, Fails, WaitsFor, at, gives, told as told_at, waiting}
use Rattle.dfdl_suspend.specs.declared.known.Held.{Held}
use Rattle.dfdl_suspend.specs.declared.known.Held.TheVariants as held
use Rattle.dfdl_terms.specs.declared.prefix.Prefix.{Prefix}
use Rattle.dfdl_writings.specs.declared.fault.Unwritten.{Unwritten}
use Rattle.dfdl_writings.specs.declared.form.Written.{Written}
use Rattle.dfdl_cells.proofs.Answered.{begin_answers, bit_answers, number_answers, stands_answers, value_answers}
use Rattle.dfdl_cells.specs.Asking as cells
use Rattle.dfdl_cells.specs.Books.{Book}
use Rattle.dfdl_cells.specs.Lengths.{cause_of}
use Rattle.dfdl_cells.specs.Pieces as pieces
use Rattle.dfdl_cells.specs.Places as places
use Rattle.dfdl_cells.specs.Plans.{Plan}
use Rattle.dfdl_cells.specs.Values as values
use Rattle.dfdl_cells.specs.declared.asking.Stop.TheVariants.{Wait}
use Rattle.dfdl_cells.specs.declared.piece.Bound.{Bound}
use Rattle.dfdl_cells.specs.declared.piece.Piece.{Piece}
use Rattle.dfdl_cells.specs.declared.piece.Piece.TheVariants as piece
use Rattle.dfdl_cells.specs.declared.step.Place.{Place}
use Rattle.dfdl_evaluation.proofs.Coming.{Comes, comes_behind, comes_fails, comes_if, comes_is, comes_same, onward_twice}
use Rattle.dfdl_evaluation.proofs.SlotsAnswered.{separator_comes}
use Rattle.dfdl_evaluation.specs.AskingPieces as asking

module _ (known : List (Option Held)) where
  given : Comes pieces.known known asking.given
  given = comes_is known held.Given

  writing_comes : (one : Result Written Unwritten) → Comes (pieces.known_or one) known (asking.known_or one)
  writing_comes (Ok one) = given
  writing_comes (Err cause) = comes_fails known (cause_of cause)

  -- an unknown that waits for itself
  waits_by : (cell : ℕ) (one : Option Held) → one ≡ None → told_at one cell (λ value. gives (Is value) known) ≡ WaitsFor cell
  waits_by cell None is = refl
  waits_by cell (Some value) is = absurd (cc)

  pub waiting_comes : (cell : ℕ) → at known cell ≡ None → Comes (waiting cell) known (Err (Wait cell))
  waiting_comes cell none = record { gives_so = waits_by cell (at known cell) none }

  module _ (book : Book) where
    within_comes : (bound : Option Bound) (end : ℕ) → Comes (pieces.within book bound end) known (asking.within book known bound end)
    within_comes None end = given
    within_comes (Some bound) end =
        comes_behind known (places.asked_begin book (Some bound.complex))
        (λ begin. if nat_lt (places.further bound.bits begin) end then Fails pieces.passes_box else pieces.known) _ _
        (begin_answers known book (Some bound.complex))
        (λ begin. comes_if known (nat_lt (places.further bound.bits begin) end) _ _ _ _ (comes_fails known pieces.passes_box) given)

    placed_comes : (place : Place) → Comes (places.asked_bit book place (λ bit. pieces.known)) known (asking.placed book known place)
    placed_comes place = comes_behind known (places.asked_bit book place) (λ bit. pieces.known) _ _ (bit_answers known book place) (λ bit. given)

    content_comes : (place : Place) (one : Result Written Unwritten) → Comes (pieces.content_known book place one) known (asking.content_known book known place one)
    content_comes place (Ok one) = comes_if known (nat_lt 0 one.fill) _ _ _ _ (placed_comes place) given
    content_comes place (Err cause) = comes_fails known (cause_of cause)

    module _ (plan : Plan) where
      prefix_comes : (component : ℕ) (form : Prefix) (markup : ℕ) (first : Option ℕ) (bits : ℕ)
          → Comes (pieces.prefix_known plan book component form markup first bits) known
          (cells.onward (asking.prefix_behind plan book known component form markup first bits) asking.known_or)
      prefix_comes component form markup None bits = writing_comes (pieces.prefix_at plan component form bits 0)
      prefix_comes component form markup (Some first) bits =
          comes_same known _ _ _
          (onward_twice (cells.value book.cells known first) (λ told. Ok (asking.prefix_told plan book component form markup bits told)) asking.known_or)
          (comes_behind known (values.asked_value book.cells first) (λ told. pieces.known_or (asking.prefix_told plan book component form markup bits told)) _
          (λ told. asking.known_or (asking.prefix_told plan book component form markup bits told))
          (value_answers known book.cells first) (λ told. writing_comes (asking.prefix_told plan book component form markup bits told)))

      -- the equation of the bits of a piece, whose unknown has no value
      pub piece_comes : (cell : ℕ) → at known cell ≡ None → (one : Piece) → Comes (pieces.equation_of plan book cell one) known (asking.of_piece plan book known cell one)
      piece_comes cell none (piece.Skip bits fill place bound) =
          comes_behind known (places.asked_bit book place) (λ bit. pieces.within book bound (places.further bits bit)) _ _
          (bit_answers known book place) (λ bit. within_comes bound (places.further bits bit))
      piece_comes cell none (piece.Align bits fill place bound) =
          comes_behind known (places.asked_bit book place) (λ bit. pieces.within book bound (places.aligned bits bit)) _ _
          (bit_answers known book place) (λ bit. within_comes bound (places.aligned bits bit))
      piece_comes cell none (piece.Delimiter component list) = writing_comes (pieces.delimiter_of plan component list)
      piece_comes cell none (piece.Marked component list mark) =
          comes_behind known (places.marked book.cells mark)
          (λ stands. if stands then pieces.known_or (pieces.delimiter_of plan component list) else pieces.known) _ _
          (stands_answers known book.cells mark)
          (λ stands. comes_if known stands _ _ _ _ (writing_comes (pieces.delimiter_of plan component list)) given)
      piece_comes cell none (piece.Separator component list position slot before) =
          separator_comes known book position slot before (pieces.delimiter_of plan component list)
      piece_comes cell none (piece.Prefix component form own first markup) =
          comes_same known _ _ _
          (onward_twice (cells.number known own) (λ bits. asking.prefix_behind plan book known component form markup first bits) asking.known_or)
          (comes_behind known (values.asked_number own) (λ bits. pieces.prefix_known plan book component form markup first bits) _
          (λ bits. cells.onward (asking.prefix_behind plan book known component form markup first bits) asking.known_or)
          (number_answers known own) (λ bits. prefix_comes component form markup first bits))
      piece_comes cell none (piece.Content component first markup place) =
          comes_behind known (values.asked_value book.cells first) (λ told. pieces.content_known book place (pieces.written_at plan book component markup told)) _ _
          (value_answers known book.cells first) (λ told. content_comes place (pieces.written_at plan book component markup told))
      piece_comes cell none (piece.Rest inside bits fill place) =
          comes_behind known (values.asked_number inside)
          (λ length. if nat_lt bits length then Fails pieces.passes_content else places.asked_bit book place (λ bit. pieces.known)) _ _
          (number_answers known inside)
          (λ length. comes_if known (nat_lt bits length) _ _ _ _ (comes_fails known pieces.passes_content) (placed_comes place))
      piece_comes cell none (piece.End fill place) = placed_comes place
      piece_comes cell none piece.Missing = waiting_comes cell none
