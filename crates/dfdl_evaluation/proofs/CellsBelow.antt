-- The equation of an unknown of a sound book asks for unknowns that are there.
use Rattle.std.proofs.Common.{ℕ, ◌<◌, nat_lt, Bool, if◌then◌else◌, List, length, All, IfSome, slice_get, Option, None, Some, Result, Ok, Err}
use Rattle.dfdl_suspend.specs.Answers.{Meets, NamesBelow}
use Rattle.dfdl_suspend.specs.Asks.{Fails, waiting}
use Rattle.dfdl_suspend.specs.declared.equations.Answer.{Answer}
use Rattle.dfdl_suspend.specs.declared.known.Held.{Held}
use Rattle.dfdl_terms.specs.Rows.{IsWithin}
use Rattle.dfdl_terms.specs.declared.prefix.Prefix.{Prefix}
use Rattle.dfdl_terms.specs.declared.writing.Writing.{Writing}
use Rattle.dfdl_writings.specs.declared.fault.Unwritten.{Unwritten}
use Rattle.dfdl_writings.specs.declared.form.Written.{Written}
use Rattle.dfdl_separators.specs.declared.policy.SeparatorPosition.{SeparatorPosition}
use Rattle.dfdl_cells.specs.Books.{Book}
use Rattle.dfdl_cells.specs.Equations as equations
use Rattle.dfdl_cells.specs.Equations.{constant_of}
use Rattle.dfdl_cells.specs.Lengths as lengths
use Rattle.dfdl_cells.specs.Pieces as pieces
use Rattle.dfdl_cells.specs.Places as places
use Rattle.dfdl_cells.specs.Plans.{Form, Plan, form_of, writing_of}
use Rattle.dfdl_cells.specs.Separators as separators
use Rattle.dfdl_cells.specs.Sound.{CellWithin, ComplexWithin, EarlierWithin, IsSound, PieceWithin, PlaceWithin, StandsWithin}
use Rattle.dfdl_cells.specs.Values as values
use Rattle.dfdl_cells.specs.declared.cell.Cell.{Cell}
use Rattle.dfdl_cells.specs.declared.cell.Cell.TheVariants.{Waiting, Faulty, Given, Nil, Items, ValueLength, ContentLength, Reached, Boxed, Bits}
use Rattle.dfdl_cells.specs.declared.piece.Bound.{Bound}
use Rattle.dfdl_cells.specs.declared.piece.Earlier.{Earlier}
use Rattle.dfdl_cells.specs.declared.piece.Piece.{Piece}
use Rattle.dfdl_cells.specs.declared.piece.Piece.TheVariants as piece
use Rattle.dfdl_cells.specs.declared.piece.Stands.{Stands}
use Rattle.dfdl_cells.specs.declared.step.Place.{Place}
use Rattle.dfdl_evaluation.proofs.Below.{AsksBelow, begin_below, below_if, bit_below, earlier_below, marked_below, names_below, number_below, place_below, some_within, stands_below, value_below}

module _ (count : ℕ) where
  writing_below : (one : Result Written Unwritten) → AsksBelow count (pieces.known_or one)
  writing_below (Ok one) = tt
  writing_below (Err cause) = tt

  length_below : (told : Result ℕ Unwritten) → AsksBelow count (lengths.length_or told)
  length_below (Ok bits) = tt
  length_below (Err cause) = tt

  value_length_below : (writing : Option Writing) (form : Option Form) (told : values.Told) → AsksBelow count (equations.value_length_by writing form told)
  value_length_below None form told = tt
  value_length_below (Some writing) None told = tt
  value_length_below (Some writing) (Some form) told = length_below (lengths.told_length writing.text form told)

  boxed_below : (size : Option ℕ) (inside : ℕ) → inside < count → AsksBelow count (equations.boxed size inside)
  boxed_below (Some bits) inside within = tt
  boxed_below None inside within = number_below count inside equations.is_number within (λ n. tt)

  waiting_below : (cell : ℕ) → cell < count → AsksBelow count (waiting cell)
  waiting_below cell within = (within, λ value. tt)

  module _ (book : Book) (complexes : All (ComplexWithin count) book.complexes) where
    box_below : (bound : Option Bound) (end : ℕ) → AsksBelow count (pieces.within book bound end)
    box_below None end = tt
    box_below (Some bound) end =
        begin_below count book complexes (Some bound.complex)
        (λ begin. if nat_lt (places.further bound.bits begin) end then Fails pieces.passes_box else pieces.known)
        (λ begin. below_if count (nat_lt (places.further bound.bits begin) end) (Fails pieces.passes_box) pieces.known tt tt)

    placed_below : (place : Place) → PlaceWithin count place → AsksBelow count (places.asked_bit book place (λ bit. pieces.known))
    placed_below place within = bit_below count book complexes place (λ bit. pieces.known) within (λ bit. tt)

    content_below : (place : Place) (one : Result Written Unwritten) → PlaceWithin count place → AsksBelow count (pieces.content_known book place one)
    content_below place (Ok one) within =
        below_if count (nat_lt 0 one.fill) (places.asked_bit book place (λ bit. pieces.known)) pieces.known (placed_below place within) tt
    content_below place (Err cause) within = tt

    told_or_below : (position : SeparatorPosition) (slot : Stands) (written before : Bool) (cause : ℕ)
        → AsksBelow count (separators.told_or position slot written before cause)
    told_or_below position slot written before cause = below_if count (separators.is_there position written before) _ _ tt tt

    separator_below : (position : SeparatorPosition) (slot : Stands) (before : Earlier) (one : Result Written Unwritten) → StandsWithin count slot
        → EarlierWithin count before → AsksBelow count (pieces.separator_or book position slot before one)
    separator_below position slot before (Ok one) slots befores =
        earlier_below count book complexes before
        (λ is_before. separators.stands book slot (λ is_written. separators.told position one.bits slot is_written is_before)) befores
        (λ is_before. stands_below count book complexes slot (λ is_written. separators.told position one.bits slot is_written is_before) slots
        (λ is_written. tt))
    separator_below position slot before (Err cause) slots befores =
        earlier_below count book complexes before
        (λ is_before. separators.stands book slot
        (λ is_written. separators.told_or position slot is_written is_before (lengths.cause_of cause))) befores
        (λ is_before. stands_below count book complexes slot
        (λ is_written. separators.told_or position slot is_written is_before (lengths.cause_of cause)) slots
        (λ is_written. told_or_below position slot is_written is_before (lengths.cause_of cause)))

    module _ (plan : Plan) where
      prefix_below : (component : ℕ) (form : Prefix) (markup : ℕ) (first : Option ℕ) (bits : ℕ) → IsWithin count first
          → AsksBelow count (pieces.prefix_known plan book component form markup first bits)
      prefix_below component form markup None bits within = writing_below (pieces.prefix_at plan component form bits 0)
      prefix_below component form markup (Some first) bits within =
          value_below count book.cells first
          (λ told. pieces.known_or (pieces.prefix_at plan component form bits
          (pieces.characters_in (form_of plan component) (pieces.written_at plan book component markup told)))) within
          (λ told. writing_below (pieces.prefix_at plan component form bits
          (pieces.characters_in (form_of plan component) (pieces.written_at plan book component markup told))))

      piece_below : (cell : ℕ) → cell < count → (one : Piece) → PieceWithin count one → AsksBelow count (pieces.equation_of plan book cell one)
      piece_below cell there (piece.Skip bits fill place bound) within =
          bit_below count book complexes place (λ bit. pieces.within book bound (places.further bits bit)) within
          (λ bit. box_below bound (places.further bits bit))
      piece_below cell there (piece.Align bits fill place bound) within =
          bit_below count book complexes place (λ bit. pieces.within book bound (places.aligned bits bit)) within
          (λ bit. box_below bound (places.aligned bits bit))
      piece_below cell there (piece.Delimiter component list) within = writing_below (pieces.delimiter_of plan component list)
      piece_below cell there (piece.Marked component list mark) within =
          marked_below count book.cells mark (λ stands. if stands then pieces.known_or (pieces.delimiter_of plan component list) else pieces.known) within
          (λ stands. below_if count stands (pieces.known_or (pieces.delimiter_of plan component list)) pieces.known
          (writing_below (pieces.delimiter_of plan component list)) tt)
      piece_below cell there (piece.Separator component list position slot before) within =
          separator_below position slot before (pieces.delimiter_of plan component list) within.0 within.1
      piece_below cell there (piece.Prefix component form own first markup) within =
          number_below count own (λ bits. pieces.prefix_known plan book component form markup first bits) within.0
          (λ bits. prefix_below component form markup first bits within.1)
      piece_below cell there (piece.Content component first markup place) within =
          value_below count book.cells first (λ told. pieces.content_known book place (pieces.written_at plan book component markup told)) within.0
          (λ told. content_below place (pieces.written_at plan book component markup told) within.1)
      piece_below cell there (piece.Rest inside bits fill place) within =
          number_below count inside
          (λ length. if nat_lt bits length then Fails pieces.passes_content else places.asked_bit book place (λ bit. pieces.known)) within.0
          (λ length. below_if count (nat_lt bits length) (Fails pieces.passes_content) (places.asked_bit book place (λ bit. pieces.known)) tt
          (placed_below place within.1))
      piece_below cell there (piece.End fill place) within = placed_below place within
      piece_below cell there piece.Missing within = waiting_below cell there

      bits_below : (cell : ℕ) → cell < count → (one : Option Piece) → IfSome one (PieceWithin count) → AsksBelow count (equations.bits_of plan book cell one)
      bits_below cell there None within = waiting_below cell there
      bits_below cell there (Some one) within = piece_below cell there one within

      content_length_below : (component first markup : ℕ) (constant : Option ℕ) → first < count
          → AsksBelow count (equations.content_length_by plan book component first markup constant)
      content_length_below component first markup (Some bits) within = tt
      content_length_below component first markup None within =
          value_below count book.cells first (λ told. lengths.length_or (lengths.size_in (pieces.written_at plan book component markup told))) within
          (λ told. length_below (lengths.size_in (pieces.written_at plan book component markup told)))

      cell_below : (cell : ℕ) → cell < count → All (PieceWithin count) book.pieces → (one : Cell) → CellWithin count one
          → AsksBelow count (equations.equation_of plan book cell one)
      cell_below cell there laid Waiting within = waiting_below cell there
      cell_below cell there laid (Faulty cause) within = tt
      cell_below cell there laid (Given value) within = tt
      cell_below cell there laid Nil within = tt
      cell_below cell there laid (Items items) within = tt
      cell_below cell there laid (ValueLength component first) within =
          value_below count book.cells first (λ told. equations.value_length_by (writing_of plan component) (form_of plan component) told) within
          (λ told. value_length_below (writing_of plan component) (form_of plan component) told)
      cell_below cell there laid (ContentLength component first markup) within =
          content_length_below component first markup (constant_of (form_of plan component)) within
      cell_below cell there laid (Reached place) within = place_below count book complexes place equations.is_number within (λ n. tt)
      cell_below cell there laid (Boxed size inside) within = boxed_below size inside within
      cell_below cell there laid (Bits one) within =
          bits_below cell there (slice_get book.pieces one) (some_within count (PieceWithin count) book.pieces one laid)

      below_or : (cell : ℕ) → cell < count → All (PieceWithin count) book.pieces → (one : Option Cell) → IfSome one (CellWithin count)
          → AsksBelow count (equations.equation_or plan book cell one)
      below_or cell there laid None within = waiting_below cell there
      below_or cell there laid (Some one) within = cell_below cell there laid one within

-- what an unknown that is there may ask for is there
pub equation_below : (plan : Plan) (book : Book) (cell : ℕ) → IsSound plan book → cell < length book.cells
    → AsksBelow (length book.cells) (equations.equation_in plan book cell)
equation_below plan book cell sound there =
    below_or (length book.cells) book sound.complexes plan cell there sound.pieces (slice_get book.cells cell)
    (some_within (length book.cells) (CellWithin (length book.cells)) book.cells cell sound.cells)

pub names : (plan : Plan) (book : Book) (cell : ℕ) (old new : List (Option Held)) (answer : Answer) → IsSound plan book → cell < length book.cells
    → Meets (equations.equation_in plan book cell) cell old new answer → NamesBelow (length book.cells) answer
names plan book cell old new answer sound there met =
    names_below (length book.cells) (equations.equation_in plan book cell) cell old new answer (equation_below plan book cell sound there) met
