-- How what was laid grows, and what its unknowns and pieces may name. 'DFDL Processing Introduction' (unparsing).
use Rattle.std.specs.Prelude.{◌≡◌, ◌≢◌, ◌⊎◌, ℕ, ◌+◌, ◌<◌, ◌≤◌, List, ◌++◌, length, slice_get, All, Option, None, Some}
use Rattle.dfdl_cells.specs.Books.{Book}
use Rattle.dfdl_cells.specs.Places.{complex_at, steps_in}
use Rattle.dfdl_cells.specs.declared.cell.Cell.{Cell}
use Rattle.dfdl_cells.specs.declared.cell.Cell.TheVariants as cell
use Rattle.dfdl_cells.specs.declared.complex.Complex.{Complex}
use Rattle.dfdl_cells.specs.declared.piece.Bound.{Bound}
use Rattle.dfdl_cells.specs.declared.piece.Earlier.{Earlier}
use Rattle.dfdl_cells.specs.declared.piece.Earlier.TheVariants as earlier
use Rattle.dfdl_cells.specs.declared.piece.Piece.{Piece}
use Rattle.dfdl_cells.specs.declared.piece.Piece.TheVariants as piece
use Rattle.dfdl_cells.specs.declared.piece.SlotEnd.{SlotEnd}
use Rattle.dfdl_cells.specs.declared.piece.Stands.{Stands}
use Rattle.dfdl_cells.specs.declared.piece.Stands.TheVariants as stands
use Rattle.dfdl_cells.specs.declared.step.Mark.{Mark}
use Rattle.dfdl_cells.specs.declared.step.Place.{Place}
use Rattle.dfdl_cells.specs.declared.step.Step.{Step}
use Rattle.dfdl_cells.specs.declared.step.Step.TheVariants as step

-- an element with parts, and the same with more inside
pub record HasGrown (old : Complex) (found : Option Complex) : Type 0 where
  pub new : Complex
  pub is : found ≡ Some new
  pub around : new.around ≡ old.around
  pub start : new.start ≡ old.start
  pub lead : new.lead ≡ old.lead
  pub more : List Step
  pub inside : new.inside ≡ old.inside ++ more

-- what was laid, and the same with more: only an unknown that waits for an event becomes another
pub record Grows (old new : Book) : Type 0 where
  pub as_many : length old.cells ≤ length new.cells
  pub cells : (number : ℕ) (one : Cell) → slice_get old.cells number ≡ Some one → (slice_get new.cells number ≡ Some one) ⊎ (one ≡ cell.Waiting)
  pub pieces : (number : ℕ) (one : Piece) → slice_get old.pieces number ≡ Some one → slice_get new.pieces number ≡ Some one
  pub complexes : (number : ℕ) (one : Complex) → slice_get old.complexes number ≡ Some one → HasGrown one (slice_get new.complexes number)
  pub markups : (number : ℕ) (one : List ℕ) → slice_get old.markups number ≡ Some one → slice_get new.markups number ≡ Some one

-- an unknown is there
abbrev pub IsCell : List Cell → ℕ → Type 0
IsCell cells number = number < length cells

abbrev pub IsCellIf : List Cell → Option ℕ → Type 0
IsCellIf cells None = Unit {0}
IsCellIf cells (Some number) = IsCell cells number

-- an unknown is there and waits for no event
pub record IsTold (cells : List Cell) (number : ℕ) : Type 0 where
  pub one : Cell
  pub is : slice_get cells number ≡ Some one
  pub told : one ≢ cell.Waiting

abbrev pub IsToldIf : List Cell → Option ℕ → Type 0
IsToldIf cells None = Unit {0}
IsToldIf cells (Some number) = IsTold cells number

-- the unknowns that a delimiter of a simple element names
pub record IsMark (cells : List Cell) (mark : Mark) : Type 0 where
  pub value : IsTold cells mark.value
  pub length : IsCell cells mark.length

-- those that a step names
abbrev pub IsStep : List Cell → Step → Type 0
IsStep cells (step.Fixed bits) = Unit {0}
IsStep cells (step.Align bits) = Unit {0}
IsStep cells (step.Marked mark) = IsMark cells mark
IsStep cells (step.Length number) = IsCell cells number
IsStep cells (step.Separator number) = IsCell cells number

-- an element with parts is there; the document itself is
abbrev pub IsAround : Book → Option ℕ → Type 0
IsAround book None = Unit {0}
IsAround book (Some number) = number < length book.complexes

-- the element around another one stands before it
abbrev pub IsBefore : ℕ → Option ℕ → Type 0
IsBefore number None = Unit {0}
IsBefore number (Some other) = other < number

-- so many steps of a content, from one on, are there
abbrev pub AreSteps : Book → Option ℕ → ℕ → ℕ → Type 0
AreSteps book around first count = first + count ≤ length (steps_in (complex_at book around))

-- what a place names
pub record IsPlace (book : Book) (place : Place) : Type 0 where
  pub around : IsAround book place.around
  pub after : IsCellIf book.cells place.after
  pub steps : AreSteps book place.around place.first place.count

-- what a rule of a slot names
abbrev pub IsStands : Book → Stands → Type 0
IsStands book stands.Always = Unit {0}
IsStands book (stands.IfLong slot) = IsAround book slot.around
IsStands book (stands.IfLater slot later) = IsAround book slot.around × IsCellIf book.cells later

abbrev pub IsEarlier : Book → Earlier → Type 0
IsEarlier book earlier.None = Unit {0}
IsEarlier book earlier.Some = Unit {0}
IsEarlier book (earlier.IfLong slot) = IsAround book slot.around
IsEarlier book (earlier.Told number) = IsCell book.cells number

-- all steps of a slot are there; between two events that is so of each slot
abbrev pub HasSteps : Book → SlotEnd → Type 0
HasSteps book slot = AreSteps book slot.around slot.first slot.count

abbrev pub HasSlot : Book → Stands → Type 0
HasSlot book stands.Always = Unit {0}
HasSlot book (stands.IfLong slot) = HasSteps book slot
HasSlot book (stands.IfLater slot later) = HasSteps book slot

abbrev pub HasEarlier : Book → Earlier → Type 0
HasEarlier book earlier.None = Unit {0}
HasEarlier book earlier.Some = Unit {0}
HasEarlier book (earlier.IfLong slot) = HasSteps book slot
HasEarlier book (earlier.Told number) = Unit {0}

-- the same of the slots of a piece
abbrev pub HasSlots : Book → Piece → Type 0
HasSlots book (piece.Skip bits fill place bound) = Unit {0}
HasSlots book (piece.Align bits fill place bound) = Unit {0}
HasSlots book (piece.Delimiter component list) = Unit {0}
HasSlots book (piece.Marked component list mark) = Unit {0}
HasSlots book (piece.Separator component list position slot before) = HasSlot book slot × HasEarlier book before
HasSlots book (piece.Prefix component form number value markup) = Unit {0}
HasSlots book (piece.Content component first markup place) = Unit {0}
HasSlots book (piece.Rest inside bits fill place) = Unit {0}
HasSlots book (piece.End fill place) = Unit {0}
HasSlots book piece.Missing = Unit {0}

abbrev pub HaveSlots : Book → Type 0
HaveSlots book = (number : ℕ) (one : Piece) → slice_get book.pieces number ≡ Some one → HasSlots book one

-- the box that a place is in
abbrev pub IsBound : Book → Option Bound → Type 0
IsBound book None = Unit {0}
IsBound book (Some bound) = IsAround book (Some bound.complex)

-- what a content names
pub record IsContent (book : Book) (first markup : ℕ) : Type 0 where
  pub value : IsTold book.cells first
  pub markup_is : markup < length book.markups

-- what a piece names
abbrev pub IsPiece : Book → Piece → Type 0
IsPiece book (piece.Skip bits fill place bound) = IsPlace book place × IsBound book bound
IsPiece book (piece.Align bits fill place bound) = IsPlace book place × IsBound book bound
IsPiece book (piece.Delimiter component list) = Unit {0}
IsPiece book (piece.Marked component list mark) = IsMark book.cells mark
IsPiece book (piece.Separator component list position slot before) = IsStands book slot × IsEarlier book before
IsPiece book (piece.Prefix component form number value markup) =
    IsCell book.cells number × (IsToldIf book.cells value × (markup < length book.markups))
IsPiece book (piece.Content component first markup place) = IsContent book first markup × IsPlace book place
IsPiece book (piece.Rest inside bits fill place) = IsCell book.cells inside × IsPlace book place
IsPiece book (piece.End fill place) = IsPlace book place
IsPiece book piece.Missing = Unit {0}

-- what an unknown names; the bits of a piece are laid with it
abbrev pub IsNamed : Book → Cell → Type 0
IsNamed book cell.Waiting = Unit {0}
IsNamed book (cell.Faulty cause) = Unit {0}
IsNamed book (cell.Given value) = Unit {0}
IsNamed book cell.Nil = Unit {0}
IsNamed book (cell.Items items) = Unit {0}
IsNamed book (cell.ValueLength component first) = IsTold book.cells first
IsNamed book (cell.ContentLength component first markup) = IsContent book first markup
IsNamed book (cell.Reached place) = IsPlace book place
IsNamed book (cell.Boxed size inside) = IsCell book.cells inside
IsNamed book (cell.Bits number) = number < length book.pieces

-- what an element with parts of a number names; the first one stands for the document, whose start is that of the root, which may be still to come
pub record IsComplex (book : Book) (number : ℕ) (one : Complex) : Type 0 where
  pub around : IsBefore number one.around
  pub start : (number ≡ 0) ⊎ IsCell book.cells one.start
  pub lead : All (IsStep book.cells) one.lead
  pub inside : All (IsStep book.cells) one.inside

-- all that is named in what was laid is there, and what an equation reads of it waits for no event
pub record IsSettled (book : Book) : Type 0 where
  pub cells : (number : ℕ) (one : Cell) → slice_get book.cells number ≡ Some one → IsNamed book one
  pub pieces : (number : ℕ) (one : Piece) → slice_get book.pieces number ≡ Some one → IsPiece book one
  pub complexes : (number : ℕ) (one : Complex) → slice_get book.complexes number ≡ Some one → IsComplex book number one
