-- Books whose numbers are those of what was laid: each unknown that an equation may ask for is there, and so is each list of delimiters that
-- is open at a content.
use Rattle.std.specs.Prelude.{ℕ, ◌<◌, List, length, All}
use Rattle.dfdl_terms.specs.Rows.{IsWithin}
use Rattle.dfdl_cells.specs.Books.{Book}
use Rattle.dfdl_cells.specs.Plans.{Plan}
use Rattle.dfdl_cells.specs.declared.cell.Cell.{Cell}
use Rattle.dfdl_cells.specs.declared.cell.Cell.TheVariants.{Waiting, Faulty, Given, Nil, Items, ValueLength, ContentLength, Reached, Boxed, Bits}
use Rattle.dfdl_cells.specs.declared.complex.Complex.{Complex}
use Rattle.dfdl_cells.specs.declared.piece.Earlier.{Earlier}
use Rattle.dfdl_cells.specs.declared.piece.Earlier.TheVariants as earlier
use Rattle.dfdl_cells.specs.declared.piece.Piece.{Piece}
use Rattle.dfdl_cells.specs.declared.piece.Piece.TheVariants as piece
use Rattle.dfdl_cells.specs.declared.piece.Stands.{Stands}
use Rattle.dfdl_cells.specs.declared.piece.Stands.TheVariants.{Always, IfLong, IfLater}
use Rattle.dfdl_cells.specs.declared.step.Mark.{Mark}
use Rattle.dfdl_cells.specs.declared.step.Place.{Place}
use Rattle.dfdl_cells.specs.declared.step.Step.{Step}
use Rattle.dfdl_cells.specs.declared.step.Step.TheVariants as step

-- the unknowns of a delimiter of a simple element are some of so many
pub record MarkWithin (count : ℕ) (mark : Mark) : Type 0 where
  pub value : mark.value < count
  pub length : mark.length < count

-- so are those of a step
abbrev pub StepWithin : ℕ → Step → Type 0
StepWithin count (step.Fixed bits) = Unit {0}
StepWithin count (step.Align bits) = Unit {0}
StepWithin count (step.Marked mark) = MarkWithin count mark
StepWithin count (step.Length cell) = cell < count
StepWithin count (step.Separator cell) = cell < count

-- those of a place
abbrev pub PlaceWithin : ℕ → Place → Type 0
PlaceWithin count place = IsWithin count place.after

-- those of an element with parts
pub record ComplexWithin (count : ℕ) (complex : Complex) : Type 0 where
  pub start : complex.start < count
  pub lead : All (StepWithin count) complex.lead
  pub inside : All (StepWithin count) complex.inside

-- those that tell whether the slot of a separator is written
abbrev pub StandsWithin : ℕ → Stands → Type 0
StandsWithin count Always = Unit {0}
StandsWithin count (IfLong slot) = Unit {0}
StandsWithin count (IfLater slot later) = IsWithin count later

-- those that tell whether an earlier one is
abbrev pub EarlierWithin : ℕ → Earlier → Type 0
EarlierWithin count earlier.None = Unit {0}
EarlierWithin count earlier.Some = Unit {0}
EarlierWithin count (earlier.IfLong slot) = Unit {0}
EarlierWithin count (earlier.Told cell) = cell < count

-- those of a piece
abbrev pub PieceWithin : ℕ → Piece → Type 0
PieceWithin count (piece.Skip bits fill place bound) = PlaceWithin count place
PieceWithin count (piece.Align bits fill place bound) = PlaceWithin count place
PieceWithin count (piece.Delimiter component list) = Unit {0}
PieceWithin count (piece.Marked component list mark) = MarkWithin count mark
PieceWithin count (piece.Separator component list position slot before) = StandsWithin count slot × EarlierWithin count before
PieceWithin count (piece.Prefix component form own value markup) = (own < count) × IsWithin count value
PieceWithin count (piece.Content component first markup place) = (first < count) × PlaceWithin count place
PieceWithin count (piece.Rest inside bits fill place) = (inside < count) × PlaceWithin count place
PieceWithin count (piece.End fill place) = PlaceWithin count place
PieceWithin count piece.Missing = Unit {0}

-- those that the equation of an unknown may ask for by what it is
abbrev pub CellWithin : ℕ → Cell → Type 0
CellWithin count Waiting = Unit {0}
CellWithin count (Faulty cause) = Unit {0}
CellWithin count (Given value) = Unit {0}
CellWithin count Nil = Unit {0}
CellWithin count (Items items) = Unit {0}
CellWithin count (ValueLength component first) = first < count
CellWithin count (ContentLength component first markup) = first < count
CellWithin count (Reached place) = PlaceWithin count place
CellWithin count (Boxed size inside) = inside < count
CellWithin count (Bits piece) = Unit {0}

-- these numbers are those of lists of delimiters
abbrev pub AreLists : Plan → List ℕ → Type 0
AreLists plan numbers = All (λ list. list < length plan.table.delimiters) numbers

-- what was laid names unknowns that are there, and lists of delimiters that the tables have
pub record IsSound (plan : Plan) (book : Book) : Type 0 where
  pub cells : All (CellWithin (length book.cells)) book.cells
  pub pieces : All (PieceWithin (length book.cells)) book.pieces
  pub complexes : All (ComplexWithin (length book.cells)) book.complexes
  pub markups : All (AreLists plan) book.markups
