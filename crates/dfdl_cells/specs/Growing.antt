-- A book with one thing more. What is laid never goes again: an unknown, a piece, an element with parts and a list of open markup are put behind those
-- that are there, a step behind those of its element, and an unknown that waits gets what it is once.
use Rattle.std.specs.Prelude.{ℕ, Bool, true, false, List, [], ◌∷◌, ◌++◌, slice_get, slice_set, if◌then◌else◌, Option, None, Some}
use Rattle.dfdl_cells.specs.Books.{Book}
use Rattle.dfdl_cells.specs.declared.cell.Cell.{Cell}
use Rattle.dfdl_cells.specs.declared.cell.Cell.TheVariants.{Waiting, Faulty, Given, Nil, Items, ValueLength, ContentLength, Reached, Boxed, Bits}
use Rattle.dfdl_cells.specs.declared.complex.Complex.{Complex}
use Rattle.dfdl_cells.specs.declared.piece.Piece.{Piece}
use Rattle.dfdl_cells.specs.declared.step.Step.{Step}

-- one unknown more, which has the number of those before it
abbrev pub with_cell : Cell → Book → Book
with_cell cell book = record book { cells = book.cells ++ cell ∷ [] }

-- one piece more
abbrev pub with_piece : Piece → Book → Book
with_piece piece book = record book { pieces = book.pieces ++ piece ∷ [] }

-- one element with parts more
abbrev pub with_complex : Complex → Book → Book
with_complex complex book = record book { complexes = book.complexes ++ complex ∷ [] }

-- one list more of markup that is open
abbrev pub with_markup : List ℕ → Book → Book
with_markup numbers book = record book { markups = book.markups ++ numbers ∷ [] }

-- an unknown is there and waits for an event
abbrev pub is_waiting : Option Cell → Bool
is_waiting None = false
is_waiting (Some Waiting) = true
is_waiting (Some (Faulty cause)) = false
is_waiting (Some (Given value)) = false
is_waiting (Some Nil) = false
is_waiting (Some (Items items)) = false
is_waiting (Some (ValueLength component first)) = false
is_waiting (Some (ContentLength component first markup)) = false
is_waiting (Some (Reached place)) = false
is_waiting (Some (Boxed size inside)) = false
is_waiting (Some (Bits piece)) = false

-- an unknown of this number that waits is this from now on; any other stays as it is
abbrev pub with_given : ℕ → Cell → Book → Book
with_given number cell book =
    if is_waiting (slice_get book.cells number) then record book { cells = slice_set book.cells number cell } else book

-- an element with one step more in its content
abbrev pub with_inside : Step → Complex → Complex
with_inside step complex = record complex { inside = complex.inside ++ step ∷ [] }

-- the same of the element of a number, if there is one of it
abbrev pub with_step_in : Option Complex → ℕ → Step → Book → Book
with_step_in None number step book = book
with_step_in (Some complex) number step book = record book { complexes = slice_set book.complexes number (with_inside step complex) }

abbrev pub with_step : ℕ → Step → Book → Book
with_step number step book = with_step_in (slice_get book.complexes number) number step book

-- the steps in the content of the element of a number
abbrev pub inside_of : Option Complex → List Step
inside_of None = []
inside_of (Some complex) = complex.inside
