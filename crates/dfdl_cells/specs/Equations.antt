-- THE equation of each unknown. 'DFDL Processing Introduction' (unparsing).
use Rattle.std.specs.Prelude.{ℕ, slice_get, Option, None, Some}
use Rattle.dfdl_suspend.specs.Asks.{Asks, Is, Fails, waiting}
use Rattle.dfdl_suspend.specs.declared.known.Held.{Held}
use Rattle.dfdl_suspend.specs.declared.known.Held.TheVariants as held
use Rattle.dfdl_writings.specs.declared.fault.Unwritten.TheVariants as unwritten
use Rattle.dfdl_cells.specs.Books.{Book}
use Rattle.dfdl_cells.specs.Lengths.{cause_of, constant_length, length_or, size_in, told_length}
use Rattle.dfdl_cells.specs.Pieces as pieces
use Rattle.dfdl_cells.specs.Pieces.{written_at}
use Rattle.dfdl_cells.specs.Places.{asked_place}
use Rattle.dfdl_cells.specs.Plans.{Form, Plan, form_of, writing_of}
use Rattle.dfdl_cells.specs.Values.{Told, asked_number, asked_value}
use Rattle.dfdl_cells.specs.declared.cell.Cell.{Cell}
use Rattle.dfdl_cells.specs.declared.cell.Cell.TheVariants.{Waiting, Faulty, Given, Nil, Items, ValueLength, ContentLength, Reached, Boxed, Bits}
use Rattle.dfdl_cells.specs.declared.piece.Piece.{Piece}
use Rattle.dfdl_terms.specs.declared.writing.Writing.{Writing}

-- a number, as what an unknown has
abbrev pub is_number : ℕ → Asks Held
is_number n = Is (held.Number n)

-- how many bits the value of a simple element has by what it is
abbrev pub value_length_by : Option Writing → Option Form → Told → Asks Held
value_length_by None form told = Fails (cause_of unwritten.BinaryForm)
value_length_by (Some writing) None told = Fails (cause_of unwritten.BinaryForm)
value_length_by (Some writing) (Some form) told = length_or (told_length writing.text form told)

-- how many bits its content has: those of its box, where that is constant, and else those of its writing
abbrev pub content_length_by : Plan → Book → ℕ → ℕ → ℕ → Option ℕ → Asks Held
content_length_by plan book component first markup (Some bits) = is_number bits
content_length_by plan book component first markup None =
    asked_value book.cells first (λ told. length_or (size_in (written_at plan book component markup told)))

-- how many bits a content of this form has whatever it is
abbrev pub constant_of : Option Form → Option ℕ
constant_of None = None
constant_of (Some form) = constant_length form.length form.prim

-- how many bits a box has: its own, and else those of what it has inside
abbrev pub boxed : Option ℕ → ℕ → Asks Held
boxed (Some bits) inside = is_number bits
boxed None inside = asked_number inside is_number

-- the bits of a piece that may not be laid
abbrev pub bits_of : Plan → Book → ℕ → Option Piece → Asks Held
bits_of plan book cell None = waiting cell
bits_of plan book cell (Some piece) = pieces.equation_of plan book cell piece

-- the equation of an unknown of a number, by what it is
abbrev pub equation_of : Plan → Book → ℕ → Cell → Asks Held
equation_of plan book cell Waiting = waiting cell
equation_of plan book cell (Faulty cause) = Fails cause
equation_of plan book cell (Given value) = Is held.Given
equation_of plan book cell Nil = Is held.Given
equation_of plan book cell (Items items) = Is held.Given
equation_of plan book cell (ValueLength component first) =
    asked_value book.cells first (λ told. value_length_by (writing_of plan component) (form_of plan component) told)
equation_of plan book cell (ContentLength component first markup) =
    content_length_by plan book component first markup (constant_of (form_of plan component))
equation_of plan book cell (Reached place) = asked_place book place is_number
equation_of plan book cell (Boxed size inside) = boxed size inside
equation_of plan book cell (Bits piece) = bits_of plan book cell (slice_get book.pieces piece)

-- the equation of an unknown that may not be there yet
abbrev pub equation_or : Plan → Book → ℕ → Option Cell → Asks Held
equation_or plan book cell None = waiting cell
equation_or plan book cell (Some one) = equation_of plan book cell one

-- the equations of a book
abbrev pub equation_in : Plan → Book → ℕ → Asks Held
equation_in plan book cell = equation_or plan book cell (slice_get book.cells cell)
