-- Mirror for the prover: what the equation of an unknown without a value gives, over what is known. That it gives just this is a lemma
-- (proofs/CellsAnswered).
use Rattle.std.specs.Prelude.{◌≡◌, ℕ, List, slice_get, slice_set, Option, None, Some, Result, Ok, Err}
use Rattle.dfdl_suspend.specs.declared.equations.Answer.{Answer}
use Rattle.dfdl_suspend.specs.declared.equations.Answer.TheVariants as answered
use Rattle.dfdl_suspend.specs.declared.known.Held.{Held}
use Rattle.dfdl_suspend.specs.declared.known.Held.TheVariants as held
use Rattle.dfdl_terms.specs.declared.writing.Writing.{Writing}
use Rattle.dfdl_writings.specs.declared.fault.Unwritten.{Unwritten}
use Rattle.dfdl_writings.specs.declared.fault.Unwritten.TheVariants as unwritten
use Rattle.dfdl_cells.specs.Asking.{number, onward, place, value}
use Rattle.dfdl_cells.specs.Books.{Book}
use Rattle.dfdl_cells.specs.Equations.{constant_of}
use Rattle.dfdl_cells.specs.Lengths.{cause_of, size_in, told_length}
use Rattle.dfdl_cells.specs.Pieces.{written_at}
use Rattle.dfdl_cells.specs.Plans.{Form, Plan, form_of, writing_of}
use Rattle.dfdl_cells.specs.Values.{Told}
use Rattle.dfdl_cells.specs.declared.asking.Stop.{Stop}
use Rattle.dfdl_cells.specs.declared.asking.Stop.TheVariants.{Fault, Wait}
use Rattle.dfdl_cells.specs.declared.cell.Cell.{Cell}
use Rattle.dfdl_cells.specs.declared.cell.Cell.TheVariants.{Waiting, Faulty, Given, Nil, Items, ValueLength, ContentLength, Reached, Boxed, Bits}
use Rattle.dfdl_cells.specs.declared.piece.Piece.{Piece}
use Rattle.dfdl_cells.specs.declared.step.Place.{Place}
use Rattle.dfdl_evaluation.specs.AskingPieces.{of_piece}

-- a length, or the cause why there is none
abbrev pub length_told : Result ℕ Unwritten → Result Held Stop
length_told (Ok bits) = Ok (held.Number bits)
length_told (Err cause) = Err (Fault (cause_of cause))

-- how many bits the value of a simple element has by what it is
abbrev pub value_length_by : Option Writing → Option Form → Told → Result Held Stop
value_length_by None form told = Err (Fault (cause_of unwritten.BinaryForm))
value_length_by (Some writing) None told = Err (Fault (cause_of unwritten.BinaryForm))
value_length_by (Some writing) (Some form) told = length_told (told_length writing.text form told)

abbrev pub value_length : Plan → Book → List (Option Held) → ℕ → ℕ → Result Held Stop
value_length plan book known component first =
    onward (value book.cells known first) (λ told. value_length_by (writing_of plan component) (form_of plan component) told)

-- how many bits its content has by what it is
abbrev pub content_length_told : Plan → Book → ℕ → ℕ → Told → Result Held Stop
content_length_told plan book component markup told = length_told (size_in (written_at plan book component markup told))

-- how many bits its content has
abbrev pub content_length_by : Plan → Book → List (Option Held) → ℕ → ℕ → ℕ → Option ℕ → Result Held Stop
content_length_by plan book known component first markup (Some bits) = Ok (held.Number bits)
content_length_by plan book known component first markup None =
    onward (value book.cells known first) (λ told. content_length_told plan book component markup told)

-- a number that was answered
abbrev pub counted : Result ℕ Stop → Result Held Stop
counted answer = onward answer (λ n. Ok (held.Number n))

-- how many bits a box has
abbrev pub boxed : List (Option Held) → Option ℕ → ℕ → Result Held Stop
boxed known (Some bits) inside = Ok (held.Number bits)
boxed known None inside = counted (number known inside)

-- where an element begins, or its content ends
abbrev pub reached : Book → List (Option Held) → Place → Result Held Stop
reached book known at = counted (place book known at)

-- the bits of a piece that may not be laid
abbrev pub bits_of : Plan → Book → List (Option Held) → ℕ → Option Piece → Result Held Stop
bits_of plan book known cell None = Err (Wait cell)
bits_of plan book known cell (Some piece) = of_piece plan book known cell piece

abbrev pub bits_at : Plan → Book → List (Option Held) → ℕ → ℕ → Result Held Stop
bits_at plan book known cell piece = bits_of plan book known cell (slice_get book.pieces piece)

-- an unknown of a number, by what it is
abbrev pub of_cell : Plan → Book → List (Option Held) → ℕ → Cell → Result Held Stop
of_cell plan book known cell Waiting = Err (Wait cell)
of_cell plan book known cell (Faulty cause) = Err (Fault cause)
of_cell plan book known cell (Given value) = Ok held.Given
of_cell plan book known cell Nil = Ok held.Given
of_cell plan book known cell (Items items) = Ok held.Given
of_cell plan book known cell (ValueLength component first) = value_length plan book known component first
of_cell plan book known cell (ContentLength component first markup) =
    content_length_by plan book known component first markup (constant_of (form_of plan component))
of_cell plan book known cell (Reached at) = reached book known at
of_cell plan book known cell (Boxed size inside) = boxed known size inside
of_cell plan book known cell (Bits piece) = bits_at plan book known cell piece

-- one that may not be there
abbrev pub of_cell_or : Plan → Book → List (Option Held) → ℕ → Option Cell → Result Held Stop
of_cell_or plan book known cell None = Err (Wait cell)
of_cell_or plan book known cell (Some one) = of_cell plan book known cell one

-- the unknown of a number
abbrev pub told : Plan → Book → List (Option Held) → ℕ → Result Held Stop
told plan book known cell = of_cell_or plan book known cell (slice_get book.cells cell)

-- what is answered where an equation stops
abbrev pub answer_at : Stop → Answer
answer_at (Wait other) = answered.Wait other
answer_at (Fault cause) = answered.Fault cause

-- a value that was given is put, and what stops the equation is answered
abbrev pub Settles : ℕ → List (Option Held) → List (Option Held) → Result Held Stop → Answer → Type 0
Settles cell old new (Ok held) answer = (answer ≡ answered.Value) × (new ≡ slice_set old cell (Some held))
Settles cell old new (Err stop) answer = (answer ≡ answer_at stop) × (new ≡ old)
