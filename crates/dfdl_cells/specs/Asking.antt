-- Mirror for the prover: what is answered to the questions that equations ask, over what is known. That an equation gives just this is a lemma for
-- each (proofs/Answered).
use Rattle.std.specs.Prelude.{ℕ, zero, suc, ◌-◌, ◌/◌, ◌==◌, length, Bool, true, not, ◌||◌, List, [], ◌∷◌, if◌then◌else◌, slice_get, Option, None, Some, Result, Ok, Err}
use Rattle.dfdl_suspend.specs.Asks.{Gives, Faults, WaitsFor, at}
use Rattle.dfdl_suspend.specs.declared.known.Held.{Held}
use Rattle.std.specs.List.{list_any}
use Rattle.dfdl_cells.specs.Books.{Book}
use Rattle.dfdl_cells.specs.Places.{aligned, complex_at, further, is_aligned, steps_to}
use Rattle.dfdl_cells.specs.Values as values
use Rattle.dfdl_cells.specs.Values.{number_in, told_by}
use Rattle.dfdl_cells.specs.declared.asking.Stop.{Stop}
use Rattle.dfdl_cells.specs.declared.asking.Stop.TheVariants.{Wait, Fault}
use Rattle.dfdl_cells.specs.declared.asking.Told.{Told}
use Rattle.dfdl_cells.specs.declared.asking.Told.TheVariants.{Nil, Is}
use Rattle.dfdl_cells.specs.declared.cell.Cell.{Cell}
use Rattle.dfdl_cells.specs.declared.complex.Complex.{Complex}
use Rattle.dfdl_cells.specs.declared.step.Mark.{Mark}
use Rattle.dfdl_cells.specs.declared.step.Place.{Place}
use Rattle.dfdl_cells.specs.declared.step.Step.{Step}
use Rattle.dfdl_cells.specs.declared.step.Step.TheVariants.{Fixed, Align, Marked, Length, Separator}

-- what an equation gives whose question has this answer, where it goes on so
abbrev pub behind : {A : Type 0} → Result A Stop → (A → Gives Held) → Gives Held
behind (Ok answer) go = go answer
behind (Err (Wait cell)) go = WaitsFor cell
behind (Err (Fault cause)) go = Faults cause

-- another question behind an answer
abbrev pub onward : {A B : Type 0} → Result A Stop → (A → Result B Stop) → Result B Stop
onward (Ok answer) next = next answer
onward (Err stop) next = Err stop

-- the number of an unknown, where it has a value
abbrev pub number_of : ℕ → Option Held → Result ℕ Stop
number_of cell None = Err (Wait cell)
number_of cell (Some held) = Ok (number_in held)

abbrev pub number : List (Option Held) → ℕ → Result ℕ Stop
number known cell = number_of cell (at known cell)

-- what an element is, if that is told
abbrev pub or_none : Option values.Told → Result values.Told Stop
or_none None = Err (Fault 0)
or_none (Some told) = Ok told

-- what the element is whose first unknown has this value, where it has one
abbrev pub value_of : List Cell → ℕ → Option Held → Result values.Told Stop
value_of cells first None = Err (Wait first)
value_of cells first (Some held) = or_none (told_by (slice_get cells first) held)

abbrev pub value : List Cell → List (Option Held) → ℕ → Result values.Told Stop
value cells known first = value_of cells first (at known first)

-- whether a delimiter stands, by a content length
abbrev pub is_normal : List (Option Held) → Mark → Result Bool Stop
is_normal known mark =
    if mark.empties then onward (number known mark.length) (λ bits. Ok (mark.in_empty || not (bits == 0))) else Ok true

-- by what the element is
abbrev pub stands_by : List (Option Held) → Mark → values.Told → Result Bool Stop
stands_by known mark values.Nil = Ok mark.in_nil
stands_by known mark (values.Is value) = is_normal known mark

abbrev pub stands : List Cell → List (Option Held) → Mark → Result Bool Stop
stands cells known mark = onward (value cells known mark.value) (λ told. stands_by known mark told)

-- behind a step
abbrev pub passed : List Cell → List (Option Held) → Step → ℕ → Result ℕ Stop
passed cells known (Fixed bits) n = Ok (further bits n)
passed cells known (Align bits) n = Ok (aligned bits n)
passed cells known (Marked mark) n = onward (stands cells known mark) (λ is_there. Ok (if is_there then further mark.bits n else n))
passed cells known (Length cell) n = onward (number known cell) (λ bits. Ok (further bits n))
passed cells known (Separator cell) n = onward (number known cell) (λ told. Ok (further (told / 2) n))

-- behind steps, one after another
unfoldable pub passed_all : List Cell → List (Option Held) → List Step → ℕ → Result ℕ Stop
passed_all cells known [] n = Ok n
passed_all cells known (step ∷ steps) n = onward (passed cells known step n) (λ after. passed_all cells known steps after)

-- behind what lies between the start of an element with parts and its content
abbrev pub led : List Cell → List (Option Held) → Complex → ℕ → Result ℕ Stop
led cells known complex n = onward (number known complex.start) (λ start. passed_all cells known complex.lead (further start n))

-- the begin of the content of an element with parts, which has so many elements around at most
unfoldable pub begin_by : Book → List (Option Held) → ℕ → Option Complex → Result ℕ Stop
begin_by book known zero around = Ok 0
begin_by book known (suc most) None = Ok 0
begin_by book known (suc most) (Some complex) =
    onward (begin_by book known most (complex_at book complex.around)) (λ n. led book.cells known complex n)

abbrev pub begin : Book → List (Option Held) → Option ℕ → Result ℕ Stop
begin book known around = begin_by book known (length book.complexes) (complex_at book around)

-- the start that a place is behind
abbrev pub start : List (Option Held) → Option ℕ → Result ℕ Stop
start known None = Ok 0
start known (Some cell) = number known cell

-- behind aligned steps in a content that begins at a bit of the data
abbrev pub aligned_in : List Cell → List (Option Held) → List Step → ℕ → ℕ → Result ℕ Stop
aligned_in cells known steps n first = onward (passed_all cells known steps (further n first)) (λ after. Ok (after - first))

-- behind steps in a content
abbrev pub passed_in : Book → List (Option Held) → Option ℕ → List Step → ℕ → Result ℕ Stop
passed_in book known around steps n =
    if list_any is_aligned steps
    then onward (begin book known around) (λ first. aligned_in book.cells known steps n first)
    else passed_all book.cells known steps n

-- how many bits of its content lie before a place
abbrev pub place : Book → List (Option Held) → Place → Result ℕ Stop
place book known p = onward (start known p.after) (λ n. passed_in book known p.around (steps_to book p) n)

-- how many bits of the data do
abbrev pub bit : Book → List (Option Held) → Place → Result ℕ Stop
bit book known p = onward (begin book known p.around) (λ first. onward (place book known p) (λ n. Ok (further n first)))

-- what an element is, as definitions speak of it
abbrev pub told_shown : Told → values.Told
told_shown Nil = values.Nil
told_shown (Is value) = values.Is value.now

-- the same of an answer
abbrev pub answer_shown : Result Told Stop → Result values.Told Stop
answer_shown (Ok told) = Ok (told_shown told)
answer_shown (Err stop) = Err stop
