-- How far places are, in bits. A start counts from the begin of the content that it is in, so a length inside of an element waits for nothing
-- before that element, unless there is an alignment: that counts from the start of the data ('Framing', on alignment).
use Rattle.std.specs.Prelude.{ℕ, zero, suc, ◌+◌, ◌-◌, ◌/◌, ◌%◌, ◌^◌, ◌==◌, nat_le, min, Bool, true, false, not, ◌||◌, List, [], ◌∷◌, take, drop, slice_get, length, if◌then◌else◌, Option, None, Some}
use Rattle.std.specs.List.{list_any}
use Rattle.dfdl_suspend.specs.Asks.{Asks}
use Rattle.dfdl_suspend.specs.declared.known.Held.{Held}
use Rattle.dfdl_cells.specs.Books.{Book}
use Rattle.dfdl_cells.specs.Values.{Told, asked_number, asked_value}
use Rattle.dfdl_cells.specs.Values as values
use Rattle.dfdl_cells.specs.declared.cell.Cell.{Cell}
use Rattle.dfdl_cells.specs.declared.complex.Complex.{Complex}
use Rattle.dfdl_cells.specs.declared.step.Mark.{Mark}
use Rattle.dfdl_cells.specs.declared.step.Place.{Place}
use Rattle.dfdl_cells.specs.declared.step.Step.{Step}
use Rattle.dfdl_cells.specs.declared.step.Step.TheVariants.{Fixed, Align, Marked, Length, Separator}

-- the greatest number of bits; no length is told past it
abbrev pub most_bits : ℕ
most_bits = 2 ^ 64 - 1

-- so many bits further
abbrev pub further : ℕ → ℕ → ℕ
further bits n = min (n + bits) most_bits

-- the next multiple of so many bits
abbrev pub aligned : ℕ → ℕ → ℕ
aligned bits n = if nat_le bits 1 || (n % bits == 0) then n else further (bits - n % bits) n

-- what goes on with whether a delimiter of a simple element stands, in the normal representation or the empty one
abbrev pub marked_by : Bool → Mark → (Bool → Asks Held) → Asks Held
marked_by empties mark go = if empties then asked_number mark.length (λ bits. go (mark.in_empty || not (bits == 0))) else go true

-- the same by what the element is
abbrev pub marked_in : Mark → Told → (Bool → Asks Held) → Asks Held
marked_in mark values.Nil go = go mark.in_nil
marked_in mark (values.Is value) go = marked_by mark.empties mark go

-- the same
abbrev pub marked : List Cell → Mark → (Bool → Asks Held) → Asks Held
marked cells mark go = asked_value cells mark.value (λ told. marked_in mark told go)

-- behind a step, from so many bits on
abbrev pub passed : List Cell → Step → ℕ → (ℕ → Asks Held) → Asks Held
passed cells (Fixed bits) n go = go (further bits n)
passed cells (Align bits) n go = go (aligned bits n)
passed cells (Marked mark) n go = marked cells mark (λ stands. go (if stands then further mark.bits n else n))
passed cells (Length cell) n go = asked_number cell (λ bits. go (further bits n))
passed cells (Separator cell) n go = asked_number cell (λ number. go (further (number / 2) n))

-- behind steps, one after another
abbrev pub passed_all : List Cell → List Step → ℕ → (ℕ → Asks Held) → Asks Held
passed_all cells [] n go = go n
passed_all cells (step ∷ steps) n go = passed cells step n (λ after. passed_all cells steps after go)

-- a step counts from the start of the data
abbrev pub is_aligned : Step → Bool
is_aligned (Fixed bits) = false
is_aligned (Align bits) = true
is_aligned (Marked mark) = false
is_aligned (Length cell) = false
is_aligned (Separator cell) = false

-- behind what lies between the start of an element with parts and its content, from so many bits on before the content around
abbrev pub led : List Cell → Complex → ℕ → (ℕ → Asks Held) → Asks Held
led cells complex n go = asked_number complex.start (λ start. passed_all cells complex.lead (further start n) go)

-- the element with parts of a number, if there is one of it
abbrev pub complex_at : Book → Option ℕ → Option Complex
complex_at book None = None
complex_at book (Some number) = slice_get book.complexes number

-- how many bits lie between the start of the data and the begin of the content of an element with parts, that of the document for none; at most
-- so many elements are around one another
abbrev pub begin_by : Book → ℕ → Option Complex → (ℕ → Asks Held) → Asks Held
begin_by book zero around go = go 0
begin_by book (suc most) None go = go 0
begin_by book (suc most) (Some complex) go =
    begin_by book most (complex_at book complex.around) (λ n. led book.cells complex n go)

-- the same of the element of a number
abbrev pub asked_begin : Book → Option ℕ → (ℕ → Asks Held) → Asks Held
asked_begin book around go = begin_by book (length book.complexes) (complex_at book around) go

-- the steps in the content of an element with parts; none are in the document itself
abbrev pub steps_in : Option Complex → List Step
steps_in None = []
steps_in (Some complex) = complex.inside

-- the steps behind which a place is
abbrev pub steps_to : Book → Place → List Step
steps_to book place = take place.count (drop place.first (steps_in (complex_at book place.around)))

-- how many bits lie between the begin of a content and the start that a place is behind
abbrev pub asked_start : Option ℕ → (ℕ → Asks Held) → Asks Held
asked_start None go = go 0
asked_start (Some cell) go = asked_number cell go

-- behind steps in a content, from so many bits of it on: where one is aligned, all count from the start of the data
abbrev pub passed_in : Book → Option ℕ → List Step → ℕ → (ℕ → Asks Held) → Asks Held
passed_in book around steps n go =
    if list_any is_aligned steps
    then asked_begin book around (λ begin. passed_all book.cells steps (further n begin) (λ after. go (after - begin)))
    else passed_all book.cells steps n go

-- how many bits of its content lie before a place
abbrev pub asked_place : Book → Place → (ℕ → Asks Held) → Asks Held
asked_place book place go = asked_start place.after (λ start. passed_in book place.around (steps_to book place) start go)

-- how many bits of the data do
abbrev pub asked_bit : Book → Place → (ℕ → Asks Held) → Asks Held
asked_bit book place go = asked_begin book place.around (λ begin. asked_place book place (λ n. go (further n begin)))
