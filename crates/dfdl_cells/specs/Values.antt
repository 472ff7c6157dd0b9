-- The value of a simple element, as equations ask for it.
use Rattle.std.specs.Prelude.{ℕ, List, slice_get, Option, None, Some}
use Rattle.dfdl_value.specs.declared.value.Value.{Value}
use Rattle.dfdl_suspend.specs.Asks.{Asks, Ask, Fails}
use Rattle.dfdl_suspend.specs.declared.known.Held.{Held}
use Rattle.dfdl_suspend.specs.declared.known.Held.TheVariants as held
use Rattle.dfdl_cells.specs.declared.cell.Cell.{Cell}
use Rattle.dfdl_cells.specs.declared.cell.Cell.TheVariants as cell

-- what a simple element is: nil, or a value
pub data Told : Type 0 where
  Nil : Told
  Is : Value → Told

-- what an unknown of a value is that the events alone determine
abbrev pub told_in : Option Cell → Option Told
told_in None = None
told_in (Some cell.Waiting) = None
told_in (Some (cell.Faulty cause)) = None
told_in (Some (cell.Given value)) = Some (Is value)
told_in (Some cell.Nil) = Some Nil
told_in (Some (cell.Items items)) = None
told_in (Some (cell.ValueLength component first)) = None
told_in (Some (cell.ContentLength component first markup)) = None
told_in (Some (cell.Reached place)) = None
told_in (Some (cell.Boxed size inside)) = None
told_in (Some (cell.Bits piece)) = None

-- what it is once it has a value: a calculated one is held itself
abbrev pub told_by : Option Cell → Held → Option Told
told_by one held.Given = told_in one
told_by one (held.Number number) = None
told_by one (held.Value value) = Some (Is value)

-- what is asked for goes on with what the element is; an unknown of another kind is none that is asked so, and ends in no value
abbrev pub go_with : Option Told → (Told → Asks Held) → Asks Held
go_with None go = Fails 0
go_with (Some told) go = go told

-- the value of the simple element whose first unknown this is, and how it goes on
abbrev pub asked_value : List Cell → ℕ → (Told → Asks Held) → Asks Held
asked_value cells first go = Ask first (λ held. go_with (told_by (slice_get cells first) held) go)

-- the number that an unknown has; another value is none
abbrev pub number_in : Held → ℕ
number_in held.Given = 0
number_in (held.Number number) = number
number_in (held.Value value) = 0

-- the number of an unknown, and how it goes on
abbrev pub asked_number : ℕ → (ℕ → Asks Held) → Asks Held
asked_number cell go = Ask cell (λ held. go (number_in held))
