-- What the equation of an unknown is: it asks for other unknowns one after another, and then gives a value or a fault. An
-- assignment is a list with a place for each unknown, whose unassigned ones are None. The values are of any type.
use Rattle.std.specs.Prelude.{◌≡◌, ℕ, ◌+◌, ◌==◌, Bool, true, Option, Some, None, List, [], ◌∷◌}
use Rattle.std.specs.List.{slice_get, list_any}

-- an equation: a value, the cause of a fault, or an unknown that it asks for and how it goes on with that one's value
pub data Asks (V : Type 0) : Type 0 where
  Is : (value : V) → Asks V
  Fails : (cause : ℕ) → Asks V
  Ask : (cell : ℕ) → (more : V → Asks V) → Asks V

-- what an equation gives under an assignment: a value, a fault, or the unassigned unknown that it waits for
pub data Gives (V : Type 0) : Type 0 where
  Gets : (value : V) → Gives V
  Faults : (cause : ℕ) → Gives V
  WaitsFor : (cell : ℕ) → Gives V

-- the value of an option of an option
abbrev pub joined : {V : Type 0} → Option (Option V) → Option V
joined None = None
joined (Some value) = value

-- the value of an unknown; None where it has none, and for an unknown that isn't there
abbrev pub at : {V : Type 0} → List (Option V) → ℕ → Option V
at known cell = joined (slice_get known cell)

-- what is given behind a question: how it goes on with the value, or the wait for it
abbrev pub told : {V : Type 0} → Option V → ℕ → (V → Gives V) → Gives V
told None cell go = WaitsFor cell
told (Some value) cell go = go value

-- what an equation gives under an assignment
abbrev pub gives : {V : Type 0} → Asks V → List (Option V) → Gives V
gives (Is value) known = Gets value
gives (Fails cause) known = Faults cause
gives (Ask cell more) known = told (at known cell) cell (λ value. gives (more value) known)

-- the equation of an unknown that waits for an event: it waits for itself
abbrev pub waiting : {V : Type 0} → ℕ → Asks V
waiting cell = Ask cell (λ value. Is value)

-- a number is in a list
abbrev pub is_in : ℕ → List ℕ → Bool
is_in cell cells = list_any (λ other. cell == other) cells

-- each unknown that an equation may ask for is one of these
abbrev pub AsksWithin : {V : Type 0} → List ℕ → Asks V → Type 0
AsksWithin asked (Is value) = Unit {0}
AsksWithin asked (Fails cause) = Unit {0}
AsksWithin {V} asked (Ask cell more) = (is_in cell asked ≡ true) × ((value : V) → AsksWithin asked (more value))

-- what one assignment has, the other has too
abbrev pub Below : {V : Type 0} → List (Option V) → List (Option V) → Type 0
Below {V} a b = (cell : ℕ) (value : V) → at a cell ≡ Some value → at b cell ≡ Some value

-- how many unknowns have a value
abbrev pub filled : {V : Type 0} → List (Option V) → ℕ
filled [] = 0
filled (None ∷ known) = filled known
filled (Some value ∷ known) = filled known + 1
