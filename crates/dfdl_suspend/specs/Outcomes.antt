-- What an assignment of unknowns comes to: its first fault, the first unknown that stays unassigned, or all values.
use Rattle.std.specs.Prelude.{◌≡◌, ◌≢◌, ℕ, ◌<◌, Bool, true, false, Option, Some, None, List, ◌⊎◌}
use Rattle.dfdl_suspend.specs.Asks.{Asks, Faults, at, gives}
use Rattle.dfdl_suspend.specs.declared.solved.Solved.{Solved}
use Rattle.dfdl_suspend.specs.declared.solved.Solved.TheVariants.{Fault, Cycle, All}

-- an order of unknowns below a count: strict and total
pub record IsOrder (count : ℕ) (earlier : ℕ → ℕ → Bool) : Type 0 where
  pub apart : (a : ℕ) → a < count → earlier a a ≡ false
  pub through : (a b c : ℕ) → a < count → b < count → c < count → earlier a b ≡ true → earlier b c ≡ true → earlier a c ≡ true
  pub total : (a b : ℕ) → a < count → b < count → a ≢ b → (earlier a b ≡ true) ⊎ (earlier b a ≡ true)

-- an unknown is the first of those with a property
pub record IsFirst (earlier : ℕ → ℕ → Bool) (count : ℕ) (P : ℕ → Type 0) (cell : ℕ) : Type 0 where
  pub within : cell < count
  pub holds : P cell
  pub first : (other : ℕ) → other < count → P other → other ≢ cell → earlier cell other ≡ true

-- no unknown has a property
abbrev pub NoneHas : ℕ → (ℕ → Type 0) → Type 0
NoneHas count P = (cell : ℕ) → cell < count → P cell → ⊥

-- the first unknown with a property; None where none has it
abbrev pub IsBest : (ℕ → ℕ → Bool) → ℕ → (ℕ → Type 0) → Option ℕ → Type 0
IsBest earlier count P None = NoneHas count P
IsBest earlier count P (Some cell) = IsFirst earlier count P cell

-- the equation of an unknown gives a fault
abbrev pub HasFault : {V : Type 0} → (ℕ → Asks V) → List (Option V) → ℕ → Type 0
HasFault equation known cell = (cause : ℕ) × (gives (equation cell) known ≡ Faults cause)

-- an unknown has no value
abbrev pub IsOpen : {V : Type 0} → List (Option V) → ℕ → Type 0
IsOpen known cell = at known cell ≡ None

-- the first faulty unknown with its cause; None where no unknown is faulty
abbrev pub IsFirstFault : {V : Type 0} → (ℕ → ℕ → Bool) → ℕ → (ℕ → Asks V) → List (Option V) → Option (ℕ × ℕ) → Type 0
IsFirstFault earlier count equation known None = NoneHas count (HasFault equation known)
IsFirstFault earlier count equation known (Some found) =
    (gives (equation found.0) known ≡ Faults found.1) × IsFirst earlier count (HasFault equation known) found.0

-- the first unassigned unknown, exactly where there is one and none is faulty
abbrev pub IsStuckAt : {V : Type 0} → (ℕ → ℕ → Bool) → ℕ → (ℕ → Asks V) → List (Option V) → Option ℕ → Type 0
IsStuckAt earlier count equation known None = ((cell : ℕ) × (cell < count) × HasFault equation known cell) ⊎ NoneHas count (IsOpen known)
IsStuckAt earlier count equation known (Some cell) = NoneHas count (HasFault equation known) × IsFirst earlier count (IsOpen known) cell

-- what an assignment comes to: the first fault; else the first unassigned unknown; else all unknowns have values
abbrev pub IsOutcome : {V : Type 0} → (ℕ → ℕ → Bool) → ℕ → (ℕ → Asks V) → List (Option V) → Solved → Type 0
IsOutcome earlier count equation known (Fault cell cause) =
    (gives (equation cell) known ≡ Faults cause) × IsFirst earlier count (HasFault equation known) cell
IsOutcome earlier count equation known (Cycle cell) = NoneHas count (HasFault equation known) × IsFirst earlier count (IsOpen known) cell
IsOutcome earlier count equation known All = NoneHas count (HasFault equation known) × NoneHas count (IsOpen known)
