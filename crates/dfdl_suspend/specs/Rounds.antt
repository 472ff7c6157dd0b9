-- The least solution of equations: rounds from nothing. What an assignment is that answers lead to, one after another.
use Rattle.std.specs.Prelude.{◌≡◌, ◌≢◌, ℕ, zero, suc, ◌<◌, Option, Some, None, List, map, replicate, slice_set}
use Rattle.std.specs.List.{range_with_len}
use Rattle.dfdl_suspend.specs.Asks.{Asks, Gives, Gets, Faults, WaitsFor, at, gives, waiting}

-- a value that is there, or else the value that an equation gives
abbrev pub kept_or : {V : Type 0} → Option V → Gives V → Option V
kept_or (Some value) given = Some value
kept_or None (Gets value) = Some value
kept_or None (Faults cause) = None
kept_or None (WaitsFor cell) = None

-- one round: every unassigned unknown whose equation now gives a value gets it
abbrev pub round : {V : Type 0} → ℕ → (ℕ → Asks V) → List (Option V) → List (Option V)
round cells equation known = map (λ cell. kept_or (at known cell) (gives (equation cell) known)) (range_with_len 0 cells)

-- so many rounds from nothing
unfoldable pub rounds : {V : Type 0} → ℕ → ℕ → (ℕ → Asks V) → List (Option V)
rounds zero cells equation = replicate cells None
rounds (suc n) cells equation = round cells equation (rounds n cells equation)

-- the least solution: as many rounds as there are unknowns
abbrev pub solution : {V : Type 0} → ℕ → (ℕ → Asks V) → List (Option V)
solution cells equation = rounds cells cells equation

-- an assignment that answers lead to: from nothing, one unknown after another gets the value that its equation then gives
pub data Reached {V : Type 0} (cells : ℕ) (equation : ℕ → Asks V) : List (Option V) → Type 0 where
  nothing : Reached cells equation (replicate cells None)
  assigned : {known : List (Option V)} (cell : ℕ) (value : V) → Reached cells equation known → cell < cells
      → at known cell ≡ None → gives (equation cell) known ≡ Gets value → Reached cells equation (slice_set known cell (Some value))

-- no equation of an unassigned unknown gives a value
abbrev pub Closed : {V : Type 0} → ℕ → (ℕ → Asks V) → List (Option V) → Type 0
Closed {V} cells equation known = (cell : ℕ) (value : V) → cell < cells → at known cell ≡ None → gives (equation cell) known ≡ Gets value → ⊥

-- what an event changes of equations: those alone that waited for it
abbrev pub Grows : {V : Type 0} → (ℕ → Asks V) → (ℕ → Asks V) → Type 0
Grows old new = (cell : ℕ) → old cell ≢ waiting cell → new cell ≡ old cell
