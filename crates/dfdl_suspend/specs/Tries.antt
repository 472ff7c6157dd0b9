-- Mirror for the prover: what trying one unknown does.
use Rattle.std.specs.Prelude.{◌≡◌, ℕ, Bool, true, false, Option, Some, None, List, slice_set}
use Rattle.dfdl_suspend.specs.Asks.{Asks, Gets, at, gives}

-- it had no value and got that of its equation, or nothing has changed and its equation gives none
abbrev pub Tried : {V : Type 0} → (ℕ → Asks V) → ℕ → List (Option V) → List (Option V) → Bool → Type 0
Tried {V} equation cell old new true = (value : V) × (at old cell ≡ None) × (gives (equation cell) old ≡ Gets value) × (new ≡ slice_set old cell (Some value))
Tried {V} equation cell old new false = (new ≡ old) × ((value : V) → at old cell ≡ None → gives (equation cell) old ≡ Gets value → ⊥)
