-- What a call that evaluates an equation answers and does.
use Rattle.std.specs.Prelude.{◌≡◌, ℕ, ◌<◌, Option, Some, List, slice_set}
use Rattle.dfdl_suspend.specs.Asks.{Asks, Gets, Faults, WaitsFor, gives}
use Rattle.dfdl_suspend.specs.declared.equations.Answer.{Answer}
use Rattle.dfdl_suspend.specs.declared.equations.Answer.TheVariants.{Value, Wait, Fault}

-- a value that was given is put; nothing else of what is known changes
abbrev pub Meets : {V : Type 0} → Asks V → ℕ → List (Option V) → List (Option V) → Answer → Type 0
Meets {V} equation cell old new Value = (value : V) × (gives equation old ≡ Gets value) × (new ≡ slice_set old cell (Some value))
Meets equation cell old new (Wait other) = (gives equation old ≡ WaitsFor other) × (new ≡ old)
Meets equation cell old new (Fault cause) = (gives equation old ≡ Faults cause) × (new ≡ old)

-- the unknown that is waited for is there
abbrev pub NamesBelow : ℕ → Answer → Type 0
NamesBelow count Value = Unit {0}
NamesBelow count (Wait other) = other < count
NamesBelow count (Fault cause) = Unit {0}
