-- Mirror for the prover: a list whose end isn't written yet.
use Rattle.std.specs.Prelude.{ℕ, ◌-◌, ◌++◌, Option, None, List, length, replicate}

-- what was written, and None for each place up to the opened number
abbrev pub padded : {V : Type 0} → ℕ → List (Option V) → List (Option V)
padded cells written = written ++ replicate (cells - length written) None
