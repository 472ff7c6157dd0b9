-- What the reading of a whole source gives.
use Rattle.std.specs.Prelude.{Option, ◌≡◌, ℕ, List, [], ◌++◌}
use Rattle.dfdl_edge.specs.Told.{WhereTold}

-- where it is told, nothing is left any more
abbrev pub IsUsedUp : Option (List ℕ) → Option (List ℕ) → Type 0
IsUsedUp left now = WhereTold (λ _ rest. rest ≡ []) left now

-- where it is told, what is left is the rest of what was left, after these bytes
abbrev pub IsAfter : Option (List ℕ) → List ℕ → Option (List ℕ) → Type 0
IsAfter left bytes now = WhereTold (λ all rest. all ≡ bytes ++ rest) left now

-- where it is told, what is left is an end of what was left
abbrev pub IsRestOf : Option (List ℕ) → Option (List ℕ) → Type 0
IsRestOf left now = WhereTold (λ all rest. (bytes : List ℕ) × (all ≡ bytes ++ rest)) left now
