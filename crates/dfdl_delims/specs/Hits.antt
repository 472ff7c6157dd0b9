-- Mirror for the prover: what the search for the longest text keeps.
use Rattle.std.specs.Prelude.{◌≡◌, ℕ, ◌<◌, Bool, true, false, Option, Some, None, max}
use Rattle.dfdl_delims.specs.declared.hit.Hit.{Hit}
use Rattle.dfdl_delims.specs.Longest.{Longest, Text, NoText}

-- what was found so far
abbrev pub hit_shown : Option Hit → Longest
hit_shown None = NoText
hit_shown (Some hit) = Text hit.which hit.bits

-- the greater of two places, where the second counts
abbrev pub counted : Option ℕ → ℕ → Bool → Option ℕ
counted best place false = best
counted None place true = Some place
counted (Some other) place true = Some (max other place)

-- the greatest number that passes, if one does
abbrev pub IsLast : (ℕ → Bool) → Option ℕ → Type 0
IsLast passes None = (n : ℕ) → passes n ≡ false
IsLast passes (Some last) = (passes last ≡ true) × ((n : ℕ) → last < n → passes n ≡ false)
