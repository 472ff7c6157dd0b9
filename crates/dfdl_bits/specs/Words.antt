-- Numbers of bits that one load reads.
use Rattle.std.specs.Prelude.{◌≡◌, ◌⊎◌, ℕ}

-- so many bits are a whole number of 8, 16, 32 or 64 bits
abbrev pub IsWord : ℕ → Type 0
IsWord len = (len ≡ 8) ⊎ ((len ≡ 16) ⊎ ((len ≡ 32) ⊎ (len ≡ 64)))
