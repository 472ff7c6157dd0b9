-- The number that a value is written as.
use Rattle.std.specs.Prelude.{◌≡◌, ℕ, ◌^◌, ◌<◌, ◌≤◌, ◌-◌, ℤ, unsigned_abs, Option, Some, None, List, take, MatchOption}
use Rattle.dfdl_packed.specs.declared.scaled.Scaled.{Scaled}
use Rattle.dfdl_packed.specs.Packed.{is_negative}

-- an integer with its sign
abbrev pub ShowsInteger : Option Scaled → Option ℤ → Type 0
ShowsInteger None None = Unit {0}
ShowsInteger (Some scaled) (Some z) = (scaled.negative ≡ is_negative z) × (scaled.size ≡ unsigned_abs z)
ShowsInteger _ _ = ⊥

-- a number has this many digits, and 0 has one
pub record HasDigits (n len : ℕ) : Type 0 where
  pub some : 1 ≤ len
  pub below : n < 10 ^ len
  pub above : 1 < len → 10 ^ (len - 1) ≤ n

-- the nibbles at the front of an array, if there are any
abbrev pub ShowsNibbles : Option (List ℕ) → ℕ → Option (List ℕ) → Type 0
ShowsNibbles held count nibbles = MatchOption held (nibbles ≡ None) (λ xs. nibbles ≡ Some (take count xs))
