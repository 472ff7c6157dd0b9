-- Mirror for the prover: the whole numbers that the private calls hand on.
use Rattle.std.specs.Prelude.{◌≡◌, ◌≤◌, ◌^◌, Option, Some, None, Result, Ok, Err, ℤ, unsigned_abs}
use Rattle.dfdl_decimal.specs.Decimal.{with_sign}
use Rattle.dfdl_value.specs.declared.integer.Whole.{Whole}
use Rattle.dfdl_value.specs.declared.read.NoValue.{NoValue}
use Rattle.dfdl_value.specs.declared.read.NoValue.TheVariants.{NotAValue, PastType}

-- the number by its sign and its magnitude, or why there is none: it is no whole number, or its
-- magnitude takes more than 128 bits
abbrev pub IsWholeOf : Option ℤ → Result Whole NoValue → Type 0
IsWholeOf number (Ok whole) = number ≡ Some (with_sign whole.negative whole.magnitude)
IsWholeOf number (Err NotAValue) = number ≡ None
IsWholeOf number (Err PastType) = (z : ℤ) × (number ≡ Some z) × (2 ^ 128 ≤ unsigned_abs z)
