-- The size of a number that is read digit by digit, without its trailing zeros.
use Rattle.std.specs.Prelude.{◌≡◌, ℕ, ◌*◌, ◌%◌, ◌^◌, ◌≤◌, Bool, true, false, List, Option, Some, None, MatchOption}
use Rattle.dfdl_packed.specs.declared.size.Size.{Size}
use Rattle.dfdl_packed.specs.declared.size.SignedSize.{SignedSize}
use Rattle.dfdl_packed.specs.Digits.{digits_number, are_digits}
use Rattle.dfdl_packed.specs.Zoned.{are_plain, number_behind}

-- the number, where 128 bits can hold it
abbrev pub IsHeld : Option ℕ → ℕ → Type 0
IsHeld held m = MatchOption held (2 ^ 128 ≤ m) (λ x. x ≡ m)

-- A number is one that doesn't end in zero, times a power of ten. Where 128 bits can't hold the former it isn't kept.
abbrev pub Shows : Size → ℕ → Type 0
Shows size n = (m : ℕ) × (n ≡ m * 10 ^ size.zeros) × (m % 10 ≡ 0 → m ≡ 0) × IsHeld size.mantissa m

-- a number with its sign, if there is one
abbrev pub ShowsSigned : Option SignedSize → Option (Bool × ℕ) → Type 0
ShowsSigned None None = Unit {0}
ShowsSigned (Some size) (Some number) = (size.negative ≡ number.0) × Shows size.size number.1
ShowsSigned _ _ = ⊥

-- the number of digits, if they are digits
abbrev pub ShowsDigits : Option Size → List ℕ → Type 0
ShowsDigits None digits = are_digits digits ≡ false
ShowsDigits (Some size) digits = (are_digits digits ≡ true) × Shows size (digits_number digits)

-- the number of digits, if they are digits
abbrev pub ShowsShort : Option ℕ → List ℕ → Type 0
ShowsShort None digits = are_digits digits ≡ false
ShowsShort (Some n) digits = (are_digits digits ≡ true) × (n ≡ digits_number digits)

-- the number that goes on with digits as text, if they are digits
abbrev pub ShowsPlain : Option ℕ → ℕ → List ℕ → Type 0
ShowsPlain None front chars = are_plain chars ≡ false
ShowsPlain (Some n) front chars = (are_plain chars ≡ true) × (n ≡ number_behind front chars)

-- the size of the number that goes on with digits as text, if they are digits
abbrev pub ShowsBehind : Option Size → Size → List ℕ → Type 0
ShowsBehind None size chars = are_plain chars ≡ false
ShowsBehind (Some new) size chars = (are_plain chars ≡ true) × ((n : ℕ) → Shows size n → Shows new (number_behind n chars))
