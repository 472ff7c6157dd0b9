-- Rounding to a whole number. 'Properties Specific to Number with Text Representation' (textNumberRoundingMode).
use Rattle.std.specs.Prelude.{ℕ, ◌+◌, ◌*◌, ◌/◌, ◌%◌, ◌==◌, ◌&&◌, ◌||◌, Bool, true, false, not, nat_lt, nat_le, Option, Some, None, if◌then◌else◌}
use Rattle.dfdl_forms.specs.declared.number.Rounding.{Rounding}
use Rattle.dfdl_forms.specs.declared.number.Rounding.TheVariants.{Ceiling, Floor, Down, Up, HalfEven, HalfDown, HalfUp, Unnecessary}

-- The size of a quotient that is not whole goes away from zero: `quotient` is its whole part, `rest` what is left of the
-- dividend, and `divisor` the divisor.
abbrev pub goes_up : Rounding → Bool → ℕ → ℕ → ℕ → Bool
goes_up Ceiling negative quotient rest divisor = not negative
goes_up Floor negative quotient rest divisor = negative
goes_up Down negative quotient rest divisor = false
goes_up Up negative quotient rest divisor = true
goes_up HalfEven negative quotient rest divisor = nat_lt divisor (2 * rest) || ((2 * rest == divisor) && (quotient % 2 == 1))
goes_up HalfDown negative quotient rest divisor = nat_lt divisor (2 * rest)
goes_up HalfUp negative quotient rest divisor = nat_le divisor (2 * rest)
goes_up Unnecessary negative quotient rest divisor = false

-- a number may be rounded
abbrev pub may_round : Rounding → Bool
may_round Unnecessary = false
may_round _ = true

-- the size of a quotient, rounded by a mode, if that is allowed
abbrev pub rounded : Rounding → Bool → ℕ → ℕ → Option ℕ
rounded mode negative dividend divisor =
    if dividend % divisor == 0 then Some (dividend / divisor)
    else if may_round mode
    then Some (if goes_up mode negative (dividend / divisor) (dividend % divisor) divisor then dividend / divisor + 1 else dividend / divisor)
    else None
