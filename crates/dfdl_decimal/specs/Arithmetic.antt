-- Sums, products, quotients and the order of decimal numbers, over the integers and powers of ten.
use Rattle.std.specs.Prelude.{ℕ, ◌+◌, ◌-◌, ◌*◌, ◌/◌, ◌%◌, ◌^◌, ◌==◌, max, Bool, not, if◌then◌else◌, Option, Some, None, ok_or, Result, Err, ℤ, pos, neg_ℤ, ◌+ℤ◌, ◌*ℤ◌, int_lt, unsigned_abs}
use Rattle.std.specs.Bool.{beq}
use Rattle.std.specs.declared.cmp.Ordering.{Ordering}
use Rattle.std.specs.Ordering.{int_cmp}
use Rattle.dfdl_decimal.specs.declared.fixed.DivFault.{DivFault}
use Rattle.dfdl_decimal.specs.declared.fixed.DivFault.TheVariants.{Zero, Inexact, Overflow}
use Rattle.dfdl_decimal.specs.Decimal.{DecimalNumber, fixed_of, with_sign}

-- the mantissa that the number has at a greater scale
abbrev pub mantissa_at : ℕ → DecimalNumber → ℤ
mantissa_at scale d = d.mantissa *ℤ pos (10 ^ (scale - d.scale))

-- the sum, at the greater scale of the two
abbrev pub sum_of : DecimalNumber → DecimalNumber → DecimalNumber
sum_of a b =
    let scale = max a.scale b.scale in
    record { mantissa = mantissa_at scale a +ℤ mantissa_at scale b; scale = scale }

-- the number with the other sign
abbrev pub negated_of : DecimalNumber → DecimalNumber
negated_of d = record { mantissa = neg_ℤ d.mantissa; scale = d.scale }

-- the product
abbrev pub product_of : DecimalNumber → DecimalNumber → DecimalNumber
product_of a b = record { mantissa = a.mantissa *ℤ b.mantissa; scale = a.scale + b.scale }

-- the quotient of two whole numbers at 18 digits after the point, if these write it exactly
abbrev pub exact_quotient : Bool → ℕ → ℕ → Option DecimalNumber
exact_quotient negative dividend divisor =
    if dividend % divisor == 0
    then Some (record { mantissa = with_sign negative (dividend / divisor); scale = 18 }) else None

-- the quotient at 18 digits after the point, if these write it exactly; it is negative where the
-- signs differ
abbrev pub quotient_of : DecimalNumber → DecimalNumber → Option DecimalNumber
quotient_of a b =
    let negative = not (beq (int_lt a.mantissa (pos 0)) (int_lt b.mantissa (pos 0))) in
    exact_quotient negative (unsigned_abs a.mantissa * 10 ^ (b.scale + 18))
    (unsigned_abs b.mantissa * 10 ^ a.scale)

-- how the numbers compare
abbrev pub comparison_of : DecimalNumber → DecimalNumber → Ordering
comparison_of a b = int_cmp (a.mantissa *ℤ pos (10 ^ b.scale)) (b.mantissa *ℤ pos (10 ^ a.scale))

-- what a quotient that is written exactly, or is not, answers
abbrev pub quotient_answer : Option DecimalNumber → Result DecimalNumber DivFault
quotient_answer None = Err Inexact
quotient_answer (Some d) = ok_or (fixed_of d) Overflow

-- what a division answers
abbrev pub division_of : DecimalNumber → DecimalNumber → Result DecimalNumber DivFault
division_of a b =
    if unsigned_abs b.mantissa == 0 then Err Zero else quotient_answer (quotient_of a b)
