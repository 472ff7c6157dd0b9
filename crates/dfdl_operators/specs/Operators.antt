-- What each operator on numbers answers.
use Rattle.std.specs.Prelude.{ℕ, ◌*◌, ◌/◌, ◌%◌, ◌-◌, ◌^◌, ◌==◌, max, Bool, not, if◌then◌else◌, Option, Some, None, Err, ℤ, pos, neg_ℤ, int_lt, unsigned_abs}
use Rattle.std.specs.Bool.{beq}
use Rattle.std.specs.Int.{int_div_euclid}
use Rattle.dfdl_decimal.specs.Arithmetic.{sum_of, negated_of, product_of, quotient_of}
use Rattle.dfdl_decimal.specs.Decimal.{DecimalNumber, with_sign}
use Rattle.dfdl_operators.specs.declared.fault.OperatorFault.TheVariants.{NoQuotient}
use Rattle.dfdl_operators.specs.Numbers.{Answer, carried}

-- the sum
abbrev pub sum_answer : DecimalNumber → DecimalNumber → Answer
sum_answer a b = carried (sum_of a b)

-- the difference
abbrev pub difference_answer : DecimalNumber → DecimalNumber → Answer
difference_answer a b = carried (sum_of a (negated_of b))

-- the product
abbrev pub product_answer : DecimalNumber → DecimalNumber → Answer
product_answer a b = carried (product_of a b)

-- what a quotient that is written exactly, or is not, answers
abbrev pub exactly : Option DecimalNumber → Answer
exactly None = Err NoQuotient
exactly (Some d) = carried d

-- what a division answers, by a divisor that may be zero
abbrev pub divided_by : DecimalNumber → Answer → Answer
divided_by divisor answer = if unsigned_abs divisor.mantissa == 0 then Err NoQuotient else answer

-- the quotient, exact with at most 18 digits after the point
abbrev pub quotient_answer : DecimalNumber → DecimalNumber → Answer
quotient_answer a b = divided_by b (exactly (quotient_of a b))

-- the signs of the numbers differ
abbrev pub signs_differ : DecimalNumber → DecimalNumber → Bool
signs_differ a b = not (beq (int_lt a.mantissa (pos 0)) (int_lt b.mantissa (pos 0)))

-- the whole part of the quotient: what stands behind its point is cut off, so it goes toward zero
abbrev pub whole_quotient_of : DecimalNumber → DecimalNumber → DecimalNumber
whole_quotient_of a b = record {
  mantissa = with_sign (signs_differ a b)
      (unsigned_abs a.mantissa * 10 ^ b.scale / (unsigned_abs b.mantissa * 10 ^ a.scale));
  scale = 0;
}

-- the quotient, cut toward zero
abbrev pub whole_quotient_answer : DecimalNumber → DecimalNumber → Answer
whole_quotient_answer a b = divided_by b (carried (whole_quotient_of a b))

-- the digits of a number at a greater scale
abbrev pub digits_at : ℕ → DecimalNumber → ℕ
digits_at scale d = unsigned_abs d.mantissa * 10 ^ (scale - d.scale)

-- what is left of the dividend, with its sign, at the greater scale of the two
abbrev pub remainder_of : DecimalNumber → DecimalNumber → DecimalNumber
remainder_of a b =
    let scale = max a.scale b.scale in
    record {
      mantissa = with_sign (int_lt a.mantissa (pos 0)) (digits_at scale a % digits_at scale b);
      scale = scale;
    }

-- the remainder
abbrev pub remainder_answer : DecimalNumber → DecimalNumber → Answer
remainder_answer a b = divided_by b (carried (remainder_of a b))

-- the number with the other sign
abbrev pub negated_answer : DecimalNumber → Answer
negated_answer a = carried (negated_of a)

-- the number without its sign
abbrev pub magnitude_answer : DecimalNumber → Answer
magnitude_answer a = carried (record { mantissa = pos (unsigned_abs a.mantissa); scale = a.scale })

-- the greatest whole number that isn't above
abbrev pub floor_of : DecimalNumber → ℤ
floor_of a = int_div_euclid a.mantissa (pos (10 ^ a.scale))

-- the number, rounded down to a whole one
abbrev pub floor_answer : DecimalNumber → Answer
floor_answer a = carried (record { mantissa = floor_of a; scale = 0 })

-- the number, rounded up to a whole one: the least that isn't below
abbrev pub ceiling_answer : DecimalNumber → Answer
ceiling_answer a = carried (record { mantissa = neg_ℤ (floor_of (negated_of a)); scale = 0 })
