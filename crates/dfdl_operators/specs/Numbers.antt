-- The number that a value is, and the value that carries a number.
use Rattle.std.specs.Prelude.{◌==◌, ◌&&◌, ◌^◌, if◌then◌else◌, Option, Some, None, ok_or, Result, Err, ℤ, pos, int_le, int_lt, unsigned_abs}
use Rattle.dfdl_decimal.specs.Decimal.{DecimalNumber, shortest_from, is_small}
use Rattle.dfdl_value.specs.Types.{least_signed, greatest_signed}
use Rattle.dfdl_value.specs.declared.value.Value.{Value}
use Rattle.dfdl_value.specs.declared.value.Value.TheVariants.{Int, Uns, Dec}
use Rattle.dfdl_operators.specs.declared.fault.OperatorFault.{OperatorFault}
use Rattle.dfdl_operators.specs.declared.fault.OperatorFault.TheVariants.{PastRange, WrongType}

-- the number that a value is, if it is one
abbrev pub number_of : Value → Option DecimalNumber
number_of (Int z) = Some (record { mantissa = z; scale = 0 })
number_of (Uns n) = Some (record { mantissa = pos n; scale = 0 })
number_of (Dec d) = Some d
number_of _ = None

-- the value that carries a whole number: a signed one from -2^127 to 2^127 - 1, an unsigned one
-- above these, and none below -2^127 or above 2^128 - 1
abbrev pub held_whole : ℤ → Option Value
held_whole z =
    if int_le (least_signed 128) z && int_le z (greatest_signed 128) then Some (Int z)
    else if int_le (pos 0) z && int_lt z (pos (2 ^ 128)) then Some (Uns (unsigned_abs z))
    else None

-- the value that carries a number in its shortest form: one with a fraction has at most 38 digits,
-- at most 255 of them after the point
abbrev pub held_shortest : DecimalNumber → Option Value
held_shortest d =
    if d.scale == 0 then held_whole d.mantissa
    else if is_small d then Some (Dec d) else None

-- the value that carries a number, which is the same however the number is written
abbrev pub held : DecimalNumber → Option Value
held d = held_shortest (shortest_from d.scale d.mantissa)

-- what an operator answers
abbrev pub Answer : Type 0
Answer = Result Value OperatorFault

-- the answer of an operator whose result is this number
abbrev pub carried : DecimalNumber → Answer
carried d = ok_or (held d) PastRange

-- the answer of an operator on one number, whose operand may be none
abbrev pub on_number : (DecimalNumber → Answer) → Option DecimalNumber → Answer
on_number f (Some d) = f d
on_number f None = Err WrongType

-- the answer of an operator on two numbers
abbrev pub on_numbers : (DecimalNumber → DecimalNumber → Answer) → Option DecimalNumber → Option DecimalNumber → Answer
on_numbers f (Some d) (Some e) = f d e
on_numbers f _ _ = Err WrongType
