-- Mirror for the prover: numbers that the private calls hand on, taken apart.
use Rattle.std.specs.Prelude.{◌≡◌, ◌≢◌, ◌^◌, ◌<◌, ◌%◌, pos, int_lt}
use Rattle.dfdl_decimal.specs.Decimal.{DecimalNumber, with_sign}
use Rattle.dfdl_operators.specs.declared.number.Number.{Number}

-- the number itself
abbrev pub shown : Number → DecimalNumber
shown n = record { mantissa = with_sign n.negative n.magnitude; scale = n.scale }

-- a fraction has at most 38 digits, at most 255 of them after the point, and no zero at its end
pub record IsShort (n : Number) : Type 0 where
  pub digits : 0 < n.scale → n.magnitude < 10 ^ 38
  pub places : n.scale < 256
  pub last : 0 < n.scale → n.magnitude % 10 ≢ 0

-- zero has no sign
abbrev pub IsSigned : Number → Type 0
IsSigned n = n.negative ≡ int_lt (with_sign n.negative n.magnitude) (pos 0)
