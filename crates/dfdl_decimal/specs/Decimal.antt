-- Decimal numbers, and those that `Fixed` carries.
use Rattle.std.specs.Prelude.{◌≡◌, ◌≢◌, ℕ, zero, suc, Bool, ◌<◌, ◌%◌, ◌^◌, ◌&&◌, ◌==◌, nat_lt, if◌then◌else◌, Option, Some, None, ℤ, pos, neg_ℤ, ◌*ℤ◌, int_div, unsigned_abs}

-- the number `mantissa` divided by ten to the power of `scale`
pub record DecimalNumber : Type 0 where
  pub mantissa : ℤ
  pub scale : ℕ

-- the number in the one form that `Fixed` has for it: at most 38 digits, at most 255 of them after
-- the point, and no trailing zero after the point
pub record IsFixed (d : DecimalNumber) : Type 0 where
  pub digits : unsigned_abs d.mantissa < 10 ^ 38
  pub places : d.scale < 256
  pub shortest : 0 < d.scale → unsigned_abs d.mantissa % 10 ≢ 0

-- the number with the sign that is given
abbrev pub with_sign : Bool → ℕ → ℤ
with_sign negative n = if negative then neg_ℤ (pos n) else pos n

-- both write the same number
abbrev pub SameNumber : DecimalNumber → DecimalNumber → Type 0
SameNumber d e = d.mantissa *ℤ pos (10 ^ e.scale) ≡ e.mantissa *ℤ pos (10 ^ d.scale)

-- the number without trailing zeros after the point
abbrev pub shortest_from : ℕ → ℤ → DecimalNumber
shortest_from zero mantissa = record { mantissa = mantissa; scale = zero }
shortest_from (suc scale) mantissa =
    if unsigned_abs mantissa % 10 == 0 then shortest_from scale (int_div mantissa (pos 10))
    else record { mantissa = mantissa; scale = suc scale }

-- it has at most 38 digits, at most 255 of them after the point
abbrev pub is_small : DecimalNumber → Bool
is_small d = nat_lt (unsigned_abs d.mantissa) (10 ^ 38) && nat_lt d.scale 256

-- the form that `Fixed` has for the number, if it has one
abbrev pub fixed_of : DecimalNumber → Option DecimalNumber
fixed_of d =
    let shortest = shortest_from d.scale d.mantissa in
    if is_small shortest then Some shortest else None
