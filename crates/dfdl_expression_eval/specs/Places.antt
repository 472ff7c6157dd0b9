-- The places that the indexes of a path name.
use Rattle.std.specs.Prelude.{ℕ, ◌^◌, ◌==◌, ◌&&◌, if◌then◌else◌, List, [], ◌∷◌, Option, Some, None, ℤ, pos, int_le, int_lt, unsigned_abs}
use Rattle.dfdl_decimal.specs.Decimal.{DecimalNumber}
use Rattle.dfdl_operators.specs.Numbers.{number_of}
use Rattle.dfdl_value.specs.declared.value.Value.{Value}

-- a whole number from 0 to 2^64 - 1 as a place; 0, at which no item stands, for all others
abbrev pub place_at : ℤ → ℕ
place_at z = if int_le (pos 0) z && int_lt z (pos (2 ^ 64)) then unsigned_abs z else 0

-- the place that a number names, counted from 1: 0, at which no item stands, for one that isn't whole. The decimals of values
-- have no zeros at the end of what stands behind the point, so one with such digits isn't whole.
abbrev pub place_of : DecimalNumber → ℕ
place_of d = if d.scale == 0 then place_at d.mantissa else 0

-- the place that a value names, if it is a number
abbrev pub place_in : Option DecimalNumber → Option ℕ
place_in None = None
place_in (Some d) = Some (place_of d)

-- one place before others
abbrev pub with_place : Option ℕ → Option (List ℕ) → Option (List ℕ)
with_place (Some place) (Some places) = Some (place ∷ places)
with_place (Some place) None = None
with_place None places = None

-- the places that values name, if each is a number
abbrev pub places_of : List Value → Option (List ℕ)
places_of [] = Some []
places_of (v ∷ vs) = with_place (place_in (number_of v)) (places_of vs)
