-- What a decimal number says of a simple type.
use Rattle.std.specs.Prelude.{◌==◌, if◌then◌else◌, Option, Some, None, Err, ℤ}
use Rattle.dfdl_forms.specs.declared.simple.Form.{Form}
use Rattle.dfdl_forms.specs.declared.simple.Form.TheVariants.{Signed, Unsigned, Fixed}
use Rattle.dfdl_value.specs.declared.read.NoValue.TheVariants.{NotAValue}
use Rattle.dfdl_decimal.specs.Decimal.{DecimalNumber, shortest_from, fixed_of}
use Rattle.dfdl_value.specs.ReadValues.{Reading, signed_reading, unsigned_reading, fixed_reading}

-- the whole number that a decimal number is, if it is one
abbrev pub whole_if_short : DecimalNumber → Option ℤ
whole_if_short shortest = if shortest.scale == 0 then Some shortest.mantissa else None

-- the whole number that a decimal is, if it is one
abbrev pub whole_of : DecimalNumber → Option ℤ
whole_of d = whole_if_short (shortest_from d.scale d.mantissa)

-- what a number says of values of a form: an integer has no fraction, and other types than numbers
-- have no number
abbrev pub number_reading : Form → DecimalNumber → Reading
number_reading (Signed bits) d = signed_reading bits (whole_of d)
number_reading (Unsigned bits) d = unsigned_reading bits (whole_of d)
number_reading Fixed d = fixed_reading (fixed_of d)
number_reading _ d = Err NotAValue
