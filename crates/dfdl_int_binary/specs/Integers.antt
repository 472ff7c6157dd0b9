-- Binary integers and binary decimals. 'Simple Types' (binary number representation, binaryDecimalVirtualPoint).
use Rattle.std.specs.Prelude.{ℕ, ◌-◌, ◌^◌, ℤ, pos, ◌*ℤ◌, nat_lt, nat_le, List, Option, Some, None, if◌then◌else◌}
use Rattle.std.specs.Option.{option_map}
use Rattle.dfdl_bits.specs.Bits.{number_of}
use Rattle.dfdl_decimal.specs.Decimal.{DecimalNumber, fixed_of}
use Rattle.dfdl_forms.specs.Types.{form_of}
use Rattle.dfdl_forms.specs.declared.simple.Form.{Form}
use Rattle.dfdl_forms.specs.declared.simple.Form.TheVariants.{Signed, Unsigned, Fixed}
use Rattle.dfdl_value.specs.declared.value.Value.{Value}
use Rattle.dfdl_value.specs.declared.value.Value.TheVariants.{Int, Uns, Dec}
use Rattle.dfdl_forms.specs.declared.binary.IntForm.{IntForm}
use Rattle.dfdl_int_binary.specs.Signed.{signed_of, pattern_of}

-- the number of the field that begins at a bit
abbrev pub field_of : IntForm → List ℕ → ℕ → ℕ
field_of form bytes bit = number_of bytes bit form.bits form.bytes_by form.bits_by

-- What a field's number is read as. Signed types and decimals are in two's complement. A decimal is divided by ten to
-- the power of the virtual point, and is of no type where it has more digits than a decimal can have.
abbrev pub value_in : Form → ℕ → ℕ → ℕ → Option Value
value_in (Signed most) bits point number = Some (Int (signed_of bits number))
value_in (Unsigned most) bits point number = Some (Uns number)
value_in Fixed bits point number = option_map Dec (fixed_of (record { mantissa = signed_of bits number; scale = point }))
value_in _ bits point number = None

-- the value that the number of a field is read as
abbrev pub integer_reading : IntForm → ℕ → Option Value
integer_reading form number = value_in (form_of form.kind) form.bits form.point number

-- a decimal times ten to the power of the virtual point, where that is whole: it has no trailing zero after its point
abbrev pub scaled_of : DecimalNumber → ℕ → Option ℤ
scaled_of d point = if nat_le d.scale point then Some (d.mantissa *ℤ pos (10 ^ (point - d.scale))) else None

-- the pattern of an integer, if there is an integer
abbrev pub pattern_if : ℕ → Option ℤ → Option ℕ
pattern_if bits None = None
pattern_if bits (Some z) = pattern_of bits z

-- What number a value is written as, if the field's bits can hold it.
abbrev pub number_in : Form → ℕ → ℕ → Value → Option ℕ
number_in (Signed most) bits point (Int z) = pattern_of bits z
number_in (Unsigned most) bits point (Uns n) = if nat_lt n (2 ^ bits) then Some n else None
number_in Fixed bits point (Dec d) = pattern_if bits (scaled_of d point)
number_in _ bits point _ = None

-- the number that a value is written as
abbrev pub integer_writing : IntForm → Value → Option ℕ
integer_writing form value = number_in (form_of form.kind) form.bits form.point value
