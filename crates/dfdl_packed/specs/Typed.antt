-- The value of a type that an integer and a virtual point stand for. 'Simple Types'.
use Rattle.std.specs.Prelude.{ℕ, ◌*◌, ◌^◌, ℤ, pos, ◌*ℤ◌, Bool, Option, Some, None, Result, Ok, Err}
use Rattle.dfdl_decimal.specs.Decimal.{with_sign}
use Rattle.dfdl_forms.specs.declared.simple.Form.{Form}
use Rattle.dfdl_forms.specs.declared.simple.Form.TheVariants.{Signed, Unsigned, Fixed}
use Rattle.dfdl_value.specs.declared.read.NoValue.TheVariants.{NotAValue, PastType as PastTypeOfValue}
use Rattle.dfdl_value.specs.declared.value.Value.{Value}
use Rattle.dfdl_value.specs.declared.value.Value.TheVariants.{Int, Uns, Dec}
use Rattle.dfdl_value.specs.Numbers.{number_reading}
use Rattle.dfdl_value.specs.ReadValues.{Reading}
use Rattle.dfdl_int_binary.specs.Integers.{scaled_of}
use Rattle.dfdl_packed.specs.declared.fault.PackedFault.{PackedFault}
use Rattle.dfdl_packed.specs.declared.fault.PackedFault.TheVariants.{BadNibble, PastType}

-- a value, or why digits write none: those of a fraction stand for no integer
abbrev pub of_value : Reading → Result Value PackedFault
of_value (Ok value) = Ok value
of_value (Err NotAValue) = Err BadNibble
of_value (Err PastTypeOfValue) = Err PastType

-- A sign and a size, divided by ten to the power of the virtual point, as a value of a form. A negative zero is zero.
abbrev pub value_in : Form → ℕ → Bool → ℕ → Result Value PackedFault
value_in form point negative size = of_value (number_reading form (record { mantissa = with_sign negative size; scale = point }))

-- The integer that a value stands for: times ten to the power of the virtual point, where that is whole.
abbrev pub integer_in : Form → ℕ → Value → Option ℤ
integer_in (Signed bits) point (Int z) = Some (z *ℤ pos (10 ^ point))
integer_in (Unsigned bits) point (Uns n) = Some (pos (n * 10 ^ point))
integer_in Fixed point (Dec d) = scaled_of d point
integer_in _ point _ = None
