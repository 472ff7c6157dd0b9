-- The form of each simple type's values.
use Rattle.std.specs.Prelude.{◌≤◌}
use Rattle.dfdl_forms.specs.declared.simple.Simple.{Simple}
use Rattle.dfdl_forms.specs.declared.simple.Simple.TheVariants.{String, HexBinary, Boolean, Decimal, Integer, NonNegativeInteger, Byte, Short, Int as IntType, Long, UnsignedByte, UnsignedShort, UnsignedInt, UnsignedLong}
use Rattle.dfdl_forms.specs.declared.simple.Form.{Form}
use Rattle.dfdl_forms.specs.declared.simple.Form.TheVariants.{Signed, Unsigned, Fixed, Characters, Truths, Octets}

-- the form of each type's values, and the bits of each integer type
abbrev pub form_of : Simple → Form
form_of Byte = Signed 8
form_of Short = Signed 16
form_of IntType = Signed 32
form_of Long = Signed 64
form_of Integer = Signed 128
form_of UnsignedByte = Unsigned 8
form_of UnsignedShort = Unsigned 16
form_of UnsignedInt = Unsigned 32
form_of UnsignedLong = Unsigned 64
form_of NonNegativeInteger = Unsigned 128
form_of Decimal = Fixed
form_of String = Characters
form_of Boolean = Truths
form_of HexBinary = Octets

-- whole numbers of this form have from 1 to 128 bits
abbrev pub HasFewBits : Form → Type 0
HasFewBits (Signed bits) = (1 ≤ bits) × (bits ≤ 128)
HasFewBits (Unsigned bits) = (1 ≤ bits) × (bits ≤ 128)
HasFewBits _ = Unit {0}
