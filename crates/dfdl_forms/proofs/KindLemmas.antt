-- The forms of the simple types.
use Rattle.std.proofs.Common.{lit≤}
use Rattle.dfdl_forms.specs.Types.{form_of, HasFewBits}
use Rattle.dfdl_forms.specs.declared.simple.Simple.{Simple}
use Rattle.dfdl_forms.specs.declared.simple.Simple.TheVariants.{String, HexBinary, Boolean, Decimal, Integer, NonNegativeInteger, Byte, Short, Int as IntType, Long, UnsignedByte, UnsignedShort, UnsignedInt, UnsignedLong}

-- whole numbers of a type have from 1 to 128 bits
pub few_bits : (kind : Simple) → HasFewBits (form_of kind)
few_bits String = tt
few_bits HexBinary = tt
few_bits Boolean = tt
few_bits Decimal = tt
few_bits Integer = (lit≤ tt, lit≤ tt)
few_bits NonNegativeInteger = (lit≤ tt, lit≤ tt)
few_bits Byte = (lit≤ tt, lit≤ tt)
few_bits Short = (lit≤ tt, lit≤ tt)
few_bits IntType = (lit≤ tt, lit≤ tt)
few_bits Long = (lit≤ tt, lit≤ tt)
few_bits UnsignedByte = (lit≤ tt, lit≤ tt)
few_bits UnsignedShort = (lit≤ tt, lit≤ tt)
few_bits UnsignedInt = (lit≤ tt, lit≤ tt)
few_bits UnsignedLong = (lit≤ tt, lit≤ tt)
