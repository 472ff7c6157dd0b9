-- Elements of which types are built.
use Rattle.std.specs.Prelude.{Bool, true, false}
use Rattle.dfdl_forms.specs.declared.simple.Simple.{Simple}
use Rattle.dfdl_forms.specs.declared.simple.Simple.TheVariants.{UnsignedByte, UnsignedShort, UnsignedInt, UnsignedLong}
use Rattle.dfdl_checks.specs.declared.purpose.Purpose.{Purpose}
use Rattle.dfdl_checks.specs.declared.purpose.Purpose.TheVariants.{Parsing, Unparsing}

-- the unsigned integer types whose values have whole bytes
abbrev pub is_whole_type : Simple → Bool
is_whole_type UnsignedByte = true
is_whole_type UnsignedShort = true
is_whole_type UnsignedInt = true
is_whole_type UnsignedLong = true
is_whole_type _ = false

-- elements of these types are built: all for parsing
abbrev pub is_built_type : Purpose → Simple → Bool
is_built_type Parsing simple = true
is_built_type Unparsing simple = is_whole_type simple
