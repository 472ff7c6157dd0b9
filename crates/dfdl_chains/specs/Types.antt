-- The simple types that are carried, by their names ('Simple Types').
use Rattle.std.specs.Prelude.{ℕ, List, [], ◌∷◌, Option, codes, bytes_eq}
use Rattle.std.specs.List.{find}
use Rattle.dfdl_forms.specs.declared.simple.Simple.{Simple}
use Rattle.dfdl_forms.specs.declared.simple.Simple.TheVariants as simple

-- the local name of a simple type in XML Schema
abbrev pub name_of : Simple → List ℕ
name_of simple.String = codes "string"
name_of simple.HexBinary = codes "hexBinary"
name_of simple.Boolean = codes "boolean"
name_of simple.Decimal = codes "decimal"
name_of simple.Integer = codes "integer"
name_of simple.NonNegativeInteger = codes "nonNegativeInteger"
name_of simple.Byte = codes "byte"
name_of simple.Short = codes "short"
name_of simple.Int = codes "int"
name_of simple.Long = codes "long"
name_of simple.UnsignedByte = codes "unsignedByte"
name_of simple.UnsignedShort = codes "unsignedShort"
name_of simple.UnsignedInt = codes "unsignedInt"
name_of simple.UnsignedLong = codes "unsignedLong"

-- all of them
unfoldable pub simple_types : List Simple
simple_types =
    simple.String ∷ simple.HexBinary ∷ simple.Boolean ∷ simple.Decimal ∷ simple.Integer
    ∷ simple.NonNegativeInteger ∷ simple.Byte ∷ simple.Short ∷ simple.Int ∷ simple.Long
    ∷ simple.UnsignedByte ∷ simple.UnsignedShort ∷ simple.UnsignedInt ∷ simple.UnsignedLong ∷ []

-- the simple type of a local name
abbrev pub simple_named : List ℕ → Option Simple
simple_named local = find (λ simple. bytes_eq (name_of simple) local) simple_types
