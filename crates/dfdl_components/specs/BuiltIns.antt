-- The simple types of XML Schema ('XML Schema Part 2: Datatypes'), and which of them the profile
-- carries ('Simple Types').
use Rattle.std.specs.Prelude.{ℕ, List, [], ◌∷◌, codes}

-- the simple types that are carried
unfoldable pub carried_types : List (List ℕ)
carried_types =
    codes "string" ∷ codes "hexBinary" ∷ codes "boolean" ∷ codes "decimal" ∷ codes "integer"
    ∷ codes "nonNegativeInteger" ∷ codes "byte" ∷ codes "short" ∷ codes "int" ∷ codes "long"
    ∷ codes "unsignedByte" ∷ codes "unsignedShort" ∷ codes "unsignedInt" ∷ codes "unsignedLong"
    ∷ []

-- the others that XML Schema knows
unfoldable pub other_types : List (List ℕ)
other_types =
    codes "float" ∷ codes "double" ∷ codes "duration" ∷ codes "dateTime" ∷ codes "time" ∷ codes "date"
    ∷ codes "gYearMonth" ∷ codes "gYear" ∷ codes "gMonthDay" ∷ codes "gDay" ∷ codes "gMonth"
    ∷ codes "base64Binary" ∷ codes "anyURI" ∷ codes "QName" ∷ codes "NOTATION"
    ∷ codes "normalizedString" ∷ codes "token" ∷ codes "language" ∷ codes "NMTOKEN"
    ∷ codes "NMTOKENS" ∷ codes "Name" ∷ codes "NCName" ∷ codes "ID" ∷ codes "IDREF" ∷ codes "IDREFS"
    ∷ codes "ENTITY" ∷ codes "ENTITIES" ∷ codes "nonPositiveInteger" ∷ codes "negativeInteger"
    ∷ codes "positiveInteger" ∷ codes "anyType" ∷ codes "anySimpleType" ∷ []
