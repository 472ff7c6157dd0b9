-- The functions of expressions: their names, how many arguments each takes, what fits them, and what it gives.
use Rattle.std.specs.Prelude.{ℕ, ◌+◌, ◌==◌, nat_le, Bool, true, false, not, ◌&&◌, ◌||◌, if◌then◌else◌, Option, Some, None, List, [], ◌∷◌, length, bytes_eq, codes, option_map}
use Rattle.std.specs.List.{find}
use Rattle.dfdl_forms.specs.declared.simple.Simple.{Simple}
use Rattle.dfdl_forms.specs.declared.simple.Simple.TheVariants as simple
use Rattle.dfdl_expression_types.specs.declared.types.ValueType.TheVariants as one
use Rattle.dfdl_expression_types.specs.declared.types.Types.{Types}
use Rattle.dfdl_expression_types.specs.declared.callee.Callee.{Callee}
use Rattle.dfdl_expression_types.specs.declared.callee.Callee.TheVariants as callee
use Rattle.dfdl_expression_types.specs.declared.callee.Need.{Need}
use Rattle.dfdl_expression_types.specs.declared.callee.Need.TheVariants as need
use Rattle.dfdl_expression_types.specs.declared.callee.Given.{Given}
use Rattle.dfdl_expression_types.specs.declared.callee.Given.TheVariants as given
use Rattle.dfdl_expression_types.specs.declared.callee.Argument.{Argument}
use Rattle.dfdl_expression_types.specs.declared.naming.Family.{Family}
use Rattle.dfdl_expression_types.specs.declared.naming.Family.TheVariants as family
use Rattle.dfdl_expression_types.specs.declared.statics.Statics.{Statics}
use Rattle.dfdl_expression_types.specs.Declarations.{namespace_of}
use Rattle.dfdl_expression_types.specs.TypeSets.{types, only, every, are_apart, type_of}
use Rattle.dfdl_expression_types.specs.Words.{local_of, prefix_of}

-- the name of a simple type in XML Schema
abbrev pub name_of : Simple → List ℕ
name_of simple.String = codes "string"
name_of simple.HexBinary = codes "hexBinary"
name_of simple.Boolean = codes "boolean"
name_of simple.Decimal = codes "decimal"
name_of simple.Integer = codes "integer"
name_of simple.NonNegativeInteger = codes "nonNegativeInteger"
name_of simple.Byte = codes "byte"
name_of simple.Short = codes "short"
name_of simple.Int = codes "int"
name_of simple.Long = codes "long"
name_of simple.UnsignedByte = codes "unsignedByte"
name_of simple.UnsignedShort = codes "unsignedShort"
name_of simple.UnsignedInt = codes "unsignedInt"
name_of simple.UnsignedLong = codes "unsignedLong"

-- all of them
unfoldable pub simple_types : List Simple
simple_types =
    simple.String ∷ simple.HexBinary ∷ simple.Boolean ∷ simple.Decimal ∷ simple.Integer
    ∷ simple.NonNegativeInteger ∷ simple.Byte ∷ simple.Short ∷ simple.Int ∷ simple.Long
    ∷ simple.UnsignedByte ∷ simple.UnsignedShort ∷ simple.UnsignedInt ∷ simple.UnsignedLong ∷ []

-- the simple type of a name
abbrev pub simple_named : List ℕ → Option Simple
simple_named local = find (λ s. bytes_eq (name_of s) local) simple_types

-- the namespaces that have functions
unfoldable pub schema_namespace : List ℕ
schema_namespace = codes "http://www.w3.org/2001/XMLSchema"

unfoldable pub dfdl_namespace : List ℕ
dfdl_namespace = codes "http://www.ogf.org/dfdl/dfdl-1.0/"

-- the functions of a namespace
abbrev pub family_in : Option (List ℕ) → Family
family_in None = family.Unknown
family_in (Some namespace) =
    if bytes_eq namespace schema_namespace then family.Constructors
    else (if bytes_eq namespace dfdl_namespace then family.Dfdl else family.Unknown)

-- the functions of a prefix: those with `fn` and those with none are the same
abbrev pub family_of : Statics → Option (List ℕ) → Family
family_of s None = family.Plain
family_of s (Some prefix) = if bytes_eq prefix (codes "fn") then family.Plain else family_in (namespace_of s prefix)

-- the functions without a prefix: those of truths, texts, numbers and paths
unfoldable pub plain_named : List ℕ → Option Callee
plain_named local =
    if bytes_eq local (codes "true") then Some callee.True
    else (if bytes_eq local (codes "false") then Some callee.False
    else (if bytes_eq local (codes "not") then Some callee.Not
    else (if bytes_eq local (codes "concat") then Some callee.Concat
    else (if bytes_eq local (codes "string-length") then Some callee.StringLength
    else (if bytes_eq local (codes "substring") then Some callee.Substring
    else (if bytes_eq local (codes "contains") then Some callee.Contains
    else (if bytes_eq local (codes "starts-with") then Some callee.StartsWith
    else (if bytes_eq local (codes "ends-with") then Some callee.EndsWith
    else (if bytes_eq local (codes "abs") then Some callee.Absolute
    else (if bytes_eq local (codes "floor") then Some callee.Floor
    else (if bytes_eq local (codes "ceiling") then Some callee.Ceiling
    else (if bytes_eq local (codes "count") then Some callee.Count
    else (if bytes_eq local (codes "exists") then Some callee.Exists
    else (if bytes_eq local (codes "empty") then Some callee.Empty else None))))))))))))))

-- the functions of DFDL's namespace
unfoldable pub dfdl_named : List ℕ → Option Callee
dfdl_named local =
    if bytes_eq local (codes "valueLength") then Some callee.ValueLength
    else (if bytes_eq local (codes "contentLength") then Some callee.ContentLength
    else (if bytes_eq local (codes "occursIndex") then Some callee.OccursIndex else None))

-- the function of a local name
abbrev pub callee_in : Family → List ℕ → Option Callee
callee_in family.Plain local = plain_named local
callee_in family.Constructors local = option_map callee.Construct (simple_named local)
callee_in family.Dfdl local = dfdl_named local
callee_in family.Unknown local = None

-- the function of a name
abbrev pub callee_of : Statics → List ℕ → Option Callee
callee_of s word = callee_in (family_of s (prefix_of word)) (local_of word)

-- whether a function takes so many arguments
abbrev pub takes : Callee → ℕ → Bool
takes callee.True n = n == 0
takes callee.False n = n == 0
takes callee.OccursIndex n = n == 0
takes callee.Concat n = nat_le 2 n
takes callee.Substring n = n == 2 || n == 3
takes callee.Contains n = n == 2
takes callee.StartsWith n = n == 2
takes callee.EndsWith n = n == 2
takes callee.ValueLength n = n == 2
takes callee.ContentLength n = n == 2
takes callee.Not n = n == 1
takes callee.StringLength n = n == 1
takes callee.Absolute n = n == 1
takes callee.Floor n = n == 1
takes callee.Ceiling n = n == 1
takes callee.Count n = n == 1
takes callee.Exists n = n == 1
takes callee.Empty n = n == 1
takes (callee.Construct simple) n = n == 1

-- what the argument at a place has to be, from 0 on
abbrev pub need_at : Callee → ℕ → Need
need_at callee.True place = need.Value every
need_at callee.False place = need.Value every
need_at callee.OccursIndex place = need.Value every
need_at callee.Concat place = need.Value (only one.Text)
need_at callee.Substring place = need.Value (if place == 0 then only one.Text else only one.Number)
need_at callee.Contains place = need.Value (only one.Text)
need_at callee.StartsWith place = need.Value (only one.Text)
need_at callee.EndsWith place = need.Value (only one.Text)
need_at callee.ValueLength place = if place == 0 then need.Path else need.Unit
need_at callee.ContentLength place = if place == 0 then need.Path else need.Unit
need_at callee.Not place = need.Value (only one.Truth)
need_at callee.StringLength place = need.Value (only one.Text)
need_at callee.Absolute place = need.Value (only one.Number)
need_at callee.Floor place = need.Value (only one.Number)
need_at callee.Ceiling place = need.Value (only one.Number)
need_at callee.Count place = need.Path
need_at callee.Exists place = need.Path
need_at callee.Empty place = need.Path
need_at (callee.Construct simple) place = need.Value (types true true true false)

-- what a function gives
abbrev pub gives : Callee → Types
gives callee.True = only one.Truth
gives callee.False = only one.Truth
gives callee.OccursIndex = only one.Number
gives callee.Concat = only one.Text
gives callee.Substring = only one.Text
gives callee.Contains = only one.Truth
gives callee.StartsWith = only one.Truth
gives callee.EndsWith = only one.Truth
gives callee.ValueLength = only one.Number
gives callee.ContentLength = only one.Number
gives callee.Not = only one.Truth
gives callee.StringLength = only one.Number
gives callee.Absolute = only one.Number
gives callee.Floor = only one.Number
gives callee.Ceiling = only one.Number
gives callee.Count = only one.Number
gives callee.Exists = only one.Truth
gives callee.Empty = only one.Truth
gives (callee.Construct simple) = only (type_of simple)

abbrev pub is_path : Given → Bool
is_path given.Path = true
is_path _ = false

abbrev pub is_unit : Given → Bool
is_unit given.Unit = true
is_unit _ = false

-- whether an argument is what is needed
abbrev pub is_met : Need → Argument → Bool
is_met (need.Value wanted) argument = not (are_apart wanted argument.types)
is_met need.Path argument = is_path argument.given
is_met need.Unit argument = is_unit argument.given

-- whether the arguments from a place on are what is needed
abbrev pub are_met : Callee → ℕ → List Argument → Bool
are_met function place [] = true
are_met function place (a ∷ arguments) = is_met (need_at function place) a && are_met function (place + 1) arguments

-- whether a function takes these arguments
abbrev pub accepts : Callee → List Argument → Bool
accepts function arguments = takes function (length arguments) && are_met function 0 arguments

-- whether a name's function takes them; a name that is none of a function takes nothing
abbrev pub is_call : Option Callee → List Argument → Bool
is_call None arguments = false
is_call (Some function) arguments = accepts function arguments

-- what the function of a name gives
abbrev pub given_by : Option Callee → Types
given_by None = every
given_by (Some function) = gives function
