-- Sets of the types that values of expressions have. 'DFDL Expression Language'.
use Rattle.std.specs.Prelude.{Bool, true, false, ◌&&◌, ◌||◌, not}
use Rattle.dfdl_forms.specs.declared.simple.Simple.{Simple}
use Rattle.dfdl_forms.specs.declared.simple.Form.{Form}
use Rattle.dfdl_forms.specs.declared.simple.Form.TheVariants as form
use Rattle.dfdl_forms.specs.Types.{form_of}
use Rattle.dfdl_expression_types.specs.declared.types.ValueType.{ValueType}
use Rattle.dfdl_expression_types.specs.declared.types.ValueType.TheVariants as one
use Rattle.dfdl_expression_types.specs.declared.types.Types.{Types}

-- a set, by whether it has numbers, texts, truths and bytes
abbrev pub types : Bool → Bool → Bool → Bool → Types
types number text truth bytes = record { number = number; text = text; truth = truth; bytes = bytes }

-- the set of one type
abbrev pub only : ValueType → Types
only one.Number = types true false false false
only one.Text = types false true false false
only one.Truth = types false false true false
only one.Bytes = types false false false true

-- all of them: what has no declaration fits each
abbrev pub every : Types
every = types true true true true

abbrev pub no_type : Types
no_type = types false false false false

-- those of both sets
abbrev pub both : Types → Types → Types
both a b = types (a.number && b.number) (a.text && b.text) (a.truth && b.truth) (a.bytes && b.bytes)

-- those of either
abbrev pub either : Types → Types → Types
either a b = types (a.number || b.number) (a.text || b.text) (a.truth || b.truth) (a.bytes || b.bytes)

-- there is no type in the set
abbrev pub is_empty : Types → Bool
is_empty a = not a.number && not a.text && not a.truth && not a.bytes

-- no type is in both sets
abbrev pub are_apart : Types → Types → Bool
are_apart a b = is_empty (both a b)

-- the type of values of this form
abbrev pub type_by : Form → ValueType
type_by (form.Signed bits) = one.Number
type_by (form.Unsigned bits) = one.Number
type_by form.Fixed = one.Number
type_by form.Characters = one.Text
type_by form.Truths = one.Truth
type_by form.Octets = one.Bytes

-- the type of the values of a simple type
abbrev pub type_of : Simple → ValueType
type_of simple = type_by (form_of simple)
