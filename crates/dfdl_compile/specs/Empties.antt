-- Empty representations that are left away, since the normal representation reads no bits as they do ('DFDL Data Syntax Grammar').
use Rattle.std.specs.Prelude.{◌==◌, ◌&&◌, not, Bool, true, false, length, Option, None, Some}
use Rattle.dfdl_terms.specs.declared.row.Primitive.{Primitive}
use Rattle.dfdl_terms.specs.declared.row.Primitive.TheVariants.{Integer, Packed, Truth, Octets, Text, NilOctets, Default, NilValues, Pattern}
use Rattle.dfdl_value.specs.declared.value.Value.{Value}
use Rattle.dfdl_value.specs.declared.value.Value.TheVariants as values
use Rattle.dfdl_checks.specs.declared.delimiters.Delimiting.{Delimiting}
use Rattle.dfdl_checks.specs.declared.tried.EmptyRepresentation.{EmptyRepresentation}
use Rattle.dfdl_breaches.specs.declared.judgement.Judgement.{Judgement}

-- the value is no text or no bytes
abbrev pub is_nothing : Value → Bool
is_nothing (values.Text text) = length text == 0
is_nothing (values.Bytes bytes) = length bytes == 0
is_nothing (values.Int number) = false
is_nothing (values.Uns number) = false
is_nothing (values.Dec number) = false
is_nothing (values.Truth truth) = false

-- no bits stand for no text or no bytes by the primitive
abbrev pub reads_nothing : Option Primitive → Bool
reads_nothing (Some (Default form)) = is_nothing form.value
reads_nothing (Some (Integer form)) = false
reads_nothing (Some (Packed form)) = false
reads_nothing (Some (Truth form)) = false
reads_nothing (Some (Octets form)) = false
reads_nothing (Some (Text form)) = false
reads_nothing (Some (NilOctets form)) = false
reads_nothing (Some (NilValues form)) = false
reads_nothing (Some (Pattern form)) = false
reads_nothing None = false

-- the empty representation takes no bits for no text or no bytes, as the normal one of a string or a hexBinary does
abbrev pub reads_as_normal : EmptyRepresentation → Bool
reads_as_normal own = reads_nothing own.empty && not own.refuses_empty

-- the delimiter, if there is one, stands in the empty representation as in the normal one
abbrev pub stands_in_empty : Option Delimiting → Bool
stands_in_empty None = true
stands_in_empty (Some delimiter) = delimiter.in_empty

-- the empty representation of an element of which this is told is framed as the normal one
abbrev pub is_framed_alike : Judgement → Bool
is_framed_alike judgement = stands_in_empty judgement.markup.initiator && stands_in_empty judgement.markup.terminator
