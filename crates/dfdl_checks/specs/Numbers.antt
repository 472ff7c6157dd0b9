-- How the values of a component without a breach lie in the data, where it is a simple element: as binary integers and
-- decimals, as packed numbers, as binary booleans, as text or as bytes ('Simple Types').
use Rattle.std.specs.Prelude.{◌≡◌, ℕ, ◌<◌, ◌||◌, Bool, List, Option, Some, None, IsSome, IsTrue, codes, if◌then◌else◌}
use Rattle.std.specs.Str.Parse.{digits_value}
use Rattle.dfdl_forms.specs.Binary.{most_bits}
use Rattle.dfdl_forms.specs.Types.{form_of}
use Rattle.dfdl_forms.specs.declared.order.BitOrder.{BitOrder}
use Rattle.dfdl_forms.specs.declared.binary.IntForm.{IntForm}
use Rattle.dfdl_forms.specs.declared.packed.PackedForm.{PackedForm}
use Rattle.dfdl_forms.specs.declared.packed.PackedRep.{PackedRep}
use Rattle.dfdl_forms.specs.declared.simple.Simple.{Simple}
use Rattle.dfdl_forms.specs.declared.simple.Simple.TheVariants.{Boolean, HexBinary, String}
use Rattle.dfdl_scope.specs.Expressions.{literal}
use Rattle.dfdl_scope.specs.Scoping.{Told, Value, Absent, Twice}
use Rattle.dfdl_terms.specs.declared.row.Primitive.{Primitive}
use Rattle.dfdl_terms.specs.declared.row.Primitive.TheVariants.{Integer, Packed, Truth, Octets, Text, NilOctets, Default, NilValues, Pattern}
use Rattle.dfdl_terms.specs.declared.text.TextContent.{TextContent}
use Rattle.dfdl_terms.specs.declared.text.TextContent.TheVariants.{Plain, Octets as TextOctets, Number, Zoned, Truth as TextTruth, Nil}
use Rattle.dfdl_checks.specs.Booleans.{falsity_told, truth_told}
use Rattle.dfdl_checks.specs.Encodings.{encoding_told}
use Rattle.dfdl_checks.specs.Lengths.{constant_length, size_within}
use Rattle.dfdl_checks.specs.Orders.{is_least_first, orders_of, told_order}
use Rattle.dfdl_checks.specs.Packed.{codes_for, is_strict, nibbles_within, rep_of, rep_word}
use Rattle.dfdl_checks.specs.BuiltTypes.{is_built_type}
use Rattle.dfdl_checks.specs.Subjects.{has_point, is_binary_number, is_explicit, is_octets, is_sized_by_data, is_text, is_told, is_truths, told_at, value_bits}
use Rattle.dfdl_checks.specs.Texts.{octets_of, text_of}
use Rattle.dfdl_checks.specs.Values.{is_within}
use Rattle.dfdl_checks.specs.declared.orders.Orders.{Orders}
use Rattle.dfdl_checks.specs.declared.purpose.Purpose.{Purpose}
use Rattle.dfdl_checks.specs.declared.purpose.Purpose.TheVariants.{Parsing, Unparsing}
use Rattle.dfdl_checks.specs.declared.subject.Kind.{Kind}
use Rattle.dfdl_checks.specs.declared.subject.Kind.TheVariants.{SimpleElement, PrefixNumber}
use Rattle.dfdl_checks.specs.Judged.{Judged}

-- the number that digits stand for, if a decimal can have so many digits behind its point
abbrev pub places_of_digits : List ℕ → Option ℕ
places_of_digits text = if is_within 0 38 text then Some (digits_value 10 text) else None

-- how many digits stand behind a virtual point that is told; none do where nothing is told
abbrev pub places_told : Told → Option ℕ
places_told (Value written) = places_of_digits (literal written)
places_told Absent = Some 0
places_told (Twice place) = None

-- how many digits stand behind the virtual point of a number of the type: an integer has none
abbrev pub places_of : Simple → Told → Option ℕ
places_of simple told = if has_point (form_of simple) then places_told told else Some 0

-- a constant length of its own, which a field has for parsing alone
abbrev pub own_size : Purpose → ℕ → Option ℕ → Option ℕ
own_size Parsing most length = size_within most length
own_size Unparsing most length = None

-- How many bits the component's field has, where its type has at most so many: its own length, else as many as the type, which also
-- stand for those that the data tell.
abbrev pub field_bits : Judged → ℕ → Option ℕ
field_bits subject most =
    if is_sized_by_data subject then Some most
    else if is_explicit subject then own_size subject.purpose most (constant_length subject)
    else Some most

-- a number of the type, in these orders, with so many bits and so many digits behind its point
abbrev pub number_by : Simple → Orders → Option ℕ → Option ℕ → Option Primitive
number_by simple orders (Some bits) (Some places) =
    Some (Integer (record { bits = bits; bytes_by = orders.bytes_by; bits_by = orders.bits_by; point = places; kind = simple }))
number_by simple orders _ _ = None

-- the component's values as binary integers or decimals of the type
abbrev pub number_of_type : Judged → Simple → Option Primitive
number_of_type subject simple =
    number_by simple (orders_of subject) (field_bits subject (most_bits (form_of simple)))
    (places_of simple (told_at subject (codes "binaryDecimalVirtualPoint")))

-- How many nibbles the field of a packed number has: those of its own length, since no type has a size in nibbles. Where the data
-- tell them, one stands for them.
abbrev pub field_nibbles : Judged → PackedRep → Option ℕ
field_nibbles subject rep =
    if is_sized_by_data subject then Some 1
    else if is_explicit subject then nibbles_within rep (constant_length subject)
    else None

-- a packed number of the type, in these orders, with so many nibbles, these sign codes and so many digits behind its point
abbrev pub packed_by : Simple → PackedRep → Orders → Bool → Option ℕ → Option (List ℕ) → Option ℕ → Option Primitive
packed_by simple rep orders strict (Some nibbles) (Some signs) (Some places) =
    Some (Packed (record {
      nibbles = nibbles;
      rep = rep;
      codes = signs;
      strict = strict;
      point = places;
      kind = simple;
      bytes_by = orders.bytes_by;
      bits_by = orders.bits_by;
    }))
packed_by simple rep orders strict _ _ _ = None

-- the component's values as packed numbers of the type
abbrev pub packed_of_type : Judged → Simple → PackedRep → Option Primitive
packed_of_type subject simple rep =
    packed_by simple rep (orders_of subject)
    (is_strict rep (told_at subject (codes "binaryNumberCheckPolicy"))) (field_nibbles subject rep) (codes_for rep (told_at subject (codes "binaryPackedSignCodes")))
    (places_of simple (told_at subject (codes "binaryDecimalVirtualPoint")))

-- the component's values as numbers of the type, by their packed representation, where they have one
abbrev pub number_of_rep : Judged → Simple → Option PackedRep → Option Primitive
number_of_rep subject simple None = number_of_type subject simple
number_of_rep subject simple (Some rep) = packed_of_type subject simple rep

-- a boolean in these orders, with so many bits, a number of true, if there is one, and a number of false
abbrev pub truth_by : Orders → Option ℕ → Option (Option ℕ) → Option ℕ → Option Primitive
truth_by orders (Some bits) (Some truth) (Some falsity) =
    Some (Truth (record { bits = bits; bytes_by = orders.bytes_by; bits_by = orders.bits_by; truth = truth; falsity = falsity }))
truth_by orders _ _ _ = None

-- the component's values as booleans
abbrev pub truth_of : Judged → Option Primitive
truth_of subject =
    truth_by (orders_of subject) (field_bits subject 32)
    (truth_told (told_at subject (codes "binaryBooleanTrueRep"))) (falsity_told (told_at subject (codes "binaryBooleanFalseRep")))

-- the component's values as those of the type, in binary
abbrev pub binary_of_type : Judged → Simple → Option Primitive
binary_of_type subject simple =
    if is_truths (form_of simple) then truth_of subject else number_of_rep subject simple (rep_of subject)

-- the component's values as those of the type, as they are built for parsing
abbrev pub primitive_parsed : Judged → Simple → Option Primitive
primitive_parsed subject simple =
    if is_text subject then text_of subject simple
    else if is_octets (form_of simple) then octets_of subject
    else binary_of_type subject simple

-- the same as they are built for a purpose: for unparsing as binary integers alone
abbrev pub primitive_for : Purpose → Judged → Simple → Option Primitive
primitive_for Parsing subject simple = primitive_parsed subject simple
primitive_for Unparsing subject simple = number_of_type subject simple

-- the same, where the type is built
abbrev pub primitive_of_type : Judged → Simple → Option Primitive
primitive_of_type subject simple =
    if is_built_type subject.purpose simple then primitive_for subject.purpose subject simple else None

-- the same, for an element of a simple type, and for the type of a prefix
abbrev pub primitive_of_kind : Judged → Kind → Option Primitive
primitive_of_kind subject (SimpleElement simple) = primitive_of_type subject simple
primitive_of_kind subject (PrefixNumber simple) = primitive_of_type subject simple
primitive_of_kind subject _ = None

-- how the component's values lie in the data, where they are of a type and of a size that are built
abbrev pub primitive_of : Judged → Option Primitive
primitive_of subject = primitive_of_kind subject subject.kind

-- the type of the values that characters are read as; nil is no value, and counts as a string
abbrev pub text_type : TextContent → Simple
text_type Plain = String
text_type TextOctets = HexBinary
text_type (Number form simple) = simple
text_type (Zoned form) = form.kind
text_type (TextTruth form) = Boolean
text_type (Nil form) = String

-- the type of a primitive's values; what is no component's own counts as hexBinary
abbrev pub type_of : Primitive → Simple
type_of (Integer form) = form.kind
type_of (Packed form) = form.kind
type_of (Truth form) = Boolean
type_of (Octets form) = HexBinary
type_of (Text form) = text_type form.content
type_of (NilOctets form) = HexBinary
type_of (Default form) = HexBinary
type_of (NilValues form) = HexBinary
type_of (Pattern form) = HexBinary

-- the bits of a primitive's fields come in this order; a text and no bits have none
abbrev pub HasBitOrder : BitOrder → Primitive → Type 0
HasBitOrder order (Integer form) = form.bits_by ≡ order
HasBitOrder order (Packed form) = form.bits_by ≡ order
HasBitOrder order (Truth form) = form.bits_by ≡ order
HasBitOrder order (Octets form) = form.bits_by ≡ order
HasBitOrder order (Text form) = Unit {0}
HasBitOrder order (NilOctets form) = form.octets.bits_by ≡ order
HasBitOrder order (Default form) = Unit {0}
HasBitOrder order (NilValues form) = Unit {0}
HasBitOrder order (Pattern form) = Unit {0}

-- the order of bits that is told of a component is that of its primitive and of the schema's root
pub record IsInBitOrder (subject : Judged) : Type 0 where
  pub primitive : (p : Primitive) → primitive_of subject ≡ Some p → HasBitOrder (told_order subject) p
  pub root : told_order subject ≡ subject.root_bits_by

-- the properties of a component say that its length is its own, that of its type, that of a prefix or by a pattern
abbrev pub has_length_kind : Judged → Bool
has_length_kind subject =
    is_told subject (codes "lengthKind") (codes "implicit") || is_explicit subject || is_told subject (codes "lengthKind") (codes "prefixed")
    || is_told subject (codes "lengthKind") (codes "pattern")

-- the properties of a binary number or boolean say which kind of length it has, and which bits come first; where the type has
-- more than 8 bits, which bytes come first, and where the least significant bits of a number do, that the least significant bytes
-- do too; and of what is read as a binary integer or as a packed number, that it is one
pub record IsBinaryValue (subject : Judged) : Type 0 where
  pub number : (form : IntForm) → primitive_of subject ≡ Some (Integer form)
      → IsTrue (is_told subject (codes "binaryNumberRep") (codes "binary"))
  pub packed : (form : PackedForm) → primitive_of subject ≡ Some (Packed form)
      → IsTrue (is_told subject (codes "binaryNumberRep") (rep_word form.rep))
  pub length_kind : IsTrue (has_length_kind subject)
  pub bits_by : IsInBitOrder subject
  pub bytes_by : 8 < value_bits subject.kind
      → IsTrue (is_told subject (codes "byteOrder") (codes "bigEndian") || is_told subject (codes "byteOrder") (codes "littleEndian"))
  pub orders : IsTrue (is_binary_number subject) → IsTrue (is_least_first subject) → IsTrue (is_told subject (codes "byteOrder") (codes "littleEndian"))

-- the properties of a text, or of an element of type hexBinary, say which kind of length it has, one of these or a delimited one, and
-- which bits come first; and of a text, which encoding its characters have
pub record IsTextOrBytesValue (subject : Judged) : Type 0 where
  pub encoding : IsTrue (is_text subject) → IsSome (encoding_told (told_at subject (codes "encoding")))
  pub length_kind : IsTrue (has_length_kind subject || is_told subject (codes "lengthKind") (codes "delimited"))
  pub bits_by : IsInBitOrder subject
