-- The length prefix of an element: how the type of the prefix is judged, and how the prefix lies in the data ('Lengths', on
-- lengthKind prefixed).
use Rattle.std.specs.Prelude.{ℕ, [], ◌*◌, ◌/◌, ◌%◌, ◌==◌, ◌&&◌, ◌||◌, Bool, true, false, not, Option, Some, None, is_some, option_and_then, option_map, codes, if◌then◌else◌}
use Rattle.dfdl_forms.specs.Types.{form_of}
use Rattle.dfdl_forms.specs.declared.encoding.Encoding.{Encoding}
use Rattle.dfdl_forms.specs.declared.encoding.Encoding.TheVariants.{UsAscii, Iso88591}
use Rattle.dfdl_forms.specs.declared.simple.Form.{Form}
use Rattle.dfdl_forms.specs.declared.simple.Form.TheVariants.{Signed, Unsigned}
use Rattle.dfdl_forms.specs.declared.simple.Simple.{Simple}
use Rattle.dfdl_scope.specs.Expressions.{is_expression}
use Rattle.dfdl_scope.specs.Scoping.{Told, Value, Absent, Twice, told}
use Rattle.dfdl_terms.specs.declared.prefix.LengthUnit.{LengthUnit}
use Rattle.dfdl_terms.specs.declared.prefix.LengthUnit.TheVariants as unit
use Rattle.dfdl_terms.specs.declared.row.Primitive.{Primitive}
use Rattle.dfdl_terms.specs.declared.row.Primitive.TheVariants.{Integer, Packed, Truth, Octets, Text, NilOctets, Default, NilValues, Pattern}
use Rattle.dfdl_terms.specs.declared.text.TextSize.{TextSize}
use Rattle.dfdl_terms.specs.declared.text.TextSize.TheVariants.{Bits, Characters, Delimited}
use Rattle.dfdl_checks.specs.Encodings.{encoding_told}
use Rattle.dfdl_checks.specs.Judged.{FactsJudged, Judged, PrefixJudged}
use Rattle.dfdl_checks.specs.Numbers.{primitive_of}
use Rattle.dfdl_checks.specs.Places.{nowhere}
use Rattle.dfdl_checks.specs.Subjects.{is_prefixed, is_told, is_word, told_at}
use Rattle.dfdl_checks.specs.declared.prefixes.PrefixForm.{PrefixForm}
use Rattle.dfdl_checks.specs.declared.purpose.Purpose.{Purpose}
use Rattle.dfdl_checks.specs.declared.purpose.Purpose.TheVariants.{Parsing, Unparsing}
use Rattle.dfdl_checks.specs.declared.subject.Kind.TheVariants.{PrefixNumber}

-- values of this form are integers
abbrev pub is_integer : Form → Bool
is_integer (Signed bits) = true
is_integer (Unsigned bits) = true
is_integer _ = false

-- an integer type
abbrev pub is_integer_type : Option Simple → Bool
is_integer_type None = false
is_integer_type (Some simple) = is_integer (form_of simple)

-- what the type of a prefix states: nothing
abbrev pub no_facts : FactsJudged
no_facts = record {
  bounds = record { least = 1; most = Some 1 };
  is_nillable = false;
  default = None;
  opens_instances = false;
  is_local = false;
  is_empty = false;
  min_length = None;
  max_length = None;
}

-- the type of the component's prefix, as the rules see it
abbrev pub judged_prefix : Judged → PrefixJudged → Simple → Judged
judged_prefix subject prefix simple = record {
  purpose = subject.purpose;
  kind = PrefixNumber simple;
  place = prefix.place;
  chain = prefix.chain;
  facts = no_facts;
  root_bits_by = subject.root_bits_by;
  prefix = None;
  scheme = prefix.scheme;
  pattern_is_refused = false;
  tests = [];
  sets_variables = false;
  standing = nowhere;
  group_is_unknown = false;
}

-- the same, where it is an integer type
abbrev pub judged_integer : Judged → PrefixJudged → Option Judged
judged_integer subject prefix =
    if is_integer_type prefix.simple then option_map (judged_prefix subject prefix) prefix.simple else None

-- the type of the component's prefix, where it has one of an integer type
abbrev pub prefix_subject : Judged → Option Judged
prefix_subject subject = if is_prefixed subject then option_and_then (judged_integer subject) subject.prefix else None

-- a name is told
abbrev pub is_name_told : Told → Bool
is_name_told (Value written) = not (is_expression written)
is_name_told Absent = false
is_name_told (Twice place) = false

-- a length that is told isn't by an expression
abbrev pub is_constant_told : Told → Bool
is_constant_told (Value written) = not (is_expression written)
is_constant_told Absent = true
is_constant_told (Twice place) = true

-- the length of a prefix is its own, by a number, or that of its type
abbrev pub has_constant_length : PrefixJudged → Bool
has_constant_length prefix =
    is_word (codes "implicit") (told prefix.chain (codes "lengthKind"))
    || (is_word (codes "explicit") (told prefix.chain (codes "lengthKind")) && is_constant_told (told prefix.chain (codes "length")))

-- the type can be that of a prefix
abbrev pub is_prefix_type : PrefixJudged → Bool
is_prefix_type prefix = is_integer_type prefix.simple && has_constant_length prefix

-- the type can't be that of a prefix
abbrev pub is_no_prefix_type : Option PrefixJudged → Bool
is_no_prefix_type None = false
is_no_prefix_type (Some prefix) = not (is_prefix_type prefix)

-- what the component's length counts: bytes where nothing is told
abbrev pub unit_told : Told → LengthUnit
unit_told told = if is_word (codes "bits") told then unit.Bits else if is_word (codes "characters") told then unit.Characters else unit.Bytes

-- the component's length counts the prefix itself
abbrev pub counts_prefix : Judged → Bool
counts_prefix subject = is_told subject (codes "prefixIncludesPrefixLength") (codes "yes")

-- how long the fields of a primitive are; what is no component's own may have none
abbrev pub size_of : Primitive → TextSize
size_of (Integer form) = Bits form.bits
size_of (Packed form) = Bits (4 * form.nibbles)
size_of (Truth form) = Bits form.bits
size_of (Octets form) = Bits form.bits
size_of (Text form) = form.size
size_of (NilOctets form) = Bits form.octets.bits
size_of (Default form) = form.size
size_of (NilValues form) = Bits 0
size_of (Pattern form) = Bits 0

-- each character of the encoding is one byte
abbrev pub is_of_bytes : Option Encoding → Bool
is_of_bytes (Some UsAscii) = true
is_of_bytes (Some Iso88591) = true
is_of_bytes _ = false

-- how many units a size is, where it is a whole number of them (profile: characters are so many bytes where each is one)
abbrev pub units_in : LengthUnit → Option Encoding → TextSize → Option ℕ
units_in unit.Bits encoding (Bits bits) = Some bits
units_in unit.Bytes encoding (Bits bits) = if bits % 8 == 0 then Some (bits / 8) else None
units_in unit.Characters encoding (Bits bits) = None
units_in unit.Bits encoding (Characters count) = if is_of_bytes encoding then Some (8 * count) else None
units_in unit.Bytes encoding (Characters count) = if is_of_bytes encoding then Some count else None
units_in unit.Characters encoding (Characters count) = Some count
units_in unit encoding (Delimited scan) = None

-- how many of the units that the component's length counts are the prefix's own, where it is of this type and lies so in the data
abbrev pub own_units : Judged → Judged → Primitive → Option ℕ
own_units subject prefix primitive =
    if counts_prefix subject
    then units_in (unit_told (told_at subject (codes "lengthUnits"))) (encoding_told (told_at prefix (codes "encoding"))) (size_of primitive)
    else Some 0

-- the prefix's own units are no whole number, where it is of this type
abbrev pub is_not_whole : Judged → Judged → Bool
is_not_whole subject prefix =
    is_some (primitive_of prefix) && not (is_some (option_and_then (own_units subject prefix) (primitive_of prefix)))

-- a prefix that lies so in the data, with so many units of its own
abbrev pub form_with : Judged → Primitive → ℕ → PrefixForm
form_with subject primitive own =
    record { primitive = primitive; unit = unit_told (told_at subject (codes "lengthUnits")); own = own }

-- the component's prefix of this type, by how that lies in the data
abbrev pub form_by : Judged → Judged → Primitive → Option PrefixForm
form_by subject prefix primitive = option_map (form_with subject primitive) (own_units subject prefix primitive)

-- the component's prefix of this type
abbrev pub form_of_type : Judged → Judged → Option PrefixForm
form_of_type subject prefix = option_and_then (form_by subject prefix) (primitive_of prefix)

-- the prefix of a component, which is built for parsing
abbrev pub prefix_for : Purpose → Judged → Option PrefixForm
prefix_for Parsing subject = option_and_then (form_of_type subject) (prefix_subject subject)
prefix_for Unparsing subject = None

-- how the prefix of an element lies in the data, and how many units of its own it counts; other components have none
abbrev pub prefix_of : Judged → Option PrefixForm
prefix_of subject = prefix_for subject.purpose subject
