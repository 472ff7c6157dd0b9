-- What a length prefix is written as. 'Properties Common to both Content and Framing' (lengthKind prefixed, prefixLengthType,
-- prefixIncludesPrefixLength).
use Rattle.std.specs.Prelude.{ℕ, ◌+◌, ◌-◌, ◌/◌, ◌%◌, ◌^◌, ◌==◌, nat_lt, pos, [], Option, None, Some, Result, Ok, Err, if◌then◌else◌}
use Rattle.dfdl_forms.specs.Types.{form_of}
use Rattle.dfdl_forms.specs.declared.simple.Form.{Form}
use Rattle.dfdl_forms.specs.declared.simple.Form.TheVariants.{Signed, Unsigned}
use Rattle.dfdl_value.specs.declared.value.Value.{Value}
use Rattle.dfdl_value.specs.declared.value.Value.TheVariants.{Int, Uns}
use Rattle.dfdl_terms.specs.declared.prefix.LengthUnit.{LengthUnit}
use Rattle.dfdl_terms.specs.declared.prefix.LengthUnit.TheVariants as unit
use Rattle.dfdl_terms.specs.declared.prefix.Prefix.{Prefix}
use Rattle.dfdl_terms.specs.declared.row.Primitive.{Primitive}
use Rattle.dfdl_terms.specs.declared.row.Primitive.TheVariants.{Integer, Packed, Truth, Octets, Text, NilOctets, Default, NilValues, Pattern}
use Rattle.dfdl_terms.specs.declared.text.TextContent.{TextContent}
use Rattle.dfdl_terms.specs.declared.text.TextContent.TheVariants.{Number, Zoned}
use Rattle.dfdl_terms.specs.declared.text.TextSize.{TextSize}
use Rattle.dfdl_terms.specs.declared.text.TextSize.TheVariants as size
use Rattle.dfdl_writings.specs.declared.fault.Unwritten.{Unwritten}
use Rattle.dfdl_writings.specs.declared.fault.Unwritten.TheVariants.{Prefix as InPrefix}
use Rattle.dfdl_writings.specs.declared.form.Room.{Room}
use Rattle.dfdl_writings.specs.declared.form.Room.TheVariants.{Bits, Characters, Open}
use Rattle.dfdl_terms.specs.declared.writing.WritingForm.{WritingForm}
use Rattle.dfdl_writings.specs.declared.form.Written.{Written}
use Rattle.dfdl_writings.specs.Contents.{content}
use Rattle.dfdl_writings.specs.Fields.{integer, packed}

-- how many units a content of so many bits and characters has, if its bits are a whole number of them
abbrev pub units_in : LengthUnit → ℕ → ℕ → Option ℕ
units_in unit.Bits bits characters = Some bits
units_in unit.Bytes bits characters = if bits % 8 == 0 then Some (bits / 8) else None
units_in unit.Characters bits characters = Some characters

-- so many units, and those of the prefix itself
abbrev pub with_own : ℕ → Option ℕ → Option ℕ
with_own own None = None
with_own own (Some units) = Some (units + own)

-- The length that a prefix tells of a content of so many bits and characters, in its units: those of the content, and its own where it
-- counts itself.
abbrev pub units_of : Prefix → ℕ → ℕ → Option ℕ
units_of prefix bits characters = with_own prefix.own (units_in prefix.unit bits characters)

-- so many units as a value of this form, if it is one: a prefix is a whole number
abbrev pub told_in : Form → ℕ → Option Value
told_in (Signed bits) units = if nat_lt units (2 ^ (bits - 1)) then Some (Int (pos units)) else None
told_in (Unsigned bits) units = if nat_lt units (2 ^ bits) then Some (Uns units) else None
told_in _ units = None

-- the value that a text tells so many units by, if it is a number of a type that has it
abbrev pub told_in_text : TextContent → ℕ → Option Value
told_in_text (Number form kind) units = told_in (form_of kind) units
told_in_text (Zoned form) units = told_in (form_of form.kind) units
told_in_text _ units = None

-- the value that a primitive tells so many units by, if it is a number of a type that has it
abbrev pub told_by : Primitive → ℕ → Option Value
told_by (Integer form) units = told_in (form_of form.kind) units
told_by (Packed form) units = told_in (form_of form.kind) units
told_by (Text form) units = told_in_text form.content units
told_by (Truth form) units = None
told_by (Octets form) units = None
told_by (NilOctets form) units = None
told_by (Default form) units = None
told_by (NilValues form) units = None
told_by (Pattern form) units = None

-- the room of a text of this size that no markup ends
abbrev pub unended_room : TextSize → Room
unended_room (size.Bits n) = Bits n
unended_room (size.Characters n) = Characters n
unended_room (size.Delimited scan) = Open

-- what a number is written as by a primitive, in the box of the primitive; no markup ends it
abbrev pub number : WritingForm → Primitive → Value → Result Written Unwritten
number writing (Integer form) value = integer form value
number writing (Packed form) value = packed form value
number writing (Text form) value = content writing form (unended_room form.size) [] value
number writing (Truth form) value = Err InPrefix
number writing (Octets form) value = Err InPrefix
number writing (NilOctets form) value = Err InPrefix
number writing (Default form) value = Err InPrefix
number writing (NilValues form) value = Err InPrefix
number writing (Pattern form) value = Err InPrefix

-- whatever cause another writing would have, that of a prefix has one
abbrev pub in_prefix : Result Written Unwritten → Result Written Unwritten
in_prefix (Ok written) = Ok written
in_prefix (Err cause) = Err InPrefix

-- what a value is written as in a prefix, if there is one
abbrev pub prefix_value : WritingForm → Primitive → Option Value → Result Written Unwritten
prefix_value writing primitive None = Err InPrefix
prefix_value writing primitive (Some value) = in_prefix (number writing primitive value)

-- What a prefix is written as that tells so many units, if they are a whole number. It has no writing where there is no such number,
-- where its type has no such value, and where its primitive can't write that.
abbrev pub prefix : WritingForm → Primitive → Option ℕ → Result Written Unwritten
prefix writing primitive None = Err InPrefix
prefix writing primitive (Some units) = prefix_value writing primitive (told_by primitive units)
