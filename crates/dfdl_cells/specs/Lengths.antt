-- How long simple elements are, and what they are written as. 'Lengths' (contentLength and valueLength), 'Simple Types'.
use Rattle.std.specs.Prelude.{ℕ, ◌+◌, ◌/◌, List, [], ◌∷◌, Option, None, Some, Result, Ok, Err}
use Rattle.dfdl_value.specs.declared.value.Value.{Value}
use Rattle.dfdl_terms.specs.declared.row.Primitive.{Primitive}
use Rattle.dfdl_terms.specs.declared.row.Primitive.TheVariants.{Integer, Packed, Truth, Octets, Text, NilOctets, Default, NilValues, Pattern}
use Rattle.dfdl_terms.specs.declared.text.TextForm.{TextForm}
use Rattle.dfdl_terms.specs.declared.text.TextSize.{TextSize}
use Rattle.dfdl_terms.specs.declared.text.TextSize.TheVariants as size
use Rattle.dfdl_terms.specs.declared.text.TextContent.{TextContent}
use Rattle.dfdl_terms.specs.declared.text.TextContent.TheVariants as content_of
use Rattle.dfdl_rows.specs.declared.component.LeafLength.{LeafLength}
use Rattle.dfdl_rows.specs.declared.component.LeafLength.TheVariants.{Own, Prefixed, Measured}
use Rattle.dfdl_delims.specs.Lists.{Opened}
use Rattle.dfdl_suspend.specs.Asks.{Asks, Is, Fails}
use Rattle.dfdl_suspend.specs.declared.known.Held.{Held}
use Rattle.dfdl_suspend.specs.declared.known.Held.TheVariants as held
use Rattle.dfdl_writings.specs.Binary.{binary, binary_bits, box_bits}
use Rattle.dfdl_writings.specs.Contents.{content, value_bits}
use Rattle.dfdl_terms.specs.declared.text.NilOctets.{NilOctets as NilOctetsOf}
use Rattle.dfdl_writings.specs.Nils.{nil_bits, nil_content, nil_octets, no_pad}
use Rattle.dfdl_writings.specs.Rooms.{room_of}
use Rattle.dfdl_writings.specs.declared.fault.Unwritten.{Unwritten}
use Rattle.dfdl_writings.specs.declared.fault.Unwritten.TheVariants as unwritten
use Rattle.dfdl_writings.specs.declared.fault.Unwritten.TheVariants.{BinaryForm}
use Rattle.dfdl_writings.specs.declared.form.Room.{Room}
use Rattle.dfdl_writings.specs.declared.form.Room.TheVariants as room
use Rattle.dfdl_terms.specs.declared.writing.WritingForm.{WritingForm}
use Rattle.dfdl_writings.specs.declared.form.Written.{Written}
use Rattle.dfdl_cells.specs.Plans.{Form}
use Rattle.dfdl_cells.specs.Values.{Told}
use Rattle.dfdl_cells.specs.Values as values

-- the number of the cause of unparsing that there is no writing
abbrev pub cause_of : Unwritten → ℕ
cause_of unwritten.BinaryForm = 1
cause_of unwritten.PackedForm = 2
cause_of unwritten.TextForm = 3
cause_of unwritten.TooLong = 4
cause_of unwritten.NotInEncoding = 5
cause_of unwritten.Prefix = 7
cause_of unwritten.Boolean = 9
cause_of unwritten.Escape = 12

-- the room of a text: that of its size, where its length is its own, and else none that bounds it
abbrev pub room_in : LeafLength → TextSize → Room
room_in Own text_size = room_of text_size
room_in (Prefixed prefix) text_size = room.Open
room_in (Measured measure) text_size = room.Open

-- the room of bytes that stand for nil: that of their box, where the length is their own
abbrev pub octet_room : LeafLength → ℕ → Room
octet_room Own bits = room.Bits bits
octet_room (Prefixed prefix) bits = room.Open
octet_room (Measured measure) bits = room.Open

-- how many bits a writing has
abbrev pub bits_in : Result Written Unwritten → Result ℕ Unwritten
bits_in (Ok written) = Ok written.bits
bits_in (Err cause) = Err cause

-- the same with its fill
abbrev pub size_in : Result Written Unwritten → Result ℕ Unwritten
size_in (Ok written) = Ok (written.bits + written.fill)
size_in (Err cause) = Err cause

-- how many bits a binary value has: those in its box, or, behind a prefix, those that it has without one
abbrev pub binary_length : LeafLength → Primitive → Value → Result ℕ Unwritten
binary_length Own prim value = bits_in (binary prim value)
binary_length (Prefixed prefix) prim value = binary_bits prim value
binary_length (Measured measure) prim value = binary_bits prim value

-- how many bits a value has before it is escaped, cut and padded
abbrev pub value_length : LeafLength → Primitive → Value → Result ℕ Unwritten
value_length length (Integer form) value = binary_length length (Integer form) value
value_length length (Packed form) value = binary_length length (Packed form) value
value_length length (Truth form) value = binary_length length (Truth form) value
value_length length (Octets form) value = binary_length length (Octets form) value
value_length length (Text form) value = value_bits form (room_in length form.size) value
value_length length (NilOctets form) value = Err BinaryForm
value_length length (Default form) value = Err BinaryForm
value_length length (NilValues form) value = Err BinaryForm
value_length length (Pattern form) value = Err BinaryForm

-- the same of nil that a text stands for, in its content
abbrev pub text_nil_length : WritingForm → Room → TextContent → Result ℕ Unwritten
text_nil_length writing text_room content_of.Plain = Err BinaryForm
text_nil_length writing text_room content_of.Octets = Err BinaryForm
text_nil_length writing text_room (content_of.Number form kind) = Err BinaryForm
text_nil_length writing text_room (content_of.Zoned form) = Err BinaryForm
text_nil_length writing text_room (content_of.Truth form) = Err BinaryForm
text_nil_length writing text_room (content_of.Nil nil) = nil_bits writing nil text_room

-- the value of nil that values stand for is the first of these
abbrev pub first_value : List Value → Option Value
first_value [] = None
first_value (value ∷ values) = Some value

-- a value that may not be there
abbrev pub value_length_if : LeafLength → Primitive → Option Value → Result ℕ Unwritten
value_length_if length prim None = Err BinaryForm
value_length_if length prim (Some value) = value_length length prim value

-- how many bits nil has by its primitive, of an element that has this primitive of its own
abbrev pub nil_length : WritingForm → LeafLength → Primitive → Primitive → Result ℕ Unwritten
nil_length writing length prim (Integer form) = Err BinaryForm
nil_length writing length prim (Packed form) = Err BinaryForm
nil_length writing length prim (Truth form) = Err BinaryForm
nil_length writing length prim (Octets form) = Err BinaryForm
nil_length writing length prim (Text form) = text_nil_length writing (room_in length form.size) form.content
nil_length writing length prim (NilOctets form) = nil_bits writing form.nil (octet_room length form.octets.bits)
nil_length writing length prim (Default form) = Err BinaryForm
nil_length writing length prim (NilValues form) = value_length_if length prim (first_value form.values)
nil_length writing length prim (Pattern form) = Err BinaryForm

-- the same of an element that may have no primitive of nil
abbrev pub nil_length_if : WritingForm → Form → Option Primitive → Result ℕ Unwritten
nil_length_if writing form None = Err BinaryForm
nil_length_if writing form (Some nil) = nil_length writing form.length form.prim nil

-- how many bits a simple element has by what it is, before padding, escapes and cuts (valueLength)
abbrev pub told_length : WritingForm → Form → Told → Result ℕ Unwritten
told_length writing form values.Nil = nil_length_if writing form form.nil
told_length writing form (values.Is value) = value_length form.length form.prim value

-- a primitive whose box has so many bits
abbrev pub in_box : Primitive → ℕ → Primitive
in_box (Integer form) bits = Integer (record form { bits = bits })
in_box (Packed form) bits = Packed (record form { nibbles = bits / 4 })
in_box (Truth form) bits = Truth (record form { bits = bits })
in_box (Octets form) bits = Octets (record form { bits = bits })
in_box (Text form) bits = Text form
in_box (NilOctets form) bits = NilOctets (record form { octets = record form.octets { bits = bits } })
in_box (Default form) bits = Default form
in_box (NilValues form) bits = NilValues form
in_box (Pattern form) bits = Pattern form

-- what a value is written as in a box of so many bits, if it has so many
abbrev pub binary_in : Primitive → Result ℕ Unwritten → Value → Result Written Unwritten
binary_in prim (Err cause) value = Err cause
binary_in prim (Ok bits) value = binary (in_box prim bits) value

-- what a binary value is written as: in its box, or, behind a prefix, in as many bits as it has without one
abbrev pub binary_by : LeafLength → Primitive → Value → Result Written Unwritten
binary_by Own prim value = binary prim value
binary_by (Prefixed prefix) prim value = binary_in prim (binary_bits prim value) value
binary_by (Measured measure) prim value = binary_in prim (binary_bits prim value) value

-- what a value is written as, where these lists of markup are open
abbrev pub written_value : WritingForm → List Opened → LeafLength → Primitive → Value → Result Written Unwritten
written_value writing opened length (Integer form) value = binary_by length (Integer form) value
written_value writing opened length (Packed form) value = binary_by length (Packed form) value
written_value writing opened length (Truth form) value = binary_by length (Truth form) value
written_value writing opened length (Octets form) value = binary_by length (Octets form) value
written_value writing opened length (Text form) value = content writing form (room_in length form.size) opened value
written_value writing opened length (NilOctets form) value = Err BinaryForm
written_value writing opened length (Default form) value = Err BinaryForm
written_value writing opened length (NilValues form) value = Err BinaryForm
written_value writing opened length (Pattern form) value = Err BinaryForm

-- what nil is written as that a text stands for
abbrev pub written_text_nil : WritingForm → TextForm → Room → TextContent → Result Written Unwritten
written_text_nil writing form text_room content_of.Plain = Err BinaryForm
written_text_nil writing form text_room content_of.Octets = Err BinaryForm
written_text_nil writing form text_room (content_of.Number number kind) = Err BinaryForm
written_text_nil writing form text_room (content_of.Zoned zoned) = Err BinaryForm
written_text_nil writing form text_room (content_of.Truth truth) = Err BinaryForm
written_text_nil writing form text_room (content_of.Nil nil) = nil_content writing nil form.pad text_room

-- what nil is written as that bytes stand for: in their box, or, behind a prefix, as it is without one
abbrev pub written_octets : WritingForm → LeafLength → NilOctetsOf → Result Written Unwritten
written_octets writing Own form = nil_octets writing form
written_octets writing (Prefixed prefix) form = nil_content writing form.nil no_pad room.Open
written_octets writing (Measured measure) form = nil_content writing form.nil no_pad room.Open

-- a value that may not be there
abbrev pub written_if : WritingForm → List Opened → LeafLength → Primitive → Option Value → Result Written Unwritten
written_if writing opened length prim None = Err BinaryForm
written_if writing opened length prim (Some value) = written_value writing opened length prim value

-- what nil is written as by its primitive, of an element that has this primitive of its own
abbrev pub written_nil : WritingForm → List Opened → LeafLength → Primitive → Primitive → Result Written Unwritten
written_nil writing opened length prim (Integer form) = Err BinaryForm
written_nil writing opened length prim (Packed form) = Err BinaryForm
written_nil writing opened length prim (Truth form) = Err BinaryForm
written_nil writing opened length prim (Octets form) = Err BinaryForm
written_nil writing opened length prim (Text form) = written_text_nil writing form (room_in length form.size) form.content
written_nil writing opened length prim (NilOctets form) = written_octets writing length form
written_nil writing opened length prim (Default form) = Err BinaryForm
written_nil writing opened length prim (NilValues form) = written_if writing opened length prim (first_value form.values)
written_nil writing opened length prim (Pattern form) = Err BinaryForm

-- the same of an element that may have no primitive of nil
abbrev pub written_nil_if : WritingForm → List Opened → Form → Option Primitive → Result Written Unwritten
written_nil_if writing opened form None = Err BinaryForm
written_nil_if writing opened form (Some nil) = written_nil writing opened form.length form.prim nil

-- what a simple element is written as by what it is, where these lists of markup are open
abbrev pub written : WritingForm → List Opened → Form → Told → Result Written Unwritten
written writing opened form values.Nil = written_nil_if writing opened form form.nil
written writing opened form (values.Is value) = written_value writing opened form.length form.prim value

-- how many bits the box of a text has, where it is in bits
abbrev pub text_box : TextSize → Option ℕ
text_box (size.Bits bits) = Some bits
text_box (size.Characters count) = None
text_box (size.Delimited scan) = None

-- how many bits the box of a primitive has, where it has one in bits
abbrev pub box_of : Primitive → Option ℕ
box_of (Integer form) = Some (box_bits (Integer form))
box_of (Packed form) = Some (box_bits (Packed form))
box_of (Truth form) = Some (box_bits (Truth form))
box_of (Octets form) = Some (box_bits (Octets form))
box_of (Text form) = text_box form.size
box_of (NilOctets form) = Some (box_bits (NilOctets form))
box_of (Default form) = None
box_of (NilValues form) = None
box_of (Pattern form) = None

-- how many bits a content has whatever its value is, where that is known
abbrev pub constant_length : LeafLength → Primitive → Option ℕ
constant_length Own prim = box_of prim
constant_length (Prefixed prefix) prim = None
constant_length (Measured measure) prim = None

-- a length as the value of an unknown, or the cause why there is none
abbrev pub length_or : Result ℕ Unwritten → Asks Held
length_or (Ok bits) = Is (held.Number bits)
length_or (Err cause) = Fails (cause_of cause)
