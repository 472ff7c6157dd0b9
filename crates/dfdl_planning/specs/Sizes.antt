-- How many bits boxes have, and which are of whole bytes. 'Lengths', 'Framing'.
use Rattle.std.specs.Prelude.{ℕ, ◌*◌, ◌-◌, ◌^◌, ◌%◌, ◌==◌, ◌&&◌, ◌||◌, min, Bool, true, false, slice_get, Option, None, Some}
use Rattle.dfdl_forms.specs.declared.encoding.Encoding.{Encoding}
use Rattle.dfdl_forms.specs.declared.encoding.Encoding.TheVariants.{Utf8, UsAscii, Iso88591, Utf16Be, Utf16Le}
use Rattle.dfdl_terms.specs.declared.framing.Framing.{Framing}
use Rattle.dfdl_terms.specs.declared.prefix.LengthUnit.{LengthUnit}
use Rattle.dfdl_terms.specs.declared.prefix.LengthUnit.TheVariants as unit
use Rattle.dfdl_terms.specs.declared.prefix.Prefix.{Prefix}
use Rattle.dfdl_terms.specs.declared.row.Primitive.{Primitive}
use Rattle.dfdl_terms.specs.declared.row.Primitive.TheVariants.{Integer, Packed, Truth, Octets, Text, NilOctets, Default, NilValues, Pattern}
use Rattle.dfdl_terms.specs.declared.text.TextForm.{TextForm}
use Rattle.dfdl_terms.specs.declared.text.TextSize.{TextSize}
use Rattle.dfdl_terms.specs.declared.text.TextSize.TheVariants as size
use Rattle.dfdl_rows.specs.declared.component.ContentBox.{ContentBox}
use Rattle.dfdl_rows.specs.declared.component.ContentBox.TheVariants as box
use Rattle.dfdl_rows.specs.declared.component.LeafLength.{LeafLength}
use Rattle.dfdl_rows.specs.declared.component.LeafLength.TheVariants as leaf_length
use Rattle.dfdl_cells.specs.Plans.{Plan}

-- how many bits the smallest unit of an encoding has
abbrev pub unit_bits : Encoding → ℕ
unit_bits Utf8 = 8
unit_bits UsAscii = 8
unit_bits Iso88591 = 8
unit_bits Utf16Be = 16
unit_bits Utf16Le = 16

-- how many bits a text has in its box; what is counted in characters has that many of the smallest unit
abbrev pub size_bits : Encoding → TextSize → ℕ
size_bits encoding (size.Bits bits) = bits
size_bits encoding (size.Characters count) = min (count * unit_bits encoding) (2 ^ 64 - 1)
size_bits encoding (size.Delimited scan) = 0

abbrev pub text_bits : TextForm → ℕ
text_bits form = size_bits form.encoding form.size

-- how many bits the box of a primitive has; one without a box has none
abbrev pub prim_bits : Primitive → ℕ
prim_bits (Integer form) = form.bits
prim_bits (Packed form) = 4 * form.nibbles
prim_bits (Truth form) = form.bits
prim_bits (Octets form) = form.bits
prim_bits (Text form) = text_bits form
prim_bits (NilOctets form) = form.octets.bits
prim_bits (Default form) = 0
prim_bits (NilValues form) = 0
prim_bits (Pattern form) = 0

abbrev pub prim_bits_if : Option Primitive → ℕ
prim_bits_if None = 0
prim_bits_if (Some prim) = prim_bits prim

-- how many bits a length prefix has
abbrev pub prefix_bits : Plan → Prefix → ℕ
prefix_bits plan prefix = prim_bits_if (slice_get plan.table.primitives prefix.prim)

-- a pattern tells the length, and takes no bits
abbrev pub is_pattern_prim : Option Primitive → Bool
is_pattern_prim None = false
is_pattern_prim (Some (Integer form)) = false
is_pattern_prim (Some (Packed form)) = false
is_pattern_prim (Some (Truth form)) = false
is_pattern_prim (Some (Octets form)) = false
is_pattern_prim (Some (Text form)) = false
is_pattern_prim (Some (NilOctets form)) = false
is_pattern_prim (Some (Default form)) = false
is_pattern_prim (Some (NilValues form)) = false
is_pattern_prim (Some (Pattern form)) = true

abbrev pub is_pattern : Plan → Prefix → Bool
is_pattern plan prefix = is_pattern_prim (slice_get plan.table.primitives prefix.prim)

-- so many bits are whole bytes
abbrev pub are_whole : ℕ → Bool
are_whole bits = bits % 8 == 0

-- a text's box of bits is one of whole bytes
abbrev pub is_whole_text : TextSize → Bool
is_whole_text (size.Bits bits) = are_whole bits
is_whole_text (size.Characters count) = true
is_whole_text (size.Delimited scan) = true

-- so is the box of a primitive
abbrev pub is_whole_prim : Option Primitive → Bool
is_whole_prim None = true
is_whole_prim (Some (Integer form)) = are_whole (prim_bits (Integer form))
is_whole_prim (Some (Packed form)) = are_whole (prim_bits (Packed form))
is_whole_prim (Some (Truth form)) = are_whole (prim_bits (Truth form))
is_whole_prim (Some (Octets form)) = are_whole (prim_bits (Octets form))
is_whole_prim (Some (Text form)) = is_whole_text form.size
is_whole_prim (Some (NilOctets form)) = are_whole (prim_bits (NilOctets form))
is_whole_prim (Some (Default form)) = are_whole (prim_bits (Default form))
is_whole_prim (Some (NilValues form)) = are_whole (prim_bits (NilValues form))
is_whole_prim (Some (Pattern form)) = are_whole (prim_bits (Pattern form))

-- a length that such a unit counts is one of whole bytes
abbrev pub is_whole_unit : LengthUnit → Bool
is_whole_unit unit.Bits = false
is_whole_unit unit.Bytes = true
is_whole_unit unit.Characters = true

-- a prefix and what it tells are of whole bytes
abbrev pub is_whole_prefix : Plan → Prefix → Bool
is_whole_prefix plan prefix = is_whole_unit prefix.unit && are_whole (prefix_bits plan prefix)

-- the length of a simple content is one of whole bytes
abbrev pub is_whole_leaf : Plan → ℕ → LeafLength → Bool
is_whole_leaf plan prim leaf_length.Own = is_whole_prim (slice_get plan.table.primitives prim)
is_whole_leaf plan prim (leaf_length.Prefixed prefix) = is_whole_prefix plan prefix
is_whole_leaf plan prim (leaf_length.Measured measure) = is_whole_unit measure.unit

-- the box of a content with parts is
abbrev pub is_whole_box : Plan → ContentBox → Bool
is_whole_box plan box.Unbounded = true
is_whole_box plan (box.Sized bits) = are_whole bits
is_whole_box plan (box.Prefixed prefix) = is_whole_prefix plan prefix
is_whole_box plan (box.Measured measure) = is_whole_unit measure.unit

-- an alignment leaves what is on whole bytes there
abbrev pub is_whole_alignment : ℕ → Bool
is_whole_alignment alignment = alignment % 8 == 0 || alignment == 1 || alignment == 2 || alignment == 4

-- what stands around a content is of whole bytes
abbrev pub is_whole_framing : Framing → Bool
is_whole_framing framing =
    framing.leading_skip % 8 == 0 && framing.trailing_skip % 8 == 0 && is_whole_alignment framing.alignment
