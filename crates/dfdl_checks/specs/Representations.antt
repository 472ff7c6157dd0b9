-- The representations of a simple element besides its normal one, which are tried before it for parsing ('DFDL Data Syntax Grammar',
-- on nil and empty representations).
use Rattle.std.specs.Prelude.{ℕ, List, [], ◌*◌, ◌==◌, ◌&&◌, ◌||◌, not, Bool, false, Option, Some, None, is_some, option_and_then, option_map, if◌then◌else◌}
use Rattle.std.specs.Option.{option_map_or, option_or}
use Rattle.dfdl_forms.specs.declared.order.BitOrder.{BitOrder}
use Rattle.dfdl_forms.specs.declared.simple.Simple.{Simple}
use Rattle.dfdl_forms.specs.declared.text.PadForm.{PadForm}
use Rattle.dfdl_terms.specs.declared.row.Primitive.{Primitive}
use Rattle.dfdl_terms.specs.declared.row.Primitive.TheVariants.{Integer, Packed, Truth, Octets, Text, NilOctets, Default, NilValues, Pattern}
use Rattle.dfdl_terms.specs.declared.text.NilForm.{NilForm}
use Rattle.dfdl_terms.specs.declared.text.NilTexts.{NilTexts}
use Rattle.dfdl_terms.specs.declared.text.NilTexts.TheVariants.{Literals, Character, Byte}
use Rattle.dfdl_terms.specs.declared.text.TextContent.TheVariants.{Nil}
use Rattle.dfdl_terms.specs.declared.text.TextForm.{TextForm}
use Rattle.dfdl_terms.specs.declared.text.TextSize.{TextSize}
use Rattle.dfdl_terms.specs.declared.text.TextSize.TheVariants.{Bits, Characters, Delimited}
use Rattle.dfdl_value.specs.declared.value.Value.{Value}
use Rattle.dfdl_value.specs.declared.value.Value.TheVariants as values
use Rattle.dfdl_checks.specs.Defaults.{empty_value}
use Rattle.dfdl_checks.specs.Delimiters.{is_empty_delimited}
use Rattle.dfdl_checks.specs.Judged.{Judged}
use Rattle.dfdl_checks.specs.Nils.{is_nil_by_value, nil_form_of}
use Rattle.dfdl_checks.specs.NilValues.{nil_values}
use Rattle.dfdl_checks.specs.Numbers.{primitive_of}
use Rattle.dfdl_checks.specs.Prefixes.{size_of}
use Rattle.dfdl_checks.specs.Subjects.{is_nillable, is_sized_by_data, is_string_or_bytes}
use Rattle.dfdl_checks.specs.declared.purpose.Purpose.{Purpose}
use Rattle.dfdl_checks.specs.declared.purpose.Purpose.TheVariants.{Parsing, Unparsing}
use Rattle.dfdl_checks.specs.declared.subject.Kind.{Kind}
use Rattle.dfdl_checks.specs.declared.subject.Kind.TheVariants.{SimpleElement}
use Rattle.dfdl_checks.specs.declared.tried.EmptyRepresentation.{EmptyRepresentation}
use Rattle.dfdl_checks.specs.declared.tried.OtherRepresentations.{OtherRepresentations}

-- what is trimmed before a text is compared with those of nil: pad characters before literals, nothing before one character or byte
abbrev pub nil_pad : NilTexts → PadForm → PadForm
nil_pad (Literals literals) pad = pad
nil_pad (Character c) pad = record pad { trim = None }
nil_pad (Byte b) pad = record pad { trim = None }

-- nil in place of what a text is read as
abbrev pub nil_text : NilForm → TextForm → TextForm
nil_text nil form = record form { pad = nil_pad nil.texts form.pad; content = Nil nil }

-- nil in a box of so many bits, in this order
abbrev pub nil_octets : NilForm → ℕ → BitOrder → Primitive
nil_octets nil bits bits_by = NilOctets (record { octets = record { bits = bits; bits_by = bits_by }; nil = nil })

-- nil in the box of a primitive; a primitive that is no component's own has none
abbrev pub nil_by : Primitive → NilForm → Option Primitive
nil_by (Integer form) nil = Some (nil_octets nil form.bits form.bits_by)
nil_by (Packed form) nil = Some (nil_octets nil (4 * form.nibbles) form.bits_by)
nil_by (Truth form) nil = Some (nil_octets nil form.bits form.bits_by)
nil_by (Octets form) nil = Some (nil_octets nil form.bits form.bits_by)
nil_by (Text form) nil = Some (Text (nil_text nil form))
nil_by (NilOctets form) nil = None
nil_by (Default form) nil = None
nil_by (NilValues form) nil = None
nil_by (Pattern form) nil = None

-- nil in place of some values
abbrev pub nil_in : List Value → Primitive
nil_in values = NilValues (record { values = values })

-- the nil representation of an element of the type with this primitive, where it may be nil: by its value, or by what stands in its box
abbrev pub nil_of : Judged → Simple → Primitive → Option Primitive
nil_of subject simple primitive =
    if is_nil_by_value subject then option_map nil_in (nil_values subject simple)
    else option_and_then (nil_by primitive) (nil_form_of subject)

-- a box of this size has nothing in it
abbrev pub is_nothing : TextSize → Bool
is_nothing (Bits n) = n == 0
is_nothing (Characters n) = n == 0
is_nothing (Delimited scan) = false

-- a box of this size can be empty: the data tell how long it is, or it has nothing in it
abbrev pub can_be_empty : Judged → TextSize → Bool
can_be_empty subject size = is_sized_by_data subject || is_nothing size

-- no bits in a box of this size, or up to what delimits them, which stand for a value
abbrev pub default_in : TextSize → Value → Primitive
default_in size value = Default (record { size = size; value = value })

-- no text, which means nothing, where a delimiter shows that the element is empty
abbrev pub no_text : Bool → Option Value
no_text is_delimited = if is_delimited then Some (values.Text []) else None

-- what is told of no bits at an occurrence of the type that takes this default, if one: the value that they stand for, else no text, where a
-- delimiter shows that it is empty
abbrev pub told_of_nothing : Judged → Simple → Option (List ℕ) → Option Value
told_of_nothing subject simple default = option_or (empty_value default simple) (no_text (is_empty_delimited subject))

-- The empty representation of an occurrence with this size and this default, where no bits stand for a value or a delimiter shows that it is
-- empty. A box that can't be empty has none: it would always give way to the normal one.
abbrev pub empty_of : Judged → Simple → TextSize → Option (List ℕ) → Option Primitive
empty_of subject simple size default =
    if can_be_empty subject size then option_map (default_in size) (told_of_nothing subject simple default) else None

-- the occurrence is refused where its empty representation is found: a delimiter shows it, and no bits stand for no value
abbrev pub refuses_empty : Judged → Simple → TextSize → Option (List ℕ) → Bool
refuses_empty subject simple size default =
    can_be_empty subject size && is_empty_delimited subject && not (is_some (empty_value default simple))

-- more than one representation can be tried of an occurrence with this default, though it may always give way
abbrev pub are_several : Judged → Option (List ℕ) → Bool
are_several subject default = is_nillable subject || is_string_or_bytes subject.kind || is_some default || is_empty_delimited subject

-- no empty representation
abbrev pub no_empty : EmptyRepresentation
no_empty = record { empty = None; refuses_empty = false; are_several = false }

-- the empty representation of an occurrence of the type with this size and this default
abbrev pub empty_with : Judged → Simple → TextSize → Option (List ℕ) → EmptyRepresentation
empty_with subject simple size default = record {
  empty = empty_of subject simple size default;
  refuses_empty = refuses_empty subject simple size default;
  are_several = are_several subject default;
}

-- no representation besides the normal one
abbrev pub no_representations : OtherRepresentations
no_representations = record { nil = None; required = no_empty; where_tried = no_empty }

-- the representations of an element of the type with this primitive: a required occurrence takes the element's default, one that is tried takes
-- none
abbrev pub representations_with : Judged → Simple → Primitive → OtherRepresentations
representations_with subject simple primitive = record {
  nil = nil_of subject simple primitive;
  required = empty_with subject simple (size_of primitive) subject.facts.default;
  where_tried = empty_with subject simple (size_of primitive) None;
}

-- the same of an element of a kind with this primitive, if it has one
abbrev pub representations_by : Judged → Kind → Option Primitive → OtherRepresentations
representations_by subject (SimpleElement simple) primitive = option_map_or (representations_with subject simple) primitive no_representations
representations_by subject _ primitive = no_representations

-- the same for a purpose: for unparsing the normal one alone is built
abbrev pub representations_for : Purpose → Judged → OtherRepresentations
representations_for Parsing subject = representations_by subject subject.kind (primitive_of subject)
representations_for Unparsing subject = no_representations

-- which representations of a simple element besides its normal one are tried; a component that has none, or breaks a rule on the
-- normal one, has no other
abbrev pub representations_of : Judged → OtherRepresentations
representations_of subject = representations_for subject.purpose subject
