-- The primitives that the leaves of a schema, their length prefixes and their other representations are read by: one of each for
-- each element of its documents ('Simple Types', 'Lengths', 'DFDL Data Syntax Grammar').
use Rattle.std.specs.Prelude.{◌≡◌, ℕ, Bool, true, false, List, slice_get, Option, None, Some, unwrap_or}
use Rattle.dfdl_forms.specs.declared.order.BitOrder.TheVariants.{MostFirst}
use Rattle.dfdl_forms.specs.declared.order.ByteOrder.TheVariants.{Big}
use Rattle.dfdl_forms.specs.Types.{form_of}
use Rattle.dfdl_forms.specs.declared.encoding.Encoding.TheVariants.{Utf8}
use Rattle.dfdl_forms.specs.declared.simple.Form.{Form}
use Rattle.dfdl_forms.specs.declared.simple.Form.TheVariants as forms
use Rattle.dfdl_forms.specs.declared.simple.Simple.{Simple}
use Rattle.dfdl_forms.specs.declared.simple.Simple.TheVariants.{UnsignedByte}
use Rattle.dfdl_terms.specs.Leaves.{ReadsBy}
use Rattle.dfdl_terms.specs.Rows.{IsWritten, Table}
use Rattle.dfdl_terms.specs.declared.representations.Representations.{Representations}
use Rattle.dfdl_terms.specs.declared.row.Primitive.{Primitive}
use Rattle.dfdl_terms.specs.declared.row.Primitive.TheVariants.{Integer, Packed, Truth, Octets, Text, NilOctets, Default, NilValues, Pattern}
use Rattle.dfdl_terms.specs.declared.row.Row.{Row}
use Rattle.dfdl_terms.specs.declared.row.Row.TheVariants.{Leaf, Elem, Group, Skip, Align, Initiator, Terminator, Separator, Scope, Boxed, PrefixedLeaf, PrefixedBox, MeasuredLeaf, MeasuredBox, Repeat, Counted, Optional, Choice, Dispatch, Statement, Concluded, Hidden, Spanned, Instance, Separated}
use Rattle.dfdl_terms.specs.declared.statement.Statement.{Statement as AnyStatement}
use Rattle.dfdl_terms.specs.declared.statement.Statement.TheVariants as any
use Rattle.dfdl_terms.specs.declared.statement.Statements.{Statements}
use Rattle.dfdl_terms.specs.declared.text.DefaultForm.{DefaultForm}
use Rattle.dfdl_forms.specs.declared.text.Justify.TheVariants.{Left}
use Rattle.dfdl_terms.specs.declared.text.TextContent.TheVariants.{Plain}
use Rattle.dfdl_terms.specs.declared.text.TextSize.{TextSize}
use Rattle.dfdl_terms.specs.declared.text.TextSize.TheVariants.{Bits, Characters, Delimited}
use Rattle.dfdl_checks.specs.Numbers.{type_of}
use Rattle.dfdl_checks.specs.declared.prefixes.PrefixForm.{PrefixForm}
use Rattle.dfdl_breaches.specs.declared.judgement.Judgement.{Judgement}

-- the primitive that stands for a number
abbrev pub a_byte : Primitive
a_byte = Integer (record { bits = 8; bytes_by = Big; bits_by = MostFirst; point = 0; kind = UnsignedByte })

-- those that stand for a boolean, for bytes and for a text
abbrev pub a_truth : Primitive
a_truth = Truth (record { bits = 8; bytes_by = Big; bits_by = MostFirst; truth = None; falsity = 0 })

abbrev pub no_octets : Primitive
no_octets = Octets (record { bits = 0; bits_by = MostFirst })

abbrev pub no_text : Primitive
no_text = Text (record {
  encoding = Utf8;
  replaces = false;
  size = Bits 0;
  pad = record { justify = Left; pad = None; trim = None; truncate = false; keeps_zero = false };
  content = Plain;
})

-- the primitive that stands for one of values of this form
abbrev pub one_of_form : Form → Primitive
one_of_form (forms.Signed bits) = a_byte
one_of_form (forms.Unsigned bits) = a_byte
one_of_form forms.Fixed = a_byte
one_of_form forms.Characters = no_text
one_of_form forms.Truths = a_truth
one_of_form forms.Octets = no_octets

-- The primitive that stands for an element without one of its own, which is no simple element or is refused: an expression that names a refused
-- element sees values of its form.
abbrev pub stand_in : Option Simple → Primitive
stand_in None = a_byte
stand_in (Some simple) = one_of_form (form_of simple)

-- the primitive of an element of which this is told
abbrev pub primitive_by : Judgement → Primitive
primitive_by judgement = unwrap_or judgement.primitive (stand_in judgement.simple)

-- markup ends a content of this size
abbrev pub is_scanned_size : TextSize → Bool
is_scanned_size (Bits n) = false
is_scanned_size (Characters n) = false
is_scanned_size (Delimited scan) = true

-- markup ends a content that is read by this primitive
abbrev pub is_scanned : Primitive → Bool
is_scanned (Integer form) = false
is_scanned (Packed form) = false
is_scanned (Truth form) = false
is_scanned (Octets form) = false
is_scanned (Text form) = is_scanned_size form.size
is_scanned (NilOctets form) = false
is_scanned (Default form) = is_scanned_size form.size
is_scanned (NilValues form) = false
is_scanned (Pattern form) = false

-- the primitive of a prefix, or the one that stands for none
abbrev pub primitive_if : Option PrefixForm → Primitive
primitive_if None = a_byte
primitive_if (Some form) = form.primitive

-- the primitive of the length prefix of an element of which this is told
abbrev pub prefix_primitive_by : Judgement → Primitive
prefix_primitive_by judgement = primitive_if judgement.prefix

-- the primitive of the nil representation of an element of which this is told
abbrev pub nil_primitive_by : Judgement → Primitive
nil_primitive_by judgement = unwrap_or judgement.others.nil a_byte

-- the primitive of the empty representation of a required occurrence of an element of which this is told
abbrev pub empty_primitive_by : Judgement → Primitive
empty_primitive_by judgement = unwrap_or judgement.others.required.empty a_byte

-- the same of an occurrence that is tried
abbrev pub tried_primitive_by : Judgement → Primitive
tried_primitive_by judgement = unwrap_or judgement.others.where_tried.empty a_byte

-- a text that no bits stand for is one of characters, as UTF-8
abbrev pub HasWrittenText : Primitive → Type 0
HasWrittenText primitive = (form : DefaultForm) → primitive ≡ Default form → IsWritten form.value

-- there is a primitive, and its values are of the type
abbrev pub IsOfType : Simple → Option Primitive → Type 0
IsOfType simple None = ⊥
IsOfType simple (Some primitive) = type_of primitive ≡ simple

-- there is a statement, and it calculates values of the type, which aren't those of writing alone
abbrev pub CalculatesType : Simple → Option AnyStatement → Type 0
CalculatesType simple None = ⊥
CalculatesType simple (Some (any.Calculation calculation)) = (calculation.kind ≡ simple) × (calculation.output ≡ false)
CalculatesType simple (Some (any.Pattern test)) = ⊥
CalculatesType simple (Some (any.Expression test)) = ⊥
CalculatesType simple (Some (any.Setting setting)) = ⊥
CalculatesType simple (Some (any.Question question)) = ⊥
CalculatesType simple (Some (any.Opening opening)) = ⊥

-- the body of each simple element reads a value by a primitive of the element's type, or calculates one of the type
abbrev pub HasTypedLeaves : Table → Type 0
HasTypedLeaves t = (row : ℕ) (name : List ℕ) (simple : Simple) (tried : Representations) (behind : Statements) (body : ℕ)
    → slice_get t.rows row ≡ Some (Elem name (Some simple) tried behind body)
    → ReadsBy t.rows (λ prim. IsOfType simple (slice_get t.primitives prim)) (λ number. CalculatesType simple (slice_get t.statements number)) body

-- there is a row, and it is a leaf of a primitive of the type
abbrev pub IsLeafOfType : List Primitive → Simple → Option Row → Type 0
IsLeafOfType primitives simple (Some (Leaf prim)) = IsOfType simple (slice_get primitives prim)
IsLeafOfType primitives simple (Some (Elem name other tried behind body)) = ⊥
IsLeafOfType primitives simple (Some (Group children)) = ⊥
IsLeafOfType primitives simple (Some (Skip bits)) = ⊥
IsLeafOfType primitives simple (Some (Align bits)) = ⊥
IsLeafOfType primitives simple (Some (Initiator delimiter)) = ⊥
IsLeafOfType primitives simple (Some (Terminator delimiter separators)) = ⊥
IsLeafOfType primitives simple (Some Separator) = ⊥
IsLeafOfType primitives simple (Some (Scope list inside)) = ⊥
IsLeafOfType primitives simple (Some (Boxed bits inside)) = ⊥
IsLeafOfType primitives simple (Some (PrefixedLeaf prefix prim)) = ⊥
IsLeafOfType primitives simple (Some (PrefixedBox prefix inside)) = ⊥
IsLeafOfType primitives simple (Some (MeasuredLeaf measure prim)) = ⊥
IsLeafOfType primitives simple (Some (MeasuredBox measure inside)) = ⊥
IsLeafOfType primitives simple (Some (Repeat count inside)) = ⊥
IsLeafOfType primitives simple (Some (Counted question inside)) = ⊥
IsLeafOfType primitives simple (Some (Optional most item initiated inside)) = ⊥
IsLeafOfType primitives simple (Some (Choice branches initiated)) = ⊥
IsLeafOfType primitives simple (Some (Dispatch question keys)) = ⊥
IsLeafOfType primitives simple (Some (Statement statement)) = ⊥
IsLeafOfType primitives simple (Some (Concluded behind inside)) = ⊥
IsLeafOfType primitives simple (Some (Hidden inside)) = ⊥
IsLeafOfType primitives simple (Some (Spanned inside)) = ⊥
IsLeafOfType primitives simple (Some (Instance statement inside)) = ⊥
IsLeafOfType primitives simple (Some (Separated policy position initiated slots)) = ⊥
IsLeafOfType primitives simple None = ⊥

-- the body of each simple element is itself a leaf of a primitive of the element's type
abbrev pub HasBareTypedLeaves : Table → Type 0
HasBareTypedLeaves t = (row : ℕ) (name : List ℕ) (simple : Simple) (tried : Representations) (behind : Statements) (body : ℕ)
    → slice_get t.rows row ≡ Some (Elem name (Some simple) tried behind body) → IsLeafOfType t.primitives simple (slice_get t.rows body)
