-- What a leaf is read by: a primitive, with the size that its box has.
use Rattle.std.specs.Prelude.{ℕ, List, Option, Some, None}
use Rattle.dfdl_forms.specs.BinaryNumbers.{IsIntForm, IsPackedForm, IsTruthForm}
use Rattle.dfdl_terms.specs.declared.row.Primitive.{Primitive}
use Rattle.dfdl_terms.specs.declared.row.Primitive.TheVariants as primitive
use Rattle.dfdl_terms.specs.declared.text.DefaultForm.{DefaultForm}
use Rattle.dfdl_terms.specs.declared.text.NilOctets.{NilOctets as NilOctetsForm}
use Rattle.dfdl_terms.specs.declared.text.TextForm.{TextForm}
use Rattle.dfdl_terms.specs.declared.text.TextSize.{TextSize}
use Rattle.dfdl_terms.specs.Rows.{IsTextContent}
use Rattle.dfdl_value.specs.declared.value.Value.{Value}
use Rattle.dfdl_leaves.specs.declared.view.Leaf.{Leaf}
use Rattle.dfdl_leaves.specs.declared.view.Leaf.TheVariants.{Integer, Packed, Truth, Octets, Text, NilOctets, Default, NilValues, Pattern}
use Rattle.dfdl_leaves.specs.declared.view.Wanted.{Wanted}
use Rattle.dfdl_leaves.specs.declared.view.Wanted.TheVariants.{Any, OneOf}

-- a text with another size
abbrev pub text_of : TextForm → TextSize → TextForm
text_of form size = record form { size = size }

-- the bytes of nil with another size
abbrev pub nil_of : NilOctetsForm → ℕ → NilOctetsForm
nil_of form bits = record form { octets = record form.octets { bits = bits } }

-- a default with another size
abbrev pub default_of : DefaultForm → TextSize → DefaultForm
default_of form size = record form { size = size }

-- the primitive that a leaf is read by
abbrev pub primitive_of : Leaf → Primitive
primitive_of (Integer form) = primitive.Integer form
primitive_of (Packed form) = primitive.Packed form
primitive_of (Truth form) = primitive.Truth form
primitive_of (Octets form) = primitive.Octets form
primitive_of (Text form size) = primitive.Text (text_of form.now size)
primitive_of (NilOctets form bits) = primitive.NilOctets (nil_of form.now bits)
primitive_of (Default form size) = primitive.Default (default_of form.now size)
primitive_of (NilValues form) = primitive.NilValues form.now
primitive_of (Pattern form) = primitive.Pattern form.now

-- the values that are nil, where a leaf has to have one of them
abbrev pub wanted : Wanted → Option (List Value)
wanted Any = None
wanted (OneOf values) = Some values.now

-- the form of a primitive keeps the bounds of its type, whatever the size of a text, of bytes or of a default
abbrev pub IsSound : Primitive → Type 0
IsSound (primitive.Integer form) = IsIntForm form
IsSound (primitive.Packed form) = IsPackedForm form
IsSound (primitive.Truth form) = IsTruthForm form
IsSound (primitive.Octets form) = Unit {0}
IsSound (primitive.Text form) = IsTextContent form.content
IsSound (primitive.NilOctets form) = Unit {0}
IsSound (primitive.Default form) = Unit {0}
IsSound (primitive.NilValues form) = Unit {0}
IsSound (primitive.Pattern form) = Unit {0}
