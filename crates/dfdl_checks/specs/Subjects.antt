-- Which component it is, and what its properties are told to be.
use Rattle.std.specs.Prelude.{ℕ, List, Bool, true, false, nat_lt, not, ◌&&◌, ◌||◌, Option, Some, None, codes}
use Rattle.std.specs.Str.{bytes_eq}
use Rattle.dfdl_forms.specs.Binary.{most_bits}
use Rattle.dfdl_forms.specs.Types.{form_of}
use Rattle.dfdl_forms.specs.declared.simple.Form.{Form}
use Rattle.dfdl_forms.specs.declared.simple.Simple.{Simple}
use Rattle.dfdl_forms.specs.declared.simple.Form.TheVariants.{Signed, Unsigned, Fixed, Characters, Truths, Octets}
use Rattle.dfdl_scope.specs.Expressions.{is_expression, literal}
use Rattle.dfdl_scope.specs.Scoping.{Told, Value, Absent, Twice, told}
use Rattle.dfdl_checks.specs.declared.subject.Kind.{Kind}
use Rattle.dfdl_checks.specs.declared.subject.Kind.TheVariants.{ComplexElement, SimpleElement, UncarriedElement, CalculatedElement, Sequence, HiddenSequence, Choice, PrefixNumber}
use Rattle.dfdl_checks.specs.Judged.{Judged}

-- an element that has a representation
abbrev pub is_element : Kind → Bool
is_element ComplexElement = true
is_element (SimpleElement simple) = true
is_element UncarriedElement = true
is_element (CalculatedElement simple) = false
is_element Sequence = false
is_element HiddenSequence = false
is_element Choice = false
is_element (PrefixNumber simple) = false

-- a sequence that stands for a hidden group: no other property of it, and no statement, has an effect
abbrev pub is_hidden : Kind → Bool
is_hidden HiddenSequence = true
is_hidden _ = false

-- an element whose value is calculated: no property of a representation has an effect
abbrev pub is_calculated : Kind → Bool
is_calculated (CalculatedElement simple) = true
is_calculated _ = false

-- an element
abbrev pub is_any_element : Kind → Bool
is_any_element kind = is_element kind || is_calculated kind

-- a sequence that stands for a hidden group, or an element whose value is calculated: no property of the data that it stands for has an
-- effect
abbrev pub is_bare : Kind → Bool
is_bare HiddenSequence = true
is_bare (CalculatedElement simple) = true
is_bare _ = false

-- the type of a prefix, or one of these: their framing isn't asked for
abbrev pub is_unframed : Kind → Bool
is_unframed (PrefixNumber simple) = true
is_unframed HiddenSequence = true
is_unframed (CalculatedElement simple) = true
is_unframed _ = false

-- an element of a complex type
abbrev pub is_complex : Kind → Bool
is_complex ComplexElement = true
is_complex _ = false

-- an element of a simple type that has a representation, or the type of a prefix
abbrev pub is_simple : Kind → Bool
is_simple ComplexElement = false
is_simple (SimpleElement simple) = true
is_simple UncarriedElement = true
is_simple (CalculatedElement simple) = false
is_simple Sequence = false
is_simple HiddenSequence = false
is_simple Choice = false
is_simple (PrefixNumber simple) = true

-- a sequence of what stands in it
abbrev pub is_sequence : Kind → Bool
is_sequence Sequence = true
is_sequence _ = false

-- a choice
abbrev pub is_choice : Kind → Bool
is_choice Choice = true
is_choice _ = false

-- a sequence or a choice of what stands in it
abbrev pub is_plain_group : Kind → Bool
is_plain_group kind = is_sequence kind || is_choice kind

-- a sequence or a choice, or an element whose value is calculated: it has no length of its own
abbrev pub is_without_length : Kind → Bool
is_without_length kind = is_plain_group kind || is_bare kind

-- the simple type of an element that has a representation, or of the type of a prefix, where it is carried
abbrev pub simple_of : Kind → Option Simple
simple_of (SimpleElement simple) = Some simple
simple_of (PrefixNumber simple) = Some simple
simple_of _ = None

-- values of this form are texts
abbrev pub is_characters : Form → Bool
is_characters Characters = true
is_characters _ = false

-- values of this form are bytes
abbrev pub is_octets : Form → Bool
is_octets Octets = true
is_octets _ = false

-- a simple element, or the type of a prefix, of type string
abbrev pub is_string : Kind → Bool
is_string (SimpleElement simple) = is_characters (form_of simple)
is_string (PrefixNumber simple) = is_characters (form_of simple)
is_string _ = false

-- the same of type hexBinary
abbrev pub is_hex_binary : Kind → Bool
is_hex_binary (SimpleElement simple) = is_octets (form_of simple)
is_hex_binary (PrefixNumber simple) = is_octets (form_of simple)
is_hex_binary _ = false

-- the same of type string or hexBinary
abbrev pub is_string_or_bytes : Kind → Bool
is_string_or_bytes kind = is_string kind || is_hex_binary kind

-- values of this form are written as text or in binary, by the property representation; texts and bytes are not
abbrev pub has_representation : Form → Bool
has_representation (Signed bits) = true
has_representation (Unsigned bits) = true
has_representation Fixed = true
has_representation Truths = true
has_representation Characters = false
has_representation Octets = false

-- a simple element with a representation; one of a type that is not carried counts as one
abbrev pub is_represented : Kind → Bool
is_represented (SimpleElement simple) = has_representation (form_of simple)
is_represented (PrefixNumber simple) = has_representation (form_of simple)
is_represented UncarriedElement = true
is_represented _ = false

-- how many bits an element of an integer or decimal type has at most in binary; 0 for every other component
abbrev pub number_bits : Kind → ℕ
number_bits (SimpleElement simple) = most_bits (form_of simple)
number_bits (PrefixNumber simple) = most_bits (form_of simple)
number_bits _ = 0

-- values of this form are true and false
abbrev pub is_truths : Form → Bool
is_truths Truths = true
is_truths _ = false

-- a simple element, or the type of a prefix, of type boolean
abbrev pub is_boolean : Kind → Bool
is_boolean (SimpleElement simple) = is_truths (form_of simple)
is_boolean (PrefixNumber simple) = is_truths (form_of simple)
is_boolean _ = false

-- how many bits a value of this form has at most in binary: that of a number, and 32 for true and false; 0 for every other form
abbrev pub binary_bits : Form → ℕ
binary_bits Truths = 32
binary_bits form = most_bits form

-- the same of an element's values; 0 for every other component
abbrev pub value_bits : Kind → ℕ
value_bits (SimpleElement simple) = binary_bits (form_of simple)
value_bits (PrefixNumber simple) = binary_bits (form_of simple)
value_bits _ = 0

-- values of this form have digits behind a point
abbrev pub has_point : Form → Bool
has_point Fixed = true
has_point _ = false

-- a simple element, or the type of a prefix, of type decimal
abbrev pub is_decimal : Kind → Bool
is_decimal (SimpleElement simple) = has_point (form_of simple)
is_decimal (PrefixNumber simple) = has_point (form_of simple)
is_decimal _ = false

-- what is told of a property at a component
abbrev pub told_at : Judged → List ℕ → Told
told_at subject name = told subject.chain name

-- what is told stands for this word
abbrev pub is_word : List ℕ → Told → Bool
is_word word (Value written) = bytes_eq (literal written) word
is_word word Absent = false
is_word word (Twice place) = false

-- an expression is told
abbrev pub is_expression_told : Told → Bool
is_expression_told (Value written) = is_expression written
is_expression_told Absent = false
is_expression_told (Twice place) = false

-- a binary number: of an integer or decimal type, and its representation is binary
abbrev pub is_binary_number : Judged → Bool
is_binary_number subject = nat_lt 0 (number_bits subject.kind) && is_word (codes "binary") (told_at subject (codes "representation"))

-- what is told of a property at the component stands for this word
abbrev pub is_told : Judged → List ℕ → List ℕ → Bool
is_told subject name word = is_word word (told_at subject name)

-- a binary boolean: an element of type boolean whose representation is binary
abbrev pub is_binary_boolean : Judged → Bool
is_binary_boolean subject = is_boolean subject.kind && is_told subject (codes "representation") (codes "binary")

-- a binary number or boolean
abbrev pub is_binary : Judged → Bool
is_binary subject = nat_lt 0 (value_bits subject.kind) && is_told subject (codes "representation") (codes "binary")

-- a binary number or boolean with a length of its own
abbrev pub is_explicit_binary : Judged → Bool
is_explicit_binary subject = is_binary subject && is_told subject (codes "lengthKind") (codes "explicit")

-- a binary number with a sign behind its digits, of the representation packed
abbrev pub is_packed : Judged → Bool
is_packed subject = is_binary_number subject && is_told subject (codes "binaryNumberRep") (codes "packed")

-- the length is the component's own
abbrev pub is_explicit : Judged → Bool
is_explicit subject = is_told subject (codes "lengthKind") (codes "explicit")

-- the length is the component's own, by an expression
abbrev pub is_by_expression : Judged → Bool
is_by_expression subject = is_explicit subject && is_expression_told (told_at subject (codes "length"))

-- a text number: an integer or decimal whose representation is text
abbrev pub is_text_number : Judged → Bool
is_text_number subject = nat_lt 0 (number_bits subject.kind) && is_told subject (codes "representation") (codes "text")

-- a text boolean
abbrev pub is_text_boolean : Judged → Bool
is_text_boolean subject = is_boolean subject.kind && is_told subject (codes "representation") (codes "text")

-- a text: a string, a text number or a text boolean
abbrev pub is_text : Judged → Bool
is_text subject = is_string subject.kind || is_text_number subject || is_text_boolean subject

-- a zoned number
abbrev pub is_zoned : Judged → Bool
is_zoned subject = is_text_number subject && is_told subject (codes "textNumberRep") (codes "zoned")

-- a text number by a pattern or by the digits of a base, with a sign of its own
abbrev pub is_standard : Judged → Bool
is_standard subject = is_text_number subject && not (is_told subject (codes "textNumberRep") (codes "zoned"))

-- a simple element that may be nil
abbrev pub is_nillable : Judged → Bool
is_nillable subject = is_element subject.kind && is_simple subject.kind && subject.facts.is_nillable

-- a component whose content stands in a box of its own length, that of its type or one that the data tell: a text, an element of
-- type hexBinary, or a complex element, which has none of its type
abbrev pub is_boxed : Judged → Bool
is_boxed subject = is_text subject || is_hex_binary subject.kind || is_complex subject.kind

-- what may have a length has one by a pattern
abbrev pub is_by_pattern : Judged → Bool
is_by_pattern subject = not (is_without_length subject.kind) && is_told subject (codes "lengthKind") (codes "pattern")

-- what may have a length has a length prefix
abbrev pub is_prefixed : Judged → Bool
is_prefixed subject = not (is_without_length subject.kind) && is_told subject (codes "lengthKind") (codes "prefixed")

-- what may have a length has a delimited one
abbrev pub has_delimited_length : Judged → Bool
has_delimited_length subject = not (is_without_length subject.kind) && is_told subject (codes "lengthKind") (codes "delimited")

-- the data tell the length, by a prefix, by what a pattern matches in them, by what delimits it, or by an expression over them
abbrev pub is_sized_by_data : Judged → Bool
is_sized_by_data subject = is_prefixed subject || is_by_pattern subject || has_delimited_length subject || is_by_expression subject

-- an element of type hexBinary of delimited length
abbrev pub is_delimited_bytes : Judged → Bool
is_delimited_bytes subject = is_hex_binary subject.kind && is_told subject (codes "lengthKind") (codes "delimited")
