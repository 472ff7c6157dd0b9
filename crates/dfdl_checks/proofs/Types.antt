-- The types of numbers that are built.
use Rattle.std.proofs.Common.{◌≡◌, refl, subst, ◌≤◌, Bool, true, false, not, nat_lt, Some, None, IsTrue, arith}
use Rattle.dfdl_forms.specs.Binary.{most_bits}
use Rattle.dfdl_forms.specs.Types.{form_of}
use Rattle.dfdl_forms.specs.declared.simple.Form.{Form}
use Rattle.dfdl_forms.specs.declared.simple.Form.TheVariants as forms
use Rattle.dfdl_forms.specs.declared.simple.Simple.{Simple}
use Rattle.dfdl_forms.specs.declared.simple.Simple.TheVariants as types
use Rattle.dfdl_checks.specs.BuiltTypes.{is_built_type, is_whole_type}
use Rattle.dfdl_checks.specs.Rules.{has_later_type, is_type_not_carried}
use Rattle.dfdl_checks.specs.Subjects.{binary_bits, has_point, has_representation, is_boolean, is_characters, is_decimal, is_hex_binary, is_octets, is_represented, is_simple, is_string, is_truths, number_bits, simple_of, value_bits}
use Rattle.dfdl_checks.specs.declared.purpose.Purpose.{Purpose}
use Rattle.dfdl_checks.specs.declared.subject.Kind.{Kind}
use Rattle.dfdl_checks.specs.declared.subject.Kind.TheVariants.{ComplexElement, SimpleElement, UncarriedElement, CalculatedElement, Sequence, HiddenSequence, Choice, PrefixNumber}

-- a value with a representation has a binary form
pub represented-value : (simple : Simple) → has_representation (form_of simple) ≡ true → nat_lt 0 (binary_bits (form_of simple)) ≡ true
represented-value types.UnsignedByte has = refl
represented-value types.UnsignedShort has = refl
represented-value types.UnsignedInt has = refl
represented-value types.UnsignedLong has = refl
represented-value types.String has = grind (arith, has)
represented-value types.HexBinary has = grind (arith, has)
represented-value types.Boolean has = refl
represented-value types.Decimal has = refl
represented-value types.Integer has = refl
represented-value types.NonNegativeInteger has = refl
represented-value types.Byte has = refl
represented-value types.Short has = refl
represented-value types.Int has = refl
represented-value types.Long has = refl

-- and it is neither text nor bytes
pub represented-apart : (form : Form) → has_representation form ≡ true → (is_characters form ≡ false) × (is_octets form ≡ false)
represented-apart (forms.Signed bits) has = (refl, refl)
represented-apart (forms.Unsigned bits) has = (refl, refl)
represented-apart forms.Fixed has = (refl, refl)
represented-apart forms.Characters has = grind (arith, has)
represented-apart forms.Truths has = (refl, refl)
represented-apart forms.Octets has = grind (arith, has)

-- what is neither has a representation
pub represented-else : (form : Form) → is_characters form ≡ false → is_octets form ≡ false → has_representation form ≡ true
represented-else (forms.Signed bits) no-text no-bytes = refl
represented-else (forms.Unsigned bits) no-text no-bytes = refl
represented-else forms.Fixed no-text no-bytes = refl
represented-else forms.Characters no-text no-bytes = grind (arith, no-text)
represented-else forms.Truths no-text no-bytes = refl
represented-else forms.Octets no-text no-bytes = grind (arith, no-bytes)

-- a type of texts is string
pub string-type : (simple : Simple) → is_characters (form_of simple) ≡ true → simple ≡ types.String
string-type types.UnsignedByte is = grind (arith, is)
string-type types.UnsignedShort is = grind (arith, is)
string-type types.UnsignedInt is = grind (arith, is)
string-type types.UnsignedLong is = grind (arith, is)
string-type types.String is = refl
string-type types.HexBinary is = grind (arith, is)
string-type types.Boolean is = grind (arith, is)
string-type types.Decimal is = grind (arith, is)
string-type types.Integer is = grind (arith, is)
string-type types.NonNegativeInteger is = grind (arith, is)
string-type types.Byte is = grind (arith, is)
string-type types.Short is = grind (arith, is)
string-type types.Int is = grind (arith, is)
string-type types.Long is = grind (arith, is)

-- a type of bytes is hexBinary
pub bytes-type : (simple : Simple) → is_octets (form_of simple) ≡ true → simple ≡ types.HexBinary
bytes-type types.UnsignedByte is = grind (arith, is)
bytes-type types.UnsignedShort is = grind (arith, is)
bytes-type types.UnsignedInt is = grind (arith, is)
bytes-type types.UnsignedLong is = grind (arith, is)
bytes-type types.String is = grind (arith, is)
bytes-type types.HexBinary is = refl
bytes-type types.Boolean is = grind (arith, is)
bytes-type types.Decimal is = grind (arith, is)
bytes-type types.Integer is = grind (arith, is)
bytes-type types.NonNegativeInteger is = grind (arith, is)
bytes-type types.Byte is = grind (arith, is)
bytes-type types.Short is = grind (arith, is)
bytes-type types.Int is = grind (arith, is)
bytes-type types.Long is = grind (arith, is)

-- what has a binary form and isn't true or false is a number, of as many bits
pub plain-bits : (form : Form) → is_truths form ≡ false → binary_bits form ≡ most_bits form
plain-bits (forms.Signed bits) apart = refl
plain-bits (forms.Unsigned bits) apart = refl
plain-bits forms.Fixed apart = refl
plain-bits forms.Characters apart = refl
plain-bits forms.Truths apart = grind (arith, apart)
plain-bits forms.Octets apart = refl

-- true and false have 32 bits
pub truth-bits : (form : Form) → is_truths form ≡ true → binary_bits form ≡ 32
truth-bits (forms.Signed bits) is = grind (arith, is)
truth-bits (forms.Unsigned bits) is = grind (arith, is)
truth-bits forms.Fixed is = grind (arith, is)
truth-bits forms.Characters is = grind (arith, is)
truth-bits forms.Truths is = refl
truth-bits forms.Octets is = grind (arith, is)

-- the type of true and false is boolean
pub boolean-type : (simple : Simple) → is_truths (form_of simple) ≡ true → simple ≡ types.Boolean
boolean-type types.Boolean is = refl
boolean-type types.UnsignedByte is = grind (arith, is)
boolean-type types.UnsignedShort is = grind (arith, is)
boolean-type types.UnsignedInt is = grind (arith, is)
boolean-type types.UnsignedLong is = grind (arith, is)
boolean-type types.String is = grind (arith, is)
boolean-type types.HexBinary is = grind (arith, is)
boolean-type types.Decimal is = grind (arith, is)
boolean-type types.Integer is = grind (arith, is)
boolean-type types.NonNegativeInteger is = grind (arith, is)
boolean-type types.Byte is = grind (arith, is)
boolean-type types.Short is = grind (arith, is)
boolean-type types.Int is = grind (arith, is)
boolean-type types.Long is = grind (arith, is)

-- a type of whole bytes is one of numbers
pub whole-number : (simple : Simple) → is_whole_type simple ≡ true → nat_lt 0 (most_bits (form_of simple)) ≡ true
whole-number types.UnsignedByte whole = refl
whole-number types.UnsignedShort whole = refl
whole-number types.UnsignedInt whole = refl
whole-number types.UnsignedLong whole = refl
whole-number types.String whole = grind (arith, whole)
whole-number types.HexBinary whole = grind (arith, whole)
whole-number types.Boolean whole = grind (arith, whole)
whole-number types.Decimal whole = refl
whole-number types.Integer whole = refl
whole-number types.NonNegativeInteger whole = refl
whole-number types.Byte whole = refl
whole-number types.Short whole = refl
whole-number types.Int whole = refl
whole-number types.Long whole = refl

-- a type of whole bytes is not that of true and false
pub whole-apart : (simple : Simple) → is_whole_type simple ≡ true → is_truths (form_of simple) ≡ false
whole-apart types.Boolean whole = grind (arith, whole)
whole-apart _ whole = refl

-- its values have a representation
pub whole-represented : (simple : Simple) → is_whole_type simple ≡ true → has_representation (form_of simple) ≡ true
whole-represented types.String whole = grind (arith, whole)
whole-represented types.HexBinary whole = grind (arith, whole)
whole-represented _ whole = refl

-- no type has more than 128 bits
pub few-bits : (simple : Simple) → most_bits (form_of simple) ≤ 128
few-bits types.UnsignedByte = omega arith
few-bits types.UnsignedShort = omega arith
few-bits types.UnsignedInt = omega arith
few-bits types.UnsignedLong = omega arith
few-bits types.String = omega arith
few-bits types.HexBinary = omega arith
few-bits types.Boolean = omega arith
few-bits types.Decimal = omega arith
few-bits types.Integer = omega arith
few-bits types.NonNegativeInteger = omega arith
few-bits types.Byte = omega arith
few-bits types.Short = omega arith
few-bits types.Int = omega arith
few-bits types.Long = omega arith

-- a form with a binary value is one of numbers or that of true and false
pub number-or-truth : (form : Form) → nat_lt 0 (binary_bits form) ≡ true → is_truths form ≡ false → nat_lt 0 (most_bits form) ≡ true
number-or-truth (forms.Signed bits) some apart = some
number-or-truth (forms.Unsigned bits) some apart = some
number-or-truth forms.Fixed some apart = refl
number-or-truth forms.Characters some apart = grind (arith, some)
number-or-truth forms.Truths some apart = grind (arith, apart)
number-or-truth forms.Octets some apart = grind (arith, some)

-- what a component of a kind is, by the form of its type's values
pub record IsOfForm (kind : Kind) (form : Form) : Type 0 where
  pub simple : is_simple kind ≡ true
  pub string : is_string kind ≡ is_characters form
  pub bytes : is_hex_binary kind ≡ is_octets form
  pub boolean : is_boolean kind ≡ is_truths form
  pub decimal : is_decimal kind ≡ has_point form
  pub represented : is_represented kind ≡ has_representation form
  pub number_size : number_bits kind ≡ most_bits form
  pub value_size : value_bits kind ≡ binary_bits form

none-simple : {A : Type 0} (simple : Simple) → None ≡ Some simple → A
none-simple simple is = absurd (cc)

-- an element of a type is of the form of its values
element-form : (t : Simple) → IsOfForm (SimpleElement t) (form_of t)
element-form t = record {
  simple = refl;
  string = refl;
  bytes = refl;
  boolean = refl;
  decimal = refl;
  represented = refl;
  number_size = refl;
  value_size = refl;
}

-- so is the type of a prefix
prefix-form : (t : Simple) → IsOfForm (PrefixNumber t) (form_of t)
prefix-form t = record {
  simple = refl;
  string = refl;
  bytes = refl;
  boolean = refl;
  decimal = refl;
  represented = refl;
  number_size = refl;
  value_size = refl;
}

same-form : (kind : Kind) (a b : Simple) → IsOfForm kind (form_of a) → Some a ≡ Some b → IsOfForm kind (form_of b)
same-form kind a b of is = subst (λ t. IsOfForm kind (form_of t)) same of
  where
    same : a ≡ b
    same = cc

-- a component of a type is of the form of its values
pub of-type : (kind : Kind) (simple : Simple) → simple_of kind ≡ Some simple → IsOfForm kind (form_of simple)
of-type ComplexElement simple is = none-simple simple is
of-type (SimpleElement t) simple is = same-form (SimpleElement t) t simple (element-form t) is
of-type UncarriedElement simple is = none-simple simple is
of-type (CalculatedElement t) simple is = none-simple simple is
of-type Sequence simple is = none-simple simple is
of-type HiddenSequence simple is = none-simple simple is
of-type Choice simple is = none-simple simple is
of-type (PrefixNumber t) simple is = same-form (PrefixNumber t) t simple (prefix-form t) is

-- what is not built later is built
turned : (b : Bool) → not b ≡ false → b ≡ true
turned b kept = grind (arith, kept)

-- a component that is neither of a later type nor of one that is not carried is of a type that is built
pub record IsBuilt (purpose : Purpose) (kind : Kind) : Type 0 where
  pub simple : Simple
  pub kind_is : simple_of kind ≡ Some simple
  pub built : is_built_type purpose simple ≡ true

pub built-type : (purpose : Purpose) (kind : Kind) → has_later_type purpose kind ≡ false → is_type_not_carried kind ≡ false → IsTrue (is_simple kind)
    → IsBuilt purpose kind
built-type purpose ComplexElement later typed is = grind (arith, is)
built-type purpose (SimpleElement simple) later typed is =
    record { simple = simple; kind_is = refl; built = turned (is_built_type purpose simple) later }
built-type purpose UncarriedElement later typed is = grind (arith, typed)
built-type purpose (CalculatedElement simple) later typed is = grind (arith, is)
built-type purpose Sequence later typed is = grind (arith, is)
built-type purpose HiddenSequence later typed is = grind (arith, is)
built-type purpose Choice later typed is = grind (arith, is)
built-type purpose (PrefixNumber simple) later typed is =
    record { simple = simple; kind_is = refl; built = turned (is_built_type purpose simple) later }
