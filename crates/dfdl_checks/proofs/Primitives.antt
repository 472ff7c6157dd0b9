-- What is known of each component with a primitive.
use Rattle.std.proofs.Common.{◌≡◌, refl, sym, ap, subst, ◌∙◌, ℕ, List, ◌≤◌, ◌*◌, ◌/◌, ◌%◌, ◌==◌, Option, Some, None, Bool, true, false, if◌then◌else◌, ◌&&◌, ◌||◌, nat_le, nat_lt, option_and_then, option_map, codes, IsTrue, arith}
use Rattle.std.specs.Str.Parse.{digits_value}
use Rattle.dfdl_forms.specs.Binary.{most_bits, most_places}
use Rattle.dfdl_forms.specs.Types.{form_of}
use Rattle.dfdl_forms.specs.declared.binary.IntForm.{IntForm}
use Rattle.dfdl_forms.specs.declared.binary.BitTruthForm.{BitTruthForm}
use Rattle.dfdl_forms.specs.declared.packed.PackedForm.{PackedForm}
use Rattle.dfdl_forms.specs.declared.packed.PackedRep.{PackedRep}
use Rattle.dfdl_forms.specs.declared.packed.PackedRep.TheVariants as reps
use Rattle.dfdl_forms.specs.Packed.{are_allowed, most_nibbles}
use Rattle.dfdl_forms.specs.declared.encoding.Encoding.{Encoding}
use Rattle.dfdl_forms.specs.declared.order.BitOrder.TheVariants.{MostFirst}
use Rattle.dfdl_forms.specs.declared.simple.Form.{Form}
use Rattle.dfdl_forms.specs.declared.simple.Form.TheVariants as forms
use Rattle.dfdl_forms.specs.declared.simple.Simple.{Simple}
use Rattle.dfdl_forms.specs.declared.simple.Simple.TheVariants as types
use Rattle.dfdl_scope.specs.Expressions.{literal}
use Rattle.dfdl_scope.specs.Scoping.{Told, Value, Absent, Twice}
use Rattle.dfdl_terms.specs.Rows.{IsPrimitive, IsTextSize, most_length}
use Rattle.dfdl_terms.specs.declared.row.Primitive.{Primitive}
use Rattle.dfdl_terms.specs.declared.row.Primitive.TheVariants.{Integer, Packed, Truth, Octets, Text, NilOctets, Default, NilValues, Pattern}
use Rattle.dfdl_terms.specs.declared.text.OctetForm.{OctetForm}
use Rattle.dfdl_terms.specs.declared.text.TextContent.{TextContent}
use Rattle.dfdl_terms.specs.declared.text.TextForm.{TextForm}
use Rattle.dfdl_terms.specs.declared.text.TextSize.{TextSize}
use Rattle.dfdl_terms.specs.declared.text.TextSize.TheVariants.{Delimited}
use Rattle.dfdl_checks.proofs.BoxBounds.{bits-within, none-some, some-is, units-within}
use Rattle.dfdl_checks.proofs.Types.{boolean-type, bytes-type, few-bits, number-or-truth, of-type, represented-else, represented-value, whole-number}
use Rattle.dfdl_checks.proofs.Contents.{ArePatternsBounded, IsContentOf, content-bounded, content-is, content-typed}
use Rattle.dfdl_checks.specs.Booleans.{falsity_told, truth_told}
use Rattle.dfdl_checks.specs.Boxes.{box_bits, box_unit, box_units, is_in_characters}
use Rattle.dfdl_checks.specs.Encodings.{encoding_told}
use Rattle.dfdl_checks.specs.Forms.{IsWhole, IsWholeUnsigned, is_whole}
use Rattle.dfdl_checks.specs.Lengths.{constant_length, size_within}
use Rattle.dfdl_checks.specs.Numbers.{HasBitOrder, binary_of_type, field_bits, field_nibbles, number_by, number_of_rep, number_of_type, own_size, packed_by, packed_of_type, places_of, places_told, primitive_for, primitive_of, primitive_of_kind, primitive_of_type, primitive_parsed, truth_by, truth_of, type_of}
use Rattle.dfdl_checks.specs.Orders.{field_order, order_for, orders_of}
use Rattle.dfdl_checks.specs.Packed.{allowed_codes, codes_for, codes_in, codes_of_text, codes_told, is_strict, nibbles_in, nibbles_within, are_four, rep_of, usual_codes}
use Rattle.dfdl_checks.specs.BuiltTypes.{is_built_type, is_whole_type}
use Rattle.dfdl_checks.specs.Subjects.{binary_bits, has_delimited_length, has_point, is_characters, is_explicit, is_octets, is_sized_by_data, is_string, is_text, is_text_boolean, is_text_number, is_truths, simple_of, told_at}
use Rattle.dfdl_checks.specs.Texts.{boxed_size, content_of, delimited_octets, octets_by, octets_of, pad_of, replaces_at, scan_of, size_in, text_by, text_in, text_of, text_size}
use Rattle.dfdl_checks.specs.Values.{is_number}
use Rattle.dfdl_checks.specs.declared.purpose.Purpose.{Purpose}
use Rattle.dfdl_checks.specs.declared.purpose.Purpose.TheVariants.{Parsing, Unparsing}
use Rattle.dfdl_checks.specs.declared.subject.Kind.{Kind}
use Rattle.dfdl_checks.specs.declared.subject.Kind.TheVariants.{ComplexElement, SimpleElement, UncarriedElement, CalculatedElement, Sequence, HiddenSequence, Choice, PrefixNumber}
use Rattle.dfdl_checks.specs.Judged.{Judged}

-- the primitive of a component is a binary integer or decimal of its type, by what is told of it
pub record IsIntegerOf (s : Judged) (form : IntForm) : Type 0 where
  pub kind : simple_of s.kind ≡ Some form.kind
  pub built : is_built_type s.purpose form.kind ≡ true
  pub some : nat_lt 0 (most_bits (form_of form.kind)) ≡ true
  pub plain : s.purpose ≡ Parsing → rep_of s ≡ None
  pub bits : field_bits s (most_bits (form_of form.kind)) ≡ Some form.bits
  pub places : places_of form.kind (told_at s (codes "binaryDecimalVirtualPoint")) ≡ Some form.point
  pub bits_by : form.bits_by ≡ field_order s

-- it is a packed number
pub record IsPackedOf (s : Judged) (form : PackedForm) : Type 0 where
  pub kind : simple_of s.kind ≡ Some form.kind
  pub parsing : s.purpose ≡ Parsing
  pub rep : rep_of s ≡ Some form.rep
  pub nibbles : field_nibbles s form.rep ≡ Some form.nibbles
  pub signs : codes_for form.rep (told_at s (codes "binaryPackedSignCodes")) ≡ Some form.codes
  pub places : places_of form.kind (told_at s (codes "binaryDecimalVirtualPoint")) ≡ Some form.point
  pub bits_by : form.bits_by ≡ field_order s

-- it is a boolean
pub record IsTruthOf (s : Judged) (form : BitTruthForm) : Type 0 where
  pub kind : simple_of s.kind ≡ Some types.Boolean
  pub parsing : s.purpose ≡ Parsing
  pub bits : field_bits s 32 ≡ Some form.bits
  pub bits_by : form.bits_by ≡ field_order s

-- it is the bytes of a box
pub record IsOctetsOf (s : Judged) (form : OctetForm) : Type 0 where
  pub kind : simple_of s.kind ≡ Some types.HexBinary
  pub parsing : s.purpose ≡ Parsing
  pub bits : box_bits s ≡ Some form.bits
  pub bits_by : form.bits_by ≡ field_order s

-- it is a text
pub record IsTextOf (s : Judged) (form : TextForm) : Type 0 where
  pub simple : Simple
  pub kind : simple_of s.kind ≡ Some simple
  pub parsing : s.purpose ≡ Parsing
  pub size : IsTextSize form.size
  pub content : IsContentOf s simple form.content

-- what is known of the primitive of a component
abbrev pub IsOf : Judged → Primitive → Type 0
IsOf s (Integer form) = IsIntegerOf s form
IsOf s (Packed form) = IsPackedOf s form
IsOf s (Truth form) = IsTruthOf s form
IsOf s (Octets form) = IsOctetsOf s form
IsOf s (Text form) = IsTextOf s form
IsOf s (NilOctets form) = ⊥
IsOf s (Default form) = ⊥
IsOf s (NilValues form) = ⊥
IsOf s (Pattern form) = ⊥

-- the same, where there is one
abbrev IsOfIf : Judged → Option Primitive → Type 0
IsOfIf s None = Unit {0}
IsOfIf s (Some p) = IsOf s p

number-of : (s : Judged) (simple : Simple) → simple_of s.kind ≡ Some simple → is_built_type s.purpose simple ≡ true
    → nat_lt 0 (most_bits (form_of simple)) ≡ true → (s.purpose ≡ Parsing → rep_of s ≡ None) → IsOfIf s (number_of_type s simple)
number-of s simple kind built some plain =
    by (field_bits s (most_bits (form_of simple))) (places_of simple (told_at s (codes "binaryDecimalVirtualPoint"))) refl refl
  where
    by : (bits places : Option ℕ) → field_bits s (most_bits (form_of simple)) ≡ bits
        → places_of simple (told_at s (codes "binaryDecimalVirtualPoint")) ≡ places
        → IsOfIf s (number_by simple (orders_of s) bits places)
    by (Some b) (Some p) sized placed =
        record { kind = kind; built = built; some = some; plain = plain; bits = sized; places = placed; bits_by = refl }
    by None p sized placed = tt
    by (Some b) None sized placed = tt

packed-of : (s : Judged) (simple : Simple) (rep : PackedRep) → simple_of s.kind ≡ Some simple → s.purpose ≡ Parsing → rep_of s ≡ Some rep
    → IsOfIf s (packed_of_type s simple rep)
packed-of s simple rep kind parsing rep_is =
    by (field_nibbles s rep) (codes_for rep (told_at s (codes "binaryPackedSignCodes")))
    (places_of simple (told_at s (codes "binaryDecimalVirtualPoint"))) refl refl refl
  where
    by : (nibbles : Option ℕ) (signs : Option (List ℕ)) (places : Option ℕ) → field_nibbles s rep ≡ nibbles
        → codes_for rep (told_at s (codes "binaryPackedSignCodes")) ≡ signs
        → places_of simple (told_at s (codes "binaryDecimalVirtualPoint")) ≡ places
        → IsOfIf s (packed_by simple rep (orders_of s) (is_strict rep (told_at s (codes "binaryNumberCheckPolicy"))) nibbles signs places)
    by (Some n) (Some c) (Some p) sized signed placed =
        record { kind = kind; parsing = parsing; rep = rep_is; nibbles = sized; signs = signed; places = placed; bits_by = refl }
    by None c p sized signed placed = tt
    by (Some n) None p sized signed placed = tt
    by (Some n) (Some c) None sized signed placed = tt

truth-of : (s : Judged) → simple_of s.kind ≡ Some types.Boolean → s.purpose ≡ Parsing → IsOfIf s (truth_of s)
truth-of s kind parsing =
    by (field_bits s 32) (truth_told (told_at s (codes "binaryBooleanTrueRep"))) (falsity_told (told_at s (codes "binaryBooleanFalseRep"))) refl
  where
    by : (bits : Option ℕ) (truth : Option (Option ℕ)) (falsity : Option ℕ) → field_bits s 32 ≡ bits
        → IsOfIf s (truth_by (orders_of s) bits truth falsity)
    by (Some b) (Some t) (Some f) sized = record { kind = kind; parsing = parsing; bits = sized; bits_by = refl }
    by None t f sized = tt
    by (Some b) None f sized = tt
    by (Some b) (Some t) None sized = tt

octets-of : (s : Judged) → simple_of s.kind ≡ Some types.HexBinary → s.purpose ≡ Parsing → IsOfIf s (octets_of s)
octets-of s kind parsing = either (has_delimited_length s)
  where
    by : (bits : Option ℕ) → box_bits s ≡ bits → IsOfIf s (option_map (octets_by (field_order s)) bits)
    by (Some b) sized = record { kind = kind; parsing = parsing; bits = sized; bits_by = refl }
    by None sized = tt

    either : (b : Bool) → IsOfIf s (if b then Some delimited_octets else option_map (octets_by (field_order s)) (box_bits s))
    either true = record { simple = types.HexBinary; kind = kind; parsing = parsing; size = tt; content = refl }
    either false = by (box_bits s) refl

-- a text has no more characters or bits than the greatest length
size-few : (are_characters : Bool) (unit n : ℕ) → n ≤ most_length → n * unit ≤ most_length → IsTextSize (size_in are_characters unit n)
size-few true unit n few bits = few
size-few false unit n few bits = bits

-- what is known of the size of a text
abbrev IsSizeIf : Option TextSize → Type 0
IsSizeIf None = Unit {0}
IsSizeIf (Some size) = IsTextSize size

boxed-sized : (s : Judged) → IsSizeIf (boxed_size s)
boxed-sized s = by (box_units s) refl
  where
    by : (units : Option ℕ) → box_units s ≡ units → IsSizeIf (option_map (size_in (is_in_characters s) (box_unit s)) units)
    by (Some n) within = let few = units-within s n within in size-few (is_in_characters s) (box_unit s) n few.0 few.1
    by None within = tt

text-sized : (s : Judged) (e : Encoding) → IsSizeIf (text_size s e)
text-sized s e = by (has_delimited_length s)
  where
    by : (b : Bool) → IsSizeIf (if b then Some (Delimited (scan_of s e)) else boxed_size s)
    by true = tt
    by false = boxed-sized s

text-of : (s : Judged) (simple : Simple) → simple_of s.kind ≡ Some simple → s.purpose ≡ Parsing → IsOfIf s (text_of s simple)
text-of s simple kind parsing = told (encoding_told (told_at s (codes "encoding")))
  where
    by : (e : Encoding) (size : Option TextSize) (content : Option TextContent) → IsSizeIf size → content_of s simple ≡ content
        → IsOfIf s (text_by e (replaces_at s) size (pad_of s) content)
    by e (Some z) (Some c) sized read =
        record { simple = simple; kind = kind; parsing = parsing; size = sized; content = content-is s simple c read }
    by e None c sized read = tt
    by e (Some z) None sized read = tt

    told : (e : Option Encoding) → IsOfIf s (option_and_then (text_in s simple) e)
    told (Some e) = by e (text_size s e) (content_of s simple) (text-sized s e) refl
    told None = tt

binary-of : (s : Judged) (simple : Simple) → s.purpose ≡ Parsing → simple_of s.kind ≡ Some simple → is_built_type s.purpose simple ≡ true
    → nat_lt 0 (binary_bits (form_of simple)) ≡ true → IsOfIf s (binary_of_type s simple)
binary-of s simple parsing kind built some = by (is_truths (form_of simple)) refl
  where
    by-rep : (o : Option PackedRep) → rep_of s ≡ o → is_truths (form_of simple) ≡ false → IsOfIf s (number_of_rep s simple o)
    by-rep None none apart =
        number-of s simple kind built (number-or-truth (form_of simple) some apart) (λ same. none)
    by-rep (Some rep) is apart = packed-of s simple rep kind parsing is

    by : (b : Bool) → is_truths (form_of simple) ≡ b → IsOfIf s (if b then truth_of s else number_of_rep s simple (rep_of s))
    by true is = truth-of s (kind ∙ ap Some (boolean-type simple is)) parsing
    by false apart = by-rep (rep_of s) refl apart

parsed-of : (s : Judged) (simple : Simple) → s.purpose ≡ Parsing → simple_of s.kind ≡ Some simple → is_built_type s.purpose simple ≡ true
    → IsOfIf s (primitive_parsed s simple)
parsed-of s simple parsing kind built = by (is_text s) (is_octets (form_of simple)) refl refl
  where
    no-string : (a b c : Bool) → (a || b || c) ≡ false → a ≡ false
    no-string a b c h = grind (arith, h)

    no-characters : is_text s ≡ false → is_characters (form_of simple) ≡ false
    no-characters no-text =
        sym (of-type s.kind simple kind).string ∙ no-string (is_string s.kind) (is_text_number s) (is_text_boolean s) no-text

    by : (a b : Bool) → is_text s ≡ a → is_octets (form_of simple) ≡ b
        → IsOfIf s (if a then text_of s simple else if b then octets_of s else binary_of_type s simple)
    by true b is other = text-of s simple kind parsing
    by false true no-text is = octets-of s (kind ∙ ap Some (bytes-type simple is)) parsing
    by false false no-text no-bytes =
        binary-of s simple parsing kind built (represented-value simple (represented-else (form_of simple) (no-characters no-text) no-bytes))

-- a purpose is not the other one
apart : Parsing ≡ Unparsing → ⊥
apart same = cc

for-of : (s : Judged) (simple : Simple) (purpose : Purpose) → s.purpose ≡ purpose → simple_of s.kind ≡ Some simple → is_built_type s.purpose simple ≡ true
    → IsOfIf s (primitive_for purpose s simple)
for-of s simple Parsing is kind built = parsed-of s simple is kind built
for-of s simple Unparsing is kind built =
    number-of s simple kind built (whole-number simple (sym (ap (λ p. is_built_type p simple) is) ∙ built)) (λ parsing. absurd (apart (sym parsing ∙ is)))

type-of : (s : Judged) (simple : Simple) → simple_of s.kind ≡ Some simple → IsOfIf s (primitive_of_type s simple)
type-of s simple kind = by (is_built_type s.purpose simple) refl
  where
    by : (b : Bool) → is_built_type s.purpose simple ≡ b → IsOfIf s (if b then primitive_for s.purpose s simple else None)
    by true built = for-of s simple s.purpose refl kind built
    by false built = tt

kind-of : (s : Judged) (kind : Kind) → s.kind ≡ kind → IsOfIf s (primitive_of_kind s kind)
kind-of s ComplexElement at = tt
kind-of s (SimpleElement simple) at = type-of s simple (ap simple_of at)
kind-of s UncarriedElement at = tt
kind-of s (CalculatedElement simple) at = tt
kind-of s Sequence at = tt
kind-of s HiddenSequence at = tt
kind-of s Choice at = tt
kind-of s (PrefixNumber simple) at = type-of s simple (ap simple_of at)

-- what is known of the primitive of a component is so
pub of-component : (s : Judged) (p : Primitive) → primitive_of s ≡ Some p → IsOf s p
of-component s p is = subst (λ o. IsOfIf s o) is (kind-of s s.kind refl)

-- a constant length that a field can have
within : (most : ℕ) (length : Option ℕ) (bits : ℕ) → size_within most length ≡ Some bits → (1 ≤ bits) × (bits ≤ most)
within most (Some n) bits is = by (nat_le 1 n && nat_le n most) refl is
  where
    few : (nat_le 1 n && nat_le n most) ≡ true → n ≡ bits → (1 ≤ bits) × (bits ≤ most)
    few test same = (grind (arith, test, same), grind (arith, test, same))

    by : (b : Bool) → (nat_le 1 n && nat_le n most) ≡ b → (if b then Some n else None) ≡ Some bits → (1 ≤ bits) × (bits ≤ most)
    by true test is = few test (same is)
      where
        same : Some n ≡ Some bits → n ≡ bits
        same e = cc
    by false test is = grind (arith, is)
within most None bits is = grind (arith, is)

own-within : (purpose : Purpose) (most : ℕ) (length : Option ℕ) (bits : ℕ) → own_size purpose most length ≡ Some bits → (1 ≤ bits) × (bits ≤ most)
own-within Parsing most length bits is = within most length bits is
own-within Unparsing most length bits is = absurd (none-some _ is)

-- the size of a field is one that its type has
field-within : (s : Judged) (most bits : ℕ) → 1 ≤ most → field_bits s most ≡ Some bits → (1 ≤ bits) × (bits ≤ most)
field-within s most bits some is = by (is_sized_by_data s) (is_explicit s) is
  where
    whole : Some most ≡ Some bits → (1 ≤ bits) × (bits ≤ most)
    whole is = let e : most ≡ bits = some-is _ _ is in (omega (arith, e, some), omega (arith, e))

    by : (d b : Bool) → (if d then Some most else if b then own_size s.purpose most (constant_length s) else Some most) ≡ Some bits
        → (1 ≤ bits) × (bits ≤ most)
    by true b is = whole is
    by false true is = own-within s.purpose most (constant_length s) bits is
    by false false is = whole is

-- a decimal has few digits behind its point
few-places : (t : Told) (places : ℕ) → places_told t ≡ Some places → places ≤ 38
few-places (Value w) places is = by (is_number (literal w)) (nat_le 0 (digits_value 10 (literal w))) (nat_le (digits_value 10 (literal w)) 38) refl is
  where
    few : (n : ℕ) → nat_le n 38 ≡ true → n ≡ places → places ≤ 38
    few n test same = grind (arith, test, same)

    by : (a b c : Bool) → nat_le (digits_value 10 (literal w)) 38 ≡ c
        → (if a && (b && c) then Some (digits_value 10 (literal w)) else None) ≡ Some places → places ≤ 38
    by true true true test is = few _ test (some-is _ _ is)
    by true true false test is = absurd (none-some _ is)
    by true false c test is = absurd (none-some _ is)
    by false b c test is = absurd (none-some _ is)
few-places Absent places is = let same : 0 ≡ places = some-is _ _ is in omega (arith, same)
few-places (Twice place) places is = absurd (none-some _ is)

none-behind : (places : ℕ) → Some 0 ≡ Some places → places ≤ 0
none-behind places is = let same : 0 ≡ places = some-is _ _ is in omega (arith, same)

places-within : (form : Form) (t : Told) (places : ℕ) → (if has_point form then places_told t else Some 0) ≡ Some places → places ≤ most_places form
places-within forms.Fixed t places is = few-places t places is
places-within (forms.Signed bits) t places is = none-behind places is
places-within (forms.Unsigned bits) t places is = none-behind places is
places-within forms.Characters t places is = none-behind places is
places-within forms.Truths t places is = none-behind places is
places-within forms.Octets t places is = none-behind places is

-- whole nibbles of no more than four times so many bits are no more
quotient : (bits n most : ℕ) → 1 ≤ bits → bits ≤ 4 * most → bits % 4 ≡ 0 → bits / 4 ≡ n → (1 ≤ n) × (n ≤ most)
quotient bits n most some few whole is = (omega (arith, some, whole, is), omega (arith, few, is))

whole-within : (most : ℕ) (o : Option ℕ) (n : ℕ) → ((bits : ℕ) → o ≡ Some bits → (1 ≤ bits) × (bits ≤ 4 * most)) → nibbles_in o ≡ Some n
    → (1 ≤ n) × (n ≤ most)
whole-within most None n sizes is = absurd (none-some _ is)
whole-within most (Some bits) n sizes is = by (bits % 4 == 0) refl is
  where
    by : (b : Bool) → (bits % 4 == 0) ≡ b → (if b then Some (bits / 4) else None) ≡ Some n → (1 ≤ n) × (n ≤ most)
    by true whole is = let size = sizes bits refl in quotient bits n most size.0 size.1 (grind (arith, whole)) (some-is _ _ is)
    by false whole is = absurd (none-some _ is)

-- one nibble is a size of each representation
one-nibble : (rep : PackedRep) (n : ℕ) → 1 ≡ n → (1 ≤ n) × (n ≤ most_nibbles rep)
one-nibble reps.Packed n is = (omega (arith, is), omega (arith, is))
one-nibble reps.Bcd n is = (omega (arith, is), omega (arith, is))
one-nibble reps.Ibm4690 n is = (omega (arith, is), omega (arith, is))

-- the nibbles of a field are as many as one of its representation can have
nibbles-few : (s : Judged) (rep : PackedRep) (n : ℕ) → field_nibbles s rep ≡ Some n → (1 ≤ n) × (n ≤ most_nibbles rep)
nibbles-few s rep n is = by (is_sized_by_data s) (is_explicit s) is
  where
    by : (b c : Bool) → (if b then Some 1 else if c then nibbles_within rep (constant_length s) else None) ≡ Some n → (1 ≤ n) × (n ≤ most_nibbles rep)
    by true c is = one-nibble rep n (some-is _ _ is)
    by false true is =
        whole-within (most_nibbles rep) (size_within (4 * most_nibbles rep) (constant_length s)) n
        (λ bits sized. within (4 * most_nibbles rep) (constant_length s) bits sized) is
    by false false is = absurd (none-some _ is)

-- no field has more than 39 nibbles
few-nibbles : (rep : PackedRep) → most_nibbles rep ≤ 39
few-nibbles reps.Packed = omega arith
few-nibbles reps.Bcd = omega arith
few-nibbles reps.Ibm4690 = omega arith

-- sign codes that are taken are allowed
allowed-are : (four signs : List ℕ) → allowed_codes four ≡ Some signs → are_allowed signs ≡ true
allowed-are four signs is = by (are_allowed four) refl is
  where
    by : (b : Bool) → are_allowed four ≡ b → (if b then Some four else None) ≡ Some signs → are_allowed signs ≡ true
    by true allowed is = sym (ap are_allowed (some-is _ _ is)) ∙ allowed
    by false allowed is = absurd (none-some _ is)

text-allowed : (text signs : List ℕ) → codes_of_text text ≡ Some signs → are_allowed signs ≡ true
text-allowed text signs is = by (are_four text) is
  where
    by : (b : Bool) → (if b then allowed_codes (codes_in text) else None) ≡ Some signs → are_allowed signs ≡ true
    by true is = allowed-are (codes_in text) signs is
    by false is = absurd (none-some _ is)

usual-allowed : (signs : List ℕ) → Some usual_codes ≡ Some signs → are_allowed signs ≡ true
usual-allowed signs is = sym (ap are_allowed (some-is _ _ is)) ∙ refl

told-allowed : (t : Told) (signs : List ℕ) → codes_told t ≡ Some signs → are_allowed signs ≡ true
told-allowed (Value w) signs is = text-allowed (literal w) signs is
told-allowed Absent signs is = usual-allowed signs is
told-allowed (Twice place) signs is = absurd (none-some _ is)

signs-allowed : (rep : PackedRep) (t : Told) (signs : List ℕ) → codes_for rep t ≡ Some signs → are_allowed signs ≡ true
signs-allowed reps.Packed t signs is = told-allowed t signs is
signs-allowed reps.Bcd t signs is = usual-allowed signs is
signs-allowed reps.Ibm4690 t signs is = usual-allowed signs is

-- the primitive of a component keeps the bounds of its type
integer-bounded : (s : Judged) (form : IntForm) → IsIntegerOf s form → IsPrimitive (Integer form)
integer-bounded s form of =
    let some = of.some in
    let size = field-within s (most_bits (form_of form.kind)) form.bits (grind (arith, some)) of.bits in
    let few : form.bits ≤ most_bits (form_of form.kind) = size.1 in
    let least : most_bits (form_of form.kind) ≤ 128 = few-bits form.kind in
    record {
      some = size.0;
      few = few;
      short = omega (arith, few, least);
      places = places-within (form_of form.kind) (told_at s (codes "binaryDecimalVirtualPoint")) form.point of.places;
    }

packed-bounded : (s : Judged) (form : PackedForm) → IsPackedOf s form → IsPrimitive (Packed form)
packed-bounded s form of =
    let size = nibbles-few s form.rep form.nibbles of.nibbles in
    let few : form.nibbles ≤ most_nibbles form.rep = size.1 in
    let least : most_nibbles form.rep ≤ 39 = few-nibbles form.rep in
    record {
      some = size.0;
      few = few;
      short = omega (arith, few, least);
      allowed = signs-allowed form.rep (told_at s (codes "binaryPackedSignCodes")) form.codes of.signs;
      places = places-within (form_of form.kind) (told_at s (codes "binaryDecimalVirtualPoint")) form.point of.places;
    }

text-bounded : (s : Judged) (form : TextForm) → ArePatternsBounded → IsTextOf s form → IsPrimitive (Text form)
text-bounded s form patterns of =
    record { size = of.size; content = content-bounded s of.simple form.content patterns of.content }

pub bounded : ArePatternsBounded → (s : Judged) (p : Primitive) → primitive_of s ≡ Some p → IsPrimitive p
bounded patterns s (Integer form) is = integer-bounded s form (of-component s (Integer form) is)
bounded patterns s (Packed form) is = packed-bounded s form (of-component s (Packed form) is)
bounded patterns s (Octets form) is = octets-bounded (of-component s (Octets form) is)
  where
    octets-bounded : IsOctetsOf s form → IsPrimitive (Octets form)
    octets-bounded of = bits-within s form.bits of.bits
bounded patterns s (Text form) is = text-bounded s form patterns (of-component s (Text form) is)
bounded patterns s (NilOctets form) is = absurd (of-component s (NilOctets form) is)
bounded patterns s (Default form) is = absurd (of-component s (Default form) is)
bounded patterns s (NilValues form) is = tt
bounded patterns s (Pattern form) is = tt
bounded patterns s (Truth form) is = truth-bounded (of-component s (Truth form) is)
  where
    truth-bounded : IsTruthOf s form → IsPrimitive (Truth form)
    truth-bounded of = field-within s 32 form.bits (omega arith) of.bits

-- the component is of the primitive's type
kind-is : (s : Judged) (p : Primitive) → IsOf s p → simple_of s.kind ≡ Some (type_of p)
kind-is s (Integer form) of = of.kind
kind-is s (Packed form) of = of.kind
kind-is s (Truth form) of = of.kind
kind-is s (Octets form) of = of.kind
kind-is s (Text form) of = of.kind ∙ ap Some (content-typed s of.simple form.content of.content)
kind-is s (NilOctets form) of = absurd of
kind-is s (Default form) of = absurd of
kind-is s (NilValues form) of = absurd of
kind-is s (Pattern form) of = absurd of

pub typed : (s : Judged) (p : Primitive) → primitive_of s ≡ Some p → simple_of s.kind ≡ Some (type_of p)
typed s p is = kind-is s p (of-component s p is)

-- the bits of its fields come in the order of the component's
in-order : (s : Judged) (p : Primitive) → IsOf s p → HasBitOrder (field_order s) p
in-order s (Integer form) of = of.bits_by
in-order s (Packed form) of = of.bits_by
in-order s (Truth form) of = of.bits_by
in-order s (Octets form) of = of.bits_by
in-order s (Text form) of = tt
in-order s (NilOctets form) of = absurd of
in-order s (Default form) of = absurd of
in-order s (NilValues form) of = absurd of
in-order s (Pattern form) of = absurd of

pub ordered : (s : Judged) (p : Primitive) → primitive_of s ≡ Some p → HasBitOrder (field_order s) p
ordered s p is = in-order s p (of-component s p is)

-- for unparsing, a field has the size of its type
whole-field : (s : Judged) (most bits : ℕ) → s.purpose ≡ Unparsing → field_bits s most ≡ Some bits → bits ≡ most
whole-field s most bits purpose is = by (is_sized_by_data s) (is_explicit s) is
  where
    no-size : own_size s.purpose most (constant_length s) ≡ Some bits → ⊥
    no-size is = none-some bits (sym (ap (λ p. own_size p most (constant_length s)) purpose) ∙ is)

    by : (d b : Bool) → (if d then Some most else if b then own_size s.purpose most (constant_length s) else Some most) ≡ Some bits → bits ≡ most
    by true b is = sym (some-is _ _ is)
    by false true is = absurd (no-size is)
    by false false is = sym (some-is _ _ is)

-- a number with the size of its type, whole bytes of them
whole-size : (n : ℕ) (form : IntForm) → IsTrue (is_whole n) → form_of form.kind ≡ forms.Unsigned n → form.bits ≡ n → form.bits_by ≡ MostFirst
    → form.point ≡ 0 → IsWholeUnsigned form
whole-size n form whole kind bits bits_by point = record {
  bits = subst (λ n. IsTrue (is_whole n)) (sym bits) whole;
  kind = kind ∙ ap forms.Unsigned (sym bits);
  bits_by = bits_by;
  point = point;
}

-- the same of a type whose values have whole bytes
by-whole-type : (simple : Simple) (form : IntForm) → is_whole_type simple ≡ true → form.kind ≡ simple → form.bits ≡ most_bits (form_of simple)
    → form.bits_by ≡ MostFirst → form.point ≡ 0 → IsWholeUnsigned form
by-whole-type types.UnsignedByte form built kind = whole-size 8 form refl (ap form_of kind)
by-whole-type types.UnsignedShort form built kind = whole-size 16 form refl (ap form_of kind)
by-whole-type types.UnsignedInt form built kind = whole-size 32 form refl (ap form_of kind)
by-whole-type types.UnsignedLong form built kind = whole-size 64 form refl (ap form_of kind)
by-whole-type types.String form built kind = grind (arith, built)
by-whole-type types.HexBinary form built kind = grind (arith, built)
by-whole-type types.Boolean form built kind = grind (arith, built)
by-whole-type types.Decimal form built kind = grind (arith, built)
by-whole-type types.Integer form built kind = grind (arith, built)
by-whole-type types.NonNegativeInteger form built kind = grind (arith, built)
by-whole-type types.Byte form built kind = grind (arith, built)
by-whole-type types.Short form built kind = grind (arith, built)
by-whole-type types.Int form built kind = grind (arith, built)
by-whole-type types.Long form built kind = grind (arith, built)

-- the values of a type whose values have whole bytes have no digits behind a point
no-point : (simple : Simple) → is_whole_type simple ≡ true → has_point (form_of simple) ≡ false
no-point types.Decimal built = grind (arith, built)
no-point _ built = refl

-- a primitive for unparsing is a whole unsigned integer
whole-integer : (s : Judged) (form : IntForm) → s.purpose ≡ Unparsing → IsIntegerOf s form → IsWholeUnsigned form
whole-integer s form purpose of =
    let built : is_whole_type form.kind ≡ true = sym (ap (λ p. is_built_type p form.kind) purpose) ∙ of.built in
    let without : Some 0 ≡ Some form.point =
    sym (ap (λ b. if b then places_told (told_at s (codes "binaryDecimalVirtualPoint")) else Some 0) (no-point form.kind built)) ∙ of.places in
    let most-first : form.bits_by ≡ MostFirst = of.bits_by ∙ ap (λ p. order_for p (told_at s (codes "bitOrder"))) purpose in
    by-whole-type form.kind form built refl (whole-field s _ _ purpose of.bits) most-first (sym (some-is _ _ without))

whole-of : (s : Judged) (p : Primitive) → s.purpose ≡ Unparsing → IsOf s p → IsWhole p
whole-of s (Integer form) purpose of = whole-integer s form purpose of
whole-of s (Packed form) purpose of = apart (sym of.parsing ∙ purpose)
whole-of s (Truth form) purpose of = apart (sym of.parsing ∙ purpose)
whole-of s (Octets form) purpose of = apart (sym of.parsing ∙ purpose)
whole-of s (Text form) purpose of = apart (sym of.parsing ∙ purpose)
whole-of s (NilOctets form) purpose of = of
whole-of s (Default form) purpose of = of
whole-of s (NilValues form) purpose of = of
whole-of s (Pattern form) purpose of = of

pub whole : (s : Judged) (p : Primitive) → s.purpose ≡ Unparsing → primitive_of s ≡ Some p → IsWhole p
whole s p purpose is = whole-of s p purpose (of-component s p is)
