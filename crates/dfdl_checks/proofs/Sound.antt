-- Simple elements and types of prefixes without a breach have primitives.
use Rattle.std.proofs.Common.{◌≡◌, refl, sym, ap, subst, ◌∙◌, ℕ, List, ◌∷◌, [], Option, Some, None, Bool, true, false, not, if◌then◌else◌, ◌&&◌, ◌||◌, nat_lt, is_some, codes, IsTrue, IsSome, arith}
use Rattle.std.specs.Str.Parse.{digits_value}
use Rattle.dfdl_forms.specs.Types.{form_of}
use Rattle.dfdl_forms.specs.declared.packed.PackedRep.{PackedRep}
use Rattle.dfdl_forms.specs.declared.packed.PackedRep.TheVariants as reps
use Rattle.dfdl_forms.specs.declared.simple.Simple.{Simple}
use Rattle.dfdl_scope.specs.Expressions.{is_expression, literal}
use Rattle.dfdl_scope.specs.Scoping.{Told, Value, Absent, Twice}
use Rattle.dfdl_scope.specs.Table.{Row, row, Range, Else, Missing, Words, property_table}
use Rattle.dfdl_checks.proofs.Binary.{IsSound, IsSoundBinary, is-sound, is-sound-binary}
use Rattle.dfdl_checks.proofs.BoxBounds.{none-some, some-is}
use Rattle.dfdl_checks.proofs.Built.{all-hold, built-by, either-word, no-flaw, once-at, one-word}
use Rattle.dfdl_checks.proofs.Flawless.{HasNoFlaw, HasBuilt, value-built}
use Rattle.dfdl_checks.proofs.Kept.{IsKept}
use Rattle.dfdl_checks.proofs.Once.{is_twice}
use Rattle.dfdl_checks.proofs.SoundBoxes.{as-octets, length_row, lengths_of, number-told, plain-length, sized-is}
use Rattle.dfdl_checks.proofs.SoundTexts.{as-text, truth-no-number}
use Rattle.dfdl_checks.proofs.Told.{rep-of, rep-word}
use Rattle.dfdl_checks.proofs.Types.{number-or-truth, plain-bits, represented-else, represented-value, truth-bits, whole-apart, whole-represented}
use Rattle.dfdl_checks.specs.Boxes.{is_box_too_long}
use Rattle.dfdl_checks.specs.BuiltTypes.{is_built_type, is_whole_type}
use Rattle.dfdl_checks.specs.Judged.{Judged}
use Rattle.dfdl_checks.specs.Lengths.{constant_length, length_in, unit_bits}
use Rattle.dfdl_checks.specs.Numbers.{binary_of_type, field_bits, field_nibbles, number_by, number_of_rep, number_of_type, own_size, packed_by, packed_of_type, places_of, places_told, primitive_for, primitive_of, primitive_of_kind, primitive_of_type, primitive_parsed, truth_by, truth_of}
use Rattle.dfdl_checks.specs.Orders.{orders_of}
use Rattle.dfdl_checks.specs.Packed.{codes_for, codes_told, is_strict, nibbles_within, rep_of, rep_told}
use Rattle.dfdl_checks.specs.Rules.{are_truth_texts_other, first_breach, rules, has_falsity, has_size, has_truth, is_delimited_boolean, is_length_by_content, is_size, is_text_without_size, is_unsized}
use Rattle.dfdl_checks.specs.Subjects.{has_point, has_representation, is_binary, is_by_expression, is_expression_told, is_binary_boolean, is_binary_number, is_boolean, is_explicit, is_explicit_binary, is_octets, is_packed, is_simple, is_sized_by_data, is_string, is_text, is_text_boolean, is_text_number, is_told, is_truths, is_word, number_bits, simple_of, told_at, value_bits}
use Rattle.dfdl_checks.specs.Table.{Applicability, EveryValue, applicability_table, applies_by, built_for, word}
use Rattle.dfdl_checks.specs.Texts.{octets_of, text_of}
use Rattle.dfdl_checks.specs.Values.{is_value, is_within}
use Rattle.dfdl_checks.specs.declared.applicability.Bearers.TheVariants as bearers
use Rattle.dfdl_checks.specs.declared.orders.Orders.{Orders}
use Rattle.dfdl_checks.specs.declared.purpose.Purpose.{Purpose}
use Rattle.dfdl_checks.specs.declared.purpose.Purpose.TheVariants.{Parsing, Unparsing}
use Rattle.dfdl_checks.specs.declared.subject.Kind.{Kind}
use Rattle.dfdl_checks.specs.declared.subject.Kind.TheVariants.{ComplexElement, SimpleElement, UncarriedElement, CalculatedElement, Sequence, HiddenSequence, Choice, PrefixNumber}

some-length : (unit : ℕ) (number : Option ℕ) → is_some number ≡ true → is_some (length_in unit number) ≡ true
some-length unit (Some n) some = refl
some-length unit None some = grind (arith, some)

-- a value of explicit length that no expression tells has a constant one
constant : (s : Judged) → IsKept s → is_explicit_binary s ≡ true → is_expression_told (told_at s (codes "length")) ≡ false
    → is_some (constant_length s) ≡ true
unfolding applicability_table property_table
constant s kept explicit plain =
    some-length (unit_bits (told_at s (codes "lengthUnits"))) _
    (number-told _ _ (built-by s kept 13 (lengths_of bearers.ExplicitBinaries) refl explicit length_row refl refl) plain)

-- the value that is told, or nothing
abbrev written-in : Told → List ℕ
written-in (Value w) = w
written-in Absent = []
written-in (Twice place) = []

-- a value of the virtual point
some-places : (name : List ℕ) (t : Told) → HasNoFlaw (row name (Range 0 38) (Else (codes "0"))) EveryValue t → is_twice t ≡ false → is_some (places_told t) ≡ true
some-places name (Value w) none once =
    let has = value-built (row name (Range 0 38) (Else (codes "0"))) EveryValue w none in
    ap (λ b. is_some (if b then Some (digits_value 10 (literal w)) else None))
    (plain (is_expression w) (is_within 0 38 (literal w)) (is-value has))
  where
    is-value : HasBuilt (row name (Range 0 38) (Else (codes "0"))) EveryValue (Value w) → is_value (Range 0 38) w ≡ true
    is-value has = subst (λ (t : Told). is_value (Range 0 38) (written-in t) ≡ true) (sym has.is) has.value

    plain : (e b : Bool) → (if e then false else b) ≡ true → b ≡ true
    plain e b h = grind (arith, h)
some-places name Absent none once = refl
some-places name (Twice place) none once = grind (arith, once)

-- the number has digits behind its point, or none
places : (s : Judged) (sound : IsSound s) → is_binary_number s ≡ true → is_some (places_of sound.simple (told_at s (codes "binaryDecimalVirtualPoint"))) ≡ true
unfolding applicability_table property_table
places s sound number = by (has_point (form_of sound.simple)) refl
  where
    decimal : has_point (form_of sound.simple) ≡ true → is_some (places_told (told_at s (codes "binaryDecimalVirtualPoint"))) ≡ true
    decimal point =
        some-places (codes "binaryDecimalVirtualPoint") _
        (no-flaw s sound.kept 67 (codes "binaryDecimalVirtualPoint") bearers.BinaryDecimals EveryValue refl
        (all-hold _ _ (sound.form.decimal ∙ point) number) _ refl)
        (once-at s sound.kept (codes "binaryDecimalVirtualPoint") _ refl)

    by : (b : Bool) → has_point (form_of sound.simple) ≡ b
        → is_some (if b then places_told (told_at s (codes "binaryDecimalVirtualPoint")) else Some 0) ≡ true
    by true point = decimal point
    by false point = refl

-- what has a size and a point is a number
some-number : (simple : Simple) (orders : Orders) (bits places : Option ℕ) → is_some bits ≡ true → is_some places ≡ true
    → is_some (number_by simple orders bits places) ≡ true
some-number simple orders (Some b) (Some p) x y = refl
some-number simple orders None p x y = grind (arith, x)
some-number simple orders (Some b) None x y = grind (arith, y)

some-packed : (simple : Simple) (rep : PackedRep) (orders : Orders) (strict : Bool) (nibbles : Option ℕ) (signs : Option (List ℕ)) (places : Option ℕ)
    → is_some nibbles ≡ true → is_some signs ≡ true → is_some places ≡ true → is_some (packed_by simple rep orders strict nibbles signs places) ≡ true
some-packed simple rep orders strict (Some n) (Some c) (Some p) x y z = refl
some-packed simple rep orders strict None c p x y z = grind (arith, x)
some-packed simple rep orders strict (Some n) None p x y z = grind (arith, y)
some-packed simple rep orders strict (Some n) (Some c) None x y z = grind (arith, z)

some-truth : (orders : Orders) (bits : Option ℕ) (truth : Option (Option ℕ)) (falsity : Option ℕ) → is_some bits ≡ true → is_some truth ≡ true
    → is_some falsity ≡ true → is_some (truth_by orders bits truth falsity) ≡ true
some-truth orders (Some b) (Some t) (Some f) x y z = refl
some-truth orders None t f x y z = grind (arith, x)
some-truth orders (Some b) None f x y z = grind (arith, y)
some-truth orders (Some b) (Some t) None x y z = grind (arith, z)

-- a boolean has its numbers
truths : (s : Judged) → IsKept s → is_binary_boolean s ≡ true → (has_truth s ≡ true) × (has_falsity s ≡ true)
truths s kept boolean = parts (is_binary_boolean s) (has_truth s) (has_falsity s) (are_truth_texts_other s) boolean kept.truths
  where
    parts : (a b c d : Bool) → a ≡ true → ((a && not (b && c)) || d) ≡ false → (b ≡ true) × (c ≡ true)
    parts a b c d x y = (grind (arith, x, y), grind (arith, x, y))

-- no boolean is a number, so it has no packed representation
no-number : (s : Judged) (sound : IsSound s) → is_truths (form_of sound.simple) ≡ true → rep_of s ≡ None
no-number s sound truths =
    ap (λ b. if b && is_told s (codes "representation") (codes "binary") then rep_told (told_at s (codes "binaryNumberRep")) else None)
    (ap (nat_lt 0) sound.form.number_size ∙ truth-no-number (form_of sound.simple) truths)

module _ (s : Judged) (sound : IsSound s) (binary : IsSoundBinary s sound) where
  -- its field can have a length of its own that is constant
  sized : is_explicit s ≡ true → is_sized_by_data s ≡ false → has_size s ≡ true
  sized told apart =
      third (is_explicit_binary s) (is_some (constant_length s)) (has_size s) (is_box_too_long s) explicit
      (constant s sound.kept explicit (plain-length s apart told)) sound.kept.length
    where
      explicit : is_explicit_binary s ≡ true
      explicit = all-hold _ _ binary.is told

      third : (a b c d : Bool) → a ≡ true → b ≡ true → ((a && (b && not c)) || d) ≡ false → c ≡ true
      third a b c d x y z = grind (arith, x, y, z)

  -- the field of a value that isn't packed has a size
  some-size : (s.purpose ≡ Parsing → rep_of s ≡ None) → is_some (field_bits s (value_bits s.kind)) ≡ true
  some-size plain = by (is_sized_by_data s) (is_explicit s) refl refl
    where
      own : (purpose : Purpose) → s.purpose ≡ purpose → is_explicit s ≡ true → is_sized_by_data s ≡ false
          → is_some (own_size purpose (value_bits s.kind) (constant_length s)) ≡ true
      own Parsing is explicit apart = sym (ap (λ r. is_size r (value_bits s.kind) (constant_length s)) (plain is)) ∙ sized explicit apart
      own Unparsing is explicit apart = let broken : true ≡ false = sym explicit ∙ binary.length.implicit is in grind (arith, broken)

      by : (d b : Bool) → is_sized_by_data s ≡ d → is_explicit s ≡ b
          → is_some (if d then Some (value_bits s.kind) else if b then own_size s.purpose (value_bits s.kind) (constant_length s) else Some (value_bits s.kind)) ≡ true
      by true b by_data told = refl
      by false true apart explicit = own s.purpose refl explicit apart
      by false false apart other = refl

  -- the same by the bits of the type
  size-of : (most : ℕ) → (s.purpose ≡ Parsing → rep_of s ≡ None) → value_bits s.kind ≡ most
      → is_some (field_bits s most) ≡ true
  size-of most plain is = subst (λ m. is_some (field_bits s m) ≡ true) is (some-size plain)

  -- the nibbles of a packed number are whole, where it has a length of its own, and where it hasn't the data tell one
  some-nibbles : (rep : PackedRep) → is_binary_number s ≡ true → rep_of s ≡ Some rep → is_some (field_nibbles s rep) ≡ true
  some-nibbles rep number is = by (is_sized_by_data s) (is_explicit s) refl refl
    where
      sizeless : (a b c d e f g : Bool) → a ≡ true → d ≡ true → ((a && (b || ((c || d) && e))) || f || g) ≡ false → e ≡ false
      sizeless a b c d e f g x y z = grind (arith, x, y, z)

      no-implicit : is_told s (codes "lengthKind") (codes "implicit") ≡ false
      no-implicit =
          sizeless (is_binary_number s) (is_length_by_content s) (is_unsized s.kind) (is_some (rep_of s)) _ (is_delimited_boolean s) (is_text_without_size s) number
          (ap is_some is) sound.kept.length_kind

      last : (a b c d : Bool) → (a || b || c || d) ≡ true → a ≡ false → b ≡ false → (c || d) ≡ true
      last a b c d x y z = grind (arith, x, y, z)

      first : (a b c d : Bool) → (a || b) ≡ true → (a || b || c || d) ≡ true
      first a b c d x = grind (arith, x)

      by-data : is_explicit s ≡ false → is_sized_by_data s ≡ true
      by-data other =
          sized-is s sound.form.simple
          ∙ first (is_told s (codes "lengthKind") (codes "prefixed")) (is_told s (codes "lengthKind") (codes "pattern"))
          (is_told s (codes "lengthKind") (codes "delimited")) (is_by_expression s)
          (last (is_told s (codes "lengthKind") (codes "implicit")) (is_explicit s) (is_told s (codes "lengthKind") (codes "prefixed"))
          (is_told s (codes "lengthKind") (codes "pattern")) binary.length.kind no-implicit other)

      by : (d b : Bool) → is_sized_by_data s ≡ d → is_explicit s ≡ b
          → is_some (if d then Some 1 else if b then nibbles_within rep (constant_length s) else None) ≡ true
      by true b by_data told = refl
      by false true apart explicit = sym (ap (λ r. is_size r (value_bits s.kind) (constant_length s)) is) ∙ sized explicit apart
      by false false apart other = let broken : true ≡ false = sym (by-data other) ∙ apart in grind (arith, broken)

  -- its sign codes are some that are allowed
  some-signs : (rep : PackedRep) → is_binary_number s ≡ true → rep_of s ≡ Some rep
      → is_some (codes_for rep (told_at s (codes "binaryPackedSignCodes"))) ≡ true
  some-signs reps.Packed number is =
      second (is_packed s) (is_some (codes_told (told_at s (codes "binaryPackedSignCodes"))))
      (all-hold _ _ number (rep-word (told_at s (codes "binaryNumberRep")) reps.Packed (rep-of s reps.Packed is).told)) sound.kept.codes
    where
      second : (a b : Bool) → a ≡ true → (a && not b) ≡ false → b ≡ true
      second a b x y = grind (arith, x, y)
  some-signs reps.Bcd number is = refl
  some-signs reps.Ibm4690 number is = refl

  -- a binary value without a breach has a primitive: as a boolean
  as-truth : is_binary_boolean s ≡ true → (s.purpose ≡ Parsing → rep_of s ≡ None) → value_bits s.kind ≡ 32
      → is_some (truth_of s) ≡ true
  as-truth boolean plain bits =
      let numbers = truths s sound.kept boolean in
      some-truth (orders_of s) _ _ _ (size-of 32 plain bits) numbers.0 numbers.1

  -- as a number, packed where a packed representation is told
  as-number : is_binary_number s ≡ true → (s.purpose ≡ Parsing → rep_of s ≡ None)
      → is_truths (form_of sound.simple) ≡ false → is_some (number_of_type s sound.simple) ≡ true
  as-number number plain apart =
      some-number sound.simple (orders_of s) _ _
      (size-of _ plain (sound.form.value_size ∙ plain-bits (form_of sound.simple) apart)) (places s sound number)

  as-packed : (rep : PackedRep) → is_binary_number s ≡ true → rep_of s ≡ Some rep
      → is_some (packed_of_type s sound.simple rep) ≡ true
  as-packed rep number is =
      some-packed sound.simple rep (orders_of s) (is_strict rep (told_at s (codes "binaryNumberCheckPolicy"))) _ _ _
      (some-nibbles rep number is) (some-signs rep number is) (places s sound number)

  as-rep : (o : Option PackedRep) → is_binary_number s ≡ true → rep_of s ≡ o
      → is_truths (form_of sound.simple) ≡ false → is_some (number_of_rep s sound.simple o) ≡ true
  as-rep None number is apart = as-number number (λ parsing. is) apart
  as-rep (Some rep) number is apart = as-packed rep number is

  -- whether it is a boolean or a number, it has one
  in-binary : is_some (binary_of_type s sound.simple) ≡ true
  in-binary = by (is_truths (form_of sound.simple)) refl
    where
      by : (b : Bool) → is_truths (form_of sound.simple) ≡ b
          → is_some (if b then truth_of s else number_of_rep s sound.simple (rep_of s)) ≡ true
      by true is =
          as-truth (binary.truths is) (λ parsing. no-number s sound is)
          (sound.form.value_size ∙ truth-bits (form_of sound.simple) is)
      by false is = as-rep (rep_of s) (binary.number is) refl is

-- the representations that are built
abbrev representations : Applicability
representations = applies_by (codes "representation") bearers.RepresentedElements EveryValue (word (codes "binary"))

abbrev representation_row : Row
representation_row = row (codes "representation") (Words (codes "text" ∷ codes "binary" ∷ [])) Missing

-- what has a representation, and for parsing is no text, is binary
told-binary : (purpose : Purpose) (t : Told) → HasBuilt representation_row (built_for purpose representations) t
    → (purpose ≡ Parsing → is_word (codes "text") t ≡ false) → is_word (codes "binary") t ≡ true
told-binary Parsing t has no-text =
    second (is_word (codes "text") t) (is_word (codes "binary") t) (no-text refl) (either-word (codes "text") (codes "binary") (codes "representation") t has)
  where
    second : (a b : Bool) → a ≡ false → (a || b) ≡ true → b ≡ true
    second a b x y = grind (arith, x, y)
told-binary Unparsing t has no-text = one-word (codes "binary") representation_row t has

-- what has a representation and is no text has none of texts
no-text-told : (s : Judged) (sound : IsSound s) → has_representation (form_of sound.simple) ≡ true → is_text s ≡ false
    → is_told s (codes "representation") (codes "text") ≡ false
no-text-told s sound represented no-text =
    neither (is_string s.kind) (nat_lt 0 (number_bits s.kind)) (is_boolean s.kind) (is_told s (codes "representation") (codes "text")) valued no-text
  where
    neither : (a b c t : Bool) → (b || c) ≡ true → (a || (b && t) || (c && t)) ≡ false → t ≡ false
    neither a b c t x y = grind (arith, x, y)

    first : (a b : Bool) → a ≡ true → (a || b) ≡ true
    first a b x = grind (arith, x)

    second : (a b : Bool) → b ≡ true → (a || b) ≡ true
    second a b x = grind (arith, x)

    by : (b : Bool) → is_truths (form_of sound.simple) ≡ b → (nat_lt 0 (number_bits s.kind) || is_boolean s.kind) ≡ true
    by true truths = second (nat_lt 0 (number_bits s.kind)) _ (sound.form.boolean ∙ truths)
    by false apart =
        first _ (is_boolean s.kind)
        (ap (nat_lt 0) sound.form.number_size ∙ number-or-truth (form_of sound.simple) (represented-value sound.simple represented) apart)

    valued : (nat_lt 0 (number_bits s.kind) || is_boolean s.kind) ≡ true
    valued = by (is_truths (form_of sound.simple)) refl

as-binary : (s : Judged) (sound : IsSound s) → has_representation (form_of sound.simple) ≡ true → (s.purpose ≡ Parsing → is_text s ≡ false)
    → is_binary s ≡ true
unfolding applicability_table property_table
as-binary s sound represented no-text =
    all-hold _ _ (ap (nat_lt 0) sound.form.value_size ∙ represented-value sound.simple represented)
    (told-binary s.purpose (told_at s (codes "representation"))
    (built-by s sound.kept 0 representations refl (sound.form.represented ∙ represented) representation_row refl refl)
    (λ parsing. no-text-told s sound represented (no-text parsing)))

-- a simple element without a breach has one for parsing: as text, as bytes or in binary
parsed : (s : Judged) (sound : IsSound s) → is_some (primitive_parsed s sound.simple) ≡ true
parsed s sound = by (is_text s) (is_octets (form_of sound.simple)) refl refl
  where
    no-string : (a b c : Bool) → (a || b || c) ≡ false → a ≡ false
    no-string a b c h = grind (arith, h)

    represented : is_text s ≡ false → is_octets (form_of sound.simple) ≡ false → has_representation (form_of sound.simple) ≡ true
    represented no-text no-bytes =
        represented-else (form_of sound.simple)
        (sym sound.form.string ∙ no-string (is_string s.kind) (is_text_number s) (is_text_boolean s) no-text) no-bytes

    by : (a b : Bool) → is_text s ≡ a → is_octets (form_of sound.simple) ≡ b
        → is_some (if a then text_of s sound.simple else if b then octets_of s else binary_of_type s sound.simple) ≡ true
    by true b text other = as-text s sound text
    by false true no-text bytes = as-octets s sound (sound.form.bytes ∙ bytes)
    by false false no-text no-bytes =
        in-binary s sound (is-sound-binary s sound (as-binary s sound (represented no-text no-bytes) (λ parsing. no-text)))

-- for unparsing as a whole number
unparsed : (s : Judged) (sound : IsSound s) → s.purpose ≡ Unparsing → is_whole_type sound.simple ≡ true → is_some (number_of_type s sound.simple) ≡ true
unparsed s sound purpose whole =
    let binary = is-sound-binary s sound (as-binary s sound (whole-represented sound.simple whole) (λ parsing. absurd (other parsing))) in
    as-number s sound binary (binary.number apart) (λ parsing. absurd (other parsing)) apart
  where
    apart : is_truths (form_of sound.simple) ≡ false
    apart = whole-apart sound.simple whole

    differ : Parsing ≡ Unparsing → ⊥
    differ same = cc

    other : s.purpose ≡ Parsing → ⊥
    other parsing = differ (sym parsing ∙ purpose)

by-purpose : (s : Judged) (sound : IsSound s) (purpose : Purpose) → s.purpose ≡ purpose → is_some (primitive_for purpose s sound.simple) ≡ true
by-purpose s sound Parsing is = parsed s sound
by-purpose s sound Unparsing is = unparsed s sound is (sym (ap (λ p. is_built_type p sound.simple) is) ∙ sound.built)

-- a component of a type has the primitive of that type
of-kind : (s : Judged) (kind : Kind) (simple : Simple) → simple_of kind ≡ Some simple → is_some (primitive_of_type s simple) ≡ true
    → is_some (primitive_of_kind s kind) ≡ true
of-kind s ComplexElement simple is some = absurd (none-some _ is)
of-kind s (SimpleElement t) simple is some = subst (λ t. is_some (primitive_of_type s t) ≡ true) (sym (some-is t simple is)) some
of-kind s UncarriedElement simple is some = absurd (none-some _ is)
of-kind s (CalculatedElement t) simple is some = absurd (none-some _ is)
of-kind s Sequence simple is some = absurd (none-some _ is)
of-kind s HiddenSequence simple is some = absurd (none-some _ is)
of-kind s Choice simple is some = absurd (none-some _ is)
of-kind s (PrefixNumber t) simple is some = subst (λ t. is_some (primitive_of_type s t) ≡ true) (sym (some-is t simple is)) some

-- a simple element, or the type of a prefix, without a breach has a primitive
pub has-primitive : (s : Judged) → first_breach rules s ≡ None → IsTrue (is_simple s.kind) → IsSome (primitive_of s)
has-primitive s none is =
    let sound = is-sound s none is in
    of-kind s s.kind sound.simple sound.kind
    (ap (λ b. is_some (if b then primitive_for s.purpose s sound.simple else None)) sound.built ∙ by-purpose s sound s.purpose refl)
