-- Components without a breach whose content stands in a box: texts, elements of type hexBinary and complex elements.
use Rattle.std.proofs.Common.{◌≡◌, refl, sym, ap, subst, ◌∙◌, ℕ, List, ◌*◌, Option, Some, None, Bool, true, false, not, if◌then◌else◌, ◌&&◌, ◌||◌, nat_le, nat_lt, option_map, is_some, codes, IsTrue, IsSome, arith}
use Rattle.std.specs.Str.Parse.{digits_value}
use Rattle.dfdl_scope.specs.Expressions.{is_expression, literal}
use Rattle.dfdl_scope.specs.Scoping.{Told}
use Rattle.dfdl_scope.specs.Table.{Row, row, Formed, Missing, property_table}
use Rattle.dfdl_scope.specs.declared.row.Form.TheVariants as values
use Rattle.dfdl_terms.specs.Rows.{most_length}
use Rattle.dfdl_terms.specs.declared.row.Primitive.{Primitive}
use Rattle.dfdl_checks.proofs.Binary.{IsSound}
use Rattle.dfdl_checks.proofs.Built.{all-hold, built-at, built-by}
use Rattle.dfdl_checks.proofs.Flawless.{HasBuilt}
use Rattle.dfdl_checks.proofs.Kept.{IsKept, keeps-all}
use Rattle.dfdl_checks.proofs.LengthKinds.{boxed-length, is_boxed_kind_told}
use Rattle.dfdl_checks.proofs.Ordered.{in-bit-order}
use Rattle.dfdl_checks.specs.Boxes.{box_bits, box_number, box_unit, box_units, is_explicit_box, is_explicit_complex, is_implicit_box, size_for, size_of_box, units_within}
use Rattle.dfdl_checks.specs.Encodings.{encoding_named, encoding_told}
use Rattle.dfdl_checks.specs.Judged.{Judged}
use Rattle.dfdl_checks.specs.Lengths.{number_told}
use Rattle.dfdl_checks.specs.Numbers.{IsTextOrBytesValue}
use Rattle.dfdl_checks.specs.Orders.{field_order}
use Rattle.dfdl_checks.specs.Rules.{first_breach, rules, is_delimited_boolean, is_field_out_of_range, is_number_length_not_allowed}
use Rattle.dfdl_checks.specs.Subjects.{has_delimited_length, is_boolean, is_boxed, is_by_expression, is_by_pattern, is_complex, is_explicit, is_expression_told, is_prefixed, is_without_length, is_hex_binary, is_bare, is_simple, is_sized_by_data, is_string, is_text, is_text_boolean, is_text_number, is_told, number_bits, told_at}
use Rattle.dfdl_checks.specs.Table.{Applicability, Built, EachNumber, EveryValue, applicability_table, applies_by}
use Rattle.dfdl_checks.specs.Texts.{delimited_octets, octets_by, octets_of}
use Rattle.dfdl_checks.specs.Values.{is_number}
use Rattle.dfdl_checks.specs.declared.applicability.Bearers.{Bearers}
use Rattle.dfdl_checks.specs.declared.applicability.Bearers.TheVariants as bearers
use Rattle.dfdl_checks.specs.declared.purpose.Purpose.TheVariants.{Parsing}
use Rattle.dfdl_checks.specs.declared.subject.Kind.{Kind}
use Rattle.dfdl_checks.specs.declared.subject.Kind.TheVariants.{ComplexElement, SimpleElement, UncarriedElement, CalculatedElement, Sequence, HiddenSequence, Choice, PrefixNumber}

-- the row of a length
abbrev pub length_row : Row
length_row = row (codes "length") (Formed values.NumberOrExpression) Missing

-- which of its values are built
abbrev pub lengths_of : Bearers → Applicability
lengths_of b = applies_by (codes "length") b EveryValue EachNumber

-- a length that is told and is no expression is a number
pub number-told : (built : Built) (t : Told) → HasBuilt length_row built t → is_expression_told t ≡ false → is_some (number_told t) ≡ true
number-told built t has plain =
    subst (λ t. is_some (number_told t) ≡ true) (sym has.is)
    (ap (λ b. is_some (if b then Some (digits_value 10 (literal has.written)) else None))
    (digits (is_expression has.written) (is_number (literal has.written)) (sym (ap is_expression_told has.is) ∙ plain) has.value))
  where
    digits : (e n : Bool) → e ≡ false → (if e then true else n) ≡ true → n ≡ true
    digits e n x y = grind (arith, x, y)

-- an explicit length that is no expression is a number
own-number : (s : Judged) → IsKept s → is_explicit_box s ≡ true → is_expression_told (told_at s (codes "length")) ≡ false
    → is_some (number_told (told_at s (codes "length"))) ≡ true
unfolding applicability_table property_table
own-number s kept explicit plain =
    number-told _ _ (built-by s kept 14 (lengths_of bearers.ExplicitBoxes) refl explicit length_row refl refl) plain

-- where the data don't tell the length, it is no expression
pub plain-length : (s : Judged) → is_sized_by_data s ≡ false → is_explicit s ≡ true → is_expression_told (told_at s (codes "length")) ≡ false
plain-length s apart explicit =
    last (is_prefixed s) (is_by_pattern s) (has_delimited_length s) (is_explicit s) (is_expression_told (told_at s (codes "length"))) explicit apart
  where
    last : (a b c d e : Bool) → d ≡ true → (a || b || c || (d && e)) ≡ false → e ≡ false
    last a b c d e x y = grind (arith, x, y)

-- an implicit one is that of the type
type-number : (s : Judged) → IsKept s → is_implicit_box s ≡ true → is_some s.facts.max_length ≡ true
type-number s kept implicit = second (is_implicit_box s) (is_some s.facts.max_length) implicit kept.max_length
  where
    second : (a b : Bool) → a ≡ true → (a && not b) ≡ false → b ≡ true
    second a b x y = grind (arith, x, y)

-- a box that the data don't size isn't past the greatest length
not-past : (s : Judged) → IsKept s → (is_explicit_box s || is_implicit_box s) ≡ true → is_some (box_number s) ≡ true → is_some (box_units s) ≡ true
not-past s kept sized told =
    last (is_field_out_of_range s) (is_explicit_box s || is_implicit_box s) (is_some (box_number s)) (is_some (box_units s)) sized told kept.length
  where
    last : (a b c d : Bool) → b ≡ true → c ≡ true → (a || (b && (c && not d))) ≡ false → d ≡ true
    last a b c d x y z = grind (arith, x, y, z)

-- no units are never past it
no-units : (unit : ℕ) → is_some (units_within unit (Some 0)) ≡ true
no-units unit = ap (λ b. is_some {T = ℕ} (if b then Some 0 else None)) few
  where
    few : nat_le (0 * unit) most_length ≡ true
    few = let none : 0 * unit ≡ 0 = omega arith in ap (λ n. nat_le n most_length) none

-- a box has units by a length of its own, by one that the data tell or by that of its type
pub some-units : (s : Judged) → IsKept s → is_boxed s ≡ true → (is_explicit s || is_sized_by_data s || is_implicit_box s) ≡ true → is_some (box_units s) ≡ true
some-units s kept boxed sized = by (is_explicit s) (is_sized_by_data s) refl refl
  where
    last : (a b c : Bool) → a ≡ false → b ≡ false → (a || b || c) ≡ true → c ≡ true
    last a b c x y z = grind (arith, x, y, z)

    second : (a b : Bool) → b ≡ true → (a || b) ≡ true
    second a b x = grind (arith, x)

    first : (a b : Bool) → a ≡ true → (a || b) ≡ true
    first a b x = grind (arith, x)

    by : (e p : Bool) → is_explicit s ≡ e → is_sized_by_data s ≡ p → is_some (box_units s) ≡ true
    by e true told sized_so =
        ap (λ p. is_some (units_within (box_unit s) (if p then Some 0 else if is_explicit s then number_told (told_at s (codes "length")) else s.facts.max_length))) sized_so
        ∙ no-units (box_unit s)
    by true false explicit apart =
        let own = all-hold _ _ boxed explicit in
        not-past s kept (first _ (is_implicit_box s) own)
        (ap (λ p. is_some (if p then Some 0 else if is_explicit s then number_told (told_at s (codes "length")) else s.facts.max_length)) apart
        ∙ ap (λ e. is_some (if e then number_told (told_at s (codes "length")) else s.facts.max_length)) explicit
        ∙ own-number s kept own (plain-length s apart explicit))
    by false false other apart =
        let implicit = last (is_explicit s) (is_sized_by_data s) (is_implicit_box s) other apart sized in
        not-past s kept (second (is_explicit_box s) _ implicit)
        (ap (λ p. is_some (if p then Some 0 else if is_explicit s then number_told (told_at s (codes "length")) else s.facts.max_length)) apart
        ∙ ap (λ e. is_some (if e then number_told (told_at s (codes "length")) else s.facts.max_length)) other
        ∙ type-number s kept implicit)

pub some-mapped : {A B : Type 0} (f : A → B) (o : Option A) → is_some o ≡ true → is_some (option_map f o) ≡ true
some-mapped f (Some a) some = refl
some-mapped f None some = grind (arith, some)

-- a complex element with a constant length of its own has a box
pub has-box : (s : Judged) → first_breach rules s ≡ None → s.purpose ≡ Parsing → IsTrue (is_explicit_complex s) → IsSome (size_of_box s)
has-box s none purpose explicit =
    ap (λ p. is_some (size_for p s)) purpose
    ∙ (ap (λ b. is_some (if b then box_bits s else None)) explicit ∙ some-mapped _ (box_units s) units)
  where
    parts : (a b c d e f x : Bool) → (c && (d && x)) ≡ true → ((a || b || c) ≡ true) × ((d || e || f) ≡ true)
    parts a b c d e f x h = (grind (arith, h), grind (arith, h))

    units : is_some (box_units s) ≡ true
    units =
        let has = parts (is_text s) (is_hex_binary s.kind) (is_complex s.kind) (is_explicit s) (is_sized_by_data s) (is_implicit_box s) _ explicit in
        some-units s (keeps-all s none) has.0 has.1

-- a simple element with a representation may have a length
with-length : (kind : Kind) → is_simple kind ≡ true → is_without_length kind ≡ false
with-length ComplexElement is = refl
with-length (SimpleElement simple) is = refl
with-length UncarriedElement is = refl
with-length (CalculatedElement simple) is = grind (arith, is)
with-length Sequence is = grind (arith, is)
with-length HiddenSequence is = grind (arith, is)
with-length Choice is = grind (arith, is)
with-length (PrefixNumber simple) is = refl

-- of a simple element whose length the data tell, a length prefix, a pattern, a delimited length or an expression is told
pub sized-is : (s : Judged) → is_simple s.kind ≡ true
    → is_sized_by_data s
    ≡ (is_told s (codes "lengthKind") (codes "prefixed") || is_told s (codes "lengthKind") (codes "pattern") || is_told s (codes "lengthKind") (codes "delimited")
    || is_by_expression s)
sized-is s simple =
    ap
    (λ b. (not b && is_told s (codes "lengthKind") (codes "prefixed")) || (not b && is_told s (codes "lengthKind") (codes "pattern"))
    || (not b && is_told s (codes "lengthKind") (codes "delimited")) || is_by_expression s)
    (with-length s.kind simple)

-- a text or bytes stand in a box
value-boxed : (s : Judged) → (is_text s || is_hex_binary s.kind) ≡ true → is_boxed s ≡ true
value-boxed s is = ap (λ b. b || is_complex s.kind) is

-- what is told of the length of a text or of bytes
value-length : (s : Judged) → IsKept s → (is_text s || is_hex_binary s.kind) ≡ true → is_boxed_kind_told (told_at s (codes "lengthKind")) ≡ true
value-length s kept is = boxed-length s kept (value-boxed s is)

-- the box of a text or of bytes has units
pub value-units : (s : Judged) → IsSound s → (is_text s || is_hex_binary s.kind) ≡ true → is_some (box_units s) ≡ true
value-units s sound is =
    some-units s sound.kept (value-boxed s is)
    (subst (λ p. (is_explicit s || p || is_implicit_box s) ≡ true) (sym (sized-is s sound.form.simple))
    (one (is_string s.kind) (is_text_number s) (is_text_boolean s) (is_hex_binary s.kind) (is_told s (codes "lengthKind") (codes "implicit"))
    (is_explicit s) (is_told s (codes "lengthKind") (codes "prefixed")) (is_told s (codes "lengthKind") (codes "pattern"))
    (is_told s (codes "lengthKind") (codes "delimited")) (is_by_expression s) is (value-length s sound.kept is) not-implicit))
  where
    third : (a b c : Bool) → (a || b || c) ≡ false → c ≡ false
    third a b c h = grind (arith, h)

    not-implicit : ((is_text_number s || is_text_boolean s) && is_told s (codes "lengthKind") (codes "implicit")) ≡ false
    not-implicit = third (is_number_length_not_allowed s) (is_delimited_boolean s) _ sound.kept.length_kind

    one : (a b c d i e p q r m : Bool) → (a || b || c || d) ≡ true → (i || e || p || q || r) ≡ true → ((b || c) && i) ≡ false
        → (e || (p || q || r || m) || ((a || d) && i)) ≡ true
    one a b c d i e p q r m x y z = grind (arith, x, y, z)

-- so bytes have a primitive
pub as-octets : (s : Judged) → IsSound s → is_hex_binary s.kind ≡ true → is_some (octets_of s) ≡ true
as-octets s sound is = either (has_delimited_length s) (option_map (octets_by (field_order s)) (box_bits s)) boxed
  where
    second : (a b : Bool) → b ≡ true → (a || b) ≡ true
    second a b x = grind (arith, x)

    boxed : is_some (option_map (octets_by (field_order s)) (box_bits s)) ≡ true
    boxed =
        some-mapped (octets_by (field_order s)) (box_bits s) (some-mapped _ (box_units s) (value-units s sound (second (is_text s) (is_hex_binary s.kind) is)))

    either : (b : Bool) (o : Option Primitive) → is_some o ≡ true → is_some (if b then Some delimited_octets else o) ≡ true
    either true o some = refl
    either false o some = some

-- the encoding of a text is one of the profile
pub encoding-told : (name : List ℕ) (t : Told) → HasBuilt (row name (Formed values.Encoding) Missing) EveryValue t → is_some (encoding_told t) ≡ true
encoding-told name t has =
    subst (λ t. is_some (encoding_told t) ≡ true) (sym has.is)
    (plain (is_expression has.written) (is_some (encoding_named (literal has.written))) has.value)
  where
    plain : (e b : Bool) → (if e then false else b) ≡ true → b ≡ true
    plain e b h = grind (arith, h)

pub some-encoding : (s : Judged) → IsKept s → is_text s ≡ true → is_some (encoding_told (told_at s (codes "encoding"))) ≡ true
unfolding applicability_table property_table
some-encoding s kept text =
    encoding-told (codes "encoding") _ (built-at s kept 1 (codes "encoding") bearers.Texts EveryValue refl text _ refl refl)

-- neither texts nor bytes stand for a hidden group or are calculated
text-shown : (kind : Kind) (textual : Bool)
    → ((is_string kind || (nat_lt 0 (number_bits kind) && textual) || (is_boolean kind && textual)) || is_hex_binary kind) ≡ true
    → is_bare kind ≡ false
text-shown ComplexElement textual is = refl
text-shown (SimpleElement simple) textual is = refl
text-shown UncarriedElement textual is = refl
text-shown (CalculatedElement simple) textual is = grind (arith, is)
text-shown Sequence textual is = refl
text-shown HiddenSequence textual is = grind (arith, is)
text-shown Choice textual is = refl
text-shown (PrefixNumber simple) textual is = refl

-- the properties of a text or of bytes
pub are-others : (s : Judged) → first_breach rules s ≡ None → IsTrue (is_text s || is_hex_binary s.kind) → IsTextOrBytesValue s
are-others s none is =
    let kept = keeps-all s none in
    record {
      encoding = λ text. some-encoding s kept text;
      length_kind = value-length s kept is;
      bits_by =
          in-bit-order s kept
          (text-shown s.kind (is_told s (codes "representation") (codes "text")) is);
    }
