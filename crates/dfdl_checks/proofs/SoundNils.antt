-- Simple elements without a breach that may be nil have a nil representation.
use Rattle.std.proofs.Common.{◌≡◌, refl, sym, ap, subst, ◌∙◌, ℕ, List, ◌∷◌, [], Option, Some, None, Bool, true, false, not, if◌then◌else◌, ◌&&◌, ◌||◌, is_some, option_and_then, option_map, bytes_eq, codes, IsTrue, IsSome, arith}
use Rattle.dfdl_forms.specs.declared.encoding.Encoding.{Encoding}
use Rattle.dfdl_forms.specs.declared.literals.Piece.{Piece}
use Rattle.dfdl_forms.specs.declared.simple.Simple.{Simple}
use Rattle.std.specs.Option.{option_map_or}
use Rattle.dfdl_scope.specs.Expressions.{is_expression, literal}
use Rattle.dfdl_scope.specs.Scoping.{Told, Value}
use Rattle.dfdl_scope.specs.Table.{row, Formed, Missing, Words, property_table}
use Rattle.dfdl_scope.specs.declared.row.Form.TheVariants as values
use Rattle.dfdl_terms.specs.declared.row.Primitive.{Primitive}
use Rattle.dfdl_terms.specs.declared.row.Primitive.TheVariants.{Integer, Packed, Truth, Octets, Text, NilOctets, Default, NilValues, Pattern}
use Rattle.dfdl_terms.specs.declared.text.NilForm.{NilForm}
use Rattle.dfdl_terms.specs.declared.text.NilTexts.{NilTexts}
use Rattle.dfdl_literals.specs.declared.pad.PadCharacter.{PadCharacter}
use Rattle.dfdl_literals.specs.declared.pad.PadCharacter.TheVariants as pads
use Rattle.dfdl_terms.specs.declared.text.NilTexts.TheVariants.{Literals}
use Rattle.dfdl_checks.proofs.Built.{all-hold, built-at}
use Rattle.dfdl_checks.proofs.Flawless.{HasBuilt, among-words}
use Rattle.dfdl_checks.proofs.Kept.{IsKept, keeps-all}
use Rattle.dfdl_checks.proofs.Primitives.{IsOf, of-component}
use Rattle.dfdl_checks.proofs.Sound.{has-primitive}
use Rattle.dfdl_checks.proofs.SoundBoxes.{encoding-told, some-mapped}
use Rattle.dfdl_checks.specs.Keys.{is_key_malformed}
use Rattle.dfdl_checks.specs.Delimiters.{is_delimiter_malformed}
use Rattle.dfdl_checks.specs.Encodings.{encoding_told}
use Rattle.dfdl_checks.specs.Judged.{Judged}
use Rattle.dfdl_checks.specs.Nils.{are_literals_malformed, is_length_fixed, is_nil_by_character, is_nil_by_literals, is_nil_by_value, is_nil_other, is_nil_unfit, literals_told, nil_byte, nil_character, nil_form_by, nil_form_of, nil_literals, nil_texts, texts_by}
use Rattle.dfdl_checks.specs.NilValues.{is_nil_no_value, is_no_value, nil_values, values_in}
use Rattle.dfdl_checks.specs.Numbers.{primitive_of}
use Rattle.dfdl_checks.specs.Pads.{is_malformed, is_other, single}
use Rattle.dfdl_checks.specs.Representations.{nil_by, nil_in, nil_of, representations_by, representations_for, representations_of}
use Rattle.dfdl_checks.specs.Rules.{are_truth_texts_malformed, first_breach, is_pad_malformed, is_separator_malformed, is_type_not_carried, rules}
use Rattle.dfdl_checks.specs.FillBytes.{is_fill_malformed}
use Rattle.dfdl_checks.specs.Subjects.{is_complex, is_element, is_nillable, is_simple, is_told, is_word, told_at}
use Rattle.dfdl_checks.specs.Table.{EveryValue, applicability_table}
use Rattle.dfdl_checks.specs.declared.applicability.Bearers.TheVariants as bearers
use Rattle.dfdl_checks.specs.declared.purpose.Purpose.TheVariants.{Parsing}
use Rattle.dfdl_checks.specs.declared.subject.Kind.{Kind}
use Rattle.dfdl_checks.specs.declared.subject.Kind.TheVariants.{ComplexElement, SimpleElement, UncarriedElement, CalculatedElement, Sequence, HiddenSequence, Choice, PrefixNumber}

-- of three words, one is told
one-of-three : (x y z name : List ℕ) (t : Told) → HasBuilt (row name (Words (x ∷ y ∷ z ∷ [])) Missing) EveryValue t
    → (is_word x t || is_word y t || is_word z t) ≡ true
one-of-three x y z name t has =
    subst (λ t. (is_word x t || is_word y t || is_word z t) ≡ true) (sym has.is)
    (alone (bytes_eq (literal has.written) x) (bytes_eq (literal has.written) y) (bytes_eq (literal has.written) z)
    (among-words (x ∷ y ∷ z ∷ []) has.written has.value))
  where
    alone : (a b c : Bool) → (a || (b || (c || false))) ≡ true → (a || b || c) ≡ true
    alone a b c h = grind (arith, h)

-- literals that are told and not malformed are some
some-literals : (name : List ℕ) (t : Told) → HasBuilt (row name (Formed values.Literals) Missing) EveryValue t → are_literals_malformed t ≡ false
    → is_some (literals_told t) ≡ true
some-literals name t has =
    subst (λ t. are_literals_malformed t ≡ false → is_some (literals_told t) ≡ true) (sym has.is)
    (by (is_expression has.written) (is_some (literals_told (Value has.written))) has.value)
  where
    by : (e l : Bool) → (if e then false else true) ≡ true → (not e && not l) ≡ false → l ≡ true
    by true l is sound = grind (arith, is)
    by false l is sound = grind (arith, sound)

-- texts and an encoding make a form
some-form : (texts : Option NilTexts) (e : Option Encoding) (fold : Bool) → is_some texts ≡ true → is_some e ≡ true → is_some (nil_form_by texts e fold) ≡ true
some-form (Some t) (Some e) fold x y = refl
some-form None e fold x y = grind (arith, x)
some-form (Some t) None fold x y = grind (arith, y)

some-list : (o : Option (List (List Piece))) → is_some o ≡ true → is_some (option_map Literals o) ≡ true
some-list (Some l) some = refl
some-list None some = grind (arith, some)

-- what is neither malformed nor without a character and a byte is one of these
one-of-both : (p : PadCharacter) (byte : Option ℕ) → is_malformed p ≡ false → (is_other p && not (is_some byte)) ≡ false → is_some (texts_by (single p) byte) ≡ true
one-of-both (pads.Character c) byte well one = refl
one-of-both pads.Malformed byte well one = grind (arith, well)
one-of-both pads.Other (Some b) well one = refl
one-of-both pads.Other None well one = grind (arith, one)

module _ (s : Judged) (kept : IsKept s) (nillable : is_nillable s ≡ true) where
  -- nil is by literals, by a character or by values
  one-kind : (is_told s (codes "nilKind") (codes "literalValue") || is_told s (codes "nilKind") (codes "literalCharacter")
      || is_told s (codes "nilKind") (codes "logicalValue")) ≡ true
  unfolding applicability_table property_table
  one-kind =
      one-of-three (codes "literalValue") (codes "literalCharacter") (codes "logicalValue") (codes "nilKind") _
      (built-at s kept 68 (codes "nilKind") bearers.NillableElements EveryValue refl nillable _ refl refl)

  by-character : is_nil_by_value s ≡ false → is_nil_by_literals s ≡ false → is_nil_by_character s ≡ true
  by-character no-value other =
      last (is_nillable s) (is_told s (codes "nilKind") (codes "literalValue")) (is_told s (codes "nilKind") (codes "literalCharacter"))
      (is_told s (codes "nilKind") (codes "logicalValue")) nillable one-kind other no-value
    where
      last : (a b c d : Bool) → a ≡ true → (b || c || d) ≡ true → (a && b) ≡ false → (a && d) ≡ false → (a && c) ≡ true
      last a b c d x y z w = grind (arith, x, y, z, w)

  -- its texts are some
  well-formed : (((is_nil_by_literals s || is_nil_by_value s) && are_literals_malformed (told_at s (codes "nilValue")))
      || (is_nil_by_character s && is_malformed (nil_character s))) ≡ false
  well-formed =
      fifth (is_pad_malformed s) (is_separator_malformed s) (is_fill_malformed s) (are_truth_texts_malformed s) _
      (is_delimiter_malformed s || is_key_malformed s) kept.literals
    where
      fifth : (a b c d e f : Bool) → (a || b || c || d || e || f) ≡ false → e ≡ false
      fifth a b c d e f none = grind (arith, none)

  as-literals : (is_nil_by_literals s || is_nil_by_value s) ≡ true → is_some (nil_literals s) ≡ true
  unfolding applicability_table property_table
  as-literals literals =
      some-literals (codes "nilValue") _ (built-at s kept 69 (codes "nilValue") bearers.NillableElements EveryValue refl nillable _ refl refl)
      (first (is_nil_by_literals s || is_nil_by_value s) _ _ literals well-formed)
    where
      first : (a b c : Bool) → a ≡ true → ((a && b) || c) ≡ false → b ≡ false
      first a b c x y = grind (arith, x, y)

  as-character : is_nil_by_character s ≡ true → is_some (texts_by (single (nil_character s)) (nil_byte s)) ≡ true
  as-character character =
      one-of-both (nil_character s) (nil_byte s) (second _ (is_nil_by_character s) _ character well-formed)
      (unfit (is_complex s.kind && s.facts.is_nillable) (is_nil_by_character s) (is_nil_other s) (not (is_length_fixed s)) (is_nil_no_value s) character kept.nil)
    where
      second : (a b c : Bool) → b ≡ true → (a || (b && c)) ≡ false → c ≡ false
      second a b c x y = grind (arith, x, y)

      unfit : (a b c d e : Bool) → b ≡ true → (a || (b && (c || d)) || e) ≡ false → c ≡ false
      unfit a b c d e x y = grind (arith, x, y)

  some-texts : is_nil_by_value s ≡ false → is_some (nil_texts s) ≡ true
  some-texts no-value = by (is_nil_by_literals s) (is_nil_by_character s) refl refl
    where
      first : (a b : Bool) → a ≡ true → (a || b) ≡ true
      first a b x = grind (arith, x)

      by : (a b : Bool) → is_nil_by_literals s ≡ a → is_nil_by_character s ≡ b
          → is_some (if a then option_map Literals (nil_literals s) else if b then texts_by (single (nil_character s)) (nil_byte s) else None) ≡ true
      by true b literals other = some-list _ (as-literals (first (is_nil_by_literals s) _ literals))
      by false true other character = as-character character
      by false false other neither = let apart : true ≡ false = sym (by-character no-value other) ∙ neither in grind (arith, apart)

  some-encoding : is_nil_by_value s ≡ false → is_some (encoding_told (told_at s (codes "encoding"))) ≡ true
  unfolding applicability_table property_table
  some-encoding no-value =
      encoding-told (codes "encoding") _
      (built-at s kept 2 (codes "encoding") bearers.TextNillables EveryValue refl (all-hold _ _ nillable (ap not no-value)) _ refl refl)

  -- so nil has a form where it isn't by values
  form-told : is_nil_by_value s ≡ false → is_some (nil_form_of s) ≡ true
  form-told no-value = some-form (nil_texts s) _ (is_told s (codes "ignoreCase") (codes "yes")) (some-texts no-value) (some-encoding no-value)

  -- and has its literals where it is
  literals-told : is_nil_by_value s ≡ true → is_some (nil_literals s) ≡ true
  literals-told by-value = as-literals (second (is_nil_by_literals s) _ by-value)
    where
      second : (a b : Bool) → b ≡ true → (a || b) ≡ true
      second a b x = grind (arith, x)

  -- each of which says a value of the type
  values-said : is_nil_by_value s ≡ true → is_no_value s s.kind ≡ false
  values-said by-value =
      last (is_complex s.kind && s.facts.is_nillable) (is_nil_unfit s) (is_nil_by_value s) (is_no_value s s.kind) by-value kept.nil
    where
      last : (a b c d : Bool) → c ≡ true → (a || b || (c && d)) ≡ false → d ≡ false
      last a b c d x y = grind (arith, x, y)

-- a component's own primitive has a box for nil
some-box : (s : Judged) (p : Primitive) (nil : NilForm) → IsOf s p → is_some (nil_by p nil) ≡ true
some-box s (Integer form) nil of = refl
some-box s (Packed form) nil of = refl
some-box s (Truth form) nil of = refl
some-box s (Octets form) nil of = refl
some-box s (Text form) nil of = refl
some-box s (NilOctets form) nil of = absurd of
some-box s (Default form) nil of = absurd of
some-box s (NilValues form) nil of = absurd of
some-box s (Pattern form) nil of = absurd of

in-box : (s : Judged) (p : Primitive) (form : Option NilForm) → IsOf s p → is_some form ≡ true → is_some (option_and_then (nil_by p) form) ≡ true
in-box s p (Some nil) of some = some-box s p nil of
in-box s p None of some = grind (arith, some)

-- literals that each say a value are values
some-values : (simple : Simple) (o : Option (List (List Piece))) → is_some o ≡ true
    → option_map_or (λ literals. not (is_some (values_in simple literals))) o false ≡ false → is_some (option_and_then (values_in simple) o) ≡ true
some-values simple (Some literals) some said = by (is_some (values_in simple literals)) said
  where
    by : (b : Bool) → not b ≡ false → b ≡ true
    by b h = grind (arith, h)
some-values simple None some said = grind (arith, some)

-- what is known of nil at an element of the kind: by its value or by its texts it is some
record HasNil (s : Judged) (kind : Kind) : Type 0 where
  literals : is_nil_by_value s ≡ true → is_some (nil_literals s) ≡ true
  said : is_nil_by_value s ≡ true → is_no_value s kind ≡ false
  form : is_nil_by_value s ≡ false → is_some (nil_form_of s) ≡ true

of-type : (s : Judged) (simple : Simple) (p : Primitive) → IsOf s p → HasNil s (SimpleElement simple) → is_some (nil_of s simple p) ≡ true
of-type s simple p of has = by (is_nil_by_value s) refl
  where
    by : (b : Bool) → is_nil_by_value s ≡ b
        → is_some (if b then option_map nil_in (nil_values s simple) else option_and_then (nil_by p) (nil_form_of s)) ≡ true
    by true by-value = some-mapped nil_in (nil_values s simple) (some-values simple (nil_literals s) (has.literals by-value) (has.said by-value))
    by false other = in-box s p (nil_form_of s) of (has.form other)

of-kind : (s : Judged) (kind : Kind) (o : Option Primitive) → (is_element kind && is_simple kind) ≡ true → is_type_not_carried kind ≡ false → primitive_of s ≡ o
    → is_some o ≡ true → HasNil s kind → is_some (representations_by s kind o).nil ≡ true
of-kind s (SimpleElement simple) (Some p) is carried told some has = of-type s simple p (of-component s p told) has
of-kind s (SimpleElement simple) None is carried told some has = grind (arith, some)
of-kind s ComplexElement o is carried told some has = grind (arith, is)
of-kind s UncarriedElement o is carried told some has = grind (arith, carried)
of-kind s (CalculatedElement simple) o is carried told some has = grind (arith, is)
of-kind s Sequence o is carried told some has = grind (arith, is)
of-kind s HiddenSequence o is carried told some has = grind (arith, is)
of-kind s Choice o is carried told some has = grind (arith, is)
of-kind s (PrefixNumber simple) o is carried told some has = grind (arith, is)

-- an element that may be nil, and that breaks no rule, has a nil representation
pub has-nil : (s : Judged) → first_breach rules s ≡ None → s.purpose ≡ Parsing → IsTrue (is_nillable s) → IsSome (representations_of s).nil
has-nil s none purpose nillable =
    subst (λ p. is_some (representations_for p s).nil ≡ true) (sym purpose)
    (of-kind s s.kind (primitive_of s) (first (is_element s.kind && is_simple s.kind) s.facts.is_nillable nillable) kept.typed refl
    (has-primitive s none (second (is_element s.kind) (is_simple s.kind) s.facts.is_nillable nillable)) has)
  where
    kept : IsKept s
    kept = keeps-all s none

    has : HasNil s s.kind
    has = record { literals = literals-told s kept nillable; said = values-said s kept nillable; form = form-told s kept nillable }

    first : (a b : Bool) → (a && b) ≡ true → a ≡ true
    first a b h = grind (arith, h)

    second : (a b c : Bool) → (a && b && c) ≡ true → b ≡ true
    second a b c h = grind (arith, h)
