-- What is told of the kind of length of a component without a breach.
use Rattle.std.proofs.Common.{◌≡◌, refl, sym, subst, ◌∷◌, [], Bool, true, false, ◌||◌, ◌&&◌, codes, arith}
use Rattle.std.specs.Str.{bytes_eq}
use Rattle.dfdl_scope.specs.Expressions.{literal}
use Rattle.dfdl_scope.specs.Scoping.{Told}
use Rattle.dfdl_scope.specs.Table.{Row, row, Words, Missing, property_table}
use Rattle.dfdl_checks.proofs.Built.{built-by, one-word, other-word}
use Rattle.dfdl_checks.proofs.Flawless.{HasBuilt}
use Rattle.dfdl_checks.proofs.Kept.{IsKept}
use Rattle.dfdl_checks.specs.Judged.{Judged}
use Rattle.dfdl_checks.specs.Rules.{is_delimited_boolean, is_length_by_content, is_length_without_size, is_number_length_not_allowed, is_text_without_size}
use Rattle.dfdl_checks.specs.Subjects.{is_binary_boolean, is_binary_number, is_boxed, is_told, is_word, told_at}
use Rattle.dfdl_checks.specs.Table.{Applicability, applies_by, built_for, Words as BuiltWords, word, applicability_table}
use Rattle.dfdl_checks.specs.declared.applicability.Bearers.TheVariants as bearers
use Rattle.dfdl_checks.specs.declared.purpose.Purpose.{Purpose}
use Rattle.dfdl_checks.specs.declared.purpose.Purpose.TheVariants.{Parsing, Unparsing}

-- the length is that of the type, one of its own, that of a prefix or by a pattern
abbrev pub is_kind_told : Told → Bool
is_kind_told t = is_word (codes "implicit") t || is_word (codes "explicit") t || is_word (codes "prefixed") t || is_word (codes "pattern") t

-- what is told of the kind of a length: one of these four, and for unparsing that of the type
pub record HasKind (purpose : Purpose) (t : Told) : Type 0 where
  pub kind : is_kind_told t ≡ true
  pub implicit : purpose ≡ Unparsing → is_word (codes "explicit") t ≡ false

-- a length that is that of the type is none of its own
implicit-kind : (purpose : Purpose) (t : Told) → is_word (codes "implicit") t ≡ true → HasKind purpose t
implicit-kind purpose t is = record {
  kind = grind (arith, is);
  implicit = λ unparsing. other-word (codes "implicit") (codes "explicit") refl t is;
}

-- for parsing
parsed-kind : (t : Told) → is_kind_told t ≡ true → HasKind Parsing t
parsed-kind t is = record { kind = is; implicit = λ unparsing. absurd (apart unparsing) }
  where
    apart : Parsing ≡ Unparsing → ⊥
    apart same = cc

-- the kinds of lengths of binary numbers
abbrev number_kinds : Applicability
number_kinds =
    applies_by (codes "lengthKind") bearers.BinaryNumbers
    (BuiltWords (codes "implicit" ∷ codes "explicit" ∷ codes "prefixed" ∷ codes "delimited" ∷ codes "pattern" ∷ []))
    (BuiltWords (codes "implicit" ∷ codes "delimited" ∷ codes "pattern" ∷ []))

-- for unparsing, a length is that of the type where it isn't by content
implicit-alone : (r : Row) (t : Told) → HasBuilt r number_kinds.unparsing t → (is_word (codes "delimited") t || is_word (codes "pattern") t) ≡ false
    → is_word (codes "implicit") t ≡ true
implicit-alone r t has others =
    subst (λ t. is_word (codes "implicit") t ≡ true) (sym has.is)
    (alone (bytes_eq (literal has.written) (codes "implicit")) (bytes_eq (literal has.written) (codes "delimited")) (bytes_eq (literal has.written) (codes "pattern"))
    has.built_is (subst (λ t. (is_word (codes "delimited") t || is_word (codes "pattern") t) ≡ false) has.is others))
  where
    alone : (a b c : Bool) → (a || (b || (c || false))) ≡ true → (b || c) ≡ false → a ≡ true
    alone a b c h k = grind (arith, h, k)

-- for parsing, it is one of the four
number-told : (r : Row) (t : Told) → HasBuilt r number_kinds.parsing t → (is_word (codes "delimited") t || is_word (codes "pattern") t) ≡ false
    → is_kind_told t ≡ true
number-told r t has others =
    subst (λ t. is_kind_told t ≡ true) (sym has.is)
    (alone (bytes_eq (literal has.written) (codes "implicit")) (bytes_eq (literal has.written) (codes "explicit"))
    (bytes_eq (literal has.written) (codes "prefixed")) (bytes_eq (literal has.written) (codes "delimited")) (bytes_eq (literal has.written) (codes "pattern"))
    has.built_is (subst (λ t. (is_word (codes "delimited") t || is_word (codes "pattern") t) ≡ false) has.is others))
  where
    alone : (a b c d e : Bool) → (a || (b || (c || (d || (e || false))))) ≡ true → (d || e) ≡ false → (a || b || c || e) ≡ true
    alone a b c d e h k = grind (arith, h, k)

number-kind : (purpose : Purpose) (r : Row) (t : Told) → HasBuilt r (built_for purpose number_kinds) t
    → (is_word (codes "delimited") t || is_word (codes "pattern") t) ≡ false → HasKind purpose t
number-kind Parsing r t has others = parsed-kind t (number-told r t has others)
number-kind Unparsing r t has others = implicit-kind Unparsing t (implicit-alone r t has others)

-- the kinds of lengths of binary booleans
abbrev boolean_kinds : Applicability
boolean_kinds =
    applies_by (codes "lengthKind") bearers.BinaryBooleans
    (BuiltWords (codes "implicit" ∷ codes "explicit" ∷ codes "prefixed" ∷ codes "delimited" ∷ codes "pattern" ∷ [])) (word (codes "implicit"))

boolean-told : (r : Row) (t : Told) → HasBuilt r boolean_kinds.parsing t → is_word (codes "delimited") t ≡ false → is_kind_told t ≡ true
boolean-told r t has other =
    subst (λ t. is_kind_told t ≡ true) (sym has.is)
    (alone (bytes_eq (literal has.written) (codes "implicit")) (bytes_eq (literal has.written) (codes "explicit"))
    (bytes_eq (literal has.written) (codes "prefixed")) (bytes_eq (literal has.written) (codes "delimited")) (bytes_eq (literal has.written) (codes "pattern"))
    has.built_is (subst (λ t. is_word (codes "delimited") t ≡ false) has.is other))
  where
    alone : (a b c d e : Bool) → (a || (b || (c || (d || (e || false))))) ≡ true → d ≡ false → (a || b || c || e) ≡ true
    alone a b c d e h k = grind (arith, h, k)

boolean-kind : (purpose : Purpose) (r : Row) (t : Told) → HasBuilt r (built_for purpose boolean_kinds) t → is_word (codes "delimited") t ≡ false
    → HasKind purpose t
boolean-kind Parsing r t has other = parsed-kind t (boolean-told r t has other)
boolean-kind Unparsing r t has other = implicit-kind Unparsing t (one-word (codes "implicit") r t has)

-- the kinds of lengths of texts, of bytes and of complex elements
abbrev boxed_kinds : Applicability
boxed_kinds =
    applies_by (codes "lengthKind") bearers.BoxedElements
    (BuiltWords (codes "implicit" ∷ codes "explicit" ∷ codes "prefixed" ∷ codes "delimited" ∷ codes "pattern" ∷ [])) (word (codes "implicit"))

-- the length is one of the four, or delimited
abbrev pub is_boxed_kind_told : Told → Bool
is_boxed_kind_told t = is_kind_told t || is_word (codes "delimited") t

boxed-told : (r : Row) (t : Told) → HasBuilt r boxed_kinds.parsing t → is_boxed_kind_told t ≡ true
boxed-told r t has =
    subst (λ t. is_boxed_kind_told t ≡ true) (sym has.is)
    (alone (bytes_eq (literal has.written) (codes "implicit")) (bytes_eq (literal has.written) (codes "explicit"))
    (bytes_eq (literal has.written) (codes "prefixed")) (bytes_eq (literal has.written) (codes "delimited")) (bytes_eq (literal has.written) (codes "pattern"))
    has.built_is)
  where
    alone : (a b c d e : Bool) → (a || (b || (c || (d || (e || false))))) ≡ true → (a || b || c || e || d) ≡ true
    alone a b c d e h = grind (arith, h)

boxed-kind : (purpose : Purpose) (r : Row) (t : Told) → HasBuilt r (built_for purpose boxed_kinds) t → is_boxed_kind_told t ≡ true
boxed-kind Parsing r t has = boxed-told r t has
boxed-kind Unparsing r t has = first (is_word (codes "implicit") t) _ _ _ _ (one-word (codes "implicit") r t has)
  where
    first : (a b c d e : Bool) → a ≡ true → (a || b || c || d || e) ≡ true
    first a b c d e h = grind (arith, h)

-- the row of the kind of a length
abbrev kind_row : Row
kind_row = row (codes "lengthKind") (Words (codes "explicit" ∷ codes "implicit" ∷ codes "prefixed" ∷ codes "delimited" ∷ codes "pattern" ∷ [])) Missing

-- of a component without a breach, what is told of its length as a number
pub number-length : (s : Judged) → IsKept s → is_binary_number s ≡ true → HasKind s.purpose (told_at s (codes "lengthKind"))
unfolding applicability_table property_table
number-length s kept binary = number-kind s.purpose _ _ kinds not-by-content
  where
    kinds : HasBuilt kind_row (built_for s.purpose number_kinds) (told_at s (codes "lengthKind"))
    kinds = built-by s kept 11 number_kinds refl binary _ refl refl

    first-of : (a b c d e : Bool) → a ≡ true → ((a && (b || c)) || d || e) ≡ false → b ≡ false
    first-of a b c d e x y = grind (arith, x, y)

    not-by-content : is_length_by_content s ≡ false
    not-by-content =
        first-of (is_binary_number s) (is_length_by_content s) (is_length_without_size s) (is_delimited_boolean s) (is_text_without_size s) binary
        kept.length_kind

-- the same of a boolean
pub boolean-length : (s : Judged) → IsKept s → is_binary_boolean s ≡ true → HasKind s.purpose (told_at s (codes "lengthKind"))
unfolding applicability_table property_table
boolean-length s kept binary = boolean-kind s.purpose _ _ kinds not-delimited
  where
    kinds : HasBuilt kind_row (built_for s.purpose boolean_kinds) (told_at s (codes "lengthKind"))
    kinds = built-by s kept 12 boolean_kinds refl binary _ refl refl

    second-of : (a b c d : Bool) → b ≡ true → (a || (b && c) || d) ≡ false → c ≡ false
    second-of a b c d x y = grind (arith, x, y)

    not-delimited : is_told s (codes "lengthKind") (codes "delimited") ≡ false
    not-delimited =
        second-of (is_number_length_not_allowed s) (is_binary_boolean s) (is_told s (codes "lengthKind") (codes "delimited")) (is_text_without_size s) binary
        kept.length_kind

-- the same of what stands in a box
pub boxed-length : (s : Judged) → IsKept s → is_boxed s ≡ true → is_boxed_kind_told (told_at s (codes "lengthKind")) ≡ true
unfolding applicability_table property_table
boxed-length s kept boxed = boxed-kind s.purpose _ _ kinds
  where
    kinds : HasBuilt kind_row (built_for s.purpose boxed_kinds) (told_at s (codes "lengthKind"))
    kinds = built-by s kept 10 boxed_kinds refl boxed _ refl refl
