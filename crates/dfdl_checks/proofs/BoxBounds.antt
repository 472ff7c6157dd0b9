-- What is known of each component with a box.
use Rattle.std.proofs.Common.{◌≡◌, refl, sym, ap, ◌∙◌, ℕ, ◌≤◌, ◌*◌, Option, Some, None, Bool, true, false, not, if◌then◌else◌, ◌&&◌, nat_le, codes, arith}
use Rattle.std.proofs.Math.Nat.{le-mul_of_pos_right}
use Rattle.dfdl_forms.specs.declared.encoding.Encoding.{Encoding}
use Rattle.dfdl_forms.specs.declared.encoding.Encoding.TheVariants as encodings
use Rattle.dfdl_terms.specs.Rows.{most_length}
use Rattle.dfdl_checks.specs.Boxes.{box_bits, box_number, box_unit, box_units, counts_units, is_explicit_complex, is_in_characters, size_for, size_of_box, told_unit, units_within}
use Rattle.dfdl_checks.specs.Encodings.{character_bits, encoding_told, smallest_unit}
use Rattle.dfdl_checks.specs.Judged.{Judged}
use Rattle.dfdl_checks.specs.Lengths.{length_in, unit_bits, unit_of}
use Rattle.dfdl_checks.specs.Subjects.{is_by_expression, is_complex, is_explicit, is_word, told_at}
use Rattle.dfdl_checks.specs.declared.purpose.Purpose.{Purpose}
use Rattle.dfdl_checks.specs.declared.purpose.Purpose.TheVariants.{Parsing, Unparsing}
use Rattle.dfdl_checks.specs.declared.subject.Kind.{Kind}
use Rattle.dfdl_checks.specs.declared.subject.Kind.TheVariants.{ComplexElement, SimpleElement, UncarriedElement, CalculatedElement, Sequence, HiddenSequence, Choice, PrefixNumber}

-- what is there is one thing
pub some-is : {A : Type 0} (a b : A) → Some a ≡ Some b → a ≡ b
some-is a b is = cc

-- what is there is not nothing
pub none-some : {A : Type 0} (a : A) → None ≡ Some a → ⊥
none-some a is = cc

-- units of a number that is told aren't past the greatest length
pub units-few : (unit : ℕ) (number : Option ℕ) (n : ℕ) → units_within unit number ≡ Some n → n * unit ≤ most_length
units-few unit (Some m) n is = by (nat_le (m * unit) most_length) refl is
  where
    few : nat_le (m * unit) most_length ≡ true → m ≡ n → n * unit ≤ most_length
    few test same = let moved : nat_le (n * unit) most_length ≡ true = sym (ap (λ m. nat_le (m * unit) most_length) same) ∙ test in grind (arith, moved)

    by : (b : Bool) → nat_le (m * unit) most_length ≡ b → (if b then Some m else None) ≡ Some n → n * unit ≤ most_length
    by true test is = few test (some-is _ _ is)
    by false test is = absurd (none-some _ is)
units-few unit None n is = absurd (none-some _ is)

-- a box isn't past the greatest length
bits-few : (unit : ℕ) (number units : Option ℕ) (bits : ℕ) → units_within unit number ≡ units → length_in unit units ≡ Some bits → bits ≤ most_length
bits-few unit number (Some n) bits within is =
    let few : n * unit ≤ most_length = units-few unit number n within in
    let same : n * unit ≡ bits = some-is _ _ is in
    omega (arith, few, same)
bits-few unit number None bits within is = absurd (none-some _ is)

pub bits-within : (s : Judged) (bits : ℕ) → box_bits s ≡ Some bits → bits ≤ most_length
bits-within s bits is = bits-few (box_unit s) (box_number s) (box_units s) bits refl is

-- each unit has a bit
some-unit : (e : Encoding) → 1 ≤ smallest_unit e
some-unit encodings.Utf8 = omega arith
some-unit encodings.UsAscii = omega arith
some-unit encodings.Iso88591 = omega arith
some-unit encodings.Utf16Be = omega arith
some-unit encodings.Utf16Le = omega arith

some-character : (e : Option Encoding) → 1 ≤ character_bits e
some-character (Some e) = some-unit e
some-character None = omega arith

some-bit : (b : Bool) → 1 ≤ unit_of b
some-bit true = omega arith
some-bit false = omega arith

either-some : (b : Bool) (m n : ℕ) → 1 ≤ m → 1 ≤ n → 1 ≤ (if b then m else n)
either-some true m n x y = x
either-some false m n x y = y

unit-some : (s : Judged) → 1 ≤ box_unit s
unit-some s =
    either-some (counts_units s) (told_unit s) 8
    (either-some (is_in_characters s) (character_bits (encoding_told (told_at s (codes "encoding")))) (unit_bits (told_at s (codes "lengthUnits")))
    (some-character (encoding_told (told_at s (codes "encoding")))) (some-bit (is_word (codes "bits") (told_at s (codes "lengthUnits")))))
    (omega arith)

-- so no more units stand in a box than it may have bits
pub units-within : (s : Judged) (n : ℕ) → box_units s ≡ Some n → (n ≤ most_length) × (n * box_unit s ≤ most_length)
units-within s n is =
    let few : n * box_unit s ≤ most_length = units-few (box_unit s) (box_number s) n is in
    let more : n ≤ n * box_unit s = le-mul_of_pos_right n (unit-some s) in
    (omega (arith, few, more), few)

-- a component with a box is a complex element for parsing with a length of its own
pub record HasBox (s : Judged) (bits : ℕ) : Type 0 where
  pub complex : is_explicit_complex s ≡ true
  pub sized : box_bits s ≡ Some bits

by-purpose : (purpose : Purpose) (s : Judged) (bits : ℕ) → size_for purpose s ≡ Some bits → HasBox s bits
by-purpose Parsing s bits is = by (is_explicit_complex s) refl is
  where
    by : (b : Bool) → is_explicit_complex s ≡ b → (if b then box_bits s else None) ≡ Some bits → HasBox s bits
    by true complex sized = record { complex = complex; sized = sized }
    by false complex sized = absurd (none-some _ sized)
by-purpose Unparsing s bits is = absurd (none-some _ is)

pub box-bounded : (s : Judged) (bits : ℕ) → size_of_box s ≡ Some bits → bits ≤ most_length
box-bounded s bits is = let has = by-purpose s.purpose s bits is in bits-within s bits has.sized

complex-is : (kind : Kind) → is_complex kind ≡ true → kind ≡ ComplexElement
complex-is ComplexElement is = refl
complex-is (SimpleElement simple) is = grind (arith, is)
complex-is UncarriedElement is = grind (arith, is)
complex-is (CalculatedElement simple) is = grind (arith, is)
complex-is Sequence is = grind (arith, is)
complex-is HiddenSequence is = grind (arith, is)
complex-is Choice is = grind (arith, is)
complex-is (PrefixNumber simple) is = grind (arith, is)

pub box-kind : (s : Judged) (bits : ℕ) → size_of_box s ≡ Some bits → s.kind ≡ ComplexElement
box-kind s bits is =
    let has = by-purpose s.purpose s bits is in
    complex-is s.kind (first (is_complex s.kind) (is_explicit s && not (is_by_expression s)) has.complex)
  where
    first : (a b : Bool) → (a && b) ≡ true → a ≡ true
    first a b h = grind (arith, h)

-- for unparsing there is none
pub no-box : (s : Judged) → s.purpose ≡ Unparsing → size_of_box s ≡ None
no-box s purpose = ap (λ p. size_for p s) purpose
