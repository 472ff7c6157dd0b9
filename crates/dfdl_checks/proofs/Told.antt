-- What the properties of a simple element without a breach say.
use Rattle.std.proofs.Common.{◌≡◌, refl, sym, ap, subst, ◌∙◌, ◌∷◌, [], Some, None, Bool, true, false, not, ◌||◌, ◌&&◌, if◌then◌else◌, codes, nat_lt, IsTrue, arith}
use Rattle.std.specs.Str.{bytes_eq}
use Rattle.std.proofs.lemmas.Bool.{lt-ltb}
use Rattle.dfdl_forms.specs.declared.binary.IntForm.{IntForm}
use Rattle.dfdl_forms.specs.declared.packed.PackedForm.{PackedForm}
use Rattle.dfdl_forms.specs.declared.packed.PackedRep.{PackedRep}
use Rattle.dfdl_forms.specs.declared.packed.PackedRep.TheVariants.{Packed, Bcd, Ibm4690}
use Rattle.dfdl_scope.specs.Expressions.{literal}
use Rattle.dfdl_scope.specs.Scoping.{Told}
use Rattle.dfdl_scope.specs.Table.{Row, row, Words, Missing, property_table}
use Rattle.dfdl_terms.specs.declared.row.Primitive.TheVariants as primitives
use Rattle.dfdl_checks.proofs.Binary.{IsSound, IsSoundBinary, binary-simple, is-sound, is-sound-binary, simple-shown}
use Rattle.dfdl_checks.proofs.Built.{all-hold, built-at, built-by, either-word, one-word}
use Rattle.dfdl_checks.proofs.Flawless.{HasBuilt, among-words}
use Rattle.dfdl_checks.proofs.BoxBounds.{none-some, some-is}
use Rattle.dfdl_checks.proofs.Ordered.{in-bit-order}
use Rattle.dfdl_checks.proofs.Primitives.{IsIntegerOf, IsPackedOf, of-component}
use Rattle.dfdl_checks.proofs.Types.{of-type}
use Rattle.dfdl_checks.specs.Numbers.{IsBinaryValue, primitive_of}
use Rattle.dfdl_checks.specs.Orders.{is_least_first}
use Rattle.dfdl_checks.specs.Packed.{rep_of, rep_told, rep_word}
use Rattle.dfdl_checks.specs.Rules.{first_breach, rules}
use Rattle.dfdl_checks.specs.Subjects.{is_binary, is_binary_number, is_simple, is_told, is_word, told_at, value_bits}
use Rattle.dfdl_checks.specs.Table.{Applicability, applies_by, built_for, EveryValue, word, applicability_table}
use Rattle.dfdl_checks.specs.declared.applicability.Bearers.TheVariants as bearers
use Rattle.dfdl_checks.specs.declared.purpose.Purpose.{Purpose}
use Rattle.dfdl_checks.specs.declared.purpose.Purpose.TheVariants.{Parsing, Unparsing}
use Rattle.dfdl_checks.specs.Judged.{Judged}

-- the word of a representation that is told is told
pub rep-word : (t : Told) (rep : PackedRep) → rep_told t ≡ Some rep → is_word (rep_word rep) t ≡ true
rep-word t rep is = by (is_word (codes "packed") t) (is_word (codes "bcd") t) (is_word (codes "ibm4690Packed") t) refl refl refl is
  where
    by : (a b c : Bool) → is_word (codes "packed") t ≡ a → is_word (codes "bcd") t ≡ b → is_word (codes "ibm4690Packed") t ≡ c
        → (if a then Some Packed else if b then Some Bcd else if c then Some Ibm4690 else None) ≡ Some rep → is_word (rep_word rep) t ≡ true
    by true b c x y z is = subst (λ r. is_word (rep_word r) t ≡ true) (some-is _ _ is) x
    by false true c x y z is = subst (λ r. is_word (rep_word r) t ≡ true) (some-is _ _ is) y
    by false false true x y z is = subst (λ r. is_word (rep_word r) t ≡ true) (some-is _ _ is) z
    by false false false x y z is = absurd (none-some _ is)

-- where none is told, no word of one is
no-rep : (t : Told) → rep_told t ≡ None → (is_word (codes "packed") t || is_word (codes "bcd") t || is_word (codes "ibm4690Packed") t) ≡ false
no-rep t none = by (is_word (codes "packed") t) (is_word (codes "bcd") t) (is_word (codes "ibm4690Packed") t) none
  where
    by : (a b c : Bool) → (if a then Some Packed else if b then Some Bcd else if c then Some Ibm4690 else None) ≡ None → (a || b || c) ≡ false
    by true b c none = absurd (none-some _ (sym none))
    by false true c none = absurd (none-some _ (sym none))
    by false false true none = absurd (none-some _ (sym none))
    by false false false none = refl

-- the representation of a component is the one that is told of it as a binary number
pub record IsRepOf (s : Judged) (rep : PackedRep) : Type 0 where
  pub number : is_binary_number s ≡ true
  pub told : rep_told (told_at s (codes "binaryNumberRep")) ≡ Some rep

pub rep-of : (s : Judged) (rep : PackedRep) → rep_of s ≡ Some rep → IsRepOf s rep
rep-of s rep is = by (is_binary_number s) refl is
  where
    by : (b : Bool) → is_binary_number s ≡ b → (if b then rep_told (told_at s (codes "binaryNumberRep")) else None) ≡ Some rep → IsRepOf s rep
    by true number is = record { number = number; told = is }
    by false number is = absurd (none-some _ is)

-- a binary number without one is told none
none-told : (s : Judged) → is_binary_number s ≡ true → rep_of s ≡ None → rep_told (told_at s (codes "binaryNumberRep")) ≡ None
none-told s number none = sym (ap (λ b. if b then rep_told (told_at s (codes "binaryNumberRep")) else None) number) ∙ none

-- the row of binaryNumberRep, and which of its values are built
abbrev rep_row : Row
rep_row = row (codes "binaryNumberRep") (Words (codes "binary" ∷ codes "packed" ∷ codes "bcd" ∷ codes "ibm4690Packed" ∷ [])) Missing

abbrev reps : Applicability
reps = applies_by (codes "binaryNumberRep") bearers.BinaryNumbers EveryValue (word (codes "binary"))

-- of four words, the first one is told where none of the others is
first-word : (t : Told) → HasBuilt rep_row EveryValue t
    → (is_word (codes "packed") t || is_word (codes "bcd") t || is_word (codes "ibm4690Packed") t) ≡ false → is_word (codes "binary") t ≡ true
first-word t has others =
    subst (λ t. is_word (codes "binary") t ≡ true) (sym has.is)
    (alone (bytes_eq (literal has.written) (codes "binary")) (bytes_eq (literal has.written) (codes "packed")) (bytes_eq (literal has.written) (codes "bcd"))
    (bytes_eq (literal has.written) (codes "ibm4690Packed"))
    (among-words (codes "binary" ∷ codes "packed" ∷ codes "bcd" ∷ codes "ibm4690Packed" ∷ []) has.written has.value)
    (subst (λ t. (is_word (codes "packed") t || is_word (codes "bcd") t || is_word (codes "ibm4690Packed") t) ≡ false) has.is others))
  where
    alone : (a b c d : Bool) → (a || (b || (c || (d || false)))) ≡ true → (b || c || d) ≡ false → a ≡ true
    alone a b c d h k = grind (arith, h, k)

binary-word : (purpose : Purpose) (t : Told) → HasBuilt rep_row (built_for purpose reps) t → (purpose ≡ Parsing → rep_told t ≡ None)
    → is_word (codes "binary") t ≡ true
binary-word Parsing t has none = first-word t has (no-rep t (none refl))
binary-word Unparsing t has none = one-word (codes "binary") rep_row t has

-- the properties of a binary number or boolean without a breach are those of one
pub are-values : (s : Judged) → first_breach rules s ≡ None → IsTrue (is_binary s) → IsBinaryValue s
unfolding applicability_table property_table
are-values s none is = record {
  number = number;
  packed = packed;
  length_kind = binary.length.kind;
  bits_by = in-bit-order s sound.kept (simple-shown s.kind simple);
  bytes_by = λ wide.
      either-word (codes "bigEndian") (codes "littleEndian") (codes "byteOrder") _
      (built-at s sound.kept 7 (codes "byteOrder") bearers.OrderedBinaries EveryValue refl
      (all-hold _ _ is (first-holds _ (is_least_first s) (lt-ltb 8 (value_bits s.kind) wide))) _ refl refl);
  orders = λ number least.
      third (is_binary_number s) (is_least_first s) (is_told s (codes "byteOrder") (codes "littleEndian")) number least sound.kept.orders;
}
  where
    first : (a b : Bool) → (a && b) ≡ true → a ≡ true
    first a b h = grind (arith, h)

    simple : is_simple s.kind ≡ true
    simple = binary-simple s.kind (first (nat_lt 0 (value_bits s.kind)) (is_told s (codes "representation") (codes "binary")) is)

    sound : IsSound s
    sound = is-sound s none simple

    binary : IsSoundBinary s sound
    binary = is-sound-binary s sound is

    first-holds : (a b : Bool) → a ≡ true → (a || b) ≡ true
    first-holds a b is = grind (arith, is)

    third : (a b c : Bool) → a ≡ true → b ≡ true → (a && b && not c) ≡ false → c ≡ true
    third a b c x y kept = grind (arith, x, y, kept)

    is-number : (form : IntForm) → IsIntegerOf s form → is_binary_number s ≡ true
    is-number form of = all-hold _ _ (ap (nat_lt 0) (of-type s.kind form.kind of.kind).number_size ∙ of.some) binary.representation

    number : (form : IntForm) → primitive_of s ≡ Some (primitives.Integer form) → IsTrue (is_told s (codes "binaryNumberRep") (codes "binary"))
    number form is = as-integer (of-component s (primitives.Integer form) is)
      where
        as-integer : IsIntegerOf s form → is_told s (codes "binaryNumberRep") (codes "binary") ≡ true
        as-integer of =
            binary-word s.purpose (told_at s (codes "binaryNumberRep")) (built-by s sound.kept 64 reps refl (is-number form of) rep_row refl refl)
            (λ parsing. none-told s (is-number form of) (of.plain parsing))

    packed : (form : PackedForm) → primitive_of s ≡ Some (primitives.Packed form) → IsTrue (is_told s (codes "binaryNumberRep") (rep_word form.rep))
    packed form is = as-packed (of-component s (primitives.Packed form) is)
      where
        as-packed : IsPackedOf s form → is_told s (codes "binaryNumberRep") (rep_word form.rep) ≡ true
        as-packed of = rep-word (told_at s (codes "binaryNumberRep")) form.rep (rep-of s form.rep of.rep).told
