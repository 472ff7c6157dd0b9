-- Simple elements and types of prefixes without a breach, and those among them that are binary.
use Rattle.std.proofs.Common.{◌≡◌, refl, sym, ap, ◌∙◌, Some, None, Bool, true, false, ◌&&◌, codes, nat_lt, IsTrue, arith}
use Rattle.dfdl_forms.specs.Types.{form_of}
use Rattle.dfdl_forms.specs.declared.simple.Simple.{Simple}
use Rattle.dfdl_checks.proofs.Built.{all-hold}
use Rattle.dfdl_checks.proofs.Kept.{IsKept, keeps-all, second-fails}
use Rattle.dfdl_checks.proofs.LengthKinds.{HasKind, boolean-length, number-length}
use Rattle.dfdl_checks.proofs.Types.{IsOfForm, built-type, number-or-truth, of-type}
use Rattle.dfdl_checks.specs.BuiltTypes.{is_built_type}
use Rattle.dfdl_checks.specs.Judged.{Judged}
use Rattle.dfdl_checks.specs.Rules.{first_breach, rules, has_later_type, is_later_group}
use Rattle.dfdl_checks.specs.Subjects.{is_binary, is_binary_boolean, is_binary_number, is_bare, is_simple, is_told, is_truths, simple_of, told_at, value_bits}
use Rattle.dfdl_checks.specs.declared.subject.Kind.{Kind}
use Rattle.dfdl_checks.specs.declared.subject.Kind.TheVariants.{ComplexElement, SimpleElement, UncarriedElement, CalculatedElement, Sequence, HiddenSequence, Choice, PrefixNumber}

-- what is known of a simple element, or of the type of a prefix, without a breach
pub record IsSound (s : Judged) : Type 0 where
  pub kept : IsKept s
  pub simple : Simple
  pub kind : simple_of s.kind ≡ Some simple
  pub built : is_built_type s.purpose simple ≡ true
  pub form : IsOfForm s.kind (form_of simple)

pub is-sound : (s : Judged) → first_breach rules s ≡ None → IsTrue (is_simple s.kind) → IsSound s
is-sound s none is =
    let kept = keeps-all s none in
    let type = built-type s.purpose s.kind (second-fails (is_later_group s.purpose s.kind) (has_later_type s.purpose s.kind) _ _ _ kept.built) kept.typed is in
    record { kept = kept; simple = type.simple; kind = type.kind_is; built = type.built; form = of-type s.kind type.simple type.kind_is }

-- what has a binary value is a simple element or the type of a prefix
pub binary-simple : (kind : Kind) → nat_lt 0 (value_bits kind) ≡ true → is_simple kind ≡ true
binary-simple ComplexElement some = grind (arith, some)
binary-simple (SimpleElement simple) some = refl
binary-simple UncarriedElement some = refl
binary-simple (CalculatedElement simple) some = grind (arith, some)
binary-simple Sequence some = grind (arith, some)
binary-simple HiddenSequence some = grind (arith, some)
binary-simple Choice some = grind (arith, some)
binary-simple (PrefixNumber simple) some = refl

-- a simple element with a representation neither stands for a hidden group nor is calculated
pub simple-shown : (kind : Kind) → is_simple kind ≡ true → is_bare kind ≡ false
simple-shown ComplexElement is = refl
simple-shown (SimpleElement simple) is = refl
simple-shown UncarriedElement is = refl
simple-shown (CalculatedElement simple) is = grind (arith, is)
simple-shown Sequence is = refl
simple-shown HiddenSequence is = grind (arith, is)
simple-shown Choice is = refl
simple-shown (PrefixNumber simple) is = refl

-- what is known of one with a binary value
pub record IsSoundBinary (s : Judged) (sound : IsSound s) : Type 0 where
  pub is : is_binary s ≡ true
  pub representation : is_told s (codes "representation") (codes "binary") ≡ true
  pub number : is_truths (form_of sound.simple) ≡ false → is_binary_number s ≡ true
  pub truths : is_truths (form_of sound.simple) ≡ true → is_binary_boolean s ≡ true
  pub length : HasKind s.purpose (told_at s (codes "lengthKind"))

pub is-sound-binary : (s : Judged) (sound : IsSound s) → is_binary s ≡ true → IsSoundBinary s sound
is-sound-binary s sound binary = record {
  is = binary;
  representation = representation;
  number = number;
  truths = truths;
  length = by (is_truths (form_of sound.simple)) refl;
}
  where
    parts : (a b : Bool) → (a && b) ≡ true → (a ≡ true) × (b ≡ true)
    parts a b h = (grind (arith, h), grind (arith, h))

    representation : is_told s (codes "representation") (codes "binary") ≡ true
    representation = (parts (nat_lt 0 (value_bits s.kind)) (is_told s (codes "representation") (codes "binary")) binary).1

    some : nat_lt 0 (value_bits s.kind) ≡ true
    some = (parts (nat_lt 0 (value_bits s.kind)) (is_told s (codes "representation") (codes "binary")) binary).0

    number : is_truths (form_of sound.simple) ≡ false → is_binary_number s ≡ true
    number apart =
        all-hold _ _
        (ap (nat_lt 0) sound.form.number_size ∙ number-or-truth (form_of sound.simple) (sym (ap (nat_lt 0) sound.form.value_size) ∙ some) apart)
        representation

    truths : is_truths (form_of sound.simple) ≡ true → is_binary_boolean s ≡ true
    truths is = all-hold _ _ (sound.form.boolean ∙ is) representation

    by : (b : Bool) → is_truths (form_of sound.simple) ≡ b → HasKind s.purpose (told_at s (codes "lengthKind"))
    by true is = boolean-length s sound.kept (truths is)
    by false is = number-length s sound.kept (number is)
