-- What is known of each pattern that tells a length.
use Rattle.std.proofs.Common.{◌≡◌, refl, ap, subst, ◌∙◌, ℕ, List, Option, Some, None, Bool, true, false, not, if◌then◌else◌, ◌&&◌, option_and_then, codes, arith}
use Rattle.dfdl_forms.specs.declared.encoding.Encoding.{Encoding}
use Rattle.dfdl_terms.specs.Rows.{IsPrimitive}
use Rattle.dfdl_checks.proofs.BoxBounds.{none-some, some-is}
use Rattle.dfdl_checks.proofs.Built.{other-word}
use Rattle.dfdl_checks.specs.Judged.{Judged}
use Rattle.dfdl_checks.specs.Patterns.{form_by, is_measured, length_pattern, pattern_encoding, pattern_for, pattern_prefix, pattern_told}
use Rattle.dfdl_checks.specs.Prefixes.{form_of_type, judged_integer, prefix_for, prefix_of}
use Rattle.dfdl_checks.specs.Subjects.{is_binary_number, is_element, is_without_length, is_prefixed, is_told, told_at}
use Rattle.dfdl_checks.specs.declared.prefixes.PrefixForm.{PrefixForm}
use Rattle.dfdl_checks.specs.declared.purpose.Purpose.{Purpose}
use Rattle.dfdl_checks.specs.declared.purpose.Purpose.TheVariants.{Parsing, Unparsing}

-- what stands before a content by a pattern keeps the bounds of its form, and its text is told
record IsFormBy (t : Option (List ℕ)) (f : PrefixForm) : Type 0 where
  text : List ℕ
  told : t ≡ Some text
  bounded : IsPrimitive f.primitive

form-is : (e : Option Encoding) (t : Option (List ℕ)) (f : PrefixForm) → form_by e t ≡ Some f → IsFormBy t f
form-is (Some e) (Some t) f is = record { text = t; told = refl; bounded = subst (λ f. IsPrimitive f.primitive) (some-is _ _ is) tt }
form-is None t f is = absurd (none-some _ is)
form-is (Some e) None f is = absurd (none-some _ is)

-- so it does where the pattern isn't refused
prefix-is : (s : Judged) (f : PrefixForm) → pattern_prefix s ≡ Some f → IsFormBy (length_pattern s) f
prefix-is s f is = by s.pattern_is_refused is
  where
    by : (b : Bool) → (if b then None else form_by (pattern_encoding s) (length_pattern s)) ≡ Some f → IsFormBy (length_pattern s) f
    by true is = absurd (none-some _ is)
    by false is = form-is (pattern_encoding s) (length_pattern s) f is

pub pattern-bounded : (s : Judged) (f : PrefixForm) → pattern_prefix s ≡ Some f → IsPrimitive f.primitive
pattern-bounded s f is = (prefix-is s f is).bounded

-- a pattern that is told is that of an element whose length is by one
measured : (s : Judged) (purpose : Purpose) (text : List ℕ) → pattern_for purpose s ≡ Some text → is_measured s ≡ true
measured s Parsing text is = by (is_measured s) refl is
  where
    by : (b : Bool) → is_measured s ≡ b → (if b then pattern_told (told_at s (codes "lengthPattern")) else None) ≡ Some text → is_measured s ≡ true
    by true measured is = measured
    by false other is = absurd (none-some _ is)
measured s Unparsing text is = absurd (none-some _ is)

-- which has no length prefix
pub pattern-alone : (s : Judged) (f : PrefixForm) → pattern_prefix s ≡ Some f → prefix_of s ≡ None
pattern-alone s f is = of-purpose s.purpose
  where
    pattern-told : is_told s (codes "lengthKind") (codes "pattern") ≡ true
    pattern-told =
        inner (is_element s.kind) (is_without_length s.kind) (is_told s (codes "lengthKind") (codes "pattern")) (is_binary_number s)
        (measured s s.purpose (prefix-is s f is).text (prefix-is s f is).told)
      where
        inner : (a b c d : Bool) → (a && (not b && c) && not d) ≡ true → c ≡ true
        inner a b c d h = grind (arith, h)

    no-prefix : is_prefixed s ≡ false
    no-prefix =
        second (is_without_length s.kind) (is_told s (codes "lengthKind") (codes "prefixed"))
        (other-word (codes "pattern") (codes "prefixed") refl (told_at s (codes "lengthKind")) pattern-told)
      where
        second : (a b : Bool) → b ≡ false → (not a && b) ≡ false
        second a b h = grind (arith, h)

    of-purpose : (purpose : Purpose) → prefix_for purpose s ≡ None
    of-purpose Parsing = ap (λ b. option_and_then (form_of_type s) (if b then option_and_then (judged_integer s) s.prefix else None)) no-prefix
    of-purpose Unparsing = refl

-- for unparsing there is none
pub no-pattern : (s : Judged) → s.purpose ≡ Unparsing → pattern_prefix s ≡ None
no-pattern s purpose =
    ap (λ p. if s.pattern_is_refused then None else form_by (pattern_encoding s) (pattern_for p s)) purpose
    ∙ by s.pattern_is_refused (pattern_encoding s)
  where
    by : (b : Bool) (e : Option Encoding) → (if b then None else form_by e None) ≡ None
    by true e = refl
    by false (Some e) = refl
    by false None = refl
