-- Elements whose length is by a pattern, without a breach, have one that is built.
use Rattle.std.proofs.Common.{◌≡◌, refl, sym, ap, subst, ◌∙◌, ℕ, List, Option, Some, None, Bool, true, false, not, if◌then◌else◌, ◌&&◌, ◌||◌, is_some, codes, IsTrue, IsSome, arith}
use Rattle.dfdl_forms.specs.declared.encoding.Encoding.{Encoding}
use Rattle.dfdl_scope.specs.Expressions.{is_expression, literal}
use Rattle.dfdl_scope.specs.Scoping.{Told}
use Rattle.dfdl_scope.specs.Table.{row, Formed, Missing, property_table}
use Rattle.dfdl_scope.specs.declared.row.Form.TheVariants as values
use Rattle.dfdl_checks.proofs.Built.{all-hold, built-at}
use Rattle.dfdl_checks.proofs.Flawless.{HasBuilt}
use Rattle.dfdl_checks.proofs.Kept.{IsKept, keeps-all}
use Rattle.dfdl_checks.proofs.SoundBoxes.{encoding-told}
use Rattle.dfdl_checks.specs.Judged.{Judged}
use Rattle.dfdl_checks.specs.Patterns.{form_by, is_measured, length_pattern, pattern_encoding, pattern_for, pattern_prefix, pattern_told}
use Rattle.dfdl_checks.specs.Rules.{first_breach, is_delimited_boolean, is_length_without_size, is_text_without_size, rules}
use Rattle.dfdl_checks.specs.Subjects.{is_binary_number, is_by_pattern, is_element, is_without_length, is_told, told_at}
use Rattle.dfdl_checks.specs.Table.{EveryValue, applicability_table}
use Rattle.dfdl_checks.specs.declared.applicability.Bearers.TheVariants as bearers
use Rattle.dfdl_checks.specs.declared.purpose.Purpose.TheVariants.{Parsing}

-- a pattern is told
some-pattern : (name : List ℕ) (t : Told) → HasBuilt (row name (Formed values.Pattern) Missing) EveryValue t → is_some (pattern_told t) ≡ true
some-pattern name t has = subst (λ t. is_some (pattern_told t) ≡ true) (sym has.is) (by (is_expression has.written) has.value)
  where
    by : (e : Bool) → (if e then false else true) ≡ true → is_some {T = List ℕ} (if e then None else Some (literal has.written)) ≡ true
    by true is = grind (arith, is)
    by false is = refl

-- an encoding and a text make a form
some-form : (e : Option Encoding) (t : Option (List ℕ)) → is_some e ≡ true → is_some t ≡ true → is_some (form_by e t) ≡ true
some-form (Some e) (Some t) x y = refl
some-form None t x y = grind (arith, x)
some-form (Some e) None x y = grind (arith, y)

module _ (s : Judged) (kept : IsKept s) (element : is_element s.kind ≡ true) (by-pattern : is_by_pattern s ≡ true) where
  -- its length is told to be by a pattern
  kind-told : is_told s (codes "lengthKind") (codes "pattern") ≡ true
  kind-told = second (is_without_length s.kind) (is_told s (codes "lengthKind") (codes "pattern")) by-pattern
    where
      second : (a b : Bool) → (not a && b) ≡ true → b ≡ true
      second a b h = grind (arith, h)

  -- it is no binary number
  no-number : not (is_binary_number s) ≡ true
  no-number =
      apart (is_binary_number s) (is_told s (codes "lengthKind") (codes "delimited")) (is_told s (codes "lengthKind") (codes "pattern"))
      (is_length_without_size s) (is_delimited_boolean s) (is_text_without_size s) kind-told kept.length_kind
    where
      apart : (a d p w x y : Bool) → p ≡ true → ((a && ((d || p) || w)) || x || y) ≡ false → not a ≡ true
      apart a d p w x y h k = grind (arith, h, k)

  measured : is_measured s ≡ true
  measured = all-hold _ _ (all-hold _ _ element by-pattern) no-number

  -- its pattern and its encoding are told
  text-told : s.purpose ≡ Parsing → is_some (length_pattern s) ≡ true
  unfolding applicability_table property_table
  text-told purpose =
      ap (λ p. is_some (pattern_for p s)) purpose
      ∙ (ap (λ b. is_some (if b then pattern_told (told_at s (codes "lengthPattern")) else None)) measured
      ∙ some-pattern (codes "lengthPattern") _
      (built-at s kept 19 (codes "lengthPattern") bearers.PatternElements EveryValue refl (all-hold _ _ element kind-told) _ refl refl))

  encoding-of : is_some (pattern_encoding s) ≡ true
  unfolding applicability_table property_table
  encoding-of =
      encoding-told (codes "encoding") _
      (built-at s kept 3 (codes "encoding") bearers.PatternElements EveryValue refl (all-hold _ _ element kind-told) _ refl refl)

-- so the pattern stands before its content
pub has-pattern : (s : Judged) → first_breach rules s ≡ None → s.purpose ≡ Parsing → IsTrue (is_element s.kind) → IsTrue (is_by_pattern s)
    → IsSome (pattern_prefix s)
has-pattern s none purpose element by-pattern =
    ap (λ b. is_some (if b then None else form_by (pattern_encoding s) (length_pattern s))) kept.pattern_built
    ∙ some-form (pattern_encoding s) (length_pattern s) (encoding-of s kept element by-pattern) (text-told s kept element by-pattern purpose)
  where
    kept : IsKept s
    kept = keeps-all s none
