-- Elements with length prefixes, neither they nor the types of their prefixes with a breach.
use Rattle.std.proofs.Common.{◌≡◌, refl, sym, ap, subst, ◌∙◌, ℕ, List, Option, Some, None, Bool, true, false, not, if◌then◌else◌, ◌&&◌, ◌||◌, is_some, option_and_then, option_map, codes, IsTrue, IsSome, arith}
use Rattle.std.specs.Option.{option_map_or, option_or}
use Rattle.dfdl_forms.specs.Types.{form_of}
use Rattle.dfdl_forms.specs.declared.simple.Simple.{Simple}
use Rattle.dfdl_scope.specs.Expressions.{is_expression}
use Rattle.dfdl_scope.specs.Scoping.{Told}
use Rattle.dfdl_scope.specs.Table.{row, Formed, Missing, property_table}
use Rattle.dfdl_scope.specs.declared.row.Form.TheVariants as values
use Rattle.dfdl_terms.specs.declared.row.Primitive.{Primitive}
use Rattle.dfdl_checks.proofs.BoxBounds.{none-some}
use Rattle.dfdl_checks.proofs.Built.{built-at}
use Rattle.dfdl_checks.proofs.Flawless.{HasBuilt}
use Rattle.dfdl_checks.proofs.Kept.{IsKept, keeps-all, values-kept}
use Rattle.dfdl_checks.proofs.Sound.{has-primitive}
use Rattle.dfdl_checks.specs.Flaws.{has_flaw}
use Rattle.dfdl_checks.specs.Judged.{Judged, PrefixJudged}
use Rattle.dfdl_checks.specs.Numbers.{primitive_of}
use Rattle.dfdl_checks.specs.Prefixes.{form_by, form_of_type, form_with, has_constant_length, is_integer, is_integer_type, is_name_told, is_no_prefix_type, is_not_whole, judged_integer, judged_prefix, own_units, prefix_for, prefix_of, prefix_subject}
use Rattle.dfdl_checks.specs.Rules.{are_separators_unfit, breach_of_component, first_breach, is_base_unfit, is_separator_other, prefix_breach, rules}
use Rattle.dfdl_checks.specs.Subjects.{is_prefixed}
use Rattle.dfdl_checks.specs.Table.{EveryValue, applicability_table}
use Rattle.dfdl_checks.specs.declared.applicability.Bearers.TheVariants as bearers
use Rattle.dfdl_checks.specs.declared.flaw.Flaw.TheVariants as flaws
use Rattle.dfdl_checks.specs.declared.purpose.Purpose.TheVariants.{Parsing}
use Rattle.dfdl_checks.specs.declared.subject.Breach.{Breach}

-- neither of two breaches is there
no-breach : (a b : Option Breach) → option_or a b ≡ None → (a ≡ None) × (b ≡ None)
no-breach None b none = (refl, none)
no-breach (Some a) b none = absurd (none-some _ (sym none))

-- a name is told
name-told : (name : List ℕ) (t : Told) → HasBuilt (row name (Formed values.Name) Missing) EveryValue t → is_name_told t ≡ true
name-told name t has = subst (λ t. is_name_told t ≡ true) (sym has.is) (by (is_expression has.written) has.value)
  where
    by : (e : Bool) → (if e then false else true) ≡ true → not e ≡ true
    by false is = refl
    by true is = grind (arith, is)

-- so a type of the prefix is there
some-type : (s : Judged) → IsKept s → is_prefixed s ≡ true → is_some s.prefix ≡ true
unfolding applicability_table property_table
some-type s kept prefixed =
    last (has_flaw flaws.NotCarried s) (is_separator_other s) (are_separators_unfit s) (is_base_unfit s) (is_prefixed s) _ (is_some s.prefix) prefixed
    (name-told (codes "prefixLengthType") _
    (built-at s kept 20 (codes "prefixLengthType") bearers.PrefixedElements EveryValue refl prefixed _ refl refl)) (values-kept s kept)
  where
    last : (a b c d e f g : Bool) → e ≡ true → f ≡ true → (a || b || c || d || (e && (f && not g))) ≡ false → g ≡ true
    last a b c d e f g x y z = grind (arith, x, y, z)

-- a component with a prefix has a type of it that is judged, and that has a primitive
pub record HasType (s : Judged) : Type 0 where
  pub type : Judged
  pub subject : prefix_subject s ≡ Some type
  pub primitive : is_some (primitive_of type) ≡ true

module _ (s : Judged) (prefix : PrefixJudged) where
  -- an integer type is judged, and has a primitive where it has no breach
  some-judged : is_integer_type prefix.simple ≡ true → option_and_then (first_breach rules) (judged_integer s prefix) ≡ None
      → (type : Judged) × (judged_integer s prefix ≡ Some type) × (is_some (primitive_of type) ≡ true)
  some-judged integer none = by prefix.simple integer none
    where
      sound : (simple : Simple) → is_integer (form_of simple) ≡ true
          → option_and_then (first_breach rules) (if is_integer (form_of simple) then Some (judged_prefix s prefix simple) else None) ≡ None
          → is_some (primitive_of (judged_prefix s prefix simple)) ≡ true
      sound simple integer none =
          has-primitive (judged_prefix s prefix simple)
          (sym (ap (λ b. option_and_then (first_breach rules) (if b then Some (judged_prefix s prefix simple) else None)) integer) ∙ none) refl

      by : (o : Option Simple) → is_integer_type o ≡ true
          → option_and_then (first_breach rules) (if is_integer_type o then option_map (judged_prefix s prefix) o else None) ≡ None
          → (type : Judged) × ((if is_integer_type o then option_map (judged_prefix s prefix) o else None) ≡ Some type) × (is_some (primitive_of type) ≡ true)
      by None integer none = grind (arith, integer)
      by (Some simple) integer none =
          (judged_prefix s prefix simple, ap (λ b. if b then Some (judged_prefix s prefix simple) else None) integer, sound simple integer none)

has-type : (s : Judged) → breach_of_component s ≡ None → is_prefixed s ≡ true → HasType s
has-type s none prefixed = by s.prefix refl (some-type s kept prefixed)
  where
    kept : IsKept s
    kept = keeps-all s (no-breach (first_breach rules s) (prefix_breach s) none).0

    second : (a b : Bool) → a ≡ true → (a && b) ≡ false → b ≡ false
    second a b x y = grind (arith, x, y)

    first : (a b : Bool) → not (a && b) ≡ false → a ≡ true
    first a b x = grind (arith, x)

    by-type : (prefix : PrefixJudged) → s.prefix ≡ Some prefix → is_integer_type prefix.simple ≡ true → HasType s
    by-type prefix there integer =
        let subject : prefix_subject s ≡ judged_integer s prefix =
        ap (λ b. if b then option_and_then (judged_integer s) s.prefix else None) prefixed ∙ ap (option_and_then (judged_integer s)) there in
        let judged = some-judged s prefix integer
        (sym (ap (option_and_then (first_breach rules)) subject) ∙ (no-breach (first_breach rules s) (prefix_breach s) none).1) in
        record { type = judged.0; subject = subject ∙ judged.1; primitive = judged.2 }

    by : (o : Option PrefixJudged) → s.prefix ≡ o → is_some o ≡ true → HasType s
    by None there some = grind (arith, some)
    by (Some prefix) there some =
        by-type prefix there
        (first (is_integer_type prefix.simple) (has_constant_length prefix)
        (sym (ap is_no_prefix_type there) ∙ second (is_prefixed s) (is_no_prefix_type s.prefix) prefixed kept.prefix_type))

-- its units are whole, so the prefix is there
has-form : (s : Judged) → HasType s → option_map_or (is_not_whole s) (prefix_subject s) false ≡ false → is_some (option_and_then (form_of_type s) (prefix_subject s)) ≡ true
has-form s has kept =
    ap (λ o. is_some (option_and_then (form_of_type s) o)) has.subject
    ∙ by (primitive_of has.type) has.primitive (sym (ap (λ o. option_map_or (is_not_whole s) o false) has.subject) ∙ kept)
  where
    mapped : (p : Primitive) (o : Option ℕ) → (true && not (is_some o)) ≡ false → is_some (option_map (form_with s p) o) ≡ true
    mapped p (Some n) whole = refl
    mapped p None whole = grind (arith, whole)

    by : (o : Option Primitive) → is_some o ≡ true → (is_some o && not (is_some (option_and_then (own_units s has.type) o))) ≡ false
        → is_some (option_and_then (form_by s has.type) o) ≡ true
    by None some whole = grind (arith, some)
    by (Some p) some whole = mapped p (own_units s has.type p) whole

-- an element with a length prefix has one that is built
pub has-prefix : (s : Judged) → breach_of_component s ≡ None → s.purpose ≡ Parsing → IsTrue (is_prefixed s) → IsSome (prefix_of s)
has-prefix s none purpose prefixed =
    ap (λ p. is_some (prefix_for p s)) purpose
    ∙ has-form s (has-type s none prefixed) (keeps-all s (no-breach (first_breach rules s) (prefix_breach s) none).0).prefix_length
