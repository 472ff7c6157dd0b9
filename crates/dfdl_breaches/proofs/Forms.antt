-- What tells a length keeps the bounds of its type, and there is none for unparsing.
use Rattle.std.proofs.Common.{◌≡◌, refl, ap, subst, ◌∙◌, ℕ, List, Bool, true, false, if◌then◌else◌, Option, Some, None}
use Rattle.dfdl_forms.specs.declared.encoding.Encoding.{Encoding}
use Rattle.dfdl_terms.specs.Rows.{IsPrimitive}
use Rattle.dfdl_checks.specs.Judged.{Judged}
use Rattle.dfdl_checks.specs.Patterns.{form_by, length_pattern, pattern_encoding, pattern_for, pattern_prefix}
use Rattle.dfdl_checks.specs.Prefixes.{prefix_of}
use Rattle.dfdl_checks.specs.declared.prefixes.PrefixForm.{PrefixForm}
use Rattle.dfdl_checks.specs.declared.purpose.Purpose.{Purpose}
use Rattle.dfdl_checks.specs.declared.purpose.Purpose.TheVariants.{Unparsing}
use Rattle.dfdl_breaches.specs.Judging.{form_before, form_or}

-- each of a pattern does
of_pattern : (encoding : Option Encoding) (text : Option (List ℕ)) (f : PrefixForm) → form_by encoding text ≡ Some f → IsPrimitive f.primitive
of_pattern (Some encoding) (Some text) f is =
    subst (λ (o : Option PrefixForm). IsPrimitiveIf o) is tt
  where
    IsPrimitiveIf : Option PrefixForm → Type 0
    IsPrimitiveIf None = Unit {0}
    IsPrimitiveIf (Some form) = IsPrimitive form.primitive
of_pattern None text f is = absurd (cc)
of_pattern (Some encoding) None f is = absurd (cc)

of_refused : (is_refused : Bool) (encoding : Option Encoding) (text : Option (List ℕ)) (f : PrefixForm)
    → (if is_refused then None else form_by encoding text) ≡ Some f → IsPrimitive f.primitive
of_refused true encoding text f is = absurd (cc)
of_refused false encoding text f is = of_pattern encoding text f is

pub bounded_before : ((j : Judged) (f : PrefixForm) → prefix_of j ≡ Some f → IsPrimitive f.primitive) → (j : Judged) (f : PrefixForm)
    → form_before j ≡ Some f → IsPrimitive f.primitive
bounded_before law j f is = by (prefix_of j) refl is
  where
    by : (o : Option PrefixForm) → prefix_of j ≡ o → form_or o (pattern_prefix j) ≡ Some f → IsPrimitive f.primitive
    by (Some form) at is = law j f (at ∙ is)
    by None at is = of_refused j.pattern_is_refused (pattern_encoding j) (length_pattern j) f is

pub no_pattern : (is_refused : Bool) (encoding : Option Encoding) → (if is_refused then None else form_by encoding None) ≡ None
no_pattern true encoding = refl
no_pattern false None = refl
no_pattern false (Some encoding) = refl

-- nothing tells a length for unparsing
pub none_before : ((j : Judged) → j.purpose ≡ Unparsing → prefix_of j ≡ None) → (j : Judged) → j.purpose ≡ Unparsing → form_before j ≡ None
none_before law j unparsing =
    ap (λ (o : Option PrefixForm). form_or o (pattern_prefix j)) (law j unparsing)
    ∙ (ap (λ (p : Purpose). if j.pattern_is_refused then None else form_by (pattern_encoding j) (pattern_for p j)) unparsing
    ∙ no_pattern j.pattern_is_refused (pattern_encoding j))
