-- The kinds of elements whose values are calculated.
use Rattle.std.proofs.Common.{◌≡◌, ◌∙◌, refl, sym, subst, ℕ, List, codes, Bool, true, false, ◌&&◌, Option, Some, None, IsSome}
use Rattle.dfdl_documents.specs.Documents.{SchemaDocument}
use Rattle.dfdl_components.specs.declared.site.Site.{Site}
use Rattle.dfdl_components.specs.Sites.{role_of}
use Rattle.dfdl_constructs.specs.declared.role.Role.{Role}
use Rattle.dfdl_constructs.specs.declared.role.Role.TheVariants as role
use Rattle.dfdl_forms.specs.declared.simple.Simple.{Simple}
use Rattle.dfdl_scope.specs.Expressions.{is_expression}
use Rattle.dfdl_scope.specs.Scoping.{Element, Told, Value, Absent, Twice, told}
use Rattle.dfdl_checks.specs.Calculations.{calculation_by, is_single, kind_for}
use Rattle.dfdl_checks.specs.Calculations as calculations
use Rattle.dfdl_checks.specs.Judged.{FactsJudged}
use Rattle.dfdl_checks.specs.Subjects.{is_calculated, is_expression_told, is_simple, simple_of}
use Rattle.dfdl_checks.specs.declared.purpose.Purpose.{Purpose}
use Rattle.dfdl_checks.specs.declared.purpose.Purpose.TheVariants.{Parsing, Unparsing}
use Rattle.dfdl_checks.specs.declared.subject.Kind.{Kind}
use Rattle.dfdl_checks.specs.declared.subject.Kind.TheVariants.{ComplexElement, SimpleElement, UncarriedElement, CalculatedElement, Sequence, HiddenSequence, Choice, PrefixNumber}
use Rattle.dfdl_chains.specs.Chains.{group_content}
use Rattle.dfdl_chains.specs.Derivation.{type_of}
use Rattle.dfdl_chains.specs.Kinds.{kind_at, kind_by, kind_of_content, kind_of_group, kind_of_type}
use Rattle.dfdl_chains.specs.declared.typed.Typed.{Typed}
use Rattle.dfdl_chains.specs.declared.typed.Typed.TheVariants.{Carried, NotCarried, Defined}
use Rattle.dfdl_breaches.specs.Hidden.{hides, hiding_at, kind_where}
use Rattle.dfdl_breaches.specs.Judging.{calculation_at}
use Rattle.dfdl_breaches.specs.Roots.{chain_at}
use Rattle.dfdl_chains.specs.Facts.{facts_at}
use Rattle.dfdl_breaches.proofs.HiddenKinds.{same_type}

-- an element whose value isn't calculated is as simple as it is
kept_by : (single : Bool) (t : Told) (kind : Kind) → calculation_by (calculations.kind_where (single && is_expression_told t) kind) t ≡ None
    → is_simple (calculations.kind_where (single && is_expression_told t) kind) ≡ is_simple kind
kept_by single (Value written) kind = by (single && is_expression written) kind
  where
    by : (b : Bool) (k : Kind) → calculation_by (calculations.kind_where b k) (Value written) ≡ None → is_simple (calculations.kind_where b k) ≡ is_simple k
    by false k none = refl
    by true ComplexElement none = refl
    by true (SimpleElement simple) none = absurd (cc)
    by true UncarriedElement none = refl
    by true (CalculatedElement simple) none = refl
    by true Sequence none = refl
    by true HiddenSequence none = refl
    by true Choice none = refl
    by true (PrefixNumber simple) none = refl
kept_by true Absent kind = λ none. refl
kept_by false Absent kind = λ none. refl
kept_by true (Twice place) kind = λ none. refl
kept_by false (Twice place) kind = λ none. refl

pub still_represented : (purpose : Purpose) (facts : FactsJudged) (chain : List Element) (kind : Kind)
    → calculation_by (kind_for purpose facts chain kind) (told chain (codes "inputValueCalc")) ≡ None
    → is_simple (kind_for purpose facts chain kind) ≡ is_simple kind
still_represented Parsing facts chain kind none = kept_by (is_single facts) (told chain (codes "inputValueCalc")) kind none
still_represented Unparsing facts chain kind none = refl

-- what has a simple type as the rules see it has that type
typed_by : (b : Bool) (kind : Kind) (simple : Simple) → simple_of (calculations.kind_where b kind) ≡ Some simple → simple_of kind ≡ Some simple
typed_by false kind simple is = is
typed_by true ComplexElement simple is = is
typed_by true (SimpleElement other) simple is = absurd (cc)
typed_by true UncarriedElement simple is = is
typed_by true (CalculatedElement other) simple is = is
typed_by true Sequence simple is = is
typed_by true HiddenSequence simple is = is
typed_by true Choice simple is = is
typed_by true (PrefixNumber other) simple is = is

pub typed_before : (purpose : Purpose) (facts : FactsJudged) (chain : List Element) (kind : Kind) (simple : Simple)
    → simple_of (kind_for purpose facts chain kind) ≡ Some simple → simple_of kind ≡ Some simple
typed_before Parsing facts chain kind simple is =
    typed_by (is_single facts && is_expression_told (told chain (codes "inputValueCalc"))) kind simple is
typed_before Unparsing facts chain kind simple is = is

-- a value that is calculated is that of an element of a simple type
calculated_by : (b : Bool) (kind : Kind) (t : Told) (text : List ℕ) → is_calculated kind ≡ false
    → calculation_by (calculations.kind_where b kind) t ≡ Some text → IsSome (simple_of kind)
calculated_by false ComplexElement t text plain is = absurd (cc)
calculated_by false (SimpleElement simple) t text plain is = refl
calculated_by false UncarriedElement t text plain is = absurd (cc)
calculated_by false (CalculatedElement simple) t text plain is = absurd (cc)
calculated_by false Sequence t text plain is = absurd (cc)
calculated_by false HiddenSequence t text plain is = absurd (cc)
calculated_by false Choice t text plain is = absurd (cc)
calculated_by false (PrefixNumber simple) t text plain is = absurd (cc)
calculated_by true ComplexElement t text plain is = absurd (cc)
calculated_by true (SimpleElement simple) t text plain is = refl
calculated_by true UncarriedElement t text plain is = absurd (cc)
calculated_by true (CalculatedElement simple) t text plain is = absurd (cc)
calculated_by true Sequence t text plain is = absurd (cc)
calculated_by true HiddenSequence t text plain is = absurd (cc)
calculated_by true Choice t text plain is = absurd (cc)
calculated_by true (PrefixNumber simple) t text plain is = absurd (cc)

-- no element of the documents is of that kind by itself, and none is for unparsing
of_type_plain : (t : Typed) → is_calculated (kind_of_type t) ≡ false
of_type_plain (Carried simple) = refl
of_type_plain NotCarried = refl
of_type_plain (Defined own) = refl

of_group_plain : (r : Role) → is_calculated (kind_of_group r) ≡ false
of_group_plain role.Choice = refl
of_group_plain _ = refl

of_content_plain : (documents : List SchemaDocument) (o : Option Site) → is_calculated (kind_of_content documents o) ≡ false
of_content_plain documents None = refl
of_content_plain documents (Some own) = of_group_plain (role_of documents own)

kind_is_plain : (documents : List SchemaDocument) (own : Site) → is_calculated (kind_at documents own) ≡ false
unfolding kind_at
kind_is_plain documents own = by (role_of documents own)
  where
    by : (r : Role) → is_calculated (kind_by documents own r) ≡ false
    by role.GlobalElement = of_type_plain (type_of documents own)
    by role.LocalElement = of_type_plain (type_of documents own)
    by role.ElementReference = of_type_plain (type_of documents own)
    by role.GroupReference = of_content_plain documents (group_content documents own)
    by role.Choice = refl
    by _ = refl

still_plain : (b : Bool) (kind : Kind) → is_calculated kind ≡ false → is_calculated (kind_where b kind) ≡ false
still_plain false kind plain = plain
still_plain true ComplexElement plain = refl
still_plain true (SimpleElement simple) plain = refl
still_plain true UncarriedElement plain = refl
still_plain true (CalculatedElement simple) plain = plain
still_plain true Sequence plain = refl
still_plain true HiddenSequence plain = refl
still_plain true Choice plain = refl
still_plain true (PrefixNumber simple) plain = refl

module _ (refused : Site → Bool) (documents : List SchemaDocument) (own : Site) where
  kind_plain : (purpose : Purpose) → is_calculated (kind_where (hides (hiding_at purpose documents own)) (kind_at documents own)) ≡ false
  kind_plain purpose = still_plain (hides (hiding_at purpose documents own)) (kind_at documents own) (kind_is_plain documents own)

  -- no value is calculated for unparsing
  pub uncalculated : calculation_at Unparsing refused documents own ≡ None
  uncalculated =
      by (kind_where (hides (hiding_at Unparsing documents own)) (kind_at documents own)) (told (chain_at documents own) (codes "inputValueCalc"))
      (kind_plain Unparsing)
    where
      by : (k : Kind) (t : Told) → is_calculated k ≡ false → calculation_by k t ≡ None
      by ComplexElement t plain = refl
      by (SimpleElement simple) t plain = refl
      by UncarriedElement t plain = refl
      by (CalculatedElement simple) t plain = absurd (cc)
      by Sequence t plain = refl
      by HiddenSequence t plain = refl
      by Choice t plain = refl
      by (PrefixNumber simple) t plain = refl

  -- a component whose value is calculated is an element of a simple type
  pub calculated_typed : (purpose : Purpose) (text : List ℕ) → calculation_at purpose refused documents own ≡ Some text
      → IsSome (simple_of (kind_at documents own))
  calculated_typed Unparsing text is = absurd (none (sym uncalculated ∙ is))
    where
      none : None ≡ Some text → ⊥
      none never = cc
  calculated_typed Parsing text is =
      subst (λ (o : Option Simple). IsSome o) (same_type (hides (hiding_at Parsing documents own)) (kind_at documents own))
      (calculated_by (is_single (facts_at documents own) && is_expression_told (told (chain_at documents own) (codes "inputValueCalc")))
      (kind_where (hides (hiding_at Parsing documents own)) (kind_at documents own)) (told (chain_at documents own) (codes "inputValueCalc")) text
      (kind_plain Parsing) is)
