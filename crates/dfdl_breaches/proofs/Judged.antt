-- What is told of a component, by the builds of its patterns.
use Rattle.std.proofs.Common.{◌≡◌, sym, ap, subst, ◌∙◌, ℕ, List, [], ◌∷◌, ◌++◌, Bool, true, false, if◌then◌else◌, Option, Some, None, Result, IfOk, inl, inr}
use Rattle.dfdl_components.specs.declared.site.Site.{Site}
use Rattle.dfdl_length_patterns.specs.Patterns.{anchored}
use Rattle.dfdl_terms.specs.declared.statement.PatternTest.{PatternTest}
use Rattle.dfdl_chains.specs.declared.settings.Setter.{Setter}
use Rattle.dfdl_checks.specs.Judged.{Judged}
use Rattle.dfdl_checks.specs.Patterns.{form_by, length_pattern, pattern_encoding, pattern_prefix}
use Rattle.dfdl_checks.specs.Tests.{listed, patterns_of, test_patterns, tests_by, tests_for, tests_of}
use Rattle.dfdl_checks.specs.declared.prefixes.PrefixForm.{PrefixForm}
use Rattle.dfdl_breaches.specs.Builds.{IsBuilt, IsOneRefused, IsRefusedBuild, PatternsSeen}
use Rattle.dfdl_breaches.specs.BuildsShown.{IsToldBy, with_refused}
use Rattle.dfdl_breaches.specs.JudgementShown.{judgement_of}
use Rattle.dfdl_breaches.specs.declared.judgement.Judgement.{Judgement}
use Rattle.dfdl_breaches.proofs.Forms.{no_pattern}

-- one of more patterns was refused
pub refused_behind : (xs ys : List (List ℕ)) (s t : PatternsSeen) → IsOneRefused ys s t → IsOneRefused (xs ++ ys) s t
refused_behind [] ys s t refused = refused
refused_behind (x ∷ xs) ys s t refused = inr (refused_behind xs ys s t refused)

pub refused_before : (xs ys : List (List ℕ)) (s t : PatternsSeen) → IsOneRefused xs s t → IsOneRefused (xs ++ ys) s t
refused_before [] ys s t refused = absurd refused
refused_before (x ∷ xs) ys s t (inl refused) = inl refused
refused_before (x ∷ xs) ys s t (inr refused) = inr (refused_before xs ys s t refused)

module _ (j : Judged) (is : j.pattern_is_refused ≡ false) where
  -- what its pattern tells, where that isn't refused
  by_pattern : (text : Option (List ℕ)) → text ≡ length_pattern j → form_by (pattern_encoding j) text ≡ pattern_prefix j
  by_pattern text told =
      ap (form_by (pattern_encoding j)) told
      ∙ ap (λ (b : Bool). if b then None else form_by (pattern_encoding j) (length_pattern j)) (sym is)

  pub with_pattern : (text : List ℕ) (form : Option PrefixForm) → Some text ≡ length_pattern j → form ≡ form_by (pattern_encoding j) (Some text)
      → form ≡ pattern_prefix j
  with_pattern text form told made = made ∙ by_pattern (Some text) told

  pub without_pattern : None ≡ length_pattern j → None ≡ pattern_prefix j
  without_pattern none = sym (no_pattern false (pattern_encoding j)) ∙ by_pattern None none

  -- its tests, where nothing is refused
  pub with_tests : (tests : List PatternTest) → tests ≡ tests_by (pattern_encoding j) (tests_for j.purpose j.tests) → tests ≡ tests_of j
  with_tests tests built =
      built ∙ ap (λ (b : Bool). if b then [] else tests_by (pattern_encoding j) (tests_for j.purpose j.tests)) (sym is)

  -- it is itself, where nothing is refused
  itself : j ≡ with_refused false j
  itself = λ i. record {
    purpose = j.purpose;
    kind = j.kind;
    place = j.place;
    chain = j.chain;
    facts = j.facts;
    root_bits_by = j.root_bits_by;
    prefix = j.prefix;
    scheme = j.scheme;
    pattern_is_refused = is i;
    tests = j.tests;
    sets_variables = j.sets_variables;
    standing = j.standing;
    group_is_unknown = j.group_is_unknown;
  }

  module _ {E : Type 0} (hidden : Option Site) (settings : List Setter) (before after : PatternsSeen) (result : Result Judgement E) where
    -- this is told of the component, by the builds of these patterns
    abbrev pub IsTold : List (List ℕ) → Type 0
    IsTold patterns = IsToldBy patterns (λ (b : Bool). judgement_of hidden settings (with_refused b j)) before after result

    -- no pattern was refused
    pub told_unrefused : (patterns : List (List ℕ)) → after ≡ before → IfOk result (λ g. g ≡ judgement_of hidden settings j) → IsTold patterns
    told_unrefused patterns same told =
        (false, same, subst (λ (k : Judged). IfOk result (λ g. g ≡ judgement_of hidden settings k)) itself told)

    -- that of the length was refused
    pub told_refused : (text : List ℕ) → Some text ≡ length_pattern j → IsRefusedBuild (anchored text) before after
        → IfOk result (λ g. g ≡ judgement_of hidden settings (with_refused true j)) → IsTold (listed (length_pattern j))
    told_refused text pattern built told =
        (true, subst (λ (o : Option (List ℕ)). IsBuilt (listed o) true before after) pattern (inl built), told)

    -- one of the tests was refused
    pub test_refused : IsOneRefused (test_patterns (tests_for j.purpose j.tests)) before after
        → IfOk result (λ g. g ≡ judgement_of hidden settings (with_refused true j)) → IsTold (patterns_of j)
    test_refused refused told =
        (true, refused_before (test_patterns (tests_for j.purpose j.tests)) (listed (length_pattern j)) before after refused, told)

    -- none of the tests was refused, and then the pattern of the length was built
    pub told_behind : (between : PatternsSeen) → between ≡ before
        → IsToldBy (listed (length_pattern j)) (λ (b : Bool). judgement_of hidden settings (with_refused b j)) between after result → IsTold (patterns_of j)
    told_behind between same (b, built, told) = (b, by b (subst (λ (s : PatternsSeen). IsBuilt (listed (length_pattern j)) b s after) same built), told)
      where
        by : (c : Bool) → IsBuilt (listed (length_pattern j)) c before after → IsBuilt (patterns_of j) c before after
        by false is_same = is_same
        by true refused = refused_behind (test_patterns (tests_for j.purpose j.tests)) (listed (length_pattern j)) before after refused
