-- The tests of expressions and the settings of a component are elements of the documents.
use Rattle.std.proofs.Common.{ℕ, List, [], ◌∷◌, All, Bool, true, false, Option, Some, None, sym, subst}
use Rattle.std.proofs.lemmas.List.Concat.{flat_map-cons}
use Rattle.std.proofs.lemmas.List.Elements.{All-nil, All-append, All-cons, All-head, All-tail}
use Rattle.dfdl_documents.specs.Documents.{SchemaDocument}
use Rattle.dfdl_components.specs.declared.site.Site.{Site}
use Rattle.dfdl_checks.specs.Judged.{TestJudged}
use Rattle.dfdl_checks.specs.Tests.{check_by, check_of, check_text, check_with, checks_by, tests_for}
use Rattle.dfdl_checks.specs.declared.expression_tests.CheckForm.{CheckForm}
use Rattle.dfdl_checks.specs.declared.purpose.Purpose.{Purpose}
use Rattle.dfdl_checks.specs.declared.purpose.Purpose.TheVariants.{Parsing, Unparsing}
use Rattle.dfdl_chains.specs.Settings.{IsSetterOf, settings_at}
use Rattle.dfdl_chains.specs.declared.settings.Setter.{Setter}
use Rattle.dfdl_chains.specs.Tests.{IsTestOf, tests_at}
use Rattle.dfdl_breaches.specs.Hidden.{hides, hiding_at, settings_where, tests_where}
use Rattle.dfdl_breaches.specs.Judging.{IsCheckOf, built_checks_at, built_settings_at, settings_for}

module _ (documents : List SchemaDocument) where
  -- what is built of a test stands where it does
  check_stands : (test : TestJudged) → IsTestOf documents test → All (IsCheckOf documents) (check_of test)
  check_stands test within = by (check_text test)
    where
      by : (text : Option (List ℕ)) → All (IsCheckOf documents) (check_by test text)
      by None = All-nil (IsCheckOf documents)
      by (Some text) = All-cons (IsCheckOf documents) (check_with test text) [] within (All-nil (IsCheckOf documents))

  checks_stand : (tests : List TestJudged) → All (IsTestOf documents) tests → All (IsCheckOf documents) (checks_by tests)
  checks_stand [] within = All-nil (IsCheckOf documents)
  checks_stand (test ∷ tests) within =
      subst (λ (checks : List CheckForm). All (IsCheckOf documents) checks) (sym (flat_map-cons check_of test tests))
      (All-append (IsCheckOf documents) (check_of test) (checks_by tests)
      (check_stands test (All-head (IsTestOf documents) test tests within)) (checks_stand tests (All-tail (IsTestOf documents) test tests within)))

  -- tests that are built are some of those that are stated
  tests_kept : (purpose : Purpose) (is_hidden : Bool) (tests : List TestJudged) → All (IsTestOf documents) tests
      → All (IsTestOf documents) (tests_for purpose (tests_where is_hidden tests))
  tests_kept Parsing false tests within = within
  tests_kept Parsing true tests within = All-nil (IsTestOf documents)
  tests_kept Unparsing is_hidden tests within = All-nil (IsTestOf documents)

  -- so are settings
  settings_kept : (purpose : Purpose) (is_hidden : Bool) (settings : List Setter) → All (IsSetterOf documents) settings
      → All (IsSetterOf documents) (settings_for purpose (settings_where is_hidden settings))
  settings_kept Parsing false settings within = within
  settings_kept Parsing true settings within = All-nil (IsSetterOf documents)
  settings_kept Unparsing is_hidden settings within = All-nil (IsSetterOf documents)

  -- the tests of expressions of a component are elements of the documents
  pub checks_within : (purpose : Purpose) (refused : Site → Bool) (own : Site) → All (IsTestOf documents) (tests_at documents own)
      → All (IsCheckOf documents) (built_checks_at purpose refused documents own)
  checks_within purpose refused own within =
      checks_stand (tests_for purpose (tests_where (hides (hiding_at purpose documents own)) (tests_at documents own)))
      (tests_kept purpose (hides (hiding_at purpose documents own)) (tests_at documents own) within)

  -- so are its settings
  pub settings_within : (purpose : Purpose) (own : Site) → All (IsSetterOf documents) (settings_at documents own)
      → All (IsSetterOf documents) (built_settings_at purpose documents own)
  settings_within purpose own within = settings_kept purpose (hides (hiding_at purpose documents own)) (settings_at documents own) within
