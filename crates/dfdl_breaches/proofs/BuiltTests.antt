-- Tests that are built one after another.
use Rattle.std.proofs.Common.{◌≡◌, refl, sym, ap, subst, ◌∙◌, ℕ, ◌+◌, ◌<◌, ◌≤◌, List, [], ◌∷◌, ◌++◌, length, get_or, drop, drop-cons, add-one, map, Option, Result, Ok, Err}
use Rattle.std.proofs.lemmas.List.{append_assoc, append-nil, drop_all}
use Rattle.dfdl_forms.specs.declared.encoding.Encoding.{Encoding}
use Rattle.dfdl_edge.specs.declared.building.PatternRefusal.{PatternRefusal}
use Rattle.dfdl_edge.specs.declared.building.PatternRefusal.TheVariants.{Refused, OutOfMemory}
use Rattle.dfdl_terms.specs.declared.statement.PatternTest.{PatternTest}
use Rattle.dfdl_checks.specs.Judged.{TestJudged}
use Rattle.dfdl_checks.specs.JudgedShown.{test_judged_of}
use Rattle.dfdl_checks.specs.Tests.{built_of_test, pattern_listed, test_patterns, tests_by}
use Rattle.dfdl_checks.specs.declared.subject.StatedTest.{StatedTest}
use Rattle.dfdl_breaches.proofs.Judged.{refused_before, refused_behind}
use Rattle.dfdl_breaches.specs.Builds.{IsOneRefused, PatternsSeen}
use Rattle.dfdl_breaches.specs.BuildsShown.{BuildsBehind, BuildsTo}

-- the rest of a list behind one that is there
rest_at : {X : Type 0} (xs : List X) (at : ℕ) (d : X) → at < length xs → drop at xs ≡ get_or xs at d ∷ drop (at + 1) xs
rest_at xs at d less = drop-cons xs at d less ∙ rw (add-one) refl

-- the tests as the rules see them
abbrev pub shown : List StatedTest → List TestJudged
shown tests = map test_judged_of tests

module _ (encoding : Option Encoding) (tests : List StatedTest) (old : PatternsSeen) where
  -- the tests so far were built, and none was refused
  pub record AreBuiltSoFar (at : ℕ) (built : List PatternTest) (seen : PatternsSeen) : Type 0 where
    pub tests_are : built ++ tests_by encoding (shown (drop at tests)) ≡ tests_by encoding (shown tests)
    pub same : seen ≡ old
    pub refused : (s t : PatternsSeen) → IsOneRefused (test_patterns (shown (drop at tests))) s t → IsOneRefused (test_patterns (shown tests)) s t

  pub none_built : (seen : PatternsSeen) (built : List PatternTest) → built ≡ [] → seen ≡ old → AreBuiltSoFar 0 built seen
  none_built seen built is same = record {
    tests_are = ap (λ (xs : List PatternTest). xs ++ tests_by encoding (shown tests)) is;
    same = same;
    refused = λ s t refused. refused;
  }

  -- one of the test that is next
  here : (at : ℕ) (d : StatedTest) (s t : PatternsSeen) → at < length tests
      → IsOneRefused (pattern_listed (test_judged_of (get_or tests at d)) ++ test_patterns (shown (drop (at + 1) tests))) s t
      → IsOneRefused (test_patterns (shown (drop at tests))) s t
  here at d s t less refused =
      subst (λ (xs : List StatedTest). IsOneRefused (test_patterns (shown xs)) s t) (sym (rest_at tests at d less)) refused

  pub next_built : (at : ℕ) (built new : List PatternTest) (seen now : PatternsSeen) (d own : StatedTest) → at < length tests → own ≡ get_or tests at d
      → AreBuiltSoFar at built seen → new ≡ built ++ built_of_test encoding (test_judged_of own) → now ≡ seen → AreBuiltSoFar (at + 1) new now
  next_built at built new seen now d own less is so_far made same = record {
    tests_are =
        ap (λ (xs : List PatternTest). xs ++ tests_by encoding (shown (drop (at + 1) tests)))
        (made ∙ ap (λ (t : StatedTest). built ++ built_of_test encoding (test_judged_of t)) is)
        ∙ (append_assoc built (built_of_test encoding (test_judged_of (get_or tests at d))) (tests_by encoding (shown (drop (at + 1) tests)))
        ∙ (ap (λ (xs : List StatedTest). built ++ tests_by encoding (shown xs)) (sym (rest_at tests at d less)) ∙ so_far.tests_are));
    same = same ∙ so_far.same;
    refused = λ s t refused.
        so_far.refused s t
        (here at d s t less (refused_behind (pattern_listed (test_judged_of (get_or tests at d))) (test_patterns (shown (drop (at + 1) tests))) s t refused));
  }

  pub all_built : (at : ℕ) (built list : List PatternTest) (seen : PatternsSeen) → length tests ≤ at → list ≡ built → AreBuiltSoFar at built seen
      → BuildsTo (tests_by encoding (shown tests)) (test_patterns (shown tests)) old seen (Ok list)
  all_built at built list seen past is so_far = (
    is
        ∙ sym (append-nil built)
        ∙ (ap (λ (xs : List StatedTest). built ++ tests_by encoding (shown xs)) (sym (drop_all at tests past)) ∙ so_far.tests_are),
    so_far.same,
  )

  -- the next test ends them
  pub ended : (at : ℕ) (built new : List PatternTest) (seen now : PatternsSeen) (d own : StatedTest) (e : PatternRefusal) → at < length tests
      → own ≡ get_or tests at d → AreBuiltSoFar at built seen
      → BuildsBehind (built_of_test encoding (test_judged_of own)) (pattern_listed (test_judged_of own)) seen now built new (Err e)
      → BuildsTo (tests_by encoding (shown tests)) (test_patterns (shown tests)) old now (Err e)
  ended at built new seen now d own Refused less is so_far refused =
      subst (λ (s : PatternsSeen). IsOneRefused (test_patterns (shown tests)) s now) so_far.same
      (so_far.refused seen now
      (here at d seen now less
      (refused_before (pattern_listed (test_judged_of (get_or tests at d))) (test_patterns (shown (drop (at + 1) tests))) seen now
      (subst (λ (t : StatedTest). IsOneRefused (pattern_listed (test_judged_of t)) seen now) is refused))))
  ended at built new seen now d own OutOfMemory less is so_far same = same ∙ so_far.same

-- the tests and the encoding that are told
pub as_told : (e f : Option Encoding) (xs ys : List TestJudged) (s t : PatternsSeen) (r : Result (List PatternTest) PatternRefusal) → e ≡ f → xs ≡ ys
    → BuildsTo (tests_by e xs) (test_patterns xs) s t r → BuildsTo (tests_by f ys) (test_patterns ys) s t r
as_told e f xs ys s t r is are built =
    subst (λ (zs : List TestJudged). BuildsTo (tests_by f zs) (test_patterns zs) s t r) are
    (subst (λ (g : Option Encoding). BuildsTo (tests_by g xs) (test_patterns xs) s t r) is built)
