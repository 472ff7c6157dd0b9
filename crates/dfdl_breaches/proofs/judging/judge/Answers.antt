use Rattle.std.proofs.Common.{◌≡◌, ◌∙◌, ap, subst, ℕ, List, Result, Err}
use Rattle.dfdl_edge.specs.declared.building.PatternRefusal.{PatternRefusal}
use Rattle.dfdl_edge.specs.declared.building.PatternRefusal.TheVariants.{Refused}
use Rattle.dfdl_terms.specs.declared.statement.PatternTest.{PatternTest}
use Rattle.dfdl_checks.specs.JudgedShown.{judged_of}
use Rattle.dfdl_breaches.specs.Builds.{IsOneRefused, PatternsSeen}
use Rattle.dfdl_breaches.specs.BuildsShown.{BuildsTo}
use Rattle.dfdl_breaches.proofs.Judged.{test_refused, told_behind, with_tests}
use Rattle.dfdl_breaches.proofs.judging.judge.Goals as goal

-- a build that is refused is one of these
refused_of : (tests : List PatternTest) (texts : List (List ℕ)) (before after : PatternsSeen) (r : Result (List PatternTest) PatternRefusal)
    (e : PatternRefusal) → r ≡ Err e → e ≡ Refused → BuildsTo tests texts before after r → IsOneRefused texts before after
refused_of tests texts before after r e is refused builds =
    subst (λ (x : Result (List PatternTest) PatternRefusal). BuildsTo tests texts before after x) (is ∙ ap Err refused) builds

pub judge_tested-requires-clause-tests : goal.judge_tested-requires-clause-tests
judge_tested-requires-clause-tests g c = with_tests (judged_of c.args.subject.now) c.requires _ c.in-Ok.ensures.0

pub returns-in-Ok : goal.returns-in-Ok
returns-in-Ok g c = told_behind (judged_of c.args.subject.now) c.requires _ _ _ _ _ _ c.in-Ok.ensures.1 c.judge_tested.ensures

pub returns-in-Err-Refused : goal.returns-in-Err-Refused
returns-in-Err-Refused g c =
    let before : PatternsSeen = record { faults = g.P.Patterns.faults c.args.patterns.now; last = g.P.Patterns.last_refused c.args.patterns.now } in
    let after : PatternsSeen =
    record { faults = g.P.Patterns.faults c.tests_of.new.patterns; last = g.P.Patterns.last_refused c.tests_of.new.patterns } in
    test_refused (judged_of c.args.subject.now) c.requires _ _ before after _
    (refused_of _ _ before after c.tests_of.result c.in-Err-Refused.field-0 c.in-Err-Refused.is c.in-Err-Refused.field-0-is c.tests_of.ensures)
    c.told_of_refused.ensures
