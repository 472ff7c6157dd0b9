use Rattle.dfdl_breaches.proofs.BuiltTests.{AreBuiltSoFar}
use Rattle.dfdl_breaches.proofs.testing.build_tests.Given as goal

-- the tests so far
abbrev pub invariant-loop-test : goal.invariant-loop-test
invariant-loop-test g l =
    AreBuiltSoFar l.encoding l.tests (record { faults = g.P.Patterns.faults l.fn.patterns; last = g.P.Patterns.last_refused l.fn.patterns }) l.test-index
    l.built.items (record { faults = g.P.Patterns.faults l.patterns; last = g.P.Patterns.last_refused l.patterns })
