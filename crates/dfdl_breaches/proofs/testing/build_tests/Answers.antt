use Rattle.std.proofs.Common.{refl, arith}
use Rattle.dfdl_breaches.proofs.BuiltTests.{all_built, ended, next_built, none_built}
use Rattle.dfdl_breaches.proofs.testing.build_tests.Goals as goal

pub loop-test-init : goal.loop-test-init
loop-test-init g c =
    none_built c.args.encoding c.args.tests.now
    (record { faults = g.P.Patterns.faults c.args.patterns.now; last = g.P.Patterns.last_refused c.args.patterns.now })
    _ c.new-built.result.items c.new-built.ensures.items refl

pub loop-test-preserved : goal.loop-test-preserved
loop-test-preserved g c =
    next_built c.args.encoding c.args.tests.now
    (record { faults = g.P.Patterns.faults c.args.patterns.now; last = g.P.Patterns.last_refused c.args.patterns.now })
    c.loop-test.test-index c.loop-test.built.items c.build_test.new.built.items _ _ _ _ c.loop-test-test.true refl c.loop-test.invariant
    c.in-Ok.ensures.0 c.in-Ok.ensures.1

pub returns-in-Err : goal.returns-in-Err
returns-in-Err g c =
    ended c.args.encoding c.args.tests.now
    (record { faults = g.P.Patterns.faults c.args.patterns.now; last = g.P.Patterns.last_refused c.args.patterns.now })
    c.loop-test.test-index c.loop-test.built.items c.build_test.new.built.items _ _ _ _ c.in-Err.refusal c.loop-test-test.true refl c.loop-test.invariant
    c.in-Err.ensures

pub returns : goal.returns
returns g c =
    all_built c.args.encoding c.args.tests.now
    (record { faults = g.P.Patterns.faults c.args.patterns.now; last = g.P.Patterns.last_refused c.args.patterns.now })
    c.loop-test.test-index c.loop-test.built.items _ _ (omega (arith, c.loop-test-test.false, c.loop-test.auto.test-index-end)) c.from_vec.ensures
    c.loop-test.invariant
