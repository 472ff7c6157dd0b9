use Rattle.std.proofs.Common.{arith, add-one}
use Rattle.dfdl_evaluation.proofs.Unaligned.{passed_last, passed_on, passed_stops}
use Rattle.dfdl_evaluation.proofs.separating.passed_unaligned.Goals as goal

pub returns-in-Err : goal.returns-in-Err
returns-in-Err c =
    passed_stops c.args.cells.now c.args.known.now c.args.steps.now c.loop-step.step-index c.loop-step.at c.step-item.result c.passed_if.result _ _
    c.loop-step-test.true c.step-item.is c.passed_if.ensures c.in-Err.is c.loop-step.invariant

pub loop-step-preserved : goal.loop-step-preserved
loop-step-preserved c =
    rw (add-one) (passed_on c.args.cells.now c.args.known.now c.args.steps.now c.loop-step.step-index c.loop-step.at c.in-Ok.after c.step-item.result c.passed_if.result _
    c.loop-step-test.true c.step-item.is c.passed_if.ensures c.in-Ok.is c.loop-step.invariant)

pub returns : goal.returns
returns c =
    passed_last c.args.cells.now c.args.known.now c.args.steps.now c.loop-step.step-index c.loop-step.at _ (omega (arith, c.loop-step-test.false, c.loop-step.auto.step-index-end))
    c.loop-step.invariant
