use Rattle.std.proofs.Common.{◌+◌, ◌-◌, sym, ◌∙◌, arith}
use Rattle.dfdl_laying.specs.Laying as laying
use Rattle.dfdl_laying.proofs.Joined.{waiting_next, waiting_done}
use Rattle.dfdl_laying.proofs.laid.Laid.wait.Goals as goal

pub loop-preserved : goal.loop-preserved
loop-preserved c =
    (λ i. laying.with_waiting c.args.owner (c.args.count - (c.loop.counter + 1)) (c.in_ok-push_unknown.ensures.unknown i))
    ∙ (sym (waiting_next c.args.owner c.args.count c.loop.counter c.loop.self (omega (arith, c.loop-test.true))) ∙ c.loop.invariant)

pub returns : goal.returns
returns c = sym (waiting_done c.args.owner c.args.count c.loop.counter c.loop.self (omega (arith, c.loop-test.false))) ∙ c.loop.invariant
