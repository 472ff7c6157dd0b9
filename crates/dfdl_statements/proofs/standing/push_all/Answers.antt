use Rattle.std.proofs.Common.{◌∙◌}
use Rattle.dfdl_statements.proofs.Steps.{one_standing}
use Rattle.dfdl_statements.proofs.standing.push_all.Goals as goal

pub loop-step-preserved : goal.loop-step-preserved
loop-step-preserved c =
    one_standing c.loop-step.list.items c.push.new.list.items c.args.statements.first c.loop-step.step c.args.statements.count c.args.place
    c.loop-step-test.true c.in_ok-push.ensures
    ∙ c.loop-step.invariant
