use Rattle.std.proofs.Common.{sym, ◌∙◌}
use Rattle.dfdl_laying.proofs.Stepped.{runs_go, runs_stop}
use Rattle.dfdl_laying.proofs.run.Run.go_on.Goals as goal

pub returns-then-is_stop : goal.returns-then-is_stop
returns-then-is_stop c =
    c.acting.invariant c.acting.self
    (runs_stop c.args.layout.now c.args.aim.now c.acting.self c.next_act-act.result c.next_act-act.ensures (sym c.is_stop.ensures ∙ c.if-is_stop.true))

pub acting-preserved : goal.acting-preserved
acting-preserved c = λ last runs.
    c.acting.invariant last
    (runs_go c.args.layout.now c.args.aim.now c.acting.self c.act.new.self last c.next_act-act.result c.next_act-act.ensures
    (sym c.is_stop.ensures ∙ c.if-is_stop.false) c.in_ok-act.ensures runs)
