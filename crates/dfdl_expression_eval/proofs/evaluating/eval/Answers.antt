use Rattle.std.proofs.Common.{sym, ap, subst, ◌∙◌}
use Rattle.dfdl_expression_eval.specs.Machine.{IsStep}
use Rattle.dfdl_expression_eval.specs.Meanings.{meaning}
use Rattle.dfdl_expression_eval.specs.Nesting.{StaysNested}
use Rattle.dfdl_expression_eval.proofs.Steady.{run_gives}
use Rattle.dfdl_expression_eval.proofs.evaluating.eval.Goals as goal

pub returns-in-Ends-clause-value : goal.returns-in-Ends-clause-value
returns-in-Ends-clause-value g c =
    let nodes = c.args.expression.now in
    let l = c.loop-next in
    let s = c.step.new.scratch in
    let ends = subst (IsStep g.E.Env.answers g.E.Env.read nodes l.focus l.scratch.frames.items l.scratch.values.items s.frames.items s.values.items l.env c.step.new.env)
    c.in-Ends.is c.in_ok-next.ensures.steps in
    sym (ap (λ p. p.0) (sym l.invariant.2 ∙ ends)) ∙ run_gives g.E.Env.answers g.E.Env.read g.met.E.Env.steady (meaning nodes) c.args.env.now

pub loop-next-preserved : goal.loop-next-preserved
loop-next-preserved g c =
    let nodes = c.args.expression.now in
    let l = c.loop-next in
    let s = c.step.new.scratch in
    let goes = subst (IsStep g.E.Env.answers g.E.Env.read nodes l.focus l.scratch.frames.items l.scratch.values.items s.frames.items s.values.items l.env c.step.new.env)
    c.in-Next.is c.in_ok-next.ensures.steps in
    let nested = subst (StaysNested nodes s.frames.items) c.in-Next.is (c.in_ok-next.ensures.nested l.invariant.3) in (
      l.invariant.0,
      c.in_ok-next.ensures.held,
      goes.0 ∙ l.invariant.2,
      nested,
      (λ room has. c.in_ok-next.ensures.room room (l.invariant.4 room has)),
      c.in_ok-next.ensures.stays ∙ l.invariant.5,
    )

pub returns-in-Ends-clause-room : goal.returns-in-Ends-clause-room
returns-in-Ends-clause-room g c = λ room has. c.in_ok-next.ensures.room room (c.loop-next.invariant.4 room has)
