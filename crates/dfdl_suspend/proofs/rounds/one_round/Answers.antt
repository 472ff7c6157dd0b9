use Rattle.std.proofs.Common.{ℕ, subst, ◌∙◌, arith}
use Rattle.dfdl_suspend.specs.Tries.{Tried}
use Rattle.dfdl_suspend.proofs.Rounding.{going_more}
use Rattle.dfdl_suspend.proofs.rounds.one_round.Goals as goal

pub loop-cell-preserved : goal.loop-cell-preserved
loop-cell-preserved g c = (
  c.try_cell.ensures.same ∙ c.loop-cell.invariant.0,
  going_more (g.E.Equations.equation c.args.equations.now) c.args.known.now c.loop-cell.known c.try_cell.new.known c.loop-cell.cell c.loop-cell.moved (omega (arith, c.requires.room, c.count-cell-end.ensures))
      c.loop-cell.invariant.1 c.in_ok-tried.tried
      (subst (λ (n : ℕ). Tried (g.E.Equations.equation c.args.equations.now) n c.loop-cell.known c.try_cell.new.known c.in_ok-tried.tried) c.new.ensures
      (subst (λ e. Tried (g.E.Equations.equation e) c.new.result c.loop-cell.known c.try_cell.new.known c.in_ok-tried.tried) c.loop-cell.invariant.0 c.in_ok-tried.ensures.tried)),
)
