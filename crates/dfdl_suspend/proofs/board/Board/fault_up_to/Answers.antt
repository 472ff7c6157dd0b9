use Rattle.std.proofs.Common.{◌≡◌, Some, length, sym, ap, subst, ◌∙◌}
use Rattle.std.specs.List.{slice_get}
use Rattle.dfdl_suspend.specs.Boards.{Boarded, Fits}
use Rattle.dfdl_suspend.specs.Outcomes.{HasFault}
use Rattle.dfdl_suspend.specs.declared.mark.Mark.TheVariants.{Faulty}
use Rattle.dfdl_suspend.proofs.AtRest.{no_fault}
use Rattle.dfdl_suspend.proofs.Earliest.{fault_skip}
use Rattle.dfdl_suspend.proofs.OneRun.{shown}
use Rattle.dfdl_suspend.proofs.board.Board.fault_up_to.Goals as goal

pub returns-in-Faulty : goal.returns-in-Faulty
returns-in-Faulty g c =
    let equation = g.E.Equations.equation c.args.equations.now in
    let marked : slice_get c.self.inside.queue.marks c.args.cell ≡ Some (Faulty c.in-Faulty.cause) =
    ap (λ k. slice_get c.self.inside.queue.marks k) (sym c.number.ensures) ∙ (c.mark.ensures.mark ∙ ap (λ m. Some m) c.in-Faulty.is) in
    let here : slice_get c.args.self.now.marks c.args.cell ≡ Some (Faulty c.in-Faulty.cause) =
    subst (λ (b : Boarded). slice_get b.marks c.args.cell ≡ Some (Faulty c.in-Faulty.cause)) c.self.view_is marked in
    c.fault_with.ensures c.args.self.now.known (c.requires.fits.recorded c.args.cell (Faulty c.in-Faulty.cause) here) c.requires.best

pub returns-in_default : goal.returns-in_default
returns-in_default g c =
    let unknowns = g.E.Equations.unknowns c.args.equations.now in
    let equation = g.E.Equations.equation c.args.equations.now in
    let queue = c.self.inside.queue in
    let fits : Fits unknowns equation (shown c.self.inside.known queue.marks queue.ready) = subst (λ (b : Boarded). Fits unknowns equation b) (sym c.self.view_is) c.requires.fits in
    let marked : slice_get queue.marks c.args.cell ≡ Some c.mark.result = ap (λ k. slice_get queue.marks k) (sym c.number.ensures) ∙ c.mark.ensures.mark in
    let idle = subst (λ (b : Boarded). length b.ready ≡ 0) (sym c.self.view_is) c.requires.none_ready in
    let sound : HasFault equation c.self.inside.known c.args.cell → ⊥ =
    no_fault unknowns equation c.self.inside.known queue.marks queue.ready c.self.invariant.0 c.mark.ensures.shown idle fits c.args.cell c.mark.result marked c.in_default.not-Faulty in
    fault_skip (g.E.Equations.precedes c.args.equations.now) unknowns c.args.cell equation c.args.self.now.known c.requires.cell (g.met.E.Equations.order c.args.equations.now) c.args.best
    (subst (λ (b : Boarded). HasFault equation b.known c.args.cell → ⊥) c.self.view_is sound) c.requires.best
