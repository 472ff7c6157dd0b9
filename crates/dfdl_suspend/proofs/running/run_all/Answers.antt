use Rattle.std.proofs.Common.{◌≡◌, ap, ◌∙◌, arith, length}
use Rattle.dfdl_suspend.specs.Recorded.{IsTied}
use Rattle.dfdl_suspend.specs.Rounds.{solution}
use Rattle.dfdl_suspend.proofs.AtRest.{least}
use Rattle.dfdl_suspend.proofs.running.run_all.Goals as goal

pub returns-clause-least : goal.returns-clause-least
returns-clause-least g c =
    let unknowns = g.E.Equations.unknowns c.args.equations.now in
    let equation = g.E.Equations.equation c.args.equations.now in
    let board = c.running.board in
    let shown = c.ready.ensures.shown in
    let tied : IsTied board.known board.marks = record { few = shown.few; done = shown.done; filled = shown.filled } in
    let none : length board.ready ≡ 0 = omega (arith, c.ready.ensures.count) in
    least unknowns equation board.known board.marks board.ready tied shown.readies none c.running.invariant.1.fits (g.met.E.Equations.beyond c.args.equations.now)
    ∙ ap (λ n. solution n equation) c.running.invariant.1.room
