use Rattle.std.proofs.Common.{◌≡◌, ℕ, subst, arith}
use Rattle.dfdl_suspend.specs.Outcomes.{IsFirstFault}
use Rattle.dfdl_suspend.proofs.board.Board.first_fault.Goals as goal

pub returns : goal.returns
returns g c =
    let done : c.loop-cell.cell ≡ g.E.Equations.unknowns c.args.equations.now = omega (arith, c.requires.fits.added) in
    subst (λ (n : ℕ). IsFirstFault (g.E.Equations.precedes c.args.equations.now) n (g.E.Equations.equation c.args.equations.now) c.args.self.now.known c.loop-cell.best) done c.loop-cell.invariant
