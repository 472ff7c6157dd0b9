use Rattle.std.proofs.Common.{◌≡◌, ℕ, subst, arith}
use Rattle.dfdl_suspend.specs.Outcomes.{IsFirstFault}
use Rattle.dfdl_suspend.proofs.rounds.first_fault_by_rounds.Goals as goal

pub returns-clause-fault : goal.returns-clause-fault
returns-clause-fault g c =
    let done : c.loop-cell.cell ≡ g.E.Equations.unknowns c.args.equations.now = omega (arith, c.count-cell-end.ensures) in
    subst (λ (n : ℕ). IsFirstFault (g.E.Equations.precedes c.args.equations.now) n (g.E.Equations.equation c.args.equations.now) c.args.known.now c.loop-cell.best) done c.loop-cell.invariant.2
