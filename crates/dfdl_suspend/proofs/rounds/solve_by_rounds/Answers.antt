use Rattle.std.proofs.Common.{length, sym, ap, subst, ◌∙◌}
use Rattle.dfdl_suspend.specs.Rounds.{solution}
use Rattle.dfdl_suspend.specs.Outcomes.{IsFirstFault, IsBest, IsOpen}
use Rattle.dfdl_suspend.proofs.Solving.{solution_is}
use Rattle.dfdl_suspend.proofs.rounds.solve_by_rounds.Goals as goal

pub returns-clause-solution : goal.returns-clause-solution
returns-clause-solution g c =
    let equation = g.E.Equations.equation c.args.equations.now in
    c.first_fault_by_rounds.ensures.kept
    ∙ (solution_is (length c.in_ok-known.known) equation c.in_ok-known.known c.in_ok-known.ensures.fits c.in_ok-known.ensures.still
    ∙ ap (λ n. solution n equation) (sym c.in_ok-known.ensures.room))

pub returns-clause-outcome : goal.returns-clause-outcome
returns-clause-outcome g c =
    let precedes = g.E.Equations.precedes c.args.equations.now in
    let unknowns = g.E.Equations.unknowns c.args.equations.now in
    let equation = g.E.Equations.equation c.args.equations.now in
    let same = c.known_by_rounds.ensures.same in
    let still = c.first_fault_by_rounds.ensures.same ∙ same in
    c.outcome_of-outcome.ensures precedes unknowns equation c.first_fault_by_rounds.new.known
    (subst (λ known. IsFirstFault precedes unknowns equation known c.in_ok-fault.fault) (sym c.first_fault_by_rounds.ensures.kept)
    (subst (λ e. IsFirstFault (g.E.Equations.precedes e) (g.E.Equations.unknowns e) (g.E.Equations.equation e) c.in_ok-known.known c.in_ok-fault.fault) same c.in_ok-fault.ensures.fault))
    (subst (λ e. IsBest (g.E.Equations.precedes e) (g.E.Equations.unknowns e) (IsOpen c.first_fault_by_rounds.new.known) c.first_open.result) still c.first_open.ensures)
