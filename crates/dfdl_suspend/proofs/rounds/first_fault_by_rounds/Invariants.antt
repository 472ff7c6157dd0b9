use Rattle.std.proofs.Common.{◌≡◌}
use Rattle.dfdl_suspend.specs.Outcomes.{IsFirstFault}
use Rattle.dfdl_suspend.proofs.rounds.first_fault_by_rounds.Given as goal

abbrev pub invariant-loop-cell : goal.invariant-loop-cell
invariant-loop-cell g l =
    (l.equations ≡ l.fn.equations) × (l.known ≡ l.fn.known)
    × IsFirstFault (g.E.Equations.precedes l.fn.equations) l.cell (g.E.Equations.equation l.fn.equations) l.fn.known l.best
