use Rattle.dfdl_suspend.specs.Outcomes.{IsFirstFault}
use Rattle.dfdl_suspend.proofs.board.Board.first_fault.Given as goal

abbrev pub invariant-loop-cell : goal.invariant-loop-cell
invariant-loop-cell g l = IsFirstFault (g.E.Equations.precedes l.equations) l.cell (g.E.Equations.equation l.equations) l.self.known l.best
