use Rattle.dfdl_suspend.specs.Outcomes.{IsBest, IsOpen}
use Rattle.dfdl_suspend.proofs.firsts.first_open.Given as goal

abbrev pub invariant-loop-cell : goal.invariant-loop-cell
invariant-loop-cell g l = IsBest (g.E.Equations.precedes l.equations) l.cell (IsOpen l.known) l.best
