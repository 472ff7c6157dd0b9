use Rattle.std.proofs.Common.{◌≡◌}
use Rattle.dfdl_suspend.specs.Boards.{weight}
use Rattle.dfdl_suspend.proofs.Runnings.{IsRunning}
use Rattle.dfdl_suspend.proofs.running.run_all.Given as goal

abbrev pub invariant-running : goal.invariant-running
invariant-running g l =
    (l.equations ≡ l.fn.equations)
    × IsRunning (g.E.Equations.unknowns l.fn.equations) (g.E.Equations.equation l.fn.equations) l.fn.board l.board l.fn.steps l.steps
    (g.C.Chooser.picks l.fn.chooser) (g.C.Chooser.picks l.chooser)

abbrev pub decreases-running : goal.decreases-running
decreases-running g l = weight l.board
