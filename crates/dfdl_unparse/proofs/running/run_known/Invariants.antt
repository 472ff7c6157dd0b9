use Rattle.std.proofs.Common.{◌≡◌}
use Rattle.dfdl_suspend.specs.Boards.{weight}
use Rattle.dfdl_unparse.proofs.Runnings.{IsRunning}
use Rattle.dfdl_unparse.proofs.running.run_known.Given as goal

abbrev pub invariant-running : goal.invariant-running
invariant-running g l =
    (l.document ≡ l.fn.document)
    × IsRunning (g.D.Equations.unknowns l.fn.document) (g.D.Equations.equation l.fn.document) (g.D.Document.pieces l.fn.document) l.fn.board l.board l.fn.front l.front
    l.fn.steps l.steps (g.C.Chooser.picks l.fn.chooser) (g.C.Chooser.picks l.chooser)

abbrev pub decreases-running : goal.decreases-running
decreases-running g l = weight l.board
