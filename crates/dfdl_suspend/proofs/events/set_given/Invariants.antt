use Rattle.std.proofs.Common.{◌≡◌, ◌++◌, ℕ, List, length, take, drop}
use Rattle.dfdl_suspend.specs.declared.known.Held.{Held}
use Rattle.dfdl_suspend.specs.Asks.{Asks}
use Rattle.dfdl_suspend.specs.Boards.{Runs}
use Rattle.dfdl_suspend.specs.Events.{IsSettable, Taking}
use Rattle.dfdl_suspend.proofs.events.set_given.Given as goal

abbrev pub invariant-loop-cell : goal.invariant-loop-cell
invariant-loop-cell l =
    (l.board.known ≡ l.fn.board.known) × (length l.board.marks ≡ length l.fn.board.marks) × IsSettable (drop l.cell-index l.given) l.board.marks
    × ((equation : ℕ → Asks Held) → Taking equation l.given l.fn.board → Taking equation (drop l.cell-index l.given) l.board)
    × ((equation : ℕ → Asks Held) (ran were_set : List ℕ) → Runs equation l.fn.board ran were_set → Runs equation l.board ran (were_set ++ take l.cell-index l.given))
