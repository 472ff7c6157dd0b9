use Rattle.std.proofs.Common.{◌≡◌, ℕ, List, length}
use Rattle.dfdl_suspend.specs.declared.known.Held.{Held}
use Rattle.dfdl_suspend.specs.Asks.{Asks}
use Rattle.dfdl_suspend.specs.Boards.{Runs}
use Rattle.dfdl_suspend.specs.Events.{Taking}
use Rattle.dfdl_suspend.proofs.events.add_new.Given as goal

abbrev pub invariant-adding : goal.invariant-adding
invariant-adding l =
    (l.board.known ≡ l.fn.board.known) × (length l.board.marks ≡ l.cell)
    × ((equation : ℕ → Asks Held) (left : List ℕ) → Taking equation left l.fn.board → Taking equation left l.board)
    × ((equation : ℕ → Asks Held) (ran were_set : List ℕ) → Runs equation l.fn.board ran were_set → Runs equation l.board ran were_set)
