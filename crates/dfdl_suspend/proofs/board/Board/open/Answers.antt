use Rattle.std.proofs.Common.{Option, None, List, [], sym, subst, replicate}
use Rattle.dfdl_suspend.specs.Asks.{waiting}
use Rattle.dfdl_suspend.specs.Events.{Brings}
use Rattle.dfdl_suspend.specs.Queued.{Queued}
use Rattle.dfdl_suspend.specs.declared.known.Held.{Held}
use Rattle.dfdl_suspend.proofs.Taken.{opened_brings}
use Rattle.dfdl_suspend.proofs.board.Board.open.Goals as goal

pub returns-clause-begins : goal.returns-clause-begins
returns-clause-begins c = λ equation.
    subst (λ (ks : List (Option Held)). Brings (λ cell. waiting cell) equation [] (record { known = ks; marks = c.in_ok-queue.queue.marks; ready = c.in_ok-queue.queue.ready }))
    (sym c.in_ok-known.ensures)
    (subst (λ (q : Queued). Brings (λ cell. waiting cell) equation [] (record { known = replicate c.args.cells None; marks = q.marks; ready = q.ready })) (sym c.in_ok-queue.ensures)
    (opened_brings c.args.cells equation))
