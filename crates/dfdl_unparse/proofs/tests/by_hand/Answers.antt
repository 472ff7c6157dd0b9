use Rattle.std.proofs.Common.{length, sym, ap, subst}
use Rattle.dfdl_suspend.specs.Boards.{Boarded, Fits}
use Rattle.dfdl_suspend.specs.Formulas.{Tabled, equation_in}
use Rattle.dfdl_unparse.proofs.Starts.{nothing_fits}
use Rattle.dfdl_unparse.proofs.tests.by_hand.Goals as goal

pub run_line-requires-clause-fits : goal.run_line-requires-clause-fits
run_line-requires-clause-fits g c =
    subst (λ (board : Boarded). Fits (length c.in-Some.script.table.rows) (equation_in c.in-Some.script.table.rows) board) (sym c.in_ok-board.ensures.none)
    (nothing_fits (length c.in-Some.script.table.rows) 9 (equation_in c.in-Some.script.table.rows) (ap (λ (t : Tabled). length t.rows) (rw c.in-Some.is at c.in_ok-script.ensures)))
