use Rattle.dfdl_suspend.specs.Asks.{waiting}
use Rattle.dfdl_suspend.specs.Formulas.{equation_in}
use Rattle.dfdl_suspend.proofs.tests.on_board.Goals as goal

pub take_up-requires-clause-brought : goal.take_up-requires-clause-brought
take_up-requires-clause-brought g c = (λ cell. waiting cell, c.in_ok-board.ensures.begins (equation_in c.args.table.now.rows))
