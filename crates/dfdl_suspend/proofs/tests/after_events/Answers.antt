use Rattle.dfdl_suspend.specs.Asks.{waiting}
use Rattle.dfdl_suspend.proofs.tests.after_events.Goals as goal

pub take_up-requires-clause-brought : goal.take_up-requires-clause-brought
take_up-requires-clause-brought g c = (λ cell. waiting cell, c.in_ok-board.ensures.begins _)
