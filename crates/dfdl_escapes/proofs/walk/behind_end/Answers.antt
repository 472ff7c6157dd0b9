use Rattle.std.proofs.Common.{ap}
use Rattle.dfdl_bits.specs.Window.{seen_at}
use Rattle.dfdl_looks.specs.Asks.{go_on}
use Rattle.dfdl_escapes.specs.declared.end.End.{End}
use Rattle.dfdl_escapes.specs.Readings.{end_shown, step_shown}
use Rattle.dfdl_escapes.specs.Steps.{by_piece, unless_closed}
use Rattle.dfdl_escapes.proofs.Coming.{same-comes}
use Rattle.dfdl_escapes.proofs.walk.behind_end.Goals as goal

pub returns-in-None-clause-comes : goal.returns-in-None-clause-comes
returns-in-None-clause-comes g c = λ opened test holds decides t.
    let task = c.args.task.now in
    let turn = c.in_ok-turn-in-None.turn in
    same-comes t _ _ (step_shown turn.at turn.scanned) _ _
    (ap (λ (e : End). go_on (seen_at task.window.now) (λ found. unless_closed (by_piece test opened task.form c.args.at) found) (end_shown e) t) c.in-None.is)
    (c.in_ok-turn-in-None.ensures.comes opened test holds decides t)
