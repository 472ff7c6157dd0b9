use Rattle.std.proofs.Common.{◌-◌, ap, arith}
use Rattle.dfdl_bits.specs.Window.{seen_at}
use Rattle.dfdl_looks.specs.Asks.{Answer}
use Rattle.dfdl_escapes.specs.declared.turn.Last.{Last}
use Rattle.dfdl_escapes.specs.Readings.{end_shown, last_reading, rest_shown, step_shown}
use Rattle.dfdl_escapes.specs.Steps.{markup_at, unless_closed}
use Rattle.dfdl_escapes.proofs.Coming.{same-comes, then-comes, told}
use Rattle.dfdl_escapes.proofs.walk.settle.Goals as goal

pub returns-in_ok-end-in-Unless-clause-comes : goal.returns-in_ok-end-in-Unless-clause-comes
returns-in_ok-end-in-Unless-clause-comes g c = λ opened test holds decides t.
    let task = c.args.task.now in
    let look = seen_at task.window.now in
    let at = c.args.at in
    let rest = c.in-Unless.rest in
    let turn = c.by_end.result in
    same-comes t _ _ (step_shown turn.at turn.scanned) _ _
    (ap (λ (l : Last). last_reading look test opened task.form at l t) c.in-Unless.is)
    (then-comes look (markup_at test opened task.form.stop at.byte) (λ found. unless_closed (Answer (rest_shown rest)) found)
    (end_shown c.in_ok-end-in-Unless.end) (step_shown turn.at turn.scanned) (c.end_at.new.steps - c.args.steps.now) 0 c.in_ok-end-in-Unless.far 0 _ _
    (λ u. c.in_ok-end-in-Unless.ensures.end opened test holds decides u)
    (λ u. told u _ (step_shown turn.at turn.scanned) (c.by_end.ensures.left look u)) (omega arith) (omega arith) t)
