use Rattle.std.proofs.Common.{◌-◌, arith}
use Rattle.dfdl_bits.specs.Window.{seen_at}
use Rattle.dfdl_escapes.specs.Readings.{step_shown, unit_shown}
use Rattle.dfdl_escapes.specs.Steps.{case_in, piece_at}
use Rattle.dfdl_escapes.proofs.Coming.{same-comes, then-comes}
use Rattle.dfdl_escapes.proofs.walk.by_piece.Goals as goal

pub returns-clause-comes : goal.returns-clause-comes
returns-clause-comes g c = λ opened test holds decides t.
    let task = c.args.task.now in
    let look = seen_at task.window.now in
    let at = c.args.at in
    let turn = c.in_ok-turn.turn in
    then-comes look (piece_at task.form at.byte) (λ piece. case_in test opened task.form at.mode at.byte piece)
    (unit_shown c.unit_at-unit.result.0) (step_shown turn.at turn.scanned) (c.unit_at-unit.new.steps - c.args.steps.now)
    (c.go_on.new.steps - c.unit_at-unit.new.steps) c.unit_at-unit.result.1 c.in_ok-turn.far _ _
    c.unit_at-unit.ensures.unit
    (λ u. same-comes u _ _ (step_shown turn.at turn.scanned) _ _ (c.by_first-first.ensures.left look test opened u)
    (c.in_ok-turn.ensures.comes opened test holds decides u))
    (omega (arith, c.unit_at-unit.ensures.steps, c.in_ok-turn.ensures.steps)) c.max.ensures t
