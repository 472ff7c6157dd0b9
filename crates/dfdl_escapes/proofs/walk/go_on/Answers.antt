use Rattle.std.proofs.Common.{◌-◌, ap, arith}
use Rattle.dfdl_bits.specs.Window.{seen_at}
use Rattle.dfdl_looks.specs.Asks.{Answer}
use Rattle.dfdl_escapes.specs.declared.turn.First.{First}
use Rattle.dfdl_escapes.specs.Readings.{first_reading, step_shown, unit_shown}
use Rattle.dfdl_escapes.specs.Steps.{in_block_escaped, pair_case, piece_at}
use Rattle.dfdl_escapes.proofs.Coming.{same-comes, then-comes, told}
use Rattle.dfdl_escapes.proofs.walk.go_on.Goals as goal

pub returns-in_ok-turn-in-Pair-clause-comes : goal.returns-in_ok-turn-in-Pair-clause-comes
returns-in_ok-turn-in-Pair-clause-comes g c = λ opened test holds decides t.
    let task = c.args.task.now in
    let look = seen_at task.window.now in
    let at = c.args.at in
    let turn = c.in_ok-turn-in-Pair.turn in
    same-comes t _ _ (step_shown turn.at turn.scanned) _ _
    (ap (λ (f : First). first_reading look test opened task.form at f t) c.in-Pair.is)
    (then-comes look (piece_at task.form c.in-Pair.next) (λ piece. pair_case test opened task.form at.byte c.in-Pair.c c.in-Pair.next piece)
    (unit_shown c.unit_at-unit.result.0) (step_shown turn.at turn.scanned) (c.unit_at-unit.new.steps - c.args.steps.now)
    (c.settle-in-Pair.new.steps - c.unit_at-unit.new.steps) c.unit_at-unit.result.1 c.in_ok-turn-in-Pair.far _ _
    c.unit_at-unit.ensures.unit
    (λ u. same-comes u _ _ (step_shown turn.at turn.scanned) _ _ (c.by_pair-last.ensures.left look test opened u)
    (c.in_ok-turn-in-Pair.ensures.comes opened test holds decides u))
    (omega (arith, c.unit_at-unit.ensures.steps, c.in_ok-turn-in-Pair.ensures.steps, c.settle-in-Pair.ensures.steps)) c.max.ensures t)

pub returns-in-BlockPair-clause-comes : goal.returns-in-BlockPair-clause-comes
returns-in-BlockPair-clause-comes g c = λ opened test holds decides t.
    let task = c.args.task.now in
    let look = seen_at task.window.now in
    let at = c.args.at in
    let turn = c.by_block_pair.result in
    same-comes t _ _ (step_shown turn.at turn.scanned) _ _
    (ap (λ (f : First). first_reading look test opened task.form at f t) c.in-BlockPair.is)
    (then-comes look (piece_at task.form c.in-BlockPair.next) (λ piece. Answer (in_block_escaped task.form c.in-BlockPair.c c.in-BlockPair.next piece))
    (unit_shown c.unit_at-unit-in-BlockPair.result.0) (step_shown turn.at turn.scanned) (c.unit_at-unit-in-BlockPair.new.steps - c.args.steps.now)
    0 c.unit_at-unit-in-BlockPair.result.1 0 _ _
    c.unit_at-unit-in-BlockPair.ensures.unit
    (λ u. told u _ (step_shown turn.at turn.scanned) (c.by_block_pair.ensures.left look u))
    (omega arith) (omega arith) t)
