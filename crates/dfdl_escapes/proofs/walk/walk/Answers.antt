use Rattle.std.proofs.Common.{◌≡◌, ◌-◌, ◌∙◌, Bool, cond, true, false, ap, sym, arith}
use Rattle.dfdl_bits.specs.Window.{seen_at}
use Rattle.dfdl_looks.specs.Asks.{ask}
use Rattle.dfdl_escapes.specs.Readings.{end_shown, step_shown}
use Rattle.dfdl_escapes.specs.Steps.{by_piece, is_plain, markup_at, unless_closed, unless_markup}
use Rattle.dfdl_escapes.proofs.Coming.{same-comes, then-comes}
use Rattle.dfdl_escapes.proofs.walk.walk.Goals as goal

pub returns-then-not-is_plain-clause-comes : goal.returns-then-not-is_plain-clause-comes
returns-then-not-is_plain-clause-comes g c = λ opened test holds decides t.
    let task = c.args.task.now in
    let at = c.args.at in
    let turn = c.in_ok-turn.turn in
    let not_plain : is_plain at.mode ≡ false = sym c.is_plain.ensures ∙ c.if-not-is_plain.true in
    same-comes t _ _ (step_shown turn.at turn.scanned) _ _
    (ap (λ (b : Bool). ask (seen_at task.window.now) (cond b (unless_markup test opened task.form at.byte (by_piece test opened task.form at)) (by_piece test opened task.form at)) t)
    not_plain)
    (c.in_ok-turn.ensures.comes opened test holds decides t)

pub returns-clause-comes : goal.returns-clause-comes
returns-clause-comes g c = λ opened test holds decides t.
    let task = c.args.task.now in
    let look = seen_at task.window.now in
    let at = c.args.at in
    let turn = c.in_ok-turn-2.turn in
    let plain : is_plain at.mode ≡ true = sym c.is_plain.ensures ∙ c.if-not-is_plain.false in
    same-comes t _ _ (step_shown turn.at turn.scanned) _ _
    (ap (λ (b : Bool). ask look (cond b (unless_markup test opened task.form at.byte (by_piece test opened task.form at)) (by_piece test opened task.form at)) t)
    plain)
    (then-comes look (markup_at test opened task.form.stop at.byte) (λ found. unless_closed (by_piece test opened task.form at) found)
    (end_shown c.in_ok-end.end) (step_shown turn.at turn.scanned) (c.end_at.new.steps - c.args.steps.now)
    (c.behind_end.new.steps - c.end_at.new.steps) c.in_ok-end.seen c.in_ok-turn-2.far _ _
    (λ u. c.in_ok-end.ensures.end opened test holds decides u)
    (λ u. c.in_ok-turn-2.ensures.comes opened test holds decides u)
    (omega (arith, c.in_ok-end.ensures.steps, c.in_ok-turn-2.ensures.steps)) c.max.ensures t)
