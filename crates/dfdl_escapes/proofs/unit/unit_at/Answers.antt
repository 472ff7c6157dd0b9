use Rattle.std.proofs.Common.{◌-◌, ◌*◌, arith}
use Rattle.dfdl_bits.specs.Window.{end_of, seen_at}
use Rattle.dfdl_looks.specs.Asks.{Answer, ask}
use Rattle.dfdl_looks.specs.Tallies.{Tally}
use Rattle.dfdl_texts.specs.Units.{IsUnit, reached_of, unit_at}
use Rattle.dfdl_texts.proofs.Steps.{unit-told, unit-fits}
use Rattle.dfdl_escapes.specs.Readings.{unit_shown}
use Rattle.dfdl_escapes.specs.Steps.{replaced}
use Rattle.dfdl_escapes.proofs.Coming.{then-comes, told, unit-comes, unit-steps}
use Rattle.dfdl_escapes.proofs.unit.unit_at.Goals as goal

pub returns-clause-unit : goal.returns-clause-unit
returns-clause-unit g c =
    let window = c.args.window.now in
    let form = c.args.form.now in
    let unit : (t : Tally) → IsUnit c.decode_at-chars.result.0 c.far_seen.result c.args.steps.now c.decode_at-chars.new.steps t (ask (seen_at window) (unit_at form.enc form.stop c.args.byte) t) =
    (λ t. unit-told (seen_at window) form.enc form.stop c.args.byte (8 * c.args.byte) c.args.steps.now c.decode_at-chars.new.steps c.decode_at-chars.result.1
    c.far_seen.result c.decode_at-chars.result.0 (omega arith) c.decode_at-chars.ensures.chars c.decode_at-chars.ensures.far c.decode_at-chars.ensures.looks
    c.far_seen.ensures t) in
    λ t. then-comes (seen_at window) (unit_at form.enc form.stop c.args.byte) (λ piece. Answer (replaced form.replaces piece)) (reached_of c.decode_at-chars.result.0)
    (unit_shown c.unit_of.result) (c.decode_at-chars.new.steps - c.args.steps.now) 0 c.far_seen.result 0 _ _
    (λ u. unit-comes (seen_at window) form.enc form.stop c.args.byte c.args.steps.now c.decode_at-chars.new.steps c.far_seen.result c.decode_at-chars.result.0 unit u)
    (λ u. told u _ (unit_shown c.unit_of.result) (c.unit_of.ensures.shown (seen_at window) u)) (omega arith) (omega arith) t

pub returns-clause-fits : goal.returns-clause-fits
returns-clause-fits g c =
    let window = c.args.window.now in
    let form = c.args.form.now in
    c.unit_of.ensures.fits c.args.byte (end_of window)
    (unit-fits window form.enc form.stop c.args.byte c.args.steps.now c.decode_at-chars.new.steps c.far_seen.result c.decode_at-chars.result.0 c.requires.base
    (λ t. unit-told (seen_at window) form.enc form.stop c.args.byte (8 * c.args.byte) c.args.steps.now c.decode_at-chars.new.steps c.decode_at-chars.result.1
    c.far_seen.result c.decode_at-chars.result.0 (omega arith) c.decode_at-chars.ensures.chars c.decode_at-chars.ensures.far c.decode_at-chars.ensures.looks
    c.far_seen.ensures t))

pub returns-clause-steps : goal.returns-clause-steps
returns-clause-steps g c =
    let window = c.args.window.now in
    let form = c.args.form.now in
    unit-steps (seen_at window) form.enc form.stop c.args.byte c.args.steps.now c.decode_at-chars.new.steps c.far_seen.result c.decode_at-chars.result.0
    (λ t. unit-told (seen_at window) form.enc form.stop c.args.byte (8 * c.args.byte) c.args.steps.now c.decode_at-chars.new.steps c.decode_at-chars.result.1
    c.far_seen.result c.decode_at-chars.result.0 (omega arith) c.decode_at-chars.ensures.chars c.decode_at-chars.ensures.far c.decode_at-chars.ensures.looks
    c.far_seen.ensures t)
