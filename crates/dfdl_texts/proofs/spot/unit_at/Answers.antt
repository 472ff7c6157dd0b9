use Rattle.std.proofs.Common.{◌*◌, arith}
use Rattle.dfdl_bits.specs.Window.{seen_at}
use Rattle.dfdl_looks.specs.Tallies.{nothing}
use Rattle.dfdl_looks.specs.Asks.{ask}
use Rattle.dfdl_texts.specs.Units.{IsUnit, unit_at}
use Rattle.dfdl_texts.proofs.Steps.{unit-told, unit-fits}
use Rattle.dfdl_texts.proofs.spot.unit_at.Goals as goal

pub returns-clause-unit : goal.returns-clause-unit
returns-clause-unit g c =
    unit-told (seen_at c.args.task.now.window.now) c.args.task.now.enc c.args.task.now.stop c.args.byte (8 * c.args.byte) c.args.steps.now
    c.decode_at-chars.new.steps c.decode_at-chars.result.1 c.far_seen.result c.decode_at-chars.result.0 (omega arith)
    c.decode_at-chars.ensures.chars c.decode_at-chars.ensures.far c.decode_at-chars.ensures.looks c.far_seen.ensures

pub returns-clause-fits : goal.returns-clause-fits
returns-clause-fits g c =
    unit-fits c.args.task.now.window.now c.args.task.now.enc c.args.task.now.stop c.args.byte c.args.steps.now c.decode_at-chars.new.steps
    c.far_seen.result c.decode_at-chars.result.0 c.requires.base (returns-clause-unit g c)

pub returns-clause-steps : goal.returns-clause-steps
returns-clause-steps g c =
    let unit : IsUnit c.decode_at-chars.result.0 c.far_seen.result c.args.steps.now c.decode_at-chars.new.steps nothing
    (ask (seen_at c.args.task.now.window.now) (unit_at c.args.task.now.enc c.args.task.now.stop c.args.byte) nothing) = returns-clause-unit g c nothing in
    let looks = unit.looks in
    omega arith
