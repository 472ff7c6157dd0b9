use Rattle.std.proofs.Common.{◌-◌, ◌∙◌}
use Rattle.dfdl_bits.specs.Window.{seen_at}
use Rattle.dfdl_texts.proofs.Steps.{ended, ends-left, read-within}
use Rattle.dfdl_texts.proofs.text.read_text.Goals as goal

pub returns-in-Ends-clause-answers : goal.returns-in-Ends-clause-answers
returns-in-Ends-clause-answers g c =
    ended (seen_at c.args.window.now) c.args.enc c.args.replaces c.args.extent c.args.stop c.args.byte c.args.steps.now c.take_unit.new.steps
    c.take_unit.new.into.items c.in-Ends.glance
    (c.units.invariant.0 ∙ c.in_ok-spot.ensures.left
    ∙ ends-left c.args.window.now (record { enc = c.args.enc; replaces = c.args.replaces; extent = c.args.extent; stop = c.args.stop; window = c.args.window }) _
    c.in_ok-spot.spot c.take_unit.new.into.items c.take_unit.new.steps c.in_ok-next.field-0 c.in-Ends.glance c.in-Ends.is
    c.in_ok-next.ensures.turn)

pub returns-in-Ends-clause-within : goal.returns-in-Ends-clause-within
returns-in-Ends-clause-within g c =
    read-within c.args.window.now c.args.enc c.args.replaces c.args.extent c.args.stop c.args.byte (c.take_unit.new.steps - c.args.steps.now)
    c.take_unit.new.into.items c.in-Ends.glance c.requires.base (returns-in-Ends-clause-answers g c)
