use Rattle.dfdl_looks.specs.Tallies.{needs_from}
use Rattle.dfdl_parse.specs.declared.frame.Focus.TheVariants.{LookIn}
use Rattle.dfdl_parse.specs.Shown.{limits_of, state_of}
use Rattle.dfdl_parse.specs.Slots.{occurs}
use Rattle.dfdl_parse.proofs.SlotMoves.{occurs-passes}
use Rattle.dfdl_parse.proofs.SlotTakes.{answer-moved}
use Rattle.std.proofs.Common.{[], false, subst, sym}
use Rattle.dfdl_bits.specs.Window.{Held}
use Rattle.dfdl_looks.specs.Tallies.{nothing}
use Rattle.dfdl_parse.specs.declared.parser.Parser.{Parser}
use Rattle.dfdl_parse.specs.Shown.{HasSameLimits}
use Rattle.dfdl_parse.proofs.parser.Parser.take_in.Goals as goal

pub returns-in_ok-occur-in-Holds-clause-moved : goal.returns-in_ok-occur-in-Holds-clause-moved
returns-in_ok-occur-in-Holds-clause-moved c sight looks reading answers size =
    let old = c.args.self.now in
    answer-moved old c.occur.new.self c.see.new.self (limits_of old sight) (LookIn c.args.slot) sight
    (occurs (needs_from sight.base reading.tally) sight c.args.initiated c.args.slot c.args.body old.stack (state_of old)) reading c.args.told looks
    c.in-Holds.empty old.stack (state_of old) answers c.in-Holds.is
    (occurs-passes sight c.args.initiated old.stack (needs_from sight.base reading.tally) c.args.slot c.args.body (state_of old) c.in-Holds.empty)
    (c.in_ok-occur-in-Holds.ensures.becomes sight (needs_from sight.base reading.tally)) c.see.ensures

pub returns-in_ok-occur-in-Holds-clause-most : goal.returns-in_ok-occur-in-Holds-clause-most
returns-in_ok-occur-in-Holds-clause-most c =
    let any : Held = record { bytes = []; base = 0; size = 0; ended = false } in
    subst (λ (p : Parser). HasSameLimits c.args.self.now p) (sym c.see.ensures) (c.in_ok-occur-in-Holds.ensures.becomes any nothing).limits
