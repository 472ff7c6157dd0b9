use Rattle.std.proofs.Common.{[], false}
use Rattle.dfdl_bits.specs.Window.{Held}
use Rattle.dfdl_parse.specs.Moves.{Move}
use Rattle.dfdl_parse.specs.Shown.{Becomes, HasSameLimits, state_of}
use Rattle.dfdl_parse.specs.Slots.{count_slots, separation_at, slots_from}
use Rattle.dfdl_parse.specs.Steps.{Moved}
use Rattle.dfdl_parse.proofs.SlotMoves.{count-passes}
use Rattle.dfdl_parse.proofs.SlotTakes.{on_ok, row-moved}
use Rattle.dfdl_parse.proofs.parser.Parser.ask_count.Goals as goal

pub returns-clause-moved : goal.returns-clause-moved
returns-clause-moved c held =
    let old = c.args.self.now in
    let new = c.count_slots.new.self in
    let table = c.args.terms.now in
    let move : Move = count_slots table held (separation_at table c.args.slot).initiated c.args.slot c.args.question (slots_from table c.args.slot) old.stack (state_of old) in
    on_ok c.count_slots.result (Becomes old move.machine new) (Moved move false old.far new held 0) (c.count_slots.ensures.becomes held)
    (row-moved old new held move
    (count-passes held (separation_at table c.args.slot).initiated old.stack table c.args.slot c.args.question (slots_from table c.args.slot) (state_of old)))

pub returns-clause-most : goal.returns-clause-most
returns-clause-most c =
    let old = c.args.self.now in
    let new = c.count_slots.new.self in
    let table = c.args.terms.now in
    let any : Held = record { bytes = []; base = 0; size = 0; ended = false } in
    let move : Move = count_slots table any (separation_at table c.args.slot).initiated c.args.slot c.args.question (slots_from table c.args.slot) old.stack (state_of old) in
    on_ok c.count_slots.result (Becomes old move.machine new) (HasSameLimits old new) (c.count_slots.ensures.becomes any) (λ there. there.limits)
