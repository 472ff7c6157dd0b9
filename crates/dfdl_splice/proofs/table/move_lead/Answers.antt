use Rattle.std.proofs.Common.{◌*◌, arith, length-append}
use Rattle.dfdl_splice.specs.Splicing.{known_bits}
use Rattle.dfdl_splice.specs.Entries.{slots, stretch_of}
use Rattle.std.proofs.Common.{drop}
use Rattle.dfdl_splice.proofs.Leads.{lead_room}
use Rattle.dfdl_splice.proofs.table.move_lead.Goals as goal

pub append_from-requires-clause-room : goal.append_from-requires-clause-room
append_from-requires-clause-room c =
    let i = c.loop-at.invariant in
    lead_room c.args.arena.now.bits c.args.entries.now c.loop-at.at c.in-Known.piece c.in-Known.begin c.in-Known.count (8 * c.loop-at.front.room) _
    c.loop-at.front.bits _ c.in-Known.is (omega arith) i.within i.lead
    (omega (arith, i.room, c.requires.room, length-append c.args.front.now.bits (known_bits (stretch_of (slots c.args.arena.now.bits (drop c.args.head c.args.entries.now))).known)))
