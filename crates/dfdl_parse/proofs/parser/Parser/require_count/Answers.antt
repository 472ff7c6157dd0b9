use Rattle.std.proofs.Common.{ℕ, Ok, OnOk, Option, subst, sym}
use Rattle.dfdl_looks.specs.Tallies.{one_row}
use Rattle.dfdl_parse.specs.declared.frame.SlotPlace.{SlotPlace}
use Rattle.dfdl_parse.specs.Shown.{Becomes, state_of}
use Rattle.dfdl_parse.specs.Slots.{counted_slots, goes_on}
use Rattle.dfdl_parse.proofs.parser.Parser.require_count.Goals as goal

pub returns-in-Some-clause-becomes : goal.returns-in-Some-clause-becomes
returns-in-Some-clause-becomes c held =
    let old = c.args.self.now in
    subst (λ (count : Option ℕ). OnOk c.follow_slot.result (Becomes old
    (counted_slots held c.args.initiated c.args.slot c.args.own.now c.args.later.now (Ok count) old.stack (state_of old)).machine c.follow_slot.new.self))
    (sym c.in-Some.is)
    (subst (λ (slot : SlotPlace). OnOk c.follow_slot.result (Becomes old
    (goes_on one_row held c.args.initiated slot c.args.own.now c.args.later.now old.stack (state_of old)).machine c.follow_slot.new.self))
    c.requiring.ensures (c.follow_slot.ensures.becomes held one_row))
