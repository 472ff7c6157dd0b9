use Rattle.std.proofs.Common.{List}
use Rattle.dfdl_grammar.specs.States.{State}
use Rattle.dfdl_grammar.specs.Slots.{closed_slot, emptied}
use Rattle.dfdl_parse.specs.declared.frame.Frame.{Frame}
use Rattle.dfdl_parse.specs.Moves.{Machine}
use Rattle.dfdl_parse.specs.Shown.{Becomes, state_of}
use Rattle.dfdl_parse.specs.Slots.{goes_on}
use Rattle.dfdl_parse.proofs.SlotTakes.{becomes-then, on_ok}
use Rattle.dfdl_parse.proofs.parser.Parser.drop_slot.Goals as goal

pub returns-clause-becomes : goal.returns-clause-becomes
returns-clause-becomes c held cost =
    let old = c.args.self.now in
    let mid = c.empty_slot.new.self in
    let new = c.keep_slot.new.self in
    let next : List Frame → State → Machine = λ k s. (goes_on cost held c.args.initiated c.args.slot c.args.own.now c.args.later.now k (closed_slot c.args.here s)).machine in
    let m : Machine = record { focus = old.focus; stack = old.stack; state = emptied c.args.bit (state_of old) } in
    on_ok c.keep_slot.result (Becomes mid (next mid.stack (state_of mid)) new) (Becomes old (next m.stack m.state) new) (c.keep_slot.ensures.becomes held cost)
    (becomes-then old mid new m next c.empty_slot.ensures)
