use Rattle.std.proofs.Common.{List}
use Rattle.dfdl_grammar.specs.States.{State}
use Rattle.dfdl_grammar.specs.Slots.{taken_back}
use Rattle.dfdl_parse.specs.declared.frame.Frame.{Frame}
use Rattle.dfdl_parse.specs.Moves.{Machine}
use Rattle.dfdl_parse.specs.Shown.{Becomes, state_of}
use Rattle.dfdl_parse.specs.Slots.{goes_on}
use Rattle.dfdl_parse.proofs.SlotTakes.{becomes-then, on_ok}
use Rattle.dfdl_parse.proofs.parser.Parser.end_array.Goals as goal

pub returns-clause-becomes : goal.returns-clause-becomes
returns-clause-becomes c held cost =
    let old = c.args.self.now in
    let mid = c.take_back.new.self in
    let new = c.follow_slot.new.self in
    let next : List Frame → State → Machine = λ k s. (goes_on cost held c.args.initiated c.args.slot c.args.own.now c.args.later.now k s).machine in
    let m : Machine = record { focus = old.focus; stack = old.stack; state = taken_back c.args.here (state_of old) } in
    on_ok c.follow_slot.result (Becomes mid (next mid.stack (state_of mid)) new) (Becomes old (next m.stack m.state) new) (c.follow_slot.ensures.becomes held cost)
    (becomes-then old mid new m next c.take_back.ensures.back)
