use Rattle.std.proofs.Common.{OnOk, subst, sym}
use Rattle.dfdl_separators.specs.declared.moves.SlotMove.{SlotMove}
use Rattle.dfdl_separators.specs.declared.verdict.Here.{Here}
use Rattle.dfdl_grammar.specs.Slots.{taken_back}
use Rattle.dfdl_parse.specs.declared.frame.SlotPlace.{SlotPlace}
use Rattle.dfdl_parse.specs.Shown.{Becomes, state_of}
use Rattle.dfdl_parse.specs.Slots.{settle, goes_on}
use Rattle.dfdl_parse.proofs.parser.Parser.settle.Goals as goal

pub returns-in-EndArray-clause-becomes : goal.returns-in-EndArray-clause-becomes
returns-in-EndArray-clause-becomes c held cost =
    let old = c.args.self.now in
    let new = c.end_array.new.self in
    subst (λ (move : SlotMove). OnOk c.end_array.result (Becomes old (settle cost held c.args.initiated c.args.slot c.args.bit c.args.own.now c.args.later.now c.args.after move c.args.end old.stack (state_of old)).machine new)) (sym c.in-EndArray.is)
    (subst (λ (here : Here). OnOk c.end_array.result (Becomes old (goes_on cost held c.args.initiated (record c.args.slot { progress = c.args.after; left = 0 }) c.args.own.now c.args.later.now
    old.stack (taken_back here (state_of old))).machine new)) c.here_of-here.ensures
    (subst (λ (place : SlotPlace). OnOk c.end_array.result (Becomes old (goes_on cost held c.args.initiated place c.args.own.now c.args.later.now
    old.stack (taken_back c.here_of-here.result (state_of old))).machine new)) c.without_more.ensures (c.end_array.ensures.becomes held cost)))
