use Rattle.std.proofs.Common.{Bool, OnOk, cond, subst, sym, ◌∙◌}
use Rattle.dfdl_grammar.specs.Slots.{taken_back}
use Rattle.dfdl_parse.specs.Shown.{Becomes, state_of}
use Rattle.dfdl_parse.specs.Slots.{goes_on}
use Rattle.dfdl_parse.proofs.parser.Parser.skip_slot.Goals as goal

pub returns-then-opens_before-clause-becomes : goal.returns-then-opens_before-clause-becomes
returns-then-opens_before-clause-becomes c held cost =
    let old = c.args.self.now in
    subst (λ (b : Bool). OnOk c.end_array.result (Becomes old (goes_on cost held c.args.initiated c.args.slot c.args.own.now c.args.later.now old.stack
    (cond b (taken_back c.args.here (state_of old)) (state_of old))).machine c.end_array.new.self))
    (sym (sym c.opens_before.ensures ∙ c.if-opens_before.true)) (c.end_array.ensures.becomes held cost)
