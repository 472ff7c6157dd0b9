use Rattle.std.proofs.Common.{List, ◌∷◌, Bool, OnOk, subst, sym}
use Rattle.dfdl_terms.specs.declared.slots.Slot.{Slot}
use Rattle.dfdl_grammar.specs.declared.instead.Instead.TheVariants.{Nothing}
use Rattle.dfdl_grammar.specs.Occurrences.{as_normal}
use Rattle.dfdl_parse.specs.declared.parser.Parser.{Parser}
use Rattle.dfdl_parse.specs.Shown.{Becomes, state_of}
use Rattle.dfdl_parse.specs.Slots.{cause_of, content_ended, decided, separation_at}
use Rattle.dfdl_parse.proofs.SlotTakes.{on_ok}
use Rattle.dfdl_parse.proofs.parser.Parser.end_content.Goals as goal

pub returns-in-Some-clause-becomes : goal.returns-in-Some-clause-becomes
returns-in-Some-clause-becomes c held =
    let old = c.args.self.now in
    let new = c.decide_by.new.self in
    let slot = c.args.slot in
    let own : Slot = c.in-Some.own.now in
    let mid : Parser = record old { instead = Nothing } in
    let found : OnOk c.decide_by.result (Becomes old (content_ended held c.is_initiated-initiated.result slot c.args.bit c.args.empty
    (own ∷ c.later_than-later.result.now) c.args.moved (cause_of c.args.end) c.args.end old.stack (as_normal (state_of old))).machine new) =
    on_ok c.decide_by.result (Becomes mid (decided held c.is_initiated-initiated.result slot c.args.bit c.args.empty own c.later_than-later.result.now c.args.moved
    (cause_of c.args.end) c.args.end old.stack (as_normal (state_of old))).machine new) _ (c.decide_by.ensures.becomes held)
    (λ there. record { machine = there.machine; far = there.far; limits = there.limits }) in
    let told = subst (λ (initiated : Bool). OnOk c.decide_by.result (Becomes old (content_ended held initiated slot c.args.bit c.args.empty
    (own ∷ c.later_than-later.result.now) c.args.moved (cause_of c.args.end) c.args.end old.stack (as_normal (state_of old))).machine new))
    c.is_initiated-initiated.ensures found in
    let here = subst (λ (later : List Slot). OnOk c.decide_by.result (Becomes old (content_ended held (separation_at c.args.terms.now slot).initiated slot c.args.bit
    c.args.empty (own ∷ later) c.args.moved (cause_of c.args.end) c.args.end old.stack (as_normal (state_of old))).machine new))
    c.later_than-later.ensures told in
    subst (λ (all : List Slot). OnOk c.decide_by.result (Becomes old (content_ended held (separation_at c.args.terms.now slot).initiated slot c.args.bit
    c.args.empty all c.args.moved (cause_of c.args.end) c.args.end old.stack (as_normal (state_of old))).machine new))
    (sym c.in-Some.ensures.some) here
