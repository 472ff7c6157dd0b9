use Rattle.std.proofs.Common.{List, ◌∷◌, Bool, ap, sym, ◌∙◌, subst, OnOk}
use Rattle.dfdl_terms.specs.declared.slots.Slot.{Slot}
use Rattle.dfdl_parse.specs.Shown.{Becomes, state_of}
use Rattle.dfdl_parse.specs.Slots.{count_slots, counted_slots, slots_from}
use Rattle.dfdl_parse.proofs.SlotCounts.{count-becomes}
use Rattle.dfdl_parse.proofs.SlotTakes.{on_ok}
use Rattle.dfdl_parse.proofs.parser.Parser.count_slots.Goals as goal

pub returns-in_ok-given-in-Some-clause-becomes : goal.returns-in_ok-given-in-Some-clause-becomes
returns-in_ok-given-in-Some-clause-becomes c held =
    let old = c.args.self.now in
    let mid = c.ask.new.self in
    let new = c.follow_count.new.self in
    let table = c.args.terms.now in
    let slot = c.args.slot in
    let own : Slot = c.in-Some.own.now in
    let later : List Slot = c.later_than-later.result.now in
    let initiated : Bool = c.is_initiated-initiated.result in
    let told : OnOk c.follow_count.result (Becomes old (count_slots table held initiated slot c.args.question (slots_from table slot) old.stack (state_of old)).machine new) =
    on_ok c.follow_count.result
    (Becomes mid (counted_slots held initiated slot own later c.count_told-count.result mid.stack (state_of mid)).machine new) _ (c.follow_count.ensures.becomes held)
    (count-becomes old mid new table held initiated slot c.args.question own later (slots_from table slot) c.in_ok-given-in-Some.given c.count_told-count.result
    (c.in-Some.ensures.some ∙ ap (λ (ls : List Slot). own ∷ ls) (sym c.later_than-later.ensures))
    c.in_ok-given-in-Some.ensures.given c.count_told-count.ensures c.in_ok-given-in-Some.ensures.reads c.in_ok-given-in-Some.ensures.same) in
    subst (λ (b : Bool). OnOk c.follow_count.result (Becomes old (count_slots table held b slot c.args.question (slots_from table slot) old.stack (state_of old)).machine new))
    c.is_initiated-initiated.ensures told
