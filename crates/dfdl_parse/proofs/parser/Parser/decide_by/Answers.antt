use Rattle.std.proofs.Common.{Bool, Option, OnOk, subst}
use Rattle.dfdl_report.specs.declared.cause.ParseCause.{ParseCause}
use Rattle.dfdl_separators.specs.declared.moves.SlotMove.{SlotMove}
use Rattle.dfdl_separators.specs.declared.moves.SlotSeen.TheVariants as seen
use Rattle.dfdl_separators.specs.declared.progress.Progress.{Progress}
use Rattle.dfdl_separators.specs.Groups.{group_after, move_at}
use Rattle.dfdl_separators.specs.Verdicts.{outcome}
use Rattle.dfdl_grammar.specs.Slots.{is_blank}
use Rattle.dfdl_parse.specs.Shown.{Becomes, state_of}
use Rattle.dfdl_parse.specs.Slots.{decide, decided}
use Rattle.dfdl_parse.proofs.parser.Parser.decide_by.Goals as goal

pub returns-clause-becomes : goal.returns-clause-becomes
returns-clause-becomes c held =
    let old = c.args.self.now in
    let new = c.decide.new.self in
    let slot = c.args.slot in
    let own = c.args.own.now in
    let later = c.args.later.now in
    let failure = c.cause_of-failure.result in
    let resolved = c.is_settled-resolved.result in
    subst (λ (f : Option ParseCause). OnOk c.decide.result (Becomes old
    (decided held c.args.initiated slot c.args.bit c.args.empty own later c.args.moved f c.args.end old.stack (state_of old)).machine new)) c.cause_of-failure.ensures
    (subst (λ (r : Bool). OnOk c.decide.result (Becomes old (decide held c.args.initiated slot c.args.bit own later (is_blank (outcome c.args.moved c.args.empty failure r))
    (group_after slot.progress (seen.Ended c.args.moved c.args.empty failure r)) (move_at slot.progress (seen.Ended c.args.moved c.args.empty failure r)) c.args.end
    old.stack (state_of old)).machine new)) c.is_settled-resolved.ensures
    (subst (λ (b : Bool). OnOk c.decide.result (Becomes old (decide held c.args.initiated slot c.args.bit own later b
    (group_after slot.progress (seen.Ended c.args.moved c.args.empty failure resolved)) (move_at slot.progress (seen.Ended c.args.moved c.args.empty failure resolved)) c.args.end
    old.stack (state_of old)).machine new)) c.is_blank-blank.ensures
    (subst (λ (p : Progress). OnOk c.decide.result (Becomes old (decide held c.args.initiated slot c.args.bit own later c.is_blank-blank.result
    p (move_at slot.progress (seen.Ended c.args.moved c.args.empty failure resolved)) c.args.end
    old.stack (state_of old)).machine new)) c.after-after.ensures
    (subst (λ (m : SlotMove). OnOk c.decide.result (Becomes old (decide held c.args.initiated slot c.args.bit own later c.is_blank-blank.result
    c.after-after.result m c.args.end old.stack (state_of old)).machine new)) c.move_at-to.ensures (c.decide.ensures.becomes held)))))
