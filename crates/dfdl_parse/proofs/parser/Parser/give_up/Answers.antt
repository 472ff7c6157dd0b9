use Rattle.std.proofs.Common.{false, subst, sym}
use Rattle.dfdl_parse.specs.Machines.{leave_failed}
use Rattle.dfdl_grammar.specs.Occurrences.{as_normal}
use Rattle.dfdl_parse.specs.Steps.{Moved}
use Rattle.dfdl_parse.specs.Shown.{state_of}
use Rattle.dfdl_parse.specs.declared.frame.Frame.{Frame}
use Rattle.dfdl_parse.specs.Moves.{Move}
use Rattle.dfdl_parse.specs.Shown.{Becomes}
use Rattle.dfdl_parse.proofs.SlotTakes.{on_ok, pass-moved}
use Rattle.std.proofs.Common.{OnOk}
use Rattle.dfdl_parse.specs.Slots.{before_failed, cause_of, closing_ended, content_ended, separation_at, slots_from}
use Rattle.dfdl_parse.proofs.SlotMoves.{closing-passes, ended-passes, failed-passes}
use Rattle.std.proofs.Common.{[]}
use Rattle.dfdl_bits.specs.Window.{Held}
use Rattle.dfdl_parse.specs.Shown.{HasSameLimits}
use Rattle.dfdl_parse.proofs.parser.Parser.give_up.Goals as goal

pub returns-in-Scope-clause-moved : goal.returns-in-Scope-clause-moved
returns-in-Scope-clause-moved c held =
    let old = c.args.self.now in
    subst (λ (f : Frame). Moved (leave_failed old.region.most c.args.terms.now held f c.args.end old.stack (state_of old)) false old.far c.end_scope.new.self held 0)
    (sym c.in-Scope.is) (c.end_scope.ensures.moved held)

pub returns-in-Instance-clause-moved : goal.returns-in-Instance-clause-moved
returns-in-Instance-clause-moved c held =
    let old = c.args.self.now in
    subst (λ (f : Frame). Moved (leave_failed old.region.most c.args.terms.now held f c.args.end old.stack (state_of old)) false old.far c.end_instance.new.self held 0)
    (sym c.in-Instance.is) (c.end_instance.ensures.moved held)

pub returns-in-Occurrence-clause-moved : goal.returns-in-Occurrence-clause-moved
returns-in-Occurrence-clause-moved c held =
    let old = c.args.self.now in
    subst (λ (f : Frame). Moved (leave_failed old.region.most c.args.terms.now held f c.args.end old.stack (state_of old)) false old.far c.fail_occurrence.new.self held 0)
    (sym c.in-Occurrence.is) (c.fail_occurrence.ensures.moved held)

pub returns-in-Before-clause-moved : goal.returns-in-Before-clause-moved
returns-in-Before-clause-moved c held =
    let old = c.args.self.now in
    let move : Move = before_failed held (separation_at c.args.terms.now c.in-Before.slot).initiated c.in-Before.slot (slots_from c.args.terms.now c.in-Before.slot) c.args.end old.stack (state_of old) in
    subst (λ (f : Frame). OnOk c.fail_before.result (Moved (leave_failed old.region.most c.args.terms.now held f c.args.end old.stack (state_of old)) false old.far c.fail_before.new.self held 0)) (sym c.in-Before.is)
    (on_ok c.fail_before.result (Becomes old move.machine c.fail_before.new.self) (Moved move false old.far c.fail_before.new.self held 0) (c.fail_before.ensures.becomes held)
    (pass-moved old c.fail_before.new.self held move (failed-passes held (separation_at c.args.terms.now c.in-Before.slot).initiated old.stack c.in-Before.slot (slots_from c.args.terms.now c.in-Before.slot) c.args.end (state_of old))))

pub returns-in-Content-clause-moved : goal.returns-in-Content-clause-moved
returns-in-Content-clause-moved c held =
    let old = c.args.self.now in
    let move : Move = content_ended held (separation_at c.args.terms.now c.in-Content.slot).initiated c.in-Content.slot c.in-Content.bit c.in-Content.empty (slots_from c.args.terms.now c.in-Content.slot) false (cause_of c.args.end) c.args.end old.stack (as_normal (state_of old)) in
    subst (λ (f : Frame). OnOk c.end_content.result (Moved (leave_failed old.region.most c.args.terms.now held f c.args.end old.stack (state_of old)) false old.far c.end_content.new.self held 0)) (sym c.in-Content.is)
    (on_ok c.end_content.result (Becomes old move.machine c.end_content.new.self) (Moved move false old.far c.end_content.new.self held 0) (c.end_content.ensures.becomes held)
    (pass-moved old c.end_content.new.self held move (ended-passes held (separation_at c.args.terms.now c.in-Content.slot).initiated old.stack c.in-Content.slot c.in-Content.bit c.in-Content.empty (slots_from c.args.terms.now c.in-Content.slot) false (cause_of c.args.end) c.args.end (as_normal (state_of old)))))

pub returns-in-Closing-clause-moved : goal.returns-in-Closing-clause-moved
returns-in-Closing-clause-moved c held =
    let old = c.args.self.now in
    let move : Move = closing_ended held (separation_at c.args.terms.now c.in-Closing.slot).initiated c.in-Closing.slot c.in-Closing.bit (slots_from c.args.terms.now c.in-Closing.slot) false c.args.end old.stack (state_of old) in
    subst (λ (f : Frame). OnOk c.end_closing.result (Moved (leave_failed old.region.most c.args.terms.now held f c.args.end old.stack (state_of old)) false old.far c.end_closing.new.self held 0)) (sym c.in-Closing.is)
    (on_ok c.end_closing.result (Becomes old move.machine c.end_closing.new.self) (Moved move false old.far c.end_closing.new.self held 0) (c.end_closing.ensures.becomes held)
    (pass-moved old c.end_closing.new.self held move (closing-passes held (separation_at c.args.terms.now c.in-Closing.slot).initiated old.stack c.in-Closing.slot c.in-Closing.bit (slots_from c.args.terms.now c.in-Closing.slot) false c.args.end (state_of old))))

pub returns-in-Before-clause-most : goal.returns-in-Before-clause-most
returns-in-Before-clause-most c =
    let old = c.args.self.now in
    let any : Held = record { bytes = []; base = 0; size = 0; ended = false } in
    let move : Move = before_failed any (separation_at c.args.terms.now c.in-Before.slot).initiated c.in-Before.slot (slots_from c.args.terms.now c.in-Before.slot) c.args.end old.stack (state_of old) in
    on_ok c.fail_before.result (Becomes old move.machine c.fail_before.new.self) (HasSameLimits old c.fail_before.new.self) (c.fail_before.ensures.becomes any) (λ there. there.limits)

pub returns-in-Content-clause-most : goal.returns-in-Content-clause-most
returns-in-Content-clause-most c =
    let old = c.args.self.now in
    let any : Held = record { bytes = []; base = 0; size = 0; ended = false } in
    let move : Move = content_ended any (separation_at c.args.terms.now c.in-Content.slot).initiated c.in-Content.slot c.in-Content.bit c.in-Content.empty (slots_from c.args.terms.now c.in-Content.slot) false (cause_of c.args.end) c.args.end old.stack (as_normal (state_of old)) in
    on_ok c.end_content.result (Becomes old move.machine c.end_content.new.self) (HasSameLimits old c.end_content.new.self) (c.end_content.ensures.becomes any) (λ there. there.limits)

pub returns-in-Closing-clause-most : goal.returns-in-Closing-clause-most
returns-in-Closing-clause-most c =
    let old = c.args.self.now in
    let any : Held = record { bytes = []; base = 0; size = 0; ended = false } in
    let move : Move = closing_ended any (separation_at c.args.terms.now c.in-Closing.slot).initiated c.in-Closing.slot c.in-Closing.bit (slots_from c.args.terms.now c.in-Closing.slot) false c.args.end old.stack (state_of old) in
    on_ok c.end_closing.result (Becomes old move.machine c.end_closing.new.self) (HasSameLimits old c.end_closing.new.self) (c.end_closing.ensures.becomes any) (λ there. there.limits)
