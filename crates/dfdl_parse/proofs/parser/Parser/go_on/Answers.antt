use Rattle.std.proofs.Common.{Option, false, subst, sym}
use Rattle.dfdl_parse.specs.Machines.{leave_done}
use Rattle.dfdl_parse.specs.Trials.{trial_done}
use Rattle.dfdl_parse.specs.declared.frame.Parts.{Parts}
use Rattle.dfdl_parse.specs.Steps.{Moved}
use Rattle.dfdl_grammar.specs.Occurrences.{as_normal}
use Rattle.dfdl_parse.specs.Shown.{limits_of, state_of}
use Rattle.dfdl_parse.specs.declared.frame.Frame.{Frame}
use Rattle.dfdl_parse.specs.Moves.{Move}
use Rattle.dfdl_parse.specs.Shown.{Becomes}
use Rattle.dfdl_parse.proofs.SlotTakes.{on_ok, pass-moved}
use Rattle.std.proofs.Common.{None, OnOk, nat_lt, true}
use Rattle.dfdl_grammar.specs.declared.end.End.TheVariants.{Done}
use Rattle.dfdl_parse.specs.Slots.{before_done, closing_ended, content_ended, goes_beside, separation_at, slots_from}
use Rattle.dfdl_parse.proofs.SlotMoves.{beside-passes, closing-passes, done-passes, ended-passes}
use Rattle.std.proofs.Common.{[]}
use Rattle.dfdl_bits.specs.Window.{Held}
use Rattle.dfdl_parse.specs.Shown.{HasSameLimits}
use Rattle.dfdl_parse.proofs.parser.Parser.go_on.Goals as goal

pub returns-in-Element-clause-moved : goal.returns-in-Element-clause-moved
returns-in-Element-clause-moved c held =
    subst (λ (f : Frame). Moved (leave_done (limits_of c.args.self.now held) c.args.terms.now held f c.args.self.now.stack (state_of c.args.self.now)) false c.args.self.now.far c.close.new.self held 0)
    (sym c.in-Element.is) (c.close.ensures.moved held)

pub returns-in-Spanning-clause-moved : goal.returns-in-Spanning-clause-moved
returns-in-Spanning-clause-moved c held =
    subst (λ (f : Frame). Moved (leave_done (limits_of c.args.self.now held) c.args.terms.now held f c.args.self.now.stack (state_of c.args.self.now)) false c.args.self.now.far c.end_span.new.self held 0)
    (sym c.in-Spanning.is) (c.end_span.ensures.moved held)

pub returns-in-Scope-clause-moved : goal.returns-in-Scope-clause-moved
returns-in-Scope-clause-moved c held =
    subst (λ (f : Frame). Moved (leave_done (limits_of c.args.self.now held) c.args.terms.now held f c.args.self.now.stack (state_of c.args.self.now)) false c.args.self.now.far c.end_scope.new.self held 0)
    (sym c.in-Scope.is) (c.end_scope.ensures.moved held)

pub returns-in-Instance-clause-moved : goal.returns-in-Instance-clause-moved
returns-in-Instance-clause-moved c held =
    let old = c.args.self.now in
    subst (λ (f : Frame). Moved (leave_done (limits_of old held) c.args.terms.now held f old.stack (state_of old)) false old.far c.end_instance.new.self held 0)
    (sym c.in-Instance.is) (c.end_instance.ensures.moved held)

pub returns-in-Trial-clause-moved : goal.returns-in-Trial-clause-moved
returns-in-Trial-clause-moved c held =
    let old = c.args.self.now in
    subst (λ (f : Frame). Moved (leave_done (limits_of old held) c.args.terms.now held f old.stack (state_of old)) false old.far c.finish_trial.new.self held 0)
    (sym c.in-Trial.is)
    (subst (λ (p : Option Parts). Moved (trial_done held p c.in-Trial.next old.stack (state_of old)) false old.far c.finish_trial.new.self held 0)
    c.parts_of-parts.ensures (c.finish_trial.ensures.moved held))

pub returns-in-Branch-clause-moved : goal.returns-in-Branch-clause-moved
returns-in-Branch-clause-moved c held =
    let old = c.args.self.now in
    subst (λ (f : Frame). Moved (leave_done (limits_of old held) c.args.terms.now held f old.stack (state_of old)) false old.far c.end_trial.new.self held 0)
    (sym c.in-Branch.is) (c.end_trial.ensures.moved held)

pub returns-in-Before-clause-moved : goal.returns-in-Before-clause-moved
returns-in-Before-clause-moved c held =
    let old = c.args.self.now in
    let move : Move = before_done held c.in-Before.slot (slots_from c.args.terms.now c.in-Before.slot) old.stack (state_of old) in
    subst (λ (f : Frame). OnOk c.finish_before.result (Moved (leave_done (limits_of old held) c.args.terms.now held f old.stack (state_of old)) false old.far c.finish_before.new.self held 0)) (sym c.in-Before.is)
    (on_ok c.finish_before.result (Becomes old move.machine c.finish_before.new.self) (Moved move false old.far c.finish_before.new.self held 0) (c.finish_before.ensures.becomes held)
    (pass-moved old c.finish_before.new.self held move (done-passes held false old.stack c.in-Before.slot (slots_from c.args.terms.now c.in-Before.slot) (state_of old))))

pub returns-in-Content-clause-moved : goal.returns-in-Content-clause-moved
returns-in-Content-clause-moved c held =
    let old = c.args.self.now in
    let move : Move = content_ended held (separation_at c.args.terms.now c.in-Content.slot).initiated c.in-Content.slot c.in-Content.bit c.in-Content.empty (slots_from c.args.terms.now c.in-Content.slot) (nat_lt c.in-Content.bit old.at) None Done old.stack (as_normal (state_of old)) in
    subst (λ (f : Frame). OnOk c.end_content.result (Moved (leave_done (limits_of old held) c.args.terms.now held f old.stack (state_of old)) false old.far c.end_content.new.self held 0)) (sym c.in-Content.is)
    (on_ok c.end_content.result (Becomes old move.machine c.end_content.new.self) (Moved move false old.far c.end_content.new.self held 0) (c.end_content.ensures.becomes held)
    (pass-moved old c.end_content.new.self held move (ended-passes held (separation_at c.args.terms.now c.in-Content.slot).initiated old.stack c.in-Content.slot c.in-Content.bit c.in-Content.empty (slots_from c.args.terms.now c.in-Content.slot) (nat_lt c.in-Content.bit old.at) None Done (as_normal (state_of old)))))

pub returns-in-Closing-clause-moved : goal.returns-in-Closing-clause-moved
returns-in-Closing-clause-moved c held =
    let old = c.args.self.now in
    let move : Move = closing_ended held (separation_at c.args.terms.now c.in-Closing.slot).initiated c.in-Closing.slot c.in-Closing.bit (slots_from c.args.terms.now c.in-Closing.slot) true Done old.stack (state_of old) in
    subst (λ (f : Frame). OnOk c.end_closing.result (Moved (leave_done (limits_of old held) c.args.terms.now held f old.stack (state_of old)) false old.far c.end_closing.new.self held 0)) (sym c.in-Closing.is)
    (on_ok c.end_closing.result (Becomes old move.machine c.end_closing.new.self) (Moved move false old.far c.end_closing.new.self held 0) (c.end_closing.ensures.becomes held)
    (pass-moved old c.end_closing.new.self held move (closing-passes held (separation_at c.args.terms.now c.in-Closing.slot).initiated old.stack c.in-Closing.slot c.in-Closing.bit (slots_from c.args.terms.now c.in-Closing.slot) true Done (state_of old))))

pub returns-in-Aside-clause-moved : goal.returns-in-Aside-clause-moved
returns-in-Aside-clause-moved c held =
    let old = c.args.self.now in
    let move : Move = goes_beside held (separation_at c.args.terms.now c.in-Aside.slot).initiated c.in-Aside.slot (slots_from c.args.terms.now c.in-Aside.slot) old.stack (state_of old) in
    subst (λ (f : Frame). OnOk c.go_beside.result (Moved (leave_done (limits_of old held) c.args.terms.now held f old.stack (state_of old)) false old.far c.go_beside.new.self held 0)) (sym c.in-Aside.is)
    (on_ok c.go_beside.result (Becomes old move.machine c.go_beside.new.self) (Moved move false old.far c.go_beside.new.self held 0) (c.go_beside.ensures.becomes held)
    (pass-moved old c.go_beside.new.self held move (beside-passes held (separation_at c.args.terms.now c.in-Aside.slot).initiated old.stack c.in-Aside.slot (slots_from c.args.terms.now c.in-Aside.slot) (state_of old))))

pub returns-in-Before-clause-most : goal.returns-in-Before-clause-most
returns-in-Before-clause-most c =
    let old = c.args.self.now in
    let any : Held = record { bytes = []; base = 0; size = 0; ended = false } in
    let move : Move = before_done any c.in-Before.slot (slots_from c.args.terms.now c.in-Before.slot) old.stack (state_of old) in
    on_ok c.finish_before.result (Becomes old move.machine c.finish_before.new.self) (HasSameLimits old c.finish_before.new.self) (c.finish_before.ensures.becomes any) (λ there. there.limits)

pub returns-in-Content-clause-most : goal.returns-in-Content-clause-most
returns-in-Content-clause-most c =
    let old = c.args.self.now in
    let any : Held = record { bytes = []; base = 0; size = 0; ended = false } in
    let move : Move = content_ended any (separation_at c.args.terms.now c.in-Content.slot).initiated c.in-Content.slot c.in-Content.bit c.in-Content.empty (slots_from c.args.terms.now c.in-Content.slot) (nat_lt c.in-Content.bit old.at) None Done old.stack (as_normal (state_of old)) in
    on_ok c.end_content.result (Becomes old move.machine c.end_content.new.self) (HasSameLimits old c.end_content.new.self) (c.end_content.ensures.becomes any) (λ there. there.limits)

pub returns-in-Closing-clause-most : goal.returns-in-Closing-clause-most
returns-in-Closing-clause-most c =
    let old = c.args.self.now in
    let any : Held = record { bytes = []; base = 0; size = 0; ended = false } in
    let move : Move = closing_ended any (separation_at c.args.terms.now c.in-Closing.slot).initiated c.in-Closing.slot c.in-Closing.bit (slots_from c.args.terms.now c.in-Closing.slot) true Done old.stack (state_of old) in
    on_ok c.end_closing.result (Becomes old move.machine c.end_closing.new.self) (HasSameLimits old c.end_closing.new.self) (c.end_closing.ensures.becomes any) (λ there. there.limits)

pub returns-in-Aside-clause-most : goal.returns-in-Aside-clause-most
returns-in-Aside-clause-most c =
    let old = c.args.self.now in
    let any : Held = record { bytes = []; base = 0; size = 0; ended = false } in
    let move : Move = goes_beside any (separation_at c.args.terms.now c.in-Aside.slot).initiated c.in-Aside.slot (slots_from c.args.terms.now c.in-Aside.slot) old.stack (state_of old) in
    on_ok c.go_beside.result (Becomes old move.machine c.go_beside.new.self) (HasSameLimits old c.go_beside.new.self) (c.go_beside.ensures.becomes any) (λ there. there.limits)
