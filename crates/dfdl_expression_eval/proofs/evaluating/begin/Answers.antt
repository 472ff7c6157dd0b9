use Rattle.std.proofs.Common.{arith, ◌≡◌, ◌<◌, ◌+◌, length, Some, None, ap, sym, subst, ◌∙◌}
use Rattle.std.specs.List.{slice_get}
use Rattle.dfdl_expressions.specs.Nodes.{operands_of}
use Rattle.dfdl_expression_eval.specs.Machine.{frames_left, held_by, left_over, weight_of}
use Rattle.dfdl_expression_eval.specs.Meanings.{course_of}
use Rattle.dfdl_expression_eval.specs.Nesting.{IsNested}
use Rattle.dfdl_expression_eval.specs.Runs.{run}
use Rattle.dfdl_expression_eval.specs.declared.scratch.Focus.TheVariants.{Begin}
use Rattle.dfdl_expression_eval.proofs.Beginnings.{begin_first, begin_held, begin_less, begin_none}
use Rattle.dfdl_expression_eval.proofs.Nested.{frame_room, lean_at, never, opened}
use Rattle.dfdl_expression_eval.proofs.evaluating.begin.Goals as goal

pub returns-in_ok-put_frame-in-Some-operand-clause-held : goal.returns-in_ok-put_frame-in-Some-operand-clause-held
returns-in_ok-put_frame-in-Some-operand-clause-held g c =
    ap held_by c.in_ok-put_frame-in-Some-operand.ensures.items
    ∙ begin_held c.args.scratch.now.frames.items c.args.number (length c.args.scratch.now.values.items) c.requires.held

pub returns-in_ok-put_frame-in-Some-operand-clause-comes : goal.returns-in_ok-put_frame-in-Some-operand-clause-comes
returns-in_ok-put_frame-in-Some-operand-clause-comes g c = λ go.
    let nodes = c.args.expression.now in
    let s = c.args.scratch.now in
    let first = c.in-Some-operand.first in
    let operand : slice_get (operands_of c.in-Some.node.now) 0 ≡ Some first = sym c.operand.ensures ∙ c.in-Some-operand.is in
    ap (λ a. run g.E.Env.answers g.E.Env.read a c.args.env.now)
    (ap (λ fs. course_of nodes first (left_over nodes fs s.values.items go)) c.in_ok-put_frame-in-Some-operand.ensures.items
    ∙ begin_first nodes s.frames.items s.values.items c.args.number c.in-Some.node.now first go c.requires.sound c.in-Some.ensures.some operand c.requires.held)

pub returns-in_ok-put_frame-in-Some-operand-clause-less : goal.returns-in_ok-put_frame-in-Some-operand-clause-less
returns-in_ok-put_frame-in-Some-operand-clause-less g c =
    let nodes = c.args.expression.now in
    let fs = c.args.scratch.now.frames.items in
    let first = c.in-Some-operand.first in
    let operand : slice_get (operands_of c.in-Some.node.now) 0 ≡ Some first = sym c.operand.ensures ∙ c.in-Some-operand.is in
    subst (λ gs. weight_of nodes first + frames_left nodes gs < weight_of nodes c.args.number + frames_left nodes fs)
    (sym c.in_ok-put_frame-in-Some-operand.ensures.items)
    (begin_less nodes fs c.args.number c.in-Some.node.now first c.requires.sound c.in-Some.ensures.some operand)

pub returns-in_ok-act-in-None-clause-comes : goal.returns-in_ok-act-in-None-clause-comes
returns-in_ok-act-in-None-clause-comes g c = λ go.
    let nodes = c.args.expression.now in
    let s = c.args.scratch.now in
    let after = left_over nodes s.frames.items s.values.items go in
    let operand : slice_get (operands_of c.in-Some.node.now) 0 ≡ None = sym c.operand.ensures ∙ c.in-None.is in
    sym (c.in_ok-act-in-None.ensures.comes after)
    ∙ ap (λ a. run g.E.Env.answers g.E.Env.read a c.args.env.now) (begin_none nodes c.args.number c.in-Some.node.now after c.requires.sound c.in-Some.ensures.some operand)

pub returns-in_ok-put_frame-in-Some-operand-clause-nested : goal.returns-in_ok-put_frame-in-Some-operand-clause-nested
returns-in_ok-put_frame-in-Some-operand-clause-nested g c = λ nested.
    let nodes = c.args.expression.now in
    let fs = c.args.scratch.now.frames.items in
    let first = c.in-Some-operand.first in
    let operand : slice_get (operands_of c.in-Some.node.now) 0 ≡ Some first = sym c.operand.ensures ∙ c.in-Some-operand.is in
    subst (λ gs. IsNested nodes gs (Begin first)) (sym c.in_ok-put_frame-in-Some-operand.ensures.items)
    (opened nodes fs c.args.number c.in-Some.node.now 0 first c.requires.sound c.in-Some.ensures.some operand nested.nested nested.begins)

pub returns-in_err-put_frame-in-Some-operand-clause-memory : goal.returns-in_err-put_frame-in-Some-operand-clause-memory
returns-in_err-put_frame-in-Some-operand-clause-memory g c = λ room served nested.
    never (c.in_err-put_frame-in-Some-operand.ensures.room
    (frame_room c.args.expression.now c.args.scratch.now.frames.items c.args.number room _ nested.nested nested.begins served.few served.has.frames))

pub returns-in_err-act-in-None-clause-memory : goal.returns-in_err-act-in-None-clause-memory
returns-in_err-act-in-None-clause-memory g c = λ room served nested.
    never (c.in_err-act-in-None.ensures.memory
    (lean_at c.args.expression.now c.args.number c.in-Some.node.now served.light c.in-Some.ensures.some) (omega arith) served.lean)
