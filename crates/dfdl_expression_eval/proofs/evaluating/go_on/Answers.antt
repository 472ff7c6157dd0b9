use Rattle.std.proofs.Common.{◌≤◌, vec_capacity, ◌≡◌, ◌<◌, ◌+◌, ◌-◌, ◌++◌, ◌∷◌, [], length, take, drop, Some, None, ap, sym, subst, ◌∙◌}
use Rattle.std.specs.List.{slice_get}
use Rattle.dfdl_expressions.specs.Nodes.{operands_of}
use Rattle.dfdl_expression_eval.specs.Machine.{acted, frames_left, held_by, left_over, weight_left, weight_of}
use Rattle.dfdl_expression_eval.specs.Meanings.{course_of}
use Rattle.dfdl_expression_eval.specs.Runs.{run, told}
use Rattle.dfdl_expression_eval.specs.Nesting.{IsNested}
use Rattle.dfdl_expression_eval.specs.declared.scratch.Focus.TheVariants.{Begin}
use Rattle.dfdl_expression_eval.proofs.Nested.{ended, frame_room, last_nested, lean_at, never, opened, place_room, value_room}
use Rattle.dfdl_expression_eval.proofs.Nexts.{close_is, last_comes, last_values, next_comes, next_held, next_less}
use Rattle.dfdl_expression_eval.proofs.evaluating.go_on.Goals as goal

pub returns-in_ok-put_frame-in-Some-clause-held : goal.returns-in_ok-put_frame-in-Some-clause-held
returns-in_ok-put_frame-in-Some-clause-held g c =
    let s = c.args.scratch.now in
    ap held_by c.in_ok-put_frame-in-Some.ensures.items
    ∙ next_held s.frames.items c.args.frame s.values.items c.args.value c.requires.held
    ∙ sym (ap (λ l. length l) c.in_ok-put_value.ensures.items)

pub returns-in_ok-put_frame-in-Some-clause-comes : goal.returns-in_ok-put_frame-in-Some-clause-comes
returns-in_ok-put_frame-in-Some-clause-comes g c = λ nodes go is.
    let s = c.args.scratch.now in
    let next = c.in-Some.next in
    let n = c.args.node.now in
    let operand : slice_get (operands_of n) (c.args.frame.done + 1) ≡ Some next = sym c.operand.ensures ∙ c.in-Some.is in
    ap (λ a. run g.E.Env.answers g.E.Env.read a c.args.env.now)
    (ap (λ fs. course_of nodes next (left_over nodes fs c.put_value.new.values.items go)) c.in_ok-put_frame-in-Some.ensures.items
    ∙ ap (λ l. course_of nodes next (left_over nodes (s.frames.items ++ record { node = c.args.frame.node; done = c.args.frame.done + 1 } ∷ []) l go)) c.in_ok-put_value.ensures.items
    ∙ next_comes nodes s.frames.items s.values.items c.args.frame n c.args.value next go c.requires.held is operand)

pub returns-in_ok-put_frame-in-Some-clause-less : goal.returns-in_ok-put_frame-in-Some-clause-less
returns-in_ok-put_frame-in-Some-clause-less g c = λ nodes is.
    let fs = c.args.scratch.now.frames.items in
    let next = c.in-Some.next in
    let n = c.args.node.now in
    let operand : slice_get (operands_of n) (c.args.frame.done + 1) ≡ Some next = sym c.operand.ensures ∙ c.in-Some.is in
    subst (λ gs. weight_of nodes next + frames_left nodes gs < frames_left nodes fs + weight_left (weight_of nodes) (Some n) c.args.frame.done)
    (sym c.in_ok-put_frame-in-Some.ensures.items)
    (next_less nodes fs c.args.frame n next is operand)

pub returns-in_ok-came-in-None-clause-comes : goal.returns-in_ok-came-in-None-clause-comes
returns-in_ok-came-in-None-clause-comes g c = λ nodes go is.
    let s = c.args.scratch.now in
    let fs = s.frames.items in
    let vs = s.values.items in
    let v = c.args.value in
    let n = c.args.node.now in
    let done = c.args.frame.done in
    let held = held_by fs in
    let after = left_over nodes fs (take held vs) go in
    let env = c.args.env.now in
    let operand : slice_get (operands_of n) (done + 1) ≡ None = sym c.operand.ensures ∙ c.in-None.is in
    let put : c.put_value.new.values.items ≡ vs ++ v ∷ [] = c.in_ok-put_value.ensures.items in
    let closed : c.close.new.values.items ≡ take held vs =
    c.close.ensures.items ∙ ap (λ l. take (length l - (done + 1)) l) put ∙ close_is vs v held done c.requires.held in
    let last : c.last_of.result.now ≡ drop held vs ++ v ∷ [] =
    c.last_of.ensures ∙ ap (λ l. drop (length l - (done + 1)) l) (c.deref.ensures.value ∙ put) ∙ last_values vs v held done c.requires.held in
    ap (λ l. told c.in_ok-came-in-None.came c.act.new.env (λ w t. run g.E.Env.answers g.E.Env.read (left_over nodes fs l go w) t)) closed
    ∙ sym (c.in_ok-came-in-None.ensures.comes after)
    ∙ ap (λ l. run g.E.Env.answers g.E.Env.read (acted n l after) env) last
    ∙ ap (λ a. run g.E.Env.answers g.E.Env.read a env) (last_comes nodes fs vs c.args.frame n v after c.requires.held operand)

pub returns-in_ok-put_frame-in-Some-clause-nested : goal.returns-in_ok-put_frame-in-Some-clause-nested
returns-in_ok-put_frame-in-Some-clause-nested g c = λ nodes is sound nested.
    let fs = c.args.scratch.now.frames.items in
    let next = c.in-Some.next in
    let n = c.args.node.now in
    let operand : slice_get (operands_of n) (c.args.frame.done + 1) ≡ Some next = sym c.operand.ensures ∙ c.in-Some.is in
    let last = last_nested nodes (length nodes) fs c.args.frame nested in
    subst (λ gs. IsNested nodes gs (Begin next)) (sym c.in_ok-put_frame-in-Some.ensures.items)
    (opened nodes fs c.args.frame.node n (c.args.frame.done + 1) next sound is operand last.others last.low)

pub returns-in_ok-came-in-None-clause-nested : goal.returns-in_ok-came-in-None-clause-nested
returns-in_ok-came-in-None-clause-nested g c = λ nodes is sound nested.
    ended nodes c.args.scratch.now.frames.items c.args.frame c.in_ok-came-in-None.came nested

pub returns-in_err-put_value-clause-memory : goal.returns-in_err-put_value-clause-memory
returns-in_err-put_value-clause-memory g c = λ nodes room is served nested.
    never (c.in_err-put_value.ensures.room
    (value_room nodes c.args.scratch.now.frames.items c.args.frame _ room _ nested c.requires.held served.operands served.has.values))

pub returns-in_err-put_frame-in-Some-clause-memory : goal.returns-in_err-put_frame-in-Some-clause-memory
returns-in_err-put_frame-in-Some-clause-memory g c = λ nodes room is served nested.
    let fs = c.args.scratch.now.frames.items in
    let last = last_nested nodes (length nodes) fs c.args.frame nested in
    never (c.in_err-put_frame-in-Some.ensures.room (frame_room nodes fs c.args.frame.node room _ last.others last.low served.few served.has.frames))

pub returns-in_err-came-in-None-clause-memory : goal.returns-in_err-came-in-None-clause-memory
returns-in_err-came-in-None-clause-memory g c = λ nodes room is served nested.
    let fs = c.args.scratch.now.frames.items in
    let last = last_nested nodes (length nodes) fs c.args.frame nested in
    let vs = c.put_value.new.values.items in
    let few = place_room nodes c.args.frame c.args.node.now vs room (vec_capacity c.args.scratch.now.places) is last.waits served.operands served.has.places in
    let same = c.last_of.ensures ∙ ap (λ l. drop (length l - (c.args.frame.done + 1)) l) c.deref.ensures.value in
    never (c.in_err-came-in-None.ensures.memory (lean_at nodes c.args.frame.node c.args.node.now served.light is)
    (subst (λ l. length l ≤ vec_capacity c.args.scratch.now.places) (sym same) few) served.lean)
