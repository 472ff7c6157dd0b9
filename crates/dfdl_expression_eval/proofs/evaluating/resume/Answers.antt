use Rattle.std.proofs.Common.{length, ◌≡◌, ◌<◌, ◌+◌, ◌++◌, ◌∷◌, [], List, take, drop, Some, ap, sym, subst, ◌∙◌}
use Rattle.std.specs.List.{slice_get}
use Rattle.dfdl_value.specs.declared.value.Value.{Value as ValueOf}
use Rattle.dfdl_value.specs.declared.value.Value.TheVariants.{Truth}
use Rattle.dfdl_expressions.specs.declared.node.Node.{Node as NodeOf}
use Rattle.dfdl_expression_eval.specs.Asks.{Asks}
use Rattle.dfdl_expression_eval.specs.Machine.{comes_to, focus_left, frames_left, gone_on, held_by, left_over, weight_left, weight_of}
use Rattle.dfdl_expression_eval.specs.Meanings.{course_of}
use Rattle.dfdl_expression_eval.specs.Runs.{run}
use Rattle.dfdl_expression_eval.specs.Nesting.{AreNested, IsNested}
use Rattle.dfdl_expressions.specs.Nodes.{IsExpression}
use Rattle.dfdl_expression_eval.proofs.Asking.{if_ok}
use Rattle.dfdl_expression_eval.proofs.Nested.{ended, turned_to}
use Rattle.dfdl_expression_eval.proofs.Resumed.{closed_is, ended_less, on_less, resumes_none, resumes_turn, to_less}
use Rattle.dfdl_expression_eval.proofs.evaluating.resume.Goals as goal

pub returns-in-None-clause-comes : goal.returns-in-None-clause-comes
returns-in-None-clause-comes g c = λ go.
    let nodes = c.args.expression.now in
    let s = c.args.scratch.now in
    ap (λ x. comes_to g.E.Env.answers g.E.Env.read nodes x (left_over nodes s.frames.items c.close.new.values.items go) c.args.env.now) c.wrong.ensures
    ∙ sym (ap (λ a. run g.E.Env.answers g.E.Env.read a c.args.env.now)
    (resumes_none nodes s.frames.items s.values.items c.args.frame c.args.value go c.requires.held c.in-None.ensures.none))

pub returns-in-None-clause-less : goal.returns-in-None-clause-less
returns-in-None-clause-less g c =
    let nodes = c.args.expression.now in
    let fs = c.args.scratch.now.frames.items in
    subst (λ x. focus_left nodes x + frames_left nodes fs < frames_left nodes (fs ++ c.args.frame ∷ [])) (sym c.wrong.ensures) (ended_less nodes fs c.args.frame)

pub returns-in-On-clause-comes : goal.returns-in-On-clause-comes
returns-in-On-clause-comes g c =
    let nodes = c.args.expression.now in
    let s = c.args.scratch.now in
    let m = held_by s.frames.items in
    let n = c.in-Some.node.now in
    if_ok c.go_on.result
    (λ f. (ns : List NodeOf) (go : ValueOf → Asks) → slice_get ns c.args.frame.node ≡ Some n
    → comes_to g.E.Env.answers g.E.Env.read ns f (left_over ns c.go_on.new.scratch.frames.items c.go_on.new.scratch.values.items go) c.go_on.new.env
    ≡ run g.E.Env.answers g.E.Env.read (gone_on ns n (drop m s.values.items) c.args.value (left_over ns s.frames.items (take m s.values.items) go)) c.args.env.now)
    (λ f. (go : ValueOf → Asks)
    → comes_to g.E.Env.answers g.E.Env.read nodes f (left_over nodes c.go_on.new.scratch.frames.items c.go_on.new.scratch.values.items go) c.go_on.new.env
    ≡ run g.E.Env.answers g.E.Env.read (left_over nodes (s.frames.items ++ c.args.frame ∷ []) s.values.items go c.args.value) c.args.env.now)
    (λ f all go. all nodes go c.in-Some.ensures.some
    ∙ sym (ap (λ a. run g.E.Env.answers g.E.Env.read a c.args.env.now)
    (resumes_turn nodes s.frames.items s.values.items c.args.frame c.args.value go c.requires.held n _ c.in-Some.ensures.some (sym c.in-On.is ∙ c.turn_behind.ensures))))
    c.go_on.ensures.comes

pub returns-in-On-clause-less : goal.returns-in-On-clause-less
returns-in-On-clause-less g c =
    let nodes = c.args.expression.now in
    let fs = c.args.scratch.now.frames.items in
    let n = c.in-Some.node.now in
    if_ok c.go_on.result
    (λ f. (ns : List NodeOf) → slice_get ns c.args.frame.node ≡ Some n
    → focus_left ns f + frames_left ns c.go_on.new.scratch.frames.items < frames_left ns fs + weight_left (weight_of ns) (Some n) c.args.frame.done)
    (λ f. focus_left nodes f + frames_left nodes c.go_on.new.scratch.frames.items < frames_left nodes (fs ++ c.args.frame ∷ []))
    (λ f all. on_less nodes fs c.args.frame n (focus_left nodes f + frames_left nodes c.go_on.new.scratch.frames.items) c.in-Some.ensures.some (all nodes c.in-Some.ensures.some))
    c.go_on.ensures.less

pub returns-in-Settled-clause-comes : goal.returns-in-Settled-clause-comes
returns-in-Settled-clause-comes g c = λ go.
    let nodes = c.args.expression.now in
    let s = c.args.scratch.now in
    let closed = c.close-in-Settled.ensures.items ∙ closed_is s.values.items (held_by s.frames.items) c.args.frame.done c.requires.held in
    ap (λ a. run g.E.Env.answers g.E.Env.read a c.args.env.now)
    (ap (λ l. left_over nodes s.frames.items l go (Truth c.in-Settled.truth)) closed
    ∙ sym (resumes_turn nodes s.frames.items s.values.items c.args.frame c.args.value go c.requires.held c.in-Some.node.now _ c.in-Some.ensures.some (sym c.in-Settled.is ∙ c.turn_behind.ensures)))

pub returns-in-Settled-clause-less : goal.returns-in-Settled-clause-less
returns-in-Settled-clause-less g c = ended_less c.args.expression.now c.args.scratch.now.frames.items c.args.frame

pub returns-in-To-clause-comes : goal.returns-in-To-clause-comes
returns-in-To-clause-comes g c = λ go.
    let nodes = c.args.expression.now in
    let s = c.args.scratch.now in
    let closed = c.close-in-To.ensures.items ∙ closed_is s.values.items (held_by s.frames.items) c.args.frame.done c.requires.held in
    ap (λ a. run g.E.Env.answers g.E.Env.read a c.args.env.now)
    (ap (λ l. course_of nodes c.in-To.operand (left_over nodes s.frames.items l go)) closed
    ∙ sym (resumes_turn nodes s.frames.items s.values.items c.args.frame c.args.value go c.requires.held c.in-Some.node.now _ c.in-Some.ensures.some (sym c.in-To.is ∙ c.turn_behind.ensures)))

pub returns-in-To-clause-less : goal.returns-in-To-clause-less
returns-in-To-clause-less g c =
    to_less c.args.expression.now c.args.scratch.now.frames.items c.args.frame c.in-Some.node.now c.args.value c.turn_behind.result c.in-To.operand
    c.in-Some.ensures.some c.turn_behind.ensures c.in-To.is

pub returns-in-Wrong-clause-comes : goal.returns-in-Wrong-clause-comes
returns-in-Wrong-clause-comes g c = λ go.
    let nodes = c.args.expression.now in
    let s = c.args.scratch.now in
    ap (λ x. comes_to g.E.Env.answers g.E.Env.read nodes x (left_over nodes s.frames.items c.close-in-Wrong.new.values.items go) c.args.env.now) c.wrong-in-Wrong.ensures
    ∙ sym (ap (λ a. run g.E.Env.answers g.E.Env.read a c.args.env.now)
    (resumes_turn nodes s.frames.items s.values.items c.args.frame c.args.value go c.requires.held c.in-Some.node.now _ c.in-Some.ensures.some (sym c.in-Wrong.is ∙ c.turn_behind.ensures)))

pub returns-in-Wrong-clause-less : goal.returns-in-Wrong-clause-less
returns-in-Wrong-clause-less g c =
    let nodes = c.args.expression.now in
    let fs = c.args.scratch.now.frames.items in
    subst (λ x. focus_left nodes x + frames_left nodes fs < frames_left nodes (fs ++ c.args.frame ∷ [])) (sym c.wrong-in-Wrong.ensures) (ended_less nodes fs c.args.frame)

pub returns-in-None-clause-nested : goal.returns-in-None-clause-nested
returns-in-None-clause-nested g c = λ sound nested.
    let fs = c.args.scratch.now.frames.items in
    subst (IsNested c.args.expression.now fs) (sym c.wrong.ensures) (ended c.args.expression.now fs c.args.frame _ nested)

pub returns-in-On-clause-nested : goal.returns-in-On-clause-nested
returns-in-On-clause-nested g c =
    let nodes = c.args.expression.now in
    let s = c.args.scratch.now in
    let n = c.in-Some.node.now in
    let fs = c.go_on.new.scratch.frames.items in
    if_ok c.go_on.result
    (λ f. (ns : List NodeOf) → slice_get ns c.args.frame.node ≡ Some n → IsExpression ns → AreNested ns (length ns) (s.frames.items ++ c.args.frame ∷ [])
    → IsNested ns fs f)
    (λ f. IsExpression nodes → AreNested nodes (length nodes) (s.frames.items ++ c.args.frame ∷ []) → IsNested nodes fs f)
    (λ f all sound nested. all nodes c.in-Some.ensures.some sound nested)
    c.go_on.ensures.nested

pub returns-in-On-clause-memory : goal.returns-in-On-clause-memory
returns-in-On-clause-memory g c = λ room served nested. c.go_on.ensures.memory c.args.expression.now room c.in-Some.ensures.some served nested

pub returns-in-Settled-clause-nested : goal.returns-in-Settled-clause-nested
returns-in-Settled-clause-nested g c = λ sound nested. ended c.args.expression.now c.args.scratch.now.frames.items c.args.frame _ nested

pub returns-in-To-clause-nested : goal.returns-in-To-clause-nested
returns-in-To-clause-nested g c = λ sound nested.
    turned_to c.args.expression.now c.args.scratch.now.frames.items c.args.frame c.in-Some.node.now c.args.value c.in-To.operand sound c.in-Some.ensures.some
    (sym c.turn_behind.ensures ∙ c.in-To.is) nested

pub returns-in-Wrong-clause-nested : goal.returns-in-Wrong-clause-nested
returns-in-Wrong-clause-nested g c = λ sound nested.
    let fs = c.args.scratch.now.frames.items in
    subst (IsNested c.args.expression.now fs) (sym c.wrong-in-Wrong.ensures) (ended c.args.expression.now fs c.args.frame _ nested)
