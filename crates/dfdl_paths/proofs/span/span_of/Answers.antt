use Rattle.std.proofs.Common.{◌≡◌, [], List, length, sym, subst, ◌∙◌}
use Rattle.std.proofs.lemmas.Bool.{eqb-true}
use Rattle.dfdl_expressions.specs.declared.path.Step.{Step}
use Rattle.dfdl_paths.specs.Spans.{IsSpan}
use Rattle.dfdl_paths.proofs.Inside.{all-inside, empty-steps}
use Rattle.dfdl_paths.proofs.span.span_of.Goals as goal

pub returns-then-is_empty : goal.returns-then-is_empty
returns-then-is_empty c =
    let course = c.args.course.now in
    let none : course.steps.now ≡ [] = empty-steps course.steps.now
    (eqb-true (length course.steps.now) 0 (sym c.is_empty.ensures ∙ c.if-is_empty.true)) in
    subst (λ (steps : List Step). IsSpan course.names.now course.nodes.now course.from steps course.indexes.now
    c.own_span.result.from c.own_span.result.end) (sym none)
    (c.own_span.ensures course.names.now course.indexes.now)

pub returns : goal.returns
returns c =
    let course = c.args.course.now in
    all-inside course.names.now course.nodes.now course.from c.inside_of.result.from c.inside_of.result.end
    c.inside_of.ensures course.steps.now course.indexes.now
    (sym c.begins_down.ensures ∙ c.if-not-begins_down.false) (sym c.has_up.ensures ∙ c.if-has_up.false)
