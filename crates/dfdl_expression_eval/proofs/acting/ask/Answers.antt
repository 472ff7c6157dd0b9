use Rattle.std.proofs.Common.{◌≡◌, Some, None, true, if◌then◌else◌, sym, ap, ◌∙◌}
use Rattle.dfdl_value.specs.declared.value.Value.{Value as ValueOf}
use Rattle.dfdl_expression_eval.specs.Asks.{Asks}
use Rattle.dfdl_expression_eval.specs.Machine.{judged_by}
use Rattle.dfdl_expression_eval.specs.Meanings.{path_course, query_of}
use Rattle.dfdl_expression_eval.specs.Places.{places_of}
use Rattle.dfdl_expression_eval.specs.Runs.{run, told}
use Rattle.dfdl_expression_eval.proofs.Asking.{asked_is, if_ok}
use Rattle.dfdl_expression_eval.proofs.acting.ask.Goals as goal

pub returns-clause-comes : goal.returns-clause-comes
returns-clause-comes g c =
    let places = c.deref.result.now in
    let is_all : c.in_ok-gather.field-0 ≡ true = c.if-not-branch.false in
    let named : places_of c.args.values.now ≡ Some places =
    c.in_ok-gather.ensures.places
    ∙ ap (λ b. if b then Some c.gather.new.places.items else None) is_all
    ∙ ap Some (sym c.deref.ensures.value) in
    let found : c.in_ok-found.found ≡ g.E.Env.answers c.args.env.now (query_of c.args.question c.args.path.now places) = c.in_ok-found.ensures.answer in
    let same : c.found.new.env ≡ c.args.env.now = c.in_ok-found.ensures.same in
    if_ok c.judged.result
    (λ e. e ≡ judged_by c.args.question c.in_ok-found.found)
    (λ e. (go : ValueOf → Asks) → run g.E.Env.answers g.E.Env.read (path_course c.args.question c.args.path.now c.args.values.now go) c.args.env.now
    ≡ told e c.found.new.env (λ v t. run g.E.Env.answers g.E.Env.read (go v) t))
    (λ e is go. asked_is g.E.Env.answers g.E.Env.read c.args.question c.args.path.now c.args.values.now places c.in_ok-found.found go c.args.env.now c.found.new.env
    named found same
    ∙ ap (λ x. told x c.found.new.env (λ v t. run g.E.Env.answers g.E.Env.read (go v) t)) (sym is))
    c.judged.ensures.answer
