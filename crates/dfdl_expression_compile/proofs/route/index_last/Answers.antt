use Rattle.std.proofs.Common.{[], ◌∷◌, ◌++◌, ap, sym, ◌∙◌}
use Rattle.dfdl_expression_compile.specs.Routes.{last_indexed}
use Rattle.dfdl_expression_compile.proofs.Routing.{index_behind}
use Rattle.dfdl_expression_compile.proofs.route.index_last.Goals as goal

pub returns-in_ok-push : goal.returns-in_ok-push
returns-in_ok-push c =
    c.in_ok-push.ensures.items
    ∙ (ap (λ s. c.pop.new.self.items ++ s ∷ []) c.indexed.ensures
    ∙ (sym (index_behind c.pop.new.self.items c.in-Some.step) ∙ ap last_indexed (sym c.in-Some.ensures.items)))
