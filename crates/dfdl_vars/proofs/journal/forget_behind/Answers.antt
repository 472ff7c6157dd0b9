use Rattle.std.proofs.Common.{rules, ◌∙◌}
use Rattle.std.proofs.lemmas.Fn.{filter_same}
use Rattle.dfdl_vars.proofs.Placed.{filter_first}
use Rattle.dfdl_vars.proofs.journal.forget_behind.Goals as goal

pub returns-then-were_more-clause-items : goal.returns-then-were_more-clause-items
returns-then-were_more-clause-items c =
    filter_same _ _ _ (λ x b f' k. search rules) _ _ c.retain.ensures.filtered ∙ filter_first c.args.count c.args.changes.now.items
