use Rattle.std.proofs.Common.{◌^◌, ◌∙◌, ap, List, ◌∷◌}
use Rattle.dfdl_rows.specs.declared.walk.Task.{Task}
use Rattle.dfdl_rows.specs.declared.walk.Task.TheVariants.{Enter}
use Rattle.dfdl_rows.proofs.Walks.{root_few, root_rows}
use Rattle.dfdl_rows.proofs.walk.all_rows.Goals as goal

pub run-requires-clause-few : goal.run-requires-clause-few
run-requires-clause-few c =
    root_few c.args.components.now c.args.root c.push_front.new.self.items c.new.result.items c.new-2.result.items
    (c.in_ok-push_front.ensures.items ∙ ap (λ (ts : List Task). Enter c.args.root ∷ ts) c.new-tasks.ensures.items) c.new.ensures.items c.new-2.ensures.items
    c.requires.ordered c.requires.within (2 ^ 32) c.requires.few

pub returns : goal.returns
returns c =
    root_rows c.args.components.now c.args.root c.push_front.new.self.items c.new.result.items c.new-2.result.items
    (c.in_ok-push_front.ensures.items ∙ ap (λ (ts : List Task). Enter c.args.root ∷ ts) c.new-tasks.ensures.items) c.new.ensures.items c.new-2.ensures.items
    c.run.new.self.rows.items c.run.new.self.lasts.items c.in_ok-run.ensures
