use Rattle.std.proofs.Common.{◌≡◌, ◌∙◌, sym, ap, List, [], arith}
use Rattle.dfdl_rows.specs.Walk.{Made, made, all_done}
use Rattle.dfdl_rows.specs.declared.walk.Task.{Task}
use Rattle.dfdl_rows.proofs.Walks.{done_none, no_tasks}
use Rattle.dfdl_rows.proofs.walk.Walk.run.Goals as goal

pub returns : goal.returns
returns c =
    let m : Made = made c.loop-task.self.rows.items c.loop-task.self.lasts.items in
    let none : c.loop-task.self.tasks.items ≡ [] = no_tasks c.loop-task.self.tasks.items (omega (arith, c.in_default.ensures.cases.0, c.loop-task.self.tasks.ok)) in
    sym (ap (λ (ts : List Task). all_done c.args.components.now ts m) none ∙ done_none c.args.components.now m) ∙ c.loop-task.invariant.same
