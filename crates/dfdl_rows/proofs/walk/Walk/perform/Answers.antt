use Rattle.std.proofs.Common.{◌^◌}
use Rattle.dfdl_rows.specs.Walk.{made}
use Rattle.dfdl_rows.proofs.Walks.{on_ok, entered_same, entered_within, entered_less, closed_same, closed_few, others_within}
use Rattle.dfdl_rows.proofs.walk.Walk.perform.Goals as goal

pub close-requires-clause-few : goal.close-requires-clause-few
close-requires-clause-few c =
    closed_few c.args.components.now c.args.task c.in-Close.number c.args.self.now.tasks.items (made c.args.self.now.rows.items c.args.self.now.lasts.items) (2 ^ 32)
    c.in-Close.is c.requires.few

pub returns-in-Enter-clause-same : goal.returns-in-Enter-clause-same
returns-in-Enter-clause-same c = on_ok c.enter.result _ _ c.enter.ensures
    (λ new_is. entered_same c.args.components.now c.requires.ordered c.args.task c.in-Enter.number c.in-Enter.is c.args.self.now.tasks.items c.enter.new.tasks.items
    c.requires.within new_is c.args.self.now.rows.items c.args.self.now.lasts.items)

pub returns-in-Enter-clause-within : goal.returns-in-Enter-clause-within
returns-in-Enter-clause-within c = on_ok c.enter.result _ _ c.enter.ensures
    (λ new_is. entered_within c.args.components.now c.requires.ordered c.args.task c.in-Enter.number c.in-Enter.is c.args.self.now.tasks.items c.enter.new.tasks.items
    c.requires.within new_is)

pub returns-in-Enter-clause-less : goal.returns-in-Enter-clause-less
returns-in-Enter-clause-less c = on_ok c.enter.result _ _ c.enter.ensures
    (λ new_is. entered_less c.args.components.now c.requires.ordered c.args.task c.in-Enter.number c.in-Enter.is c.args.self.now.tasks.items c.enter.new.tasks.items
    c.requires.within new_is)

pub returns-in-Close-clause-same : goal.returns-in-Close-clause-same
returns-in-Close-clause-same c = on_ok c.close.result _ _ c.close.ensures
    (λ new_is. closed_same c.args.components.now c.args.task c.in-Close.number c.args.self.now.tasks.items
    (made c.close.new.rows.items c.close.new.lasts.items) (made c.args.self.now.rows.items c.args.self.now.lasts.items) c.in-Close.is new_is)

pub returns-in-Close-clause-within : goal.returns-in-Close-clause-within
returns-in-Close-clause-within c = on_ok c.close.result _ _ c.close.ensures
    (λ new_is. others_within _ c.args.task c.args.self.now.tasks.items c.requires.within)
