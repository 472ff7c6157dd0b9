use Rattle.std.proofs.Common.{◌≡◌, ◌++◌, ◌∙◌, Option, List, ap, map, subst, IfOk}
use Rattle.dfdl_rows.specs.Looking.{names_in, side_of}
use Rattle.dfdl_rows.specs.declared.looking.Task.{Task}
use Rattle.dfdl_rows.specs.declared.looking.Task.TheVariants.{Visit}
use Rattle.dfdl_rows.specs.declared.refusal.Refusal.{Refusal}
use Rattle.dfdl_rows.proofs.Elements.{first_ready}
use Rattle.dfdl_rows.proofs.Named.{left_alone}
use Rattle.dfdl_rows.proofs.looking.first_refusal_in.Goals as goal

pub run-requires-clause-ready : goal.run-requires-clause-ready
run-requires-clause-ready c =
    first_ready _ _ _ c.args.first.now c.visit_all.new.tasks.items c.requires
    (c.in_ok-visit_all.ensures ∙ ap (λ (ts : List Task). map Visit c.args.first.now ++ ts) c.new.ensures.items)

pub returns : goal.returns
returns c =
    subst (λ (r : Option Refusal). IfOk c.run.result (λ found. found ≡ r))
    (left_alone c.args.components.now c.args.first.now c.visit_all.new.tasks.items (names_in c.new-3.result.own.items) (names_in c.new-3.result.others.items)
    (map side_of c.new-4.result.items) (c.in_ok-visit_all.ensures ∙ ap (λ (ts : List Task). map Visit c.args.first.now ++ ts) c.new.ensures.items)
    (ap names_in c.new-3.ensures.own) (ap (map side_of) c.new-4.ensures.items))
    c.run.ensures
