use Rattle.std.proofs.Common.{[], ℕ, List, length, sym, ap, subst}
use Rattle.dfdl_suspend.specs.Formulas.{Tabled, equation_in}
use Rattle.dfdl_suspend.specs.declared.table.Formula.{Formula}
use Rattle.dfdl_unparse.specs.Documents.{Comes, Lays}
use Rattle.dfdl_unparse.specs.Scripts.{pieces_of}
use Rattle.dfdl_unparse.proofs.Scripted.{comes_add, lays_add}
use Rattle.dfdl_unparse.proofs.script.Script.add.Goals as goal

pub returns-in-Ok-push-clause-comes : goal.returns-in-Ok-push-clause-comes
returns-in-Ok-push-clause-comes c =
    let rows = c.args.self.now.table.rows in
    let is = ap (λ (t : Tabled). t.rows) c.in-Ok-push.ensures.pushed in
    subst (λ (given : List ℕ). Comes (length rows) (equation_in rows) (equation_in c.push-2.new.self.rows) given) (sym c.clear.ensures.items)
    (subst (λ (after : List Formula). Comes (length rows) (equation_in rows) (equation_in after) []) (sym is) (comes_add rows c.args.formula))

pub returns-in-Ok-push-clause-lays : goal.returns-in-Ok-push-clause-lays
returns-in-Ok-push-clause-lays c =
    let table = c.args.self.now.table in
    let is = ap (λ (t : Tabled). t.rows) c.in-Ok-push.ensures.pushed in
    subst (λ (widths : List ℕ). Lays (length table.rows) (equation_in table.rows) (pieces_of table c.args.self.now.widths.items) (pieces_of c.push-2.new.self widths)) (sym c.in-Ok.ensures.items)
    (lays_add (equation_in table.rows) table c.push-2.new.self c.args.self.now.widths.items c.args.formula c.args.width c.args.self.now.wide is)
