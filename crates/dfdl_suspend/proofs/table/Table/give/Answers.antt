use Rattle.std.proofs.Common.{◌≡◌, ◌∷◌, [], ℕ, ap, sym, subst, ◌∙◌, set}
use Rattle.dfdl_suspend.specs.Events.{Brings}
use Rattle.dfdl_suspend.specs.Formulas.{Tabled, equation_in}
use Rattle.dfdl_suspend.proofs.InRows.{given_brings}
use Rattle.dfdl_suspend.proofs.table.Table.give.Goals as goal

pub returns-clause-brings : goal.returns-clause-brings
returns-clause-brings c = λ board fits idle long.
    let rows = c.args.self.now.rows in
    let same : set c.self.inside.rows.items c.number.result c.args.formula ≡ set rows c.args.cell c.args.formula =
    ap (λ (t : Tabled). set t.rows c.number.result c.args.formula) c.self.view_is ∙ ap (λ (k : ℕ). set rows k c.args.formula) c.number.ensures in
    subst (λ rs. Brings (equation_in rows) (equation_in rs) (c.args.cell ∷ []) board) (sym same)
    (given_brings rows c.args.cell c.args.formula c.requires.waits board fits idle long)
