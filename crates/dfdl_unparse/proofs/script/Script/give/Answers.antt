use Rattle.std.proofs.Common.{◌∷◌, ◌++◌, [], ℕ, List, length, set, sym, ap, subst, ◌∙◌}
use Rattle.dfdl_suspend.specs.Formulas.{Tabled, equation_in}
use Rattle.dfdl_suspend.specs.declared.table.Formula.{Formula}
use Rattle.dfdl_unparse.specs.Documents.{Comes}
use Rattle.dfdl_unparse.proofs.Scripted.{comes_give}
use Rattle.dfdl_unparse.proofs.script.Script.give.Goals as goal

pub returns-clause-comes : goal.returns-clause-comes
returns-clause-comes c =
    let rows = c.args.self.now.table.rows in
    let is = ap (λ (t : Tabled). t.rows) c.give.ensures.given ∙ ap (λ (n : ℕ). set rows n c.args.formula) c.new-2.ensures in
    let given = c.in-Ok.ensures.items ∙ (ap (λ (xs : List ℕ). xs ++ c.new.result ∷ []) c.clear.ensures.items ∙ ap (λ (n : ℕ). n ∷ []) c.new.ensures) in
    subst (λ (xs : List ℕ). Comes (length rows) (equation_in rows) (equation_in c.give.new.self.rows) xs) (sym given)
    (subst (λ (after : List Formula). Comes (length rows) (equation_in rows) (equation_in after) (c.args.cell ∷ [])) (sym is) (comes_give rows c.args.cell c.args.formula c.requires.0))
