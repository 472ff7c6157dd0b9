use Rattle.std.proofs.Common.{◌<◌, ◌+◌, ◌^◌, ◌++◌, ◌∷◌, [], ap, sym, subst, ◌∙◌, length, arith}
use Rattle.std.proofs.lemmas.List.{length_push}
use Rattle.dfdl_suspend.specs.Events.{Brings}
use Rattle.dfdl_suspend.specs.Formulas.{Tabled, equation_in, NamesWithin, AreWithin}
use Rattle.dfdl_suspend.proofs.InRows.{within_push, pushed_brings}
use Rattle.dfdl_suspend.proofs.table.Table.push.Goals as goal

pub invariant_of-self-2 : goal.invariant_of-self-2
invariant_of-self-2 c =
    let rows = c.self.inside.rows.items in
    let within : NamesWithin (length rows + 1) c.args.formula = subst (λ (t : Tabled). NamesWithin (length t.rows + 1) c.args.formula) (sym c.self.view_is) c.requires.within in
    let few : length rows < 2 ^ 31 = subst (λ (t : Tabled). length t.rows < 2 ^ 31) (sym c.self.view_is) c.requires.few in
    let more = length_push rows c.args.formula in
    let long = ap (λ rs. length rs) c.in_ok-push.ensures.items in (
      subst (λ rs. AreWithin rs) (sym c.in_ok-push.ensures.items) (within_push rows c.args.formula c.self.invariant.0 within),
      omega (arith, few, more, long),
    )

pub returns-clause-brings : goal.returns-clause-brings
returns-clause-brings c = λ board fits idle long.
    let rows = c.args.self.now.rows in
    subst (λ rs. Brings (equation_in rows) (equation_in rs) [] board) (sym (c.in_ok-push.ensures.items ∙ ap (λ (t : Tabled). t.rows ++ c.args.formula ∷ []) c.self.view_is))
    (pushed_brings rows c.args.formula board fits idle long)
