use Rattle.std.proofs.Common.{length, sym, ap, subst, ◌∙◌, arith, inl, inr}
use Rattle.std.specs.List.{slice_get}
use Rattle.std.proofs.lemmas.Bool.{cases_eq}
use Rattle.std.proofs.lemmas.Option.{slice_get_within, get_or_from_slice_get}
use Rattle.dfdl_suspend.specs.Formulas.{NamesWithin}
use Rattle.dfdl_suspend.proofs.table.are_within.Goals as goal

pub loop-row-preserved : goal.loop-row-preserved
loop-row-preserved c = λ k formula low e. elim (cases_eq k c.loop-row.row-index) [
  | inl same ↦ subst (λ f. NamesWithin (length c.args.rows.now) f)
      (get_or_from_slice_get c.args.rows.now c.loop-row.row-index formula _ (ap (λ n. slice_get c.args.rows.now n) (sym same) ∙ e)) (c.names_within.ensures c.if-not-names_within.false)
  | inr apart ↦ c.loop-row.invariant k formula (omega arith) e
]

pub returns : goal.returns
returns c = λ yes_ cell formula e. c.loop-row.invariant cell formula (let low = slice_get_within c.args.rows.now cell formula e in omega arith) e
