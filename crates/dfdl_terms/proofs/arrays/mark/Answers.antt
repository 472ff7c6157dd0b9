use Rattle.std.proofs.Common.{refl, rules, ◌∙◌}
use Rattle.dfdl_terms.proofs.Marks.{next_marked, all_marked, nothing_more}
use Rattle.dfdl_terms.proofs.arrays.mark.Goals as goal

pub loop-row-init : goal.loop-row-init
loop-row-init c = record { many = refl; marked = λ e. nothing_more _ }

pub loop-row-preserved : goal.loop-row-preserved
loop-row-preserved c = record {
  many = c.loop-row.invariant.many;
  marked = λ e. next_marked c.args.marks.now.items c.loop-row.marks.items c.args.rows.now c.loop-row.row-index c.number.result c.row-item.result e
      c.loop-row-test.true (c.number.ensures ∙ c.row-item.is) (search rules) (c.loop-row.invariant.marked e);
}

pub returns-clause-marked : goal.returns-clause-marked
returns-clause-marked c = λ e. all_marked c.args.marks.now.items c.loop-row.marks.items c.args.rows.now c.loop-row.row-index e c.loop-row-test.false (c.loop-row.invariant.marked e)
