use Rattle.std.proofs.Common.{◌∙◌, ◌+◌, ◌-◌, sym, ap, ◌||◌, Bool, arith}
use Rattle.dfdl_planning.specs.Planned.{computing_from}
use Rattle.dfdl_planning.proofs.Loops.{computing_next}
use Rattle.dfdl_planning.proofs.outlines.are_computing.Goals as goal

pub loop-at-preserved : goal.loop-at-preserved
loop-at-preserved c = record {
  few = omega (arith, c.loop-at-test.true);
  same =
      ap (λ (b : Bool). b || computing_from c.args.source.now (c.args.statements.first + (c.loop-at.at + 1)) (c.args.statements.count - (c.loop-at.at + 1)))
      (sym c.if-computes.false ∙ c.computes.ensures)
      ∙ (sym (computing_next c.args.source.now c.args.statements.first c.loop-at.at c.args.statements.count c.loop-at-test.true) ∙ c.loop-at.invariant.same);
}
