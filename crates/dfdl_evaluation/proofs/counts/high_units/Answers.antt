use Rattle.std.proofs.Common.{arith}
use Rattle.dfdl_evaluation.proofs.Counted.{high_kept}
use Rattle.dfdl_evaluation.proofs.counts.high_units.Goals as goal

pub loop-at-preserved : goal.loop-at-preserved
loop-at-preserved c = (
  high_kept c.args.bytes.now c.loop-at.at 0 c.loop-at.count c.one_if-count.result _ c.is_high.result c.loop-at-test.true c.is_high.ensures
      c.one_if-count.ensures.value c.loop-at.invariant.0,
  omega (arith, c.loop-at.invariant.1, c.one_if-count.ensures.few),
)
