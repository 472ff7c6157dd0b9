use Rattle.std.proofs.Common.{arith, ◌∙◌}
use Rattle.dfdl_evaluation.proofs.Filled.{fills_more}
use Rattle.dfdl_evaluation.proofs.joining.put_fill.Goals as goal

pub loop-done-preserved : goal.loop-done-preserved
loop-done-preserved c = (
  omega (arith, c.min-some.ensures, c.loop-done.invariant.0),
  fills_more c.args.order c.args.bytes.now.items c.loop-done.bytes.items c.fill_few.new.bytes.items c.args.at c.args.fill c.args.bit c.loop-done.done c.min-some.result
      c.loop-done.invariant.1 c.fill_few.ensures.fills,
  c.fill_few.ensures.len ∙ c.loop-done.invariant.2,
)
