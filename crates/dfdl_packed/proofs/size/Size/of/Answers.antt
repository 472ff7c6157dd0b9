use Rattle.std.proofs.Common.{◌∙◌, arith}
use Rattle.dfdl_packed.proofs.SizeLemmas.{tenth_is}
use Rattle.dfdl_packed.proofs.size.Size.of.Goals as goal

pub loop-mantissa-preserved : goal.loop-mantissa-preserved
loop-mantissa-preserved c = record {
  some = omega (arith, c.loop-mantissa.invariant.some, c.loop-mantissa-test.true);
  product = c.loop-mantissa.invariant.product ∙ tenth_is c.loop-mantissa.mantissa c.loop-mantissa.zeros c.loop-mantissa-test.true;
  bound = omega (arith, c.loop-mantissa.invariant.some, c.loop-mantissa.invariant.bound, c.loop-mantissa-test.true);
}
