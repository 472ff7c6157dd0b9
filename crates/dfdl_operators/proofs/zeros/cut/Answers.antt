use Rattle.std.proofs.Common.{arith}
use Rattle.dfdl_decimal.proofs.OrderLemmas.{pow_some}
use Rattle.dfdl_operators.proofs.zeros.cut.Goals as goal

pub nonzero_div-result : goal.nonzero_div-result
nonzero_div-result c = omega (arith, c.in-Some.ensures.1, pow_some c.args.scale)
