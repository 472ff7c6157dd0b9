use Rattle.std.proofs.Common.{sym}
use Rattle.dfdl_decimal.proofs.OrderLemmas.{below_zero, above_zero, pow_some}
use Rattle.dfdl_decimal.proofs.fixed.Fixed.cmp.Goals as goal

pub returns-in-true-false : goal.returns-in-true-false
returns-in-true-false c =
    sym (below_zero c.args.self.now.mantissa c.args.other.now.mantissa _ _ (sym c.in-true-false.ensures) (sym c.in-true-false.ensures') (pow_some c.args.other.now.scale))

pub returns-in-false-true : goal.returns-in-false-true
returns-in-false-true c =
    sym (above_zero c.args.self.now.mantissa c.args.other.now.mantissa _ _ (sym c.in-false-true.ensures) (sym c.in-false-true.ensures') (pow_some c.args.self.now.scale))
