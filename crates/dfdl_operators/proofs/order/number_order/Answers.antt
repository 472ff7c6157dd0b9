use Rattle.std.proofs.Common.{◌∙◌, sym}
use Rattle.dfdl_decimal.specs.Decimal.{with_sign}
use Rattle.dfdl_decimal.proofs.OrderLemmas.{below_zero, above_zero, pow_some}
use Rattle.dfdl_operators.proofs.order.number_order.Goals as goal

pub returns-in-true-false : goal.returns-in-true-false
returns-in-true-false c =
    let a = c.args.of.left in
    let b = c.args.of.right in
    sym (below_zero (with_sign a.negative a.magnitude) (with_sign b.negative b.magnitude) _ _ (sym c.requires.left ∙ c.in-true-false.is-0) (sym c.requires.right ∙ c.in-true-false.is-1) (pow_some b.scale))

pub returns-in-false-true : goal.returns-in-false-true
returns-in-false-true c =
    let a = c.args.of.left in
    let b = c.args.of.right in
    sym (above_zero (with_sign a.negative a.magnitude) (with_sign b.negative b.magnitude) _ _ (sym c.requires.left ∙ c.in-false-true.is-0) (sym c.requires.right ∙ c.in-false-true.is-1) (pow_some a.scale))
