use Rattle.std.proofs.Common.{◌∙◌, sym, ◌*◌, arith}
use Rattle.dfdl_decimal.specs.Decimal.{with_sign}
use Rattle.dfdl_decimal.proofs.SumLemmas.{fixed_of-past}
use Rattle.dfdl_decimal.proofs.product.product_at.Goals as goal

pub returns-in_err-magnitude : goal.returns-in_err-magnitude
returns-in_err-magnitude c =
    let p = c.reduced-product in
    c.from_residual.ensures ∙ sym (fixed_of-past (record { mantissa = with_sign c.args.negative (c.args.left * c.args.right); scale = c.args.scale })
    c.args.negative (p.result.left * p.result.right) p.result.scale (p.ensures.same c.args.negative) (omega (arith, c.in_err-magnitude.ensures)) p.ensures.last)
