use Rattle.std.proofs.Common.{not, ◌∙◌, sym, ap, ◌*◌, ◌+◌, arith}
use Rattle.std.specs.Bool.{beq}
use Rattle.dfdl_decimal.specs.Decimal.{with_sign}
use Rattle.dfdl_operators.specs.Numbers.{held, held_shortest}
use Rattle.dfdl_operators.proofs.HeldLemmas.{held-far}
use Rattle.dfdl_operators.proofs.SignLemmas.{mul-signs}
use Rattle.dfdl_operators.proofs.product.product.Goals as goal

pub returns-in_err-magnitude : goal.returns-in_err-magnitude
returns-in_err-magnitude c =
    let a = c.args.of.left in
    let b = c.args.of.right in
    let negative = not (beq a.negative b.negative) in
    let p = c.reduced-product in
    c.from_residual.ensures
    ∙ sym (held-far (record { mantissa = with_sign negative (a.magnitude * b.magnitude); scale = a.scale + b.scale }) negative (p.result.left * p.result.right) p.result.scale
    (p.ensures.same negative) p.ensures.last (omega (arith, c.in_err-magnitude.ensures)))
    ∙ ap (λ z. held (record { mantissa = z; scale = a.scale + b.scale })) (mul-signs a.negative b.negative a.magnitude b.magnitude)

pub returns : goal.returns
returns c =
    let a = c.args.of.left in
    let b = c.args.of.right in
    let negative = not (beq a.negative b.negative) in
    let p = c.reduced-product in
    c.value_of.ensures
    ∙ ap (λ n. held (record { mantissa = with_sign negative n; scale = p.result.scale })) c.in_ok-magnitude.ensures.1
    ∙ ap held_shortest (p.ensures.same negative)
    ∙ ap (λ z. held (record { mantissa = z; scale = a.scale + b.scale })) (mul-signs a.negative b.negative a.magnitude b.magnitude)
