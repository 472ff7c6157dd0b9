use Rattle.std.proofs.Common.{◌∙◌, ◌+ℤ◌, sym, ap, refl, arith, rules}
use Rattle.dfdl_decimal.specs.Decimal.{with_sign}
use Rattle.dfdl_operators.specs.Numbers.{held}
use Rattle.dfdl_operators.proofs.SumLemmas.{sum-far, sum-long, sum_of-digits}
use Rattle.dfdl_operators.proofs.sum.sum_at.Goals as goal

pub returns-in_err-magnitude : goal.returns-in_err-magnitude
returns-in_err-magnitude c =
    let long = c.args.long in
    let short = c.args.short in
    c.from_residual.ensures ∙ sym (sum-far long.negative short.negative long.magnitude short.magnitude long.scale short.scale
    c.requires.long.digits c.requires.long.last c.requires.short.digits c.requires.order (search rules) (omega (arith, c.in_err-magnitude.ensures)))

pub returns-in_err-total : goal.returns-in_err-total
returns-in_err-total c =
    let long = c.args.long in
    let short = c.args.short in
    let e = c.in_ok-magnitude.ensures.1 in
    c.from_residual-in_err-total.ensures ∙ sym (sum-long long.negative short.negative long.magnitude short.magnitude long.scale short.scale
    c.requires.long.digits c.requires.long.last c.requires.short.digits c.requires.order (c.in_err-total.ensures.same_signs refl) (omega (arith, e, c.in_err-total.ensures.past refl)))

pub returns : goal.returns
returns c =
    let long = c.args.long in
    let short = c.args.short in
    let total = c.in_ok-total.total in
    c.value_of.ensures
    ∙ ap (λ k. held (record { mantissa = with_sign total.negative total.magnitude; scale = k })) c.in_ok-total.ensures.scale
    ∙ ap (λ z. held (record { mantissa = z; scale = long.scale })) c.in_ok-total.ensures.sum
    ∙ ap (λ m. held (record { mantissa = with_sign long.negative long.magnitude +ℤ with_sign short.negative m; scale = long.scale })) c.in_ok-magnitude.ensures.1
    ∙ ap held (sum_of-digits long.negative short.negative long.magnitude short.magnitude long.scale short.scale c.requires.order)
