use Rattle.std.proofs.Common.{◌∙◌, sym, refl, arith}
use Rattle.dfdl_decimal.proofs.SumLemmas.{sum_far, sum_long}
use Rattle.dfdl_decimal.proofs.arithmetic.sum_at.Goals as goal

pub returns-in_err-magnitude : goal.returns-in_err-magnitude
returns-in_err-magnitude c =
    c.from_residual.ensures ∙ sym (sum_far c.args.long.negative c.args.short.negative c.args.long.magnitude c.args.short.magnitude c.args.zeros c.args.scale
    c.requires.long c.requires.short c.requires.within c.requires.last (omega (arith, c.in_err-magnitude.ensures)))

pub returns-in_err-total : goal.returns-in_err-total
returns-in_err-total c =
    let e = c.in_ok-magnitude.ensures.1 in
    c.from_residual-in_err-total.ensures ∙ sym (sum_long c.args.long.negative c.args.short.negative c.args.long.magnitude c.args.short.magnitude c.args.zeros c.args.scale
    c.requires.long c.requires.short c.requires.within c.requires.last (c.in_err-total.ensures.same_signs refl) (omega (arith, e, c.in_err-total.ensures.past refl)))
