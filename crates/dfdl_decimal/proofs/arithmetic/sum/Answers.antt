use Rattle.std.proofs.Common.{◌≡◌, ◌-◌, ◌∙◌, arith}
use Rattle.dfdl_decimal.proofs.SumLemmas.{sum_of-long}
use Rattle.dfdl_decimal.proofs.arithmetic.sum.Goals as goal

pub returns : goal.returns
returns c =
    let scale : c.from-scale.result ≡ c.args.long.now.scale = c.from-scale.ensures ∙ c.scale.ensures.value in
    let zeros : c.from-scale.result - c.from.result ≡ c.args.long.now.scale - c.args.short.now.scale = omega (arith, c.from.ensures, c.scale-2.ensures.value) in
    c.sum_at.ensures ∙ sum_of-long c.args.long.now c.args.short.now _ _ _ _ _ _ c.is_negative.ensures c.is_negative-2.ensures c.magnitude.ensures.value c.magnitude-2.ensures.value
    scale zeros c.requires
