use Rattle.std.proofs.Common.{◌∙◌, sym}
use Rattle.dfdl_decimal.proofs.QuotientLemmas.{division_of-parts}
use Rattle.dfdl_decimal.proofs.arithmetic.quotient.Goals as goal

pub returns : goal.returns
returns c =
    c.quotient_at.ensures ∙ division_of-parts c.args.left.now c.args.right.now _ _ _ _ _ _ c.is_negative.ensures c.is_negative-2.ensures
    c.magnitude-2.ensures.value c.magnitude-3.ensures.value (c.from.ensures ∙ c.scale.ensures.value) (c.from-2.ensures ∙ c.scale-2.ensures.value)
    (λ e. c.if-magnitude-eq0.false (c.magnitude.ensures.value ∙ sym c.magnitude-3.ensures.value ∙ e))
