use Rattle.std.proofs.Common.{◌∙◌, ◌*◌}
use Rattle.dfdl_decimal.proofs.ProductLemmas.{shortest_from-tenth}
use Rattle.dfdl_operators.proofs.product.reduced.Goals as goal

pub loop-scale-preserved : goal.loop-scale-preserved
loop-scale-preserved c = λ b.
    shortest_from-tenth c.loop-scale.scale b (c.in-Some.factors.0 * c.in-Some.factors.1) (c.loop-scale.left * c.loop-scale.right) c.loop-scale-test.true c.in-Some.ensures.tenth
    ∙ c.loop-scale.invariant b
