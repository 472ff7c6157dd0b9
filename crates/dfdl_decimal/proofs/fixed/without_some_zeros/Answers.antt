use Rattle.std.proofs.Common.{◌∙◌}
use Rattle.dfdl_decimal.proofs.FixedLemmas.{shortest_from-divides}
use Rattle.dfdl_decimal.proofs.fixed.without_some_zeros.Goals as goal

pub loop-scale-preserved : goal.loop-scale-preserved
loop-scale-preserved c = λ b.
    shortest_from-divides c.loop-scale.scale b c.loop-scale.magnitude c.loop-scale-test.true c.if-magnitude-eq0.true ∙ c.loop-scale.invariant b
