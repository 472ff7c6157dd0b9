use Rattle.std.proofs.Common.{arith}
use Rattle.dfdl_literal_texts.proofs.Steps.{first_marked}
use Rattle.dfdl_literal_texts.proofs.places.begin.Goals as goal

pub returns-clause-begun : goal.returns-clause-begun
returns-clause-begun c = λ passes.
    first_marked c.loop-place.places passes (omega (arith, c.requires, c.loop-place.invariant.length))
    (λ k within. c.loop-place.invariant.none k (omega (arith, within, c.loop-place-test.false, c.loop-place.invariant.length)))
