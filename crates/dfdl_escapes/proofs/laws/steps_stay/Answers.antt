use Rattle.dfdl_escapes.proofs.Passing.{passed-there}
use Rattle.dfdl_escapes.proofs.laws.steps_stay.Goals as goal

pub returns : goal.returns
returns c = λ held whole test lists form begin last before read agrees base steps.
    passed-there held whole agrees test lists form (λ stop k. c.texts_begin.ensures test lists stop k) begin before last read base steps
