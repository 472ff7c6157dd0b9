use Rattle.dfdl_escapes.proofs.Moving.{step-from, whole-from}
use Rattle.dfdl_escapes.proofs.laws.steps_begin.Goals as goal

pub returns-clause-step : goal.returns-clause-step
returns-clause-step c = λ test lists form at. step-from test lists form (λ stop k. c.texts_begin.ensures test lists stop k) at

pub returns-clause-content : goal.returns-clause-content
returns-clause-content c = λ test lists form at. whole-from test lists form (λ stop k. c.texts_begin.ensures test lists stop k) at
