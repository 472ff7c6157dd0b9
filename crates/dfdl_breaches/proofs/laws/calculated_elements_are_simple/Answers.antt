use Rattle.dfdl_breaches.proofs.Calculating.{calculated_typed}
use Rattle.dfdl_breaches.proofs.laws.calculated_elements_are_simple.Goals as goal

pub returns : goal.returns
returns c = λ purpose refused documents own text is. calculated_typed refused documents own purpose text is
