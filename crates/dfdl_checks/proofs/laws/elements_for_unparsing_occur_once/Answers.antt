use Rattle.std.proofs.Common.{ap}
use Rattle.dfdl_checks.specs.Occurrences.{occurrences_for}
use Rattle.dfdl_checks.proofs.laws.elements_for_unparsing_occur_once.Goals as goal

pub returns : goal.returns
returns c = λ j unparsing. ap (λ p. occurrences_for p j) unparsing
