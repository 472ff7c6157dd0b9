use Rattle.dfdl_checks.proofs.Primitives.{whole}
use Rattle.dfdl_checks.proofs.laws.primitives_for_unparsing_are_whole.Goals as goal

pub returns : goal.returns
returns c = whole
