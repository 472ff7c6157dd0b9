use Rattle.dfdl_laying.proofs.Keeping.{with_simple_kept}
use Rattle.dfdl_laying.proofs.laws.simple_element_keeps.Goals as goal

pub returns : goal.returns
returns c = with_simple_kept
