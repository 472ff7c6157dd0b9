use Rattle.dfdl_laying.proofs.Keeping.{complex_closed_kept}
use Rattle.dfdl_laying.proofs.laws.closed_element_keeps.Goals as goal

pub returns : goal.returns
returns c = complex_closed_kept
