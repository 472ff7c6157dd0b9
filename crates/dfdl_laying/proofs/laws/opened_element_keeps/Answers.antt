use Rattle.dfdl_laying.proofs.Keeping.{complex_opened_kept}
use Rattle.dfdl_laying.proofs.laws.opened_element_keeps.Goals as goal

pub returns : goal.returns
returns c = complex_opened_kept
