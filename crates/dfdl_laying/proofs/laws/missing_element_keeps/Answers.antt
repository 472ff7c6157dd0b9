use Rattle.dfdl_laying.proofs.Keeping.{complex_missed_kept}
use Rattle.dfdl_laying.proofs.laws.missing_element_keeps.Goals as goal

pub returns : goal.returns
returns c = complex_missed_kept
