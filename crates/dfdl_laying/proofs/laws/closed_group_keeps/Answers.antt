use Rattle.dfdl_laying.proofs.Keeping.{group_closed_kept}
use Rattle.dfdl_laying.proofs.laws.closed_group_keeps.Goals as goal

pub returns : goal.returns
returns c = group_closed_kept
