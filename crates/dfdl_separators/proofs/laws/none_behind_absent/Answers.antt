use Rattle.dfdl_separators.proofs.Runs.{none_behind}
use Rattle.dfdl_separators.proofs.laws.none_behind_absent.Goals as goal

pub returns : goal.returns
returns c = none_behind
