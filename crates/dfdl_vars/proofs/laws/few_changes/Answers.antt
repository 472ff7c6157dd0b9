use Rattle.dfdl_vars.proofs.Sound.{few_changes}
use Rattle.dfdl_vars.proofs.laws.few_changes.Goals as goal

pub returns : goal.returns
returns c = few_changes
