use Rattle.dfdl_separators.proofs.Runs.{all_required}
use Rattle.dfdl_separators.proofs.laws.required_slots.Goals as goal

pub returns : goal.returns
returns c = all_required
