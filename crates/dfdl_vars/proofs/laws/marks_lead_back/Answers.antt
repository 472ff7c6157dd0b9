use Rattle.dfdl_vars.proofs.Ways.{marks_lead_back}
use Rattle.dfdl_vars.proofs.laws.marks_lead_back.Goals as goal

pub returns : goal.returns
returns c = marks_lead_back
