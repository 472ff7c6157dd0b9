use Rattle.dfdl_delims.proofs.Held.{full_by}
use Rattle.dfdl_delims.proofs.laws.lists_fill_registers.Goals as goal

pub returns : goal.returns
returns c = full_by
