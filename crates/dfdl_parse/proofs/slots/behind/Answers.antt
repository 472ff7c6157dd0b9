use Rattle.std.proofs.Common.{refl}
use Rattle.dfdl_parse.proofs.slots.behind.Goals as goal

pub returns : goal.returns
returns c = refl
