use Rattle.dfdl_delims.proofs.Deciders.{begins_here}
use Rattle.dfdl_delims.proofs.laws.texts_begin.Goals as goal

pub returns : goal.returns
returns c = begins_here
