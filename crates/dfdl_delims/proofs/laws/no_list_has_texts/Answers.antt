use Rattle.dfdl_delims.proofs.Deciders.{nothing_there}
use Rattle.dfdl_delims.proofs.laws.no_list_has_texts.Goals as goal

pub returns : goal.returns
returns c = nothing_there
