use Rattle.dfdl_delims.proofs.Deciders.{decided}
use Rattle.dfdl_delims.proofs.laws.longer_texts_are_decided.Goals as goal

pub returns : goal.returns
returns c = decided
