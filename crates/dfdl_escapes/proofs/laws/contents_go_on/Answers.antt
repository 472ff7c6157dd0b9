use Rattle.dfdl_escapes.proofs.Passing.{passed-same}
use Rattle.dfdl_escapes.proofs.laws.contents_go_on.Goals as goal

pub returns : goal.returns
returns c look test lists form begin last before read t u steps = passed-same look test lists form begin before last read steps t u
