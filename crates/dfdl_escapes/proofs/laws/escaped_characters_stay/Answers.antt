use Rattle.dfdl_escapes.proofs.TrimmedContents.{escaped-stay}
use Rattle.dfdl_escapes.proofs.laws.escaped_characters_stay.Goals as goal

pub returns : goal.returns
returns c = escaped-stay
