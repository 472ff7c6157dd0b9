use Rattle.dfdl_chars.proofs.ReadBack.{reads}
use Rattle.dfdl_chars.proofs.laws.characters_are_read_back.Goals as goal

pub returns : goal.returns
returns c = reads
