use Rattle.dfdl_chars.proofs.ReadBack.{reads_text}
use Rattle.dfdl_chars.proofs.laws.texts_are_read_back.Goals as goal

pub returns : goal.returns
returns c = reads_text
