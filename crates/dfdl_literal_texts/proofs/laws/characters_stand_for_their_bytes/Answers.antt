use Rattle.dfdl_literal_texts.proofs.PlainLaws.{is_its_bytes}
use Rattle.dfdl_literal_texts.proofs.laws.characters_stand_for_their_bytes.Goals as goal

pub returns : goal.returns
returns c = is_its_bytes
