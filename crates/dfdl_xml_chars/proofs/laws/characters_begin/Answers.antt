use Rattle.dfdl_xml_chars.proofs.Tables.{begins_exactly}
use Rattle.dfdl_xml_chars.proofs.laws.characters_begin.Goals as goal

pub returns : goal.returns
returns c = begins_exactly
