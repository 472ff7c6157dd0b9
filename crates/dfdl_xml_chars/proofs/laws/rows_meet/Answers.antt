use Rattle.dfdl_xml_chars.proofs.Tables.{meets_exactly}
use Rattle.dfdl_xml_chars.proofs.laws.rows_meet.Goals as goal

pub returns : goal.returns
returns c = meets_exactly
