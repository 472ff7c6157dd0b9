use Rattle.dfdl_xml_chars.proofs.Coding.{utf8_coding}
use Rattle.dfdl_xml_chars.proofs.laws.bytes_are_seen.Goals as goal

pub returns : goal.returns
returns c = utf8_coding
