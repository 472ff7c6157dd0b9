use Rattle.dfdl_delims.proofs.Plain.{passed_over}
use Rattle.dfdl_delims.proofs.laws.other_bytes_begin_no_text.Goals as goal

pub returns : goal.returns
returns c = passed_over
