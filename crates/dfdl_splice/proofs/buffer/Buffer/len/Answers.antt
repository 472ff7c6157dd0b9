use Rattle.std.proofs.Common.{sym}
use Rattle.dfdl_splice.proofs.Runs.{length-bits_from}
use Rattle.dfdl_splice.proofs.buffer.Buffer.len.Goals as goal

pub returns-clause-len : goal.returns-clause-len
returns-clause-len c = rw (← c.self.view_is) (sym (length-bits_from _ _ _ _))
