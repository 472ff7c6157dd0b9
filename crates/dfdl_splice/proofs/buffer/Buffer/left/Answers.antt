use Rattle.std.proofs.Common.{arith}
use Rattle.dfdl_splice.proofs.Runs.{length-bits_from}
use Rattle.dfdl_splice.proofs.buffer.Buffer.left.Goals as goal

pub returns : goal.returns
returns c = rw (← c.self.view_is, length-bits_from c.self.inside.order c.self.inside.bytes.items 0 c.self.inside.len) (omega arith)
