use Rattle.std.proofs.Common.{arith}
use Rattle.dfdl_looks.proofs.Stretched.{look_at-from}
use Rattle.dfdl_looks.proofs.laws.stretches_begin.Goals as goal

pub returns : goal.returns
returns c count k ends go = look_at-from count k k ends go (omega arith)
