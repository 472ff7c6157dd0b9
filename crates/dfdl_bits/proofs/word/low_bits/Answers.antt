use Rattle.std.proofs.Common.{arith}
use Rattle.dfdl_bits.proofs.Shifts.{and_low}
use Rattle.dfdl_bits.proofs.word.low_bits.Goals as goal

pub returns : goal.returns
returns c = and_low 64 c.args.value c.args.len (omega arith)
