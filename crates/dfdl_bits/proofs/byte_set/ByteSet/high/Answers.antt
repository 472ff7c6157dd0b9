use Rattle.dfdl_bits.proofs.ByteSets.{high}
use Rattle.dfdl_bits.proofs.byte_set.ByteSet.high.Goals as goal

pub returns : goal.returns
returns c = high
