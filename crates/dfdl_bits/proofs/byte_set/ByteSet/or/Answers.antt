use Rattle.dfdl_bits.proofs.ByteSets.{both}
use Rattle.dfdl_bits.proofs.byte_set.ByteSet.or.Goals as goal

pub returns : goal.returns
returns c = both c.args.self.words c.args.other.words
