use Rattle.dfdl_bits.proofs.ByteSets.{one}
use Rattle.dfdl_bits.proofs.byte_set.ByteSet.of.Goals as goal

pub returns : goal.returns
returns c =
    one c.args.byte c.bit_in.result c.bit_in-2.result c.bit_in-3.result c.bit_in-4.result c.bit_in.ensures c.bit_in-2.ensures c.bit_in-3.ensures
    c.bit_in-4.ensures
