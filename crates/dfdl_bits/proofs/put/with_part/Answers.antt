use Rattle.std.proofs.Common.{arith}
use Rattle.dfdl_bits.proofs.Patches.{patched_is, patched-lt}
use Rattle.dfdl_bits.proofs.put.with_part.Goals as goal

pub overflow_cast-result : goal.overflow_cast-result
overflow_cast-result c =
    rw (c.from-byte.ensures, c.from.ensures, patched_is c.args.byte c.args.low c.args.len c.args.part (omega arith) c.requires.inside c.requires.fits)
    (omega (arith, patched-lt c.args.byte c.args.low c.args.len c.args.part (omega arith) c.requires.inside c.requires.fits))

pub returns : goal.returns
returns c =
    rw (c.from-byte.ensures, c.from.ensures)
    (patched_is c.args.byte c.args.low c.args.len c.args.part (omega arith) c.requires.inside c.requires.fits)
