use Rattle.std.proofs.Common.{◌≡◌, ◌+◌, ◌*◌, ◌/◌, ◌%◌, arith}
use Rattle.dfdl_bits.proofs.Putting.{range_stays}
use Rattle.dfdl_bits.proofs.put.put_pair.Goals as goal

pub returns-clause-apart : goal.returns-clause-apart
returns-clause-apart c =
    let place : 8 * (c.args.bit / 8 + c.args.at) + c.args.bit % 8 ≡ c.args.bit + 8 * c.args.at = omega arith in
    range_stays c.args.bits_by c.args.bytes.now c.put_byte.new.bytes (c.args.bit + 8 * c.args.at) 8 (rw place at c.put_byte.ensures.kept)
