use Rattle.std.proofs.Common.{◌≡◌, ◌+◌, ◌*◌, ◌/◌, ◌%◌, arith}
use Rattle.dfdl_bits.proofs.Putting.{range_stays}
use Rattle.dfdl_bits.proofs.put.put_number.Goals as goal

pub returns-clause-apart : goal.returns-clause-apart
returns-clause-apart c =
    let place : 8 * (c.args.bit / 8) + c.args.bit % 8 ≡ c.args.bit = omega arith in
    range_stays c.args.bits_by c.args.bytes.now c.put_at.new.bytes c.args.bit c.args.len (rw place at c.put_at.ensures.kept)
