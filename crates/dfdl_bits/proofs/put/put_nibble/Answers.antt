use Rattle.std.proofs.Common.{◌≡◌, ℕ, ◌+◌, ◌*◌, ◌/◌, ◌%◌, arith}
use Rattle.dfdl_bits.proofs.Putting.{range_stays}
use Rattle.dfdl_bits.proofs.put.put_nibble.Goals as goal

pub returns-clause-apart : goal.returns-clause-apart
returns-clause-apart c =
    let skip : ℕ = c.args.bit % 8 + c.args.at % 2 * 4 in
    let place : 8 * (c.args.bit / 8 + (c.args.at / 2 + skip / 8)) + skip % 8 ≡ c.args.bit + 4 * c.args.at = omega arith in
    range_stays c.args.bits_by c.args.bytes.now c.put_at.new.bytes (c.args.bit + 4 * c.args.at) 4 (rw place at c.put_at.ensures.kept)
