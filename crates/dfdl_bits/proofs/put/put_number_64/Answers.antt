use Rattle.std.proofs.Common.{◌≡◌, ◌+◌, ◌*◌, ◌/◌, ◌%◌, ◌^◌, ◌<◌, ◌∙◌, arith}
use Rattle.dfdl_bits.proofs.Numbers.{number_of-none}
use Rattle.dfdl_bits.proofs.Putting.{range_stays}
use Rattle.dfdl_bits.proofs.put.put_number_64.Goals as goal

pub returns-then-len-eq0-clause-number : goal.returns-then-len-eq0-clause-number
returns-then-len-eq0-clause-number c =
    let none : c.args.len ≡ 0 = omega arith in
    let below : c.args.value < 2 ^ 0 = rw none at c.requires.fits in
    rw none (number_of-none c.args.bytes.now c.args.bit c.args.bytes_by c.args.bits_by ∙ omega arith)

pub returns-clause-apart : goal.returns-clause-apart
returns-clause-apart c =
    let place : 8 * (c.args.bit / 8) + c.args.bit % 8 ≡ c.args.bit = omega arith in
    range_stays c.args.bits_by c.args.bytes.now c.put_at.new.bytes c.args.bit c.args.len (rw place at c.put_at.ensures.kept)

pub returns-then-is_word-clause-apart : goal.returns-then-is_word-clause-apart
returns-then-is_word-clause-apart c =
    let place : 8 * (c.args.bit / 8) ≡ c.args.bit = omega arith in
    range_stays c.args.bits_by c.args.bytes.now c.put_word.new.bytes c.args.bit c.args.len (rw place at c.put_word.ensures.kept)
