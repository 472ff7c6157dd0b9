use Rattle.std.proofs.Common.{max, arith}
use Rattle.dfdl_number_text.specs.Digits.{digit_count}
use Rattle.dfdl_number_text.proofs.DigitLemmas.{small_number, digit_count_few, length-characters}
use Rattle.dfdl_number_text.proofs.write_value.put_base.Goals as goal

pub put_plain-requires-clause-room : goal.put_plain-requires-clause-room
put_plain-requires-clause-room c =
    let count = c.digits_of.ensures.count 128 (small_number c.args.base c.args.number c.requires.base c.ranges.number.fits) in
    omega (arith, count, digit_count_few c.args.base 128 c.args.number, c.requires.room)

pub returns-clause-few : goal.returns-clause-few
returns-clause-few c =
    let count = c.digits_of.ensures.count 128 (small_number c.args.base c.args.number c.requires.base c.ranges.number.fits) in
    omega (arith, count, digit_count_few c.args.base 128 c.args.number, c.put_plain.ensures.place)

pub returns-clause-place : goal.returns-clause-place
returns-clause-place c =
    let count = c.digits_of.ensures.count 128 (small_number c.args.base c.args.number c.requires.base c.ranges.number.fits) in
    omega (arith, count, c.put_plain.ensures.place, length-characters c.args.base (max 1 (digit_count c.args.base 128 c.args.number)) c.args.number)

pub returns-clause-put : goal.returns-clause-put
returns-clause-put c =
    let count = c.digits_of.ensures.count 128 (small_number c.args.base c.args.number c.requires.base c.ranges.number.fits) in
    rw (c.digits_of.ensures.base, c.digits_of.ensures.number, count) at c.put_plain.ensures.put
