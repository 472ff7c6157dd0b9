use Rattle.std.proofs.Common.{length, ap, arith}
use Rattle.dfdl_number_text.proofs.WriteLemmas.{integer_text, integer_long}
use Rattle.dfdl_number_text.proofs.write_value.put_whole.Goals as goal

pub put_digits-requires-clause-room : goal.put_digits-requires-clause-room
put_digits-requires-clause-room c =
    let digits = c.digits_of.result in
    let text = integer_text c.args.groups c.args.least c.args.whole digits.base digits.count digits.number c.digits_of.ensures.base c.digits_of.ensures.number (c.digits_of.ensures.count 39 (omega (arith, c.ranges.whole.fits))) in
    omega (arith, ap length text, integer_long c.args.groups c.args.least c.args.whole c.requires.least, c.requires.room)

pub returns-clause-place : goal.returns-clause-place
returns-clause-place c =
    let digits = c.digits_of.result in
    let text = integer_text c.args.groups c.args.least c.args.whole digits.base digits.count digits.number c.digits_of.ensures.base c.digits_of.ensures.number (c.digits_of.ensures.count 39 (omega (arith, c.ranges.whole.fits))) in
    rw text at c.put_digits.ensures.place

pub returns-clause-few : goal.returns-clause-few
returns-clause-few c =
    let digits = c.digits_of.result in
    let text = integer_text c.args.groups c.args.least c.args.whole digits.base digits.count digits.number c.digits_of.ensures.base c.digits_of.ensures.number (c.digits_of.ensures.count 39 (omega (arith, c.ranges.whole.fits))) in
    omega (arith, ap length text, integer_long c.args.groups c.args.least c.args.whole c.requires.least, c.put_digits.ensures.place)

pub returns-clause-put : goal.returns-clause-put
returns-clause-put c =
    let digits = c.digits_of.result in
    let text = integer_text c.args.groups c.args.least c.args.whole digits.base digits.count digits.number c.digits_of.ensures.base c.digits_of.ensures.number (c.digits_of.ensures.count 39 (omega (arith, c.ranges.whole.fits))) in
    rw text at c.put_digits.ensures.put
