use Rattle.std.proofs.Common.{◌≡◌}
use Rattle.dfdl_number_text.proofs.DigitLemmas.{digits_few, digit_count_is}
use Rattle.dfdl_number_text.specs.Digits.{digit_count}
use Rattle.dfdl_number_text.proofs.digits.digits_of.Goals as goal

pub returns-clause-count : goal.returns-clause-count
returns-clause-count c = λ most small.
    let few = digits_few c.args.base c.args.number c.digit_count.result most c.requires c.digit_count.ensures.digits small in
    let same : digit_count c.args.base most c.args.number ≡ c.digit_count.result =
    digit_count_is c.args.base most c.args.number c.digit_count.result c.requires c.digit_count.ensures.digits few in
    rw same (c.max-count.ensures)
