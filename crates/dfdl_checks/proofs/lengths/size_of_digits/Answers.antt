use Rattle.std.proofs.Common.{sym, ◌∙◌}
use Rattle.dfdl_checks.proofs.Digits.{too-many}
use Rattle.dfdl_checks.proofs.lengths.size_of_digits.Goals as goal

pub returns-in-Err : goal.returns-in-Err
returns-in-Err c =
    too-many c.args.most c.args.unit c.args.text.now c.parse.result c.in-Err.field-0 c.ranges.most.fits c.requires.some
    (sym c.is_number.ensures ∙ c.if-not-is_number.false) c.parse.ensures.value.0 c.in-Err.is
