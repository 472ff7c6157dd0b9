use Rattle.std.proofs.Common.{sym, ◌∙◌}
use Rattle.dfdl_checks.proofs.Digits.{too-long}
use Rattle.dfdl_checks.proofs.values.is_within.Goals as goal

pub returns-in-Err : goal.returns-in-Err
returns-in-Err c =
    too-long c.args.least c.args.most c.args.text.now c.parse.result c.in-Err.field-0 c.ranges.most.fits
    (sym c.is_number.ensures ∙ c.if-not-is_number.false) c.parse.ensures.value.0 c.in-Err.is
