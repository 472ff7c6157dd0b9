use Rattle.std.proofs.Common.{sym, ◌∙◌}
use Rattle.dfdl_checks.proofs.AlikeChains.{both}
use Rattle.dfdl_checks.proofs.Digits.{too-wide}
use Rattle.dfdl_checks.specs.Values.{is_within}
use Rattle.dfdl_checks.proofs.values.number_within.Goals as goal

pub returns-in-Err : goal.returns-in-Err
returns-in-Err c =
    too-wide c.args.least c.args.most c.args.text.now c.parse.result c.in-Err.field-0 c.ranges.most.fits
    (sym (both (λ least most. is_within least most c.args.text.now) c.from.ensures c.from-2.ensures)
    ∙ (sym c.is_within.ensures ∙ c.if-not-is_within.false))
    c.parse.ensures.value.0 c.in-Err.is
