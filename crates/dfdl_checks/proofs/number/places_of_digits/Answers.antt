use Rattle.std.proofs.Common.{sym, ◌∙◌}
use Rattle.dfdl_checks.proofs.Digits.{too-deep}
use Rattle.dfdl_checks.proofs.number.places_of_digits.Goals as goal

pub returns-in-Err : goal.returns-in-Err
returns-in-Err c =
    too-deep c.args.text.now c.parse.result c.in-Err.field-0 (sym c.is_within.ensures ∙ c.if-not-is_within.false) c.parse.ensures.value.0 c.in-Err.is
