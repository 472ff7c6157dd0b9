use Rattle.std.proofs.Common.{sym, ◌∙◌}
use Rattle.dfdl_checks.proofs.Digits.{too-far}
use Rattle.dfdl_checks.proofs.boxes.units_of_digits.Goals as goal

pub returns-in-Err-clause-units : goal.returns-in-Err-clause-units
returns-in-Err-clause-units c =
    too-far c.args.unit c.args.text.now c.parse.result c.in-Err.field-0 c.requires.some
    (sym c.is_number.ensures ∙ c.if-not-is_number.false) c.parse.ensures.value.0 c.in-Err.is
