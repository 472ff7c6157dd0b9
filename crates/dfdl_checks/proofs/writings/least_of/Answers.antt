use Rattle.std.proofs.Common.{sym, ◌∙◌}
use Rattle.dfdl_checks.proofs.Digits.{too-large}
use Rattle.dfdl_checks.proofs.writings.least_of.Goals as goal

pub returns-in-Err : goal.returns-in-Err
returns-in-Err c =
    too-large c.args.text.now c.parse.result c.in-Err.field-0 (sym c.is_number.ensures ∙ c.if-not-is_number.false) c.parse.ensures.value.0
    c.in-Err.is
