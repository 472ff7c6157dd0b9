use Rattle.std.proofs.Common.{◌∙◌, sym, arith}
use Rattle.dfdl_value.specs.Texts.{is_negative, number_of}
use Rattle.dfdl_decimal.specs.Decimal.{with_sign}
use Rattle.dfdl_value.proofs.TextLemmas.{integer_of-numeral}
use Rattle.dfdl_decimal.proofs.FixedLemmas.{unsigned_abs-with_sign}
use Rattle.dfdl_value.proofs.integer.read_whole.Goals as goal

pub returns-in-None : goal.returns-in-None
returns-in-None c =
    let digits = c.unsigned_part-digits.result.now in
    let numeral = sym c.is_numeral.ensures ∙ c.if-not-is_numeral.false in (
      with_sign (is_negative c.args.text.now) (number_of digits),
      integer_of-numeral c.args.text.now digits c.unsigned_part-digits.ensures numeral,
      rw unsigned_abs-with_sign (omega (arith, c.in-None.ensures)),
    )
