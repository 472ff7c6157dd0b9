use Rattle.std.proofs.Common.{◌∙◌, sym, ap, option_map}
use Rattle.dfdl_decimal.specs.Decimal.{with_sign}
use Rattle.dfdl_value.specs.declared.value.Value.TheVariants.{Dec}
use Rattle.dfdl_operators.proofs.HeldLemmas.{held-whole, held-fraction}
use Rattle.dfdl_operators.proofs.held.value_of.Goals as goal

pub returns-then-digits-eq0 : goal.returns-then-digits-eq0
returns-then-digits-eq0 c =
    let digits = c.without_zeros-digits in
    c.whole_value-then-digits-eq0.ensures
    ∙ held-whole (record { mantissa = with_sign c.args.negative c.args.magnitude; scale = c.args.scale }) c.args.negative digits.result.magnitude digits.result.scale
    (digits.ensures.same c.args.negative) digits.ensures.last c.if-digits-eq0.true

pub returns-in-Some : goal.returns-in-Some
returns-in-Some c =
    let digits = c.without_zeros-digits in
    ap (option_map Dec) c.in-Some.ensures
    ∙ sym (held-fraction (record { mantissa = with_sign c.args.negative c.args.magnitude; scale = c.args.scale }) c.args.negative digits.result.magnitude digits.result.scale
    (digits.ensures.same c.args.negative) digits.ensures.last c.if-digits-eq0.false)

pub returns-in-None : goal.returns-in-None
returns-in-None c =
    let digits = c.without_zeros-digits in
    ap (option_map Dec) c.in-None.ensures
    ∙ sym (held-fraction (record { mantissa = with_sign c.args.negative c.args.magnitude; scale = c.args.scale }) c.args.negative digits.result.magnitude digits.result.scale
    (digits.ensures.same c.args.negative) digits.ensures.last c.if-digits-eq0.false)
