use Rattle.std.proofs.Common.{◌*◌, ◌-◌, ◌^◌, ◌∙◌, sym, ap, arith}
use Rattle.dfdl_decimal.specs.Decimal.{with_sign}
use Rattle.dfdl_decimal.proofs.QuotientLemmas.{held_is, held_none}
use Rattle.dfdl_operators.specs.Numbers.{held}
use Rattle.dfdl_operators.proofs.QuotientLemmas.{held-few, held-many, past_longer, past_number}
use Rattle.dfdl_operators.proofs.quotient.raised.Goals as goal

pub returns-in_err-magnitude : goal.returns-in_err-magnitude
returns-in_err-magnitude c = λ n is last.
    let far = held_none c.args.number n c.in_err-magnitude.was is in
    c.from_residual.ensures ∙ sym (past_number c.args.negative n c.args.zeros far (last far))

pub returns-then-zeros-le18 : goal.returns-then-zeros-le18
returns-then-zeros-le18 c = λ n is last.
    let same = held_is c.args.number c.in_ok-magnitude.magnitude n c.in_ok-magnitude.was is in
    c.value_of.ensures ∙ ap (λ m. held (record { mantissa = with_sign c.args.negative m; scale = 18 - c.args.zeros })) same
    ∙ held-few c.args.negative n c.args.zeros c.if-zeros-le18.true

pub returns-in_err-longer : goal.returns-in_err-longer
returns-in_err-longer c = λ n is last.
    let same = held_is c.args.number c.in_ok-magnitude.magnitude n c.in_ok-magnitude.was is in
    let longer = ap (λ m. m * 10 ^ (c.args.zeros - 18)) same in
    c.from_residual-in_err-longer.ensures ∙ sym (past_longer c.args.negative n c.args.zeros (omega arith) (omega (arith, longer, c.in_err-longer.ensures)))

pub returns : goal.returns
returns c = λ n is last.
    let same = held_is c.args.number c.in_ok-magnitude.magnitude n c.in_ok-magnitude.was is in
    let longer = c.in_ok-longer.ensures.1 ∙ ap (λ m. m * 10 ^ (c.args.zeros - 18)) same in
    c.value_of-2.ensures ∙ ap (λ m. held (record { mantissa = with_sign c.args.negative m; scale = 0 })) longer
    ∙ held-many c.args.negative n c.args.zeros (omega arith)
