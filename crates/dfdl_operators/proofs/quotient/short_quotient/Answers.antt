use Rattle.std.proofs.Common.{ℕ, ◌*◌, ◌^◌, ◌<◌, ◌∙◌, sym, ap, arith, ok_or}
use Rattle.dfdl_operators.specs.declared.fault.OperatorFault.TheVariants.{PastRange}
use Rattle.dfdl_operators.specs.Operators.{exactly}
use Rattle.dfdl_decimal.proofs.OrderLemmas.{some_product, pow_some}
use Rattle.dfdl_decimal.proofs.QuotientLemmas.{exact_none, inexact_few}
use Rattle.dfdl_operators.proofs.quotient.short_quotient.Goals as goal

-- the divisor with its zeros is not zero
some_longer : (y z : ℕ) → 0 < y → 0 < y * 10 ^ z
some_longer y z some = some_product y (10 ^ z) some (pow_some z)

pub returns-then-dividend-eq0 : goal.returns-then-dividend-eq0
returns-then-dividend-eq0 c =
    c.ok_or.ensures.value ∙ ap (λ o. ok_or o PastRange) c.value_of.ensures
    ∙ sym (ap exactly (exact_none c.args.of.negative c.args.of.dividend (c.args.of.divisor * 10 ^ c.args.zeros) (some_longer c.args.of.divisor c.args.zeros c.requires) c.if-dividend-eq0.true))

pub returns-in_default : goal.returns-in_default
returns-in_default c =
    sym (ap exactly (inexact_few c.args.of.negative c.args.of.dividend (c.args.of.divisor * 10 ^ c.args.zeros) (omega arith) (omega (arith, c.in_default.ensures))))

pub returns-then-longer-dividend : goal.returns-then-longer-dividend
returns-then-longer-dividend c =
    sym (ap exactly (inexact_few c.args.of.negative c.args.of.dividend (c.args.of.divisor * 10 ^ c.args.zeros) (omega arith) (omega (arith, c.in-Some.ensures.1))))

pub nonzero_rem-dividend : goal.nonzero_rem-dividend
nonzero_rem-dividend c = omega (arith, c.in-Some.ensures.1, some_longer c.args.of.divisor c.args.zeros c.requires)
