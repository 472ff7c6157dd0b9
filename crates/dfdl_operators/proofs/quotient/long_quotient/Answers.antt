use Rattle.std.proofs.Common.{◌≢◌, ◌*◌, ◌/◌, ◌%◌, ◌^◌, ◌∙◌, sym, ap, arith, ok_or}
use Rattle.dfdl_operators.specs.declared.fault.OperatorFault.TheVariants.{PastRange}
use Rattle.dfdl_operators.specs.Operators.{exactly}
use Rattle.dfdl_decimal.proofs.QuotientLemmas.{exact_longer, last_of}
use Rattle.dfdl_operators.proofs.quotient.long_quotient.Goals as goal

pub returns-in-Some : goal.returns-in-Some
returns-in-Some c =
    let x = c.args.of.dividend in
    let y = c.args.of.divisor in
    let k = c.in-Some.found.zeros in
    let n = x * 10 ^ k / y in
    let found = c.in-Some.ensures in
    c.ok_or.ensures.value
    ∙ ap (λ o. ok_or o PastRange) (c.raised.ensures n found.number (last_of (n % 10 ≢ 0) x y k (omega arith) found.last))
    ∙ sym (ap exactly (exact_longer c.args.of.negative x y k c.args.zeros c.requires found.few found.exact))
