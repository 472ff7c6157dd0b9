use Rattle.std.proofs.Common.{◌∙◌, ap, arith}
use Rattle.dfdl_operators.specs.Operators.{exactly}
use Rattle.dfdl_decimal.proofs.QuotientLemmas.{exact_up, exact_down}
use Rattle.dfdl_operators.proofs.quotient.quotient_at.Goals as goal

pub returns-then-down-up : goal.returns-then-down-up
returns-then-down-up c =
    c.long_quotient.ensures ∙ ap exactly (exact_up c.args.of.negative c.args.of.dividend c.args.of.divisor c.args.up c.args.down c.requires c.if-down-up.true)

pub returns-else-down-up : goal.returns-else-down-up
returns-else-down-up c =
    c.short_quotient.ensures ∙ ap exactly (exact_down c.args.of.negative c.args.of.dividend c.args.of.divisor c.args.up c.args.down c.requires (omega arith))
