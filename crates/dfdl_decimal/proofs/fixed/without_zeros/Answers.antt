use Rattle.std.proofs.Common.{sym, ap, ◌∙◌}
use Rattle.dfdl_decimal.specs.Decimal.{shortest_from, with_sign}
use Rattle.dfdl_decimal.proofs.FixedLemmas.{shortest_from-none}
use Rattle.dfdl_decimal.proofs.fixed.without_zeros.Goals as goal

pub returns-then-digits-eq0-clause-same : goal.returns-then-digits-eq0-clause-same
returns-then-digits-eq0-clause-same c = λ b.
    sym (ap (λ n. shortest_from c.args.digits.scale (with_sign b n)) c.if-digits-eq0.true ∙ shortest_from-none b c.args.digits.scale)
