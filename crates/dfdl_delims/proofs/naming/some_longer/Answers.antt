use Rattle.std.proofs.Common.{sym, ◌∙◌}
use Rattle.dfdl_delims.specs.Verdicts.{has_some, named_firsts, some_first}
use Rattle.dfdl_delims.proofs.Kept.{some_end, some_found, some_kept}
use Rattle.dfdl_delims.proofs.naming.some_longer.Goals as goal

pub returns-then-has_some : goal.returns-then-has_some
returns-then-has_some c =
    some_found has_some c.args.firsts.now c.args.numbers.now c.loop-number.number-index 0 c.first_at.result
    (some_first has_some (named_firsts c.args.firsts.now c.args.numbers.now)) c.loop-number-test.true c.first_at.ensures
    (sym c.has_some.ensures ∙ c.if-has_some.true) c.loop-number.invariant

pub loop-number-preserved : goal.loop-number-preserved
loop-number-preserved c =
    some_kept has_some c.args.firsts.now c.args.numbers.now c.loop-number.number-index 0 c.first_at.result
    (some_first has_some (named_firsts c.args.firsts.now c.args.numbers.now)) c.loop-number-test.true c.first_at.ensures
    (sym c.has_some.ensures ∙ c.if-has_some.false) c.loop-number.invariant

pub returns : goal.returns
returns c =
    some_end has_some c.args.firsts.now c.args.numbers.now c.loop-number.number-index
    (some_first has_some (named_firsts c.args.firsts.now c.args.numbers.now)) c.loop-number-test.false c.loop-number.invariant
