use Rattle.std.proofs.Common.{sym, ◌∙◌}
use Rattle.dfdl_delims.specs.Verdicts.{is_empty, named_firsts, some_first}
use Rattle.dfdl_delims.proofs.Kept.{some_end, some_found, some_kept}
use Rattle.dfdl_delims.proofs.naming.some_empty.Goals as goal

pub returns-then-is_empty : goal.returns-then-is_empty
returns-then-is_empty c =
    some_found is_empty c.args.firsts.now c.args.numbers.now c.loop-number.number-index 0 c.first_at.result
    (some_first is_empty (named_firsts c.args.firsts.now c.args.numbers.now)) c.loop-number-test.true c.first_at.ensures
    (sym c.is_empty.ensures ∙ c.if-is_empty.true) c.loop-number.invariant

pub loop-number-preserved : goal.loop-number-preserved
loop-number-preserved c =
    some_kept is_empty c.args.firsts.now c.args.numbers.now c.loop-number.number-index 0 c.first_at.result
    (some_first is_empty (named_firsts c.args.firsts.now c.args.numbers.now)) c.loop-number-test.true c.first_at.ensures
    (sym c.is_empty.ensures ∙ c.if-is_empty.false) c.loop-number.invariant

pub returns : goal.returns
returns c =
    some_end is_empty c.args.firsts.now c.args.numbers.now c.loop-number.number-index
    (some_first is_empty (named_firsts c.args.firsts.now c.args.numbers.now)) c.loop-number-test.false c.loop-number.invariant
