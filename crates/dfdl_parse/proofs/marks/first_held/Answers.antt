use Rattle.std.proofs.Common.{◌∙◌}
use Rattle.dfdl_parse.proofs.Opens.{from-here, from-next}
use Rattle.dfdl_parse.proofs.marks.first_held.Goals as goal

pub returns-then-not-mark : goal.returns-then-not-mark
returns-then-not-mark c =
    from-here c.args.marks.now c.loop-mark.mark-index c.args.bit _ c.loop-mark-test.true c.mark-item.result c.mark-item.is (c.if-not-mark.true) ∙ c.loop-mark.invariant

pub loop-mark-preserved : goal.loop-mark-preserved
loop-mark-preserved c =
    from-next c.args.marks.now c.loop-mark.mark-index c.args.bit _ c.loop-mark-test.true c.mark-item.result c.mark-item.is (c.if-not-mark.false) ∙ c.loop-mark.invariant
