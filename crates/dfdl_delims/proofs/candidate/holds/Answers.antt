use Rattle.dfdl_delims.proofs.Adding.{there}
use Rattle.dfdl_delims.proofs.candidate.holds.Goals as goal

pub returns-then-is_same : goal.returns-then-is_same
returns-then-is_same c = λ _ test.
    there c.args.candidates.now c.loop-other.other-index _ c.args.candidate c.loop-other-test.true (c.is_same.ensures c.if-is_same.true) test
