use Rattle.dfdl_edge.proofs.Filling.{is_rest_after}
use Rattle.dfdl_edge.proofs.whole.read_to_limit.Goals as goal

-- what is left after the look for a further byte is an end of what was left before the first read
pub returns-in_err-expect_end-clause-rest : goal.returns-in_err-expect_end-clause-rest
returns-in_err-expect_end-clause-rest g c =
    is_rest_after _ _ _ _ c.loop-filled.invariant.given c.in_err-expect_end.ensures.rest
