use Rattle.std.proofs.Common.{[], take, ◌+◌, refl, sym, subst}
use Rattle.dfdl_delims.specs.Candidates.{complete}
use Rattle.dfdl_delims.specs.Hits.{IsLast}
use Rattle.dfdl_delims.proofs.Going.{last_end, last_kept, none_yet}
use Rattle.dfdl_delims.proofs.finding.innermost.Goals as goal

pub loop-candidate-init : goal.loop-candidate-init
loop-candidate-init c = none_yet c.args.pieces.now c.args.live.now

pub loop-candidate-preserved : goal.loop-candidate-preserved
loop-candidate-preserved c =
    subst (IsLast (λ n. complete c.args.pieces.now n (take (c.loop-candidate.candidate-index + 1) c.args.live.now) [])) (sym c.counted-best.ensures)
    (last_kept c.args.pieces.now c.args.live.now c.loop-candidate.candidate-index _ c.loop-candidate.best _ c.is_whole.result c.loop-candidate-test.true
    refl c.is_whole.ensures c.loop-candidate.invariant)

pub returns : goal.returns
returns c =
    last_end c.args.pieces.now c.args.live.now c.loop-candidate.candidate-index c.loop-candidate.best c.loop-candidate-test.false c.loop-candidate.invariant
