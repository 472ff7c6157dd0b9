use Rattle.std.proofs.Common.{subst, OnErr}
use Rattle.dfdl_edge.specs.Sink.{AddsFront}
use Rattle.dfdl_pieces.specs.Pieces.{joined}
use Rattle.dfdl_run.proofs.PieceLemmas.{stopped}
use Rattle.dfdl_run.proofs.delivery.write_pieces.Goals as goal

pub returns-then-is_err-clause-err : goal.returns-then-is_err-clause-err
returns-then-is_err-clause-err g c =
    subst (λ ps. OnErr c.write-written.result (AddsFront (g.K.Sink.seen c.args.out.now).taken (joined ps) (g.K.Sink.seen c.write-written.new.self).taken)) c.as_slice-piece-items.ensures
    (stopped c.write-written.result _ _ _ _ _ _ _ c.as_slice.result.now _ c.loop-piece-test.true c.loop-piece.invariant c.as_slice.ensures c.piece-item.is c.write-written.ensures.err)
