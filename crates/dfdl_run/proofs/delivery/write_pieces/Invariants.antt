use Rattle.dfdl_run.proofs.PieceLemmas.{Sent}
use Rattle.dfdl_run.proofs.delivery.write_pieces.Given as goal

abbrev pub invariant-loop-piece : goal.invariant-loop-piece
invariant-loop-piece g l =
    Sent (g.K.Sink.seen l.fn.out).taken (g.K.Sink.seen l.fn.out).faults l.piece-items l.piece-index (g.K.Sink.seen l.out).taken (g.K.Sink.seen l.out).faults
