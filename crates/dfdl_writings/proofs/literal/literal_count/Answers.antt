use Rattle.std.proofs.Common.{◌∙◌, ap, ◌+◌, arith}
use Rattle.dfdl_writings.proofs.Literals.{counted, all_counted}
use Rattle.dfdl_writings.proofs.literal.literal_count.Goals as goal

pub loop-piece-preserved : goal.loop-piece-preserved
loop-piece-preserved c =
    counted c.args.new_line.now c.args.pieces.now c.loop-piece.piece-index _ c.loop-piece.count _ _ c.loop-piece-test.true
    (c.in-Some.ensures.1 ∙ ap (λ k. c.loop-piece.count + k) c.piece_count.ensures) c.loop-piece.invariant

pub returns : goal.returns
returns c =
    all_counted c.args.new_line.now c.args.pieces.now c.loop-piece.piece-index c.loop-piece.count _ (omega (arith, c.loop-piece-test.false))
    c.loop-piece.invariant
