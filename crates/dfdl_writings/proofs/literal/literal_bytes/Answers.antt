use Rattle.std.proofs.Common.{Some, ◌∙◌, sym, ap, arith}
use Rattle.dfdl_writings.proofs.Literals.{further, lacks, ended}
use Rattle.dfdl_writings.proofs.literal.literal_bytes.Goals as goal

pub returns-in_default : goal.returns-in_default
returns-in_default c =
    lacks c.args.encoding c.args.new_line.now c.args.pieces.now c.loop-piece.piece-index _ c.loop-piece.all.items _ c.loop-piece-test.true
    (sym c.in_default.is ∙ c.in_ok-bytes.ensures) c.loop-piece.invariant

pub loop-piece-preserved : goal.loop-piece-preserved
loop-piece-preserved c =
    further c.args.encoding c.args.new_line.now c.args.pieces.now c.loop-piece.piece-index _ c.loop-piece.all.items _ _ _ c.loop-piece-test.true
    (ap Some c.as_slice.ensures ∙ (sym c.in-Some.is ∙ c.in_ok-bytes.ensures)) c.in_ok-extend_from_slice.ensures.items c.loop-piece.invariant

pub returns : goal.returns
returns c =
    ap Some c.from_vec.ensures ∙ ended c.args.encoding c.args.new_line.now c.args.pieces.now c.loop-piece.piece-index c.loop-piece.all.items _ (omega (arith, c.loop-piece-test.false))
    c.loop-piece.invariant
