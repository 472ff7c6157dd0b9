use Rattle.std.proofs.Common.{◌<◌, length, arith}
use Rattle.dfdl_delims.proofs.Fills.{begins_then, pieces_kept, starts_end, starts_kept}
use Rattle.dfdl_delims.proofs.filling.put_literals.Goals as goal

pub loop-at-preserved : goal.loop-at-preserved
loop-at-preserved c =
    let within : c.loop-at.at < length c.args.literals.now = omega (arith, c.loop-at-test.true, c.len-at-end.ensures) in
    record {
      starts = starts_kept c.args.place c.args.encoding c.args.fold c.args.literals.now c.loop-at.at c.pieces.result.now c.loop-at.starts.items
          c.put_literal.new.starts.items _ c.loop-at.pieces.items c.put_literal.new.pieces.items within c.pieces.ensures
          c.in_ok-put_literal.ensures.starts c.in_ok-put_literal.ensures.pieces c.loop-at.invariant.starts;
      pieces = pieces_kept c.args.literals.now c.loop-at.at c.pieces.result.now c.loop-at.pieces.items c.put_literal.new.pieces.items _ within
          c.pieces.ensures c.in_ok-put_literal.ensures.pieces c.loop-at.invariant.pieces;
      kept = begins_then c.args.starts.now.items c.loop-at.starts.items c.put_literal.new.starts.items c.loop-at.invariant.kept c.in_ok-put_literal.ensures.kept;
      kept_pieces = begins_then c.args.pieces.now.items c.loop-at.pieces.items c.put_literal.new.pieces.items c.loop-at.invariant.kept_pieces
          c.in_ok-put_literal.ensures.kept_pieces;
    }

pub returns-clause-starts : goal.returns-clause-starts
returns-clause-starts c =
    starts_end c.args.place c.args.encoding c.args.fold c.args.literals.now c.loop-at.at (length c.loop-at.pieces.items) c.loop-at.starts.items _
    (omega (arith, c.loop-at-test.false, c.len-at-end.ensures)) c.loop-at.invariant.starts
