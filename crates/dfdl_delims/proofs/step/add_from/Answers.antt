use Rattle.dfdl_delims.specs.Candidates.{begun_from, further, passes, pieces_from}
use Rattle.std.proofs.Common.{◌+◌, sym, ◌∙◌}
use Rattle.dfdl_delims.proofs.Adding.{from_end, from_more, goes_by, stops_by}
use Rattle.dfdl_delims.proofs.step.add_from.Goals as goal

pub returns-in-None : goal.returns-in-None
returns-in-None c =
    from_end c.args.into.now.items (begun_from (pieces_from c.args.pieces.now c.args.candidate.at c.args.candidate.end) c.args.byte c.args.candidate)
    c.pieces.into.items (pieces_from c.args.pieces.now c.pieces.place.at c.pieces.place.end) c.args.byte c.pieces.place c.in-None.ensures
    c.pieces.invariant

pub returns-then-not-passes : goal.returns-then-not-passes
returns-then-not-passes c =
    stops_by c.args.into.now.items (begun_from (pieces_from c.args.pieces.now c.args.candidate.at c.args.candidate.end) c.args.byte c.args.candidate)
    c.add_piece.new.into.items (begun_from (pieces_from c.args.pieces.now (c.pieces.place.at + 1) c.pieces.place.end) c.args.byte (further c.pieces.place))
    (passes c.in-Some.piece) (sym c.passes.ensures ∙ c.if-not-passes.true)
    (from_more c.args.into.now.items _ c.pieces.into.items c.add_piece.new.into.items c.args.pieces.now c.args.byte c.pieces.place.at c.pieces.place.end
    c.in-Some.piece c.pieces.place c.in-Some.ensures.1 c.in_ok-add_piece-in-Some.ensures c.pieces.invariant)

pub pieces-preserved : goal.pieces-preserved
pieces-preserved c =
    goes_by c.args.into.now.items (begun_from (pieces_from c.args.pieces.now c.args.candidate.at c.args.candidate.end) c.args.byte c.args.candidate)
    c.add_piece.new.into.items (begun_from (pieces_from c.args.pieces.now (c.pieces.place.at + 1) c.pieces.place.end) c.args.byte (further c.pieces.place))
    (passes c.in-Some.piece) (sym c.passes.ensures ∙ c.if-not-passes.false)
    (from_more c.args.into.now.items _ c.pieces.into.items c.add_piece.new.into.items c.args.pieces.now c.args.byte c.pieces.place.at c.pieces.place.end
    c.in-Some.piece c.pieces.place c.in-Some.ensures.1 c.in_ok-add_piece-in-Some.ensures c.pieces.invariant)
