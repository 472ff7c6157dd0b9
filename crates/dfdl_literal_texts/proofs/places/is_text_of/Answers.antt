use Rattle.std.proofs.Common.{◌+◌, ◌∙◌, sym, arith, drop}
use Rattle.std.proofs.lemmas.List.{length-drop}
use Rattle.dfdl_literal_texts.specs.Texts.{is_text}
use Rattle.dfdl_literal_texts.specs.Places.{rest_at}
use Rattle.dfdl_literal_texts.proofs.Steps.{last_tells, text_begun, text_more}
use Rattle.dfdl_literal_texts.proofs.places.is_text_of.Goals as goal

pub loop-piece-init : goal.loop-piece-init
loop-piece-init c = record {
  length = c.begin.ensures.length;
  stands = c.begin.ensures.begun (rest_at (is_text c.args.encoding c.args.fold c.args.pieces.now) c.args.bytes.now)
      ∙ text_begun c.args.encoding c.args.fold c.args.pieces.now c.args.bytes.now;
}

pub loop-piece-preserved : goal.loop-piece-preserved
loop-piece-preserved c = record {
  length = c.step.ensures.length ∙ c.loop-piece.invariant.length;
  stands = c.step.ensures.stepped (is_text c.args.encoding c.args.fold (drop (c.loop-piece.piece-index + 1) c.args.pieces.now))
      ∙ sym (text_more c.args.encoding c.args.fold c.args.pieces.now c.loop-piece.piece-index _ c.args.bytes.now c.loop-piece.places c.loop-piece-test.true)
      ∙ c.loop-piece.invariant.stands;
}

pub returns-clause-is : goal.returns-clause-is
returns-clause-is c =
    let less = length-drop c.loop-piece.piece-index c.args.pieces.now in
    sym (last_tells c.args.encoding c.args.fold (drop c.loop-piece.piece-index c.args.pieces.now) c.args.bytes.now c.loop-piece.places
    (c.loop-piece.invariant.length ∙ c.requires.last) (omega (arith, less, c.loop-piece-test.false)))
    ∙ c.loop-piece.invariant.stands
