use Rattle.dfdl_evaluation.proofs.BitsAnswered.{told_bits}
use Rattle.dfdl_evaluation.proofs.writing.write_piece.Goals as goal

pub returns : goal.returns
returns c =
    told_bits c.args.plan.now c.args.book.now c.args.known.now c.args.piece _ c.of_laid.result c.piece.ensures c.of_laid.ensures
