use Rattle.dfdl_evaluation.proofs.OnePiece.{book_sound}
use Rattle.dfdl_evaluation.proofs.tests.answered.Goals as goal

pub answer-requires-clause-sound : goal.answer-requires-clause-sound
answer-requires-clause-sound c = book_sound c.new-plan.result c.in_ok-book.book c.args.piece c.requires c.in_ok-book.ensures
