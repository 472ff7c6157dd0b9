use Rattle.dfdl_evaluation.proofs.OnePiece.{book_sound}
use Rattle.dfdl_evaluation.proofs.tests.written.Goals as goal

pub write_piece-requires : goal.write_piece-requires
write_piece-requires c = book_sound c.new-plan.result c.in_ok-book.book c.args.piece c.requires c.in_ok-book.ensures
