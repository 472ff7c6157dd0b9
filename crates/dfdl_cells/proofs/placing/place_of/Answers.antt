use Rattle.dfdl_cells.proofs.Answered.{answers_same, place_answers}
use Rattle.dfdl_cells.proofs.placing.place_of.Goals as goal

pub returns : goal.returns
returns c = answers_same _ c.args.known.now _ _ c.bits_before.ensures (place_answers c.args.known.now c.args.book.now c.args.place.now)
