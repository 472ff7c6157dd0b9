use Rattle.dfdl_looks.specs.Tallies.{nothing}
use Rattle.dfdl_escapes.proofs.Moving.{told-moves}
use Rattle.dfdl_escapes.proofs.laws.steps_move.Goals as goal

pub returns : goal.returns
returns c look test lists form at step is = told-moves look test lists form at step nothing is
