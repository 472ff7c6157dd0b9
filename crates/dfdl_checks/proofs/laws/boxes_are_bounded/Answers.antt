use Rattle.dfdl_checks.proofs.BoxBounds.{box-bounded, box-kind, no-box}
use Rattle.dfdl_checks.proofs.SoundBoxes.{has-box}
use Rattle.dfdl_checks.proofs.laws.boxes_are_bounded.Goals as goal

pub returns-clause-bounded : goal.returns-clause-bounded
returns-clause-bounded c = box-bounded

pub returns-clause-kind : goal.returns-clause-kind
returns-clause-kind c = box-kind

pub returns-clause-parsing : goal.returns-clause-parsing
returns-clause-parsing c = no-box

pub returns-clause-sound : goal.returns-clause-sound
returns-clause-sound c = has-box
