use Rattle.dfdl_checks.proofs.Sound.{has-primitive}
use Rattle.dfdl_checks.proofs.SoundBoxes.{are-others}
use Rattle.dfdl_checks.proofs.Told.{are-values}
use Rattle.dfdl_checks.proofs.laws.sound_elements_have_primitives.Goals as goal

pub returns-clause-primitive : goal.returns-clause-primitive
returns-clause-primitive c = has-primitive

pub returns-clause-binary : goal.returns-clause-binary
returns-clause-binary c = are-values

pub returns-clause-others : goal.returns-clause-others
returns-clause-others c = are-others
