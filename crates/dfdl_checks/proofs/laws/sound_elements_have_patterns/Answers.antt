use Rattle.dfdl_checks.proofs.SoundPatterns.{has-pattern}
use Rattle.dfdl_checks.proofs.laws.sound_elements_have_patterns.Goals as goal

pub returns : goal.returns
returns c = has-pattern
