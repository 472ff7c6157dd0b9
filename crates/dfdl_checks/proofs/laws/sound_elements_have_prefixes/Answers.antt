use Rattle.dfdl_checks.proofs.SoundPrefixes.{has-prefix}
use Rattle.dfdl_checks.proofs.laws.sound_elements_have_prefixes.Goals as goal

pub returns : goal.returns
returns c = has-prefix
