use Rattle.dfdl_checks.proofs.SoundNils.{has-nil}
use Rattle.dfdl_checks.proofs.laws.sound_nillables_have_nil.Goals as goal

pub returns : goal.returns
returns c = has-nil
