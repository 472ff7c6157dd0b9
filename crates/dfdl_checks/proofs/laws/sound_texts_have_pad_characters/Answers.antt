use Rattle.dfdl_checks.proofs.SoundPads.{has-single, in-encoding}
use Rattle.dfdl_checks.proofs.laws.sound_texts_have_pad_characters.Goals as goal

pub returns-clause-single : goal.returns-clause-single
returns-clause-single c = has-single

pub returns-clause-encoded : goal.returns-clause-encoded
returns-clause-encoded c = in-encoding
