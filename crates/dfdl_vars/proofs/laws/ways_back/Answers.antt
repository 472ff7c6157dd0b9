use Rattle.dfdl_vars.proofs.Ways.{here, back_set, back_read, back_entered, back_left, sound_opened, sound_set, sound_read, sound_entered, sound_left, sound_gone}
use Rattle.dfdl_vars.proofs.laws.ways_back.Goals as goal

pub returns-clause-here : goal.returns-clause-here
returns-clause-here c = here

pub returns-clause-set : goal.returns-clause-set
returns-clause-set c = back_set

pub returns-clause-read : goal.returns-clause-read
returns-clause-read c = back_read

pub returns-clause-entered : goal.returns-clause-entered
returns-clause-entered c = back_entered

pub returns-clause-left : goal.returns-clause-left
returns-clause-left c = back_left

pub returns-clause-opened : goal.returns-clause-opened
returns-clause-opened c = sound_opened

pub returns-clause-sound_set : goal.returns-clause-sound_set
returns-clause-sound_set c = sound_set

pub returns-clause-sound_read : goal.returns-clause-sound_read
returns-clause-sound_read c = sound_read

pub returns-clause-sound_entered : goal.returns-clause-sound_entered
returns-clause-sound_entered c = sound_entered

pub returns-clause-sound_left : goal.returns-clause-sound_left
returns-clause-sound_left c = sound_left

pub returns-clause-sound_gone : goal.returns-clause-sound_gone
returns-clause-sound_gone c = sound_gone
