use Rattle.dfdl_surroundings.proofs.Keeps.{left_leads, left_sound}
use Rattle.dfdl_surroundings.proofs.laws.ways_back.Goals as goal

pub returns-clause-stays : goal.returns-clause-stays
returns-clause-stays c = left_leads

pub returns-clause-sound : goal.returns-clause-sound
returns-clause-sound c = left_sound
