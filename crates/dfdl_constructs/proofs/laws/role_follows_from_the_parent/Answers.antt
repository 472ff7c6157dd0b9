use Rattle.dfdl_constructs.proofs.Walking.{role_follows}
use Rattle.dfdl_constructs.proofs.laws.role_follows_from_the_parent.Goals as goal

pub returns : goal.returns
returns c = role_follows
