use Rattle.dfdl_chains.proofs.GroupsNamed.{named_within}
use Rattle.dfdl_chains.proofs.hidden.named_groups_are_within.Goals as goal

pub returns : goal.returns
returns c = λ documents text writer own is. named_within documents text writer own is
