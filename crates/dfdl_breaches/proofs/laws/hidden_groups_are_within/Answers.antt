use Rattle.dfdl_breaches.proofs.HiddenKinds.{hidden_within}
use Rattle.dfdl_breaches.proofs.laws.hidden_groups_are_within.Goals as goal

pub returns : goal.returns
returns c = λ purpose documents own content is. hidden_within purpose documents (c.named_groups_are_within.ensures documents) own content is
