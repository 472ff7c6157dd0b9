use Rattle.dfdl_chains.proofs.Within.{named_group_within}
use Rattle.dfdl_chains.proofs.hidden.named.Goals as goal

pub returns-clause-within : goal.returns-clause-within
returns-clause-within c = named_group_within c.args.schema.now c.args.writer c.args.text.now c.find_named.result c.find_named.ensures
