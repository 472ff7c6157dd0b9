use Rattle.dfdl_separators.proofs.Opened.{opened}
use Rattle.dfdl_separators.proofs.Settled.{settled}
use Rattle.dfdl_separators.proofs.laws.asks_what_counts.Goals as goal

pub returns-clause-settled : goal.returns-clause-settled
returns-clause-settled c = settled

pub returns-clause-asked : goal.returns-clause-asked
returns-clause-asked c = opened
