use Rattle.dfdl_looks.proofs.Costs.{plus-assoc, nothing-plus}
use Rattle.dfdl_looks.proofs.laws.costs_add_up.Goals as goal

pub returns-clause-grouped : goal.returns-clause-grouped
returns-clause-grouped c = plus-assoc

pub returns-clause-front : goal.returns-clause-front
returns-clause-front c = nothing-plus
