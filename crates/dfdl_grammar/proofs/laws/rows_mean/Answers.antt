use Rattle.dfdl_grammar.proofs.Spending.{follow-spend}
use Rattle.dfdl_grammar.proofs.Towers.{below-meaning}
use Rattle.dfdl_grammar.proofs.laws.rows_mean.Goals as goal

pub returns-clause-below : goal.returns-clause-below
returns-clause-below c = below-meaning

pub returns-clause-spent : goal.returns-clause-spent
returns-clause-spent c t o next = follow-spend o.end t o next
