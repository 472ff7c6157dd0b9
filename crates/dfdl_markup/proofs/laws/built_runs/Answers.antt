use Rattle.dfdl_markup.proofs.BuiltDocuments.{built_runs, built_tells}
use Rattle.dfdl_markup.proofs.laws.built_runs.Goals as goal

pub returns-clause-goes : goal.returns-clause-goes
returns-clause-goes c = built_runs

pub returns-clause-tells : goal.returns-clause-tells
returns-clause-tells c = built_tells
