use Rattle.dfdl_markup.proofs.Fewer.{no_tree, one_refusal}
use Rattle.dfdl_markup.proofs.laws.refusals_are_one.Goals as goal

pub returns-clause-one : goal.returns-clause-one
returns-clause-one c = one_refusal

pub returns-clause-no_tree : goal.returns-clause-no_tree
returns-clause-no_tree c = no_tree
