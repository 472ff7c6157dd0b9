use Rattle.dfdl_markup.proofs.BuiltDocuments.{tree_is_built}
use Rattle.dfdl_markup.proofs.laws.tree_is_built.Goals as goal

pub returns : goal.returns
returns c = tree_is_built
