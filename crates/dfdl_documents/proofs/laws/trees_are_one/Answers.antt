use Rattle.dfdl_documents.proofs.Trees.{one_tree}
use Rattle.dfdl_documents.proofs.laws.trees_are_one.Goals as goal

pub returns : goal.returns
returns c =
    one_tree c.documents_are_read.ensures.refused c.documents_are_read.ensures.ends c.documents_are_read.ensures.only
    c.refusals_are_one.ensures.no_tree
