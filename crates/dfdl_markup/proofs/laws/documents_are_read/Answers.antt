use Rattle.dfdl_markup.proofs.Assembled.{reads}
use Rattle.dfdl_markup.proofs.BuiltDocuments.{built_runs, tree_is_built}
use Rattle.dfdl_markup.proofs.BytesRead.{stopped, cut_off, read_through}
use Rattle.dfdl_markup.proofs.laws.documents_are_read.Goals as goal

pub returns-clause-refused : goal.returns-clause-refused
returns-clause-refused c = stopped reads built_runs tree_is_built

pub returns-clause-ends : goal.returns-clause-ends
returns-clause-ends c = cut_off reads built_runs tree_is_built

pub returns-clause-tree : goal.returns-clause-tree
returns-clause-tree c bytes i is takes =
    (read_through reads built_runs tree_is_built bytes i is takes).0

pub returns-clause-only : goal.returns-clause-only
returns-clause-only c bytes i is takes =
    (read_through reads built_runs tree_is_built bytes i is takes).1
