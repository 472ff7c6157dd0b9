use Rattle.std.proofs.Common.{◌-◌, length}
use Rattle.dfdl_grammar.proofs.Trees.{meaning-tree}
use Rattle.dfdl_grammar.proofs.laws.documents_are_trees.Goals as goal

pub returns : goal.returns
returns c limits table start bytes = meaning-tree (record { bytes = bytes; limits = limits }) table (length table.rows - 1) start
