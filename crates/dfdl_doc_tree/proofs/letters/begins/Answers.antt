use Rattle.std.proofs.Common.{◌∙◌}
use Rattle.dfdl_doc_tree.proofs.Words.{starts-begins}
use Rattle.dfdl_doc_tree.proofs.letters.begins.Goals as goal

pub returns : goal.returns
returns c = c.starts_with.ensures.value ∙ starts-begins c.args.text.now c.args.word.now
