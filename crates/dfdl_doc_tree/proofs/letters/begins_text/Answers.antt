use Rattle.std.proofs.Common.{◌∙◌}
use Rattle.std.proofs.lemmas.Str.Pattern.{starts_text}
use Rattle.dfdl_doc_tree.proofs.Begins.{begins-characters}
use Rattle.dfdl_doc_tree.proofs.Words.{starts-begins}
use Rattle.dfdl_doc_tree.proofs.letters.begins_text.Goals as goal

pub returns : goal.returns
returns c =
    let text = c.args.text.now in
    let word = c.args.word.now in
    starts_text c.starts_with.result text word c.starts_with.ensures.cases
    ∙ (starts-begins text word ∙ begins-characters text word c.utf8.text c.utf8.word)
