use Rattle.dfdl_texts.proofs.Whole.{text-from}
use Rattle.dfdl_texts.proofs.laws.texts_begin.Goals as goal

pub returns : goal.returns
returns c enc replaces extent stop k = text-from enc replaces extent stop k
