use Rattle.dfdl_texts.proofs.Whole.{text-lies}
use Rattle.dfdl_texts.proofs.laws.texts_end.Goals as goal

pub returns : goal.returns
returns c look enc replaces extent stop last k t chars end shown is = text-lies enc replaces extent stop look last k t chars end shown is
