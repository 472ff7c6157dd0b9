use Rattle.dfdl_texts.proofs.Whole.{text-scalars}
use Rattle.dfdl_texts.proofs.laws.texts_are_characters.Goals as goal

pub returns : goal.returns
returns c look enc replaces extent stop k t chars end shown is = text-scalars enc replaces extent stop look k t chars end shown is
