use Rattle.dfdl_literals.specs.PadSteps.{pad_reading}
use Rattle.dfdl_literals.proofs.PadLaws.{reading_stands, stands_for_one}
use Rattle.dfdl_literals.proofs.pad.pad_texts_stand_for_one.Goals as goal

pub returns-clause-stands_for : goal.returns-clause-stands_for
returns-clause-stands_for c = reading_stands

pub returns-clause-one : goal.returns-clause-one
returns-clause-one c = λ text is stands. stands_for_one text is (pad_reading text) stands (reading_stands text)
