use Rattle.dfdl_literals.proofs.TextListLaws.{reading_stands, stands_for_one}
use Rattle.dfdl_literals.proofs.text_lists.text_lists_stand_for_one.Goals as goal

pub returns-clause-stands_for : goal.returns-clause-stands_for
returns-clause-stands_for c = reading_stands

pub returns-clause-one : goal.returns-clause-one
returns-clause-one c = stands_for_one
