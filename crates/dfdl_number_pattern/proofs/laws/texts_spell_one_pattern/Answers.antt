use Rattle.dfdl_number_pattern.proofs.Spelled.{one_read, read_spelled, spelled_bounded}
use Rattle.dfdl_number_pattern.proofs.laws.texts_spell_one_pattern.Goals as goal

pub returns-clause-spelled : goal.returns-clause-spelled
returns-clause-spelled c = read_spelled

pub returns-clause-one : goal.returns-clause-one
returns-clause-one c = one_read

pub returns-clause-bounded : goal.returns-clause-bounded
returns-clause-bounded c = λ text p is. spelled_bounded p text (read_spelled text p is)
