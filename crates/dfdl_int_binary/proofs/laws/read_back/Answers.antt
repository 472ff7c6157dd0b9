use Rattle.dfdl_forms.specs.Types.{form_of}
use Rattle.dfdl_int_binary.proofs.Back.{form_back, truth_back}
use Rattle.dfdl_int_binary.proofs.laws.read_back.Goals as goal

pub returns-clause-integers : goal.returns-clause-integers
returns-clause-integers c = λ form value number is of e. form_back (form_of form.kind) form.bits form.point number value (is.some, is.few) of e

pub returns-clause-truths : goal.returns-clause-truths
returns-clause-truths c = λ form truth number is differs e. truth_back form truth number is differs e
