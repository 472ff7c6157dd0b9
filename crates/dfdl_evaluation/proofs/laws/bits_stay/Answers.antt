use Rattle.dfdl_evaluation.proofs.BitsStay.{bits_stay}
use Rattle.dfdl_evaluation.proofs.laws.bits_stay.Goals as goal

pub returns : goal.returns
returns c = bits_stay c.value_stays.ensures
