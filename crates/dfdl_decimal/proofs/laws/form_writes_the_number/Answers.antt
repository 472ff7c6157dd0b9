use Rattle.dfdl_decimal.proofs.SameLemmas.{fixed_of-same}
use Rattle.dfdl_decimal.proofs.laws.form_writes_the_number.Goals as goal

pub returns : goal.returns
returns c = λ d. fixed_of-same c.args.form.now d c.mantissa-mantissa.ensures.fixed
