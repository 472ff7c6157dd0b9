use Rattle.std.proofs.Common.{arith}
use Rattle.dfdl_packed.proofs.ScaledLemmas.{small_product}
use Rattle.dfdl_packed.proofs.scaled.unsigned.Goals as goal

pub returns-clause-small : goal.returns-clause-small
returns-clause-small c = small_product c.args.number c.args.zeros (omega arith)
