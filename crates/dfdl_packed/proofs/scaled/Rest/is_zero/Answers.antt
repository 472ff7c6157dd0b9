use Rattle.dfdl_packed.proofs.ScaledLemmas.{zero_product}
use Rattle.dfdl_packed.proofs.scaled.Rest.is_zero.Goals as goal

pub returns : goal.returns
returns c = rw (← c.self.view_is) (zero_product c.self.inside.number c.self.inside.zeros)
