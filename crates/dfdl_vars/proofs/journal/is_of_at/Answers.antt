use Rattle.dfdl_vars.specs.Kept.{is_of}
use Rattle.dfdl_vars.proofs.Placed.{has_place}
use Rattle.dfdl_vars.proofs.journal.is_of_at.Goals as goal

pub returns : goal.returns
returns c = has_place (is_of c.args.var) c.args.instances.now c.args.place _ c.requires
