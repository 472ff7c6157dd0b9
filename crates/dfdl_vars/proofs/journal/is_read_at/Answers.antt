use Rattle.dfdl_vars.specs.Instances.{is_read}
use Rattle.dfdl_vars.proofs.Placed.{has_place}
use Rattle.dfdl_vars.proofs.journal.is_read_at.Goals as goal

pub returns : goal.returns
returns c = has_place is_read c.args.instances.now c.args.place _ c.requires
