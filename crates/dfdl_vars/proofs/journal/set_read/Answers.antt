use Rattle.dfdl_vars.specs.Instances.{read_as}
use Rattle.dfdl_vars.proofs.Placed.{set_place}
use Rattle.dfdl_vars.proofs.journal.set_read.Goals as goal

pub returns-clause-items : goal.returns-clause-items
returns-clause-items c = set_place (read_as c.args.was_read) c.args.instances.now.items c.args.place c.index_mut-instance.result.now c.index_mut-instance.ensures.value
