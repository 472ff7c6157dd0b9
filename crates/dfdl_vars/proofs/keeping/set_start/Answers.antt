use Rattle.dfdl_vars.specs.Kept.{start_as}
use Rattle.dfdl_vars.proofs.Placed.{set_place}
use Rattle.dfdl_vars.proofs.keeping.set_start.Goals as goal

pub returns-clause-items : goal.returns-clause-items
returns-clause-items c = set_place (start_as c.args.start) c.args.instances.now.items c.args.place c.index_mut-instance.result.now c.index_mut-instance.ensures.value
