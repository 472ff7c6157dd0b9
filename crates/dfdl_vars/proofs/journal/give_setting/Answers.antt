use Rattle.dfdl_vars.specs.Instances.{set_to}
use Rattle.dfdl_vars.proofs.Placed.{set_place}
use Rattle.dfdl_vars.proofs.journal.give_setting.Goals as goal

pub returns-clause-items : goal.returns-clause-items
returns-clause-items c = set_place (set_to c.args.setting) c.args.instances.now.items c.args.place c.index_mut-instance.result.now c.index_mut-instance.ensures.value
