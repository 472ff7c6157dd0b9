use Rattle.dfdl_literals.specs.Names.{begins_name, names}
use Rattle.dfdl_literals.proofs.names.begins_some_name.Goals as goal

pub returns : goal.returns
unfolding begins_name names
returns c = c.begins_among.ensures
