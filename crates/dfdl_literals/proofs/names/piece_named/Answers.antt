use Rattle.dfdl_literals.specs.Names.{named, names}
use Rattle.dfdl_literals.proofs.names.piece_named.Goals as goal

pub returns : goal.returns
unfolding named names
returns c = c.named_among.ensures
