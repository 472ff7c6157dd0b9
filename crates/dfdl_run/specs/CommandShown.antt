-- Mirror for the prover: what a clause sees of a command, whose schema is lent.
use Rattle.dfdl_run.specs.Command.{Order}
use Rattle.dfdl_run.specs.declared.command.Command.{Command}

-- the name as its bytes
abbrev pub order_shown : Command → Order
order_shown c = record { verb = c.verb; schema = c.schema.now }
