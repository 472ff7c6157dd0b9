use Rattle.std.proofs.Common.{◌≡◌, drop}
use Rattle.dfdl_statements.specs.Settled.{noted}
use Rattle.dfdl_statements.proofs.settling.note.Given as goal

abbrev pub invariant-loop-standing : goal.invariant-loop-standing
invariant-loop-standing l = noted (drop l.standing-index l.standings) l.places.items ≡ noted l.standings l.initial.places.items
