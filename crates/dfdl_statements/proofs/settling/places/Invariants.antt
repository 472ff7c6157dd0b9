use Rattle.std.proofs.Common.{◌≡◌}
use Rattle.dfdl_statements.specs.Settled.{places_by}
use Rattle.dfdl_statements.proofs.settling.places.Given as goal

abbrev pub invariant-loop-number : goal.invariant-loop-number
invariant-loop-number l = l.all.items ≡ places_by l.scene.rows.now l.scene.written.now l.number
