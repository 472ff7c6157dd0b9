use Rattle.std.proofs.Common.{◌≡◌, map, take}
use Rattle.dfdl_statements.proofs.rows.bodies.Given as goal

abbrev pub invariant-loop-slot : goal.invariant-loop-slot
invariant-loop-slot l = l.rows.items ≡ map (λ slot. slot.body) (take l.slot-index l.slots)
