use Rattle.std.proofs.Common.{◌≡◌, ◌++◌, drop}
use Rattle.std.specs.List.{flat_map}
use Rattle.dfdl_statements.specs.Standing.{slot_asked}
use Rattle.dfdl_statements.proofs.standing.Scene.push_slots_asked.Given as goal

abbrev pub invariant-loop-slot : goal.invariant-loop-slot
invariant-loop-slot l =
    l.list.items ++ flat_map (slot_asked l.self.rows.now l.self.written.now l.self.arounds.now l.id) (drop l.slot-index l.slot-items)
    ≡ l.initial.list.items ++ flat_map (slot_asked l.self.rows.now l.self.written.now l.self.arounds.now l.id) l.slot-items
