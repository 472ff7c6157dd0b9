use Rattle.std.proofs.Common.{◌≡◌, ◌++◌, drop}
use Rattle.std.specs.List.{flat_map}
use Rattle.dfdl_statements.specs.Standing.{stated}
use Rattle.dfdl_statements.proofs.standing.Scene.push_each.Given as goal

abbrev pub invariant-loop-row : goal.invariant-loop-row
invariant-loop-row l =
    l.list.items ++ flat_map (stated l.self.rows.now l.self.written.now l.self.arounds.now) (drop l.row-index l.rows)
    ≡ l.initial.list.items ++ flat_map (stated l.self.rows.now l.self.written.now l.self.arounds.now) l.rows
