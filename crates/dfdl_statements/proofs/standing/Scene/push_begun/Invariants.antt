use Rattle.std.proofs.Common.{◌≡◌, ◌++◌, ◌-◌, length}
use Rattle.dfdl_statements.specs.Standing.{begun, begun_by}
use Rattle.dfdl_statements.proofs.standing.Scene.push_begun.Given as goal

abbrev pub invariant-loop : goal.invariant-loop
invariant-loop l =
    l.list.items ++ begun_by l.self.rows.now l.self.written.now l.self.arounds.now (length l.self.rows.now - l.counter) l.at
    ≡ l.initial.list.items ++ begun l.self.rows.now l.self.written.now l.self.arounds.now l.fn.row
