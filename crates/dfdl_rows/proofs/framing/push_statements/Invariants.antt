use Rattle.std.proofs.Common.{◌≡◌, ◌+◌, ◌-◌, ◌++◌, length}
use Rattle.dfdl_rows.specs.Framing.{numbers, statement_rows, statements_from}
use Rattle.dfdl_rows.proofs.framing.push_statements.Given as goal

abbrev pub invariant-loop-behind : goal.invariant-loop-behind
invariant-loop-behind l = record {
  rows : l.rows.items ++ statements_from (l.statements.first + l.behind) (l.statements.count - l.behind) ≡ l.fn.rows.items ++ statement_rows l.statements;
  group : l.group.items ++ numbers (statements_from (l.statements.first + l.behind) (l.statements.count - l.behind)) (length l.rows.items)
      ≡ l.fn.group.items ++ numbers (statement_rows l.statements) (length l.fn.rows.items);
}
