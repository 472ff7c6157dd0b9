use Rattle.std.proofs.Common.{◌^◌, ◌++◌, length}
use Rattle.dfdl_rows.specs.Framing.{numbers, statement_rows}
use Rattle.dfdl_rows.proofs.Pushed.{statement_numbers_all, statement_numbers_more, statement_rows_all, statement_rows_more, statements_few}
use Rattle.dfdl_rows.proofs.framing.push_statements.Goals as goal

pub push_row-requires : goal.push_row-requires
push_row-requires c =
    statements_few c.args.statements.first c.args.statements.count c.loop-behind.behind c.loop-behind.rows.items c.args.rows.now.items (2 ^ 32)
    c.loop-behind-test.true c.loop-behind.invariant.rows c.requires

pub loop-behind-preserved : goal.loop-behind-preserved
loop-behind-preserved c = record {
  rows = statement_rows_more c.args.statements.first c.args.statements.count c.loop-behind.behind c.in_ok-statement.statement c.loop-behind.rows.items c.push_row.new.rows.items
      (c.args.rows.now.items ++ statement_rows c.args.statements) c.in_ok-statement.ensures c.loop-behind-test.true c.in_ok-push_row.ensures.rows c.loop-behind.invariant.rows;
  group = statement_numbers_more c.args.statements.first c.args.statements.count c.loop-behind.behind c.in_ok-statement.statement c.loop-behind.rows.items c.push_row.new.rows.items
      (c.args.rows.now.items ++ statement_rows c.args.statements) c.in_ok-statement.ensures c.loop-behind-test.true c.in_ok-push_row.ensures.rows
      c.loop-behind.group.items c.push_row.new.group.items (c.args.group.now.items ++ numbers (statement_rows c.args.statements) (length c.args.rows.now.items))
      c.in_ok-push_row.ensures.group c.loop-behind.invariant.group;
}

pub returns-clause-rows : goal.returns-clause-rows
returns-clause-rows c =
    statement_rows_all c.args.statements.first c.args.statements.count c.loop-behind.behind c.loop-behind.rows.items (c.args.rows.now.items ++ statement_rows c.args.statements)
    c.loop-behind-test.false c.loop-behind.invariant.rows

pub returns-clause-group : goal.returns-clause-group
returns-clause-group c =
    statement_numbers_all c.args.statements.first c.args.statements.count c.loop-behind.behind c.loop-behind.group.items
    (c.args.group.now.items ++ numbers (statement_rows c.args.statements) (length c.args.rows.now.items)) (length c.loop-behind.rows.items)
    c.loop-behind-test.false c.loop-behind.invariant.group
