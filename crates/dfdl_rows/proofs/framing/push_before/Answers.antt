use Rattle.std.proofs.Common.{◌^◌, ◌++◌, arith, length-append}
use Rattle.dfdl_rows.specs.Framing.{fill_rows, statement_rows}
use Rattle.dfdl_rows.proofs.Pushed.{others_few, both_rows, both_numbers}
use Rattle.dfdl_rows.proofs.framing.push_before.Goals as goal

pub push_statements-requires : goal.push_statements-requires
push_statements-requires c = omega (arith, c.requires, length-append (statement_rows c.args.framing.before) (statement_rows c.args.framing.settings ++ fill_rows c.args.framing))

pub push_set-requires : goal.push_set-requires
push_set-requires c =
    others_few c.args.rows.now.items (statement_rows c.args.framing.before) (statement_rows c.args.framing.settings ++ fill_rows c.args.framing)
    c.push_statements.new.rows.items c.in_ok-push_statements.ensures.rows (2 ^ 32) c.requires

pub returns-clause-rows : goal.returns-clause-rows
returns-clause-rows c =
    both_rows c.args.rows.now.items (statement_rows c.args.framing.before) (statement_rows c.args.framing.settings ++ fill_rows c.args.framing)
    c.push_statements.new.rows.items c.in_ok-push_statements.ensures.rows c.push_set.new.rows.items c.in_ok-push_set.ensures.rows

pub returns-clause-group : goal.returns-clause-group
returns-clause-group c =
    both_numbers c.args.rows.now.items (statement_rows c.args.framing.before) (statement_rows c.args.framing.settings ++ fill_rows c.args.framing)
    c.push_statements.new.rows.items c.in_ok-push_statements.ensures.rows
    c.args.group.now.items c.push_statements.new.group.items c.push_set.new.group.items c.in_ok-push_statements.ensures.group c.in_ok-push_set.ensures.group
