use Rattle.std.proofs.Common.{◌^◌, arith}
use Rattle.dfdl_rows.specs.Framing.{skip_rows, terminator_rows}
use Rattle.dfdl_rows.proofs.Pushed.{others_few, both_rows, both_numbers}
use Rattle.dfdl_rows.proofs.framing.push_behind.Goals as goal

pub push_skip-requires : goal.push_skip-requires
push_skip-requires c =
    let few = others_few c.args.rows.now.items (terminator_rows c.args.framing.terminator c.args.separators) (skip_rows c.args.framing.trailing_skip)
    c.push_terminator.new.rows.items c.in_ok-push_terminator.ensures.rows (2 ^ 32) c.requires in
    omega (arith, few)

pub returns-clause-rows : goal.returns-clause-rows
returns-clause-rows c =
    both_rows c.args.rows.now.items (terminator_rows c.args.framing.terminator c.args.separators) (skip_rows c.args.framing.trailing_skip)
    c.push_terminator.new.rows.items c.in_ok-push_terminator.ensures.rows c.push_skip.new.rows.items c.in_ok-push_skip.ensures.rows

pub returns-clause-group : goal.returns-clause-group
returns-clause-group c =
    both_numbers c.args.rows.now.items (terminator_rows c.args.framing.terminator c.args.separators) (skip_rows c.args.framing.trailing_skip)
    c.push_terminator.new.rows.items c.in_ok-push_terminator.ensures.rows
    c.args.group.now.items c.push_terminator.new.group.items c.push_skip.new.group.items c.in_ok-push_terminator.ensures.group c.in_ok-push_skip.ensures.group
