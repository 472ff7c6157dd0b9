use Rattle.std.proofs.Common.{◌^◌, ◌++◌, arith}
use Rattle.dfdl_rows.specs.Framing.{skip_rows, align_rows, initiator_rows}
use Rattle.dfdl_rows.proofs.Pushed.{others_few, both_rows, both_numbers}
use Rattle.dfdl_rows.proofs.framing.push_fill.Goals as goal

pub push_align-requires : goal.push_align-requires
push_align-requires c =
    let few = others_few c.args.rows.now.items (skip_rows c.args.framing.leading_skip) (align_rows c.args.framing.alignment ++ initiator_rows c.args.framing.initiator)
    c.push_skip.new.rows.items c.in_ok-push_skip.ensures.rows (2 ^ 32) c.requires in
    omega (arith, few)

pub push_initiator-requires : goal.push_initiator-requires
push_initiator-requires c =
    let first = others_few c.args.rows.now.items (skip_rows c.args.framing.leading_skip) (align_rows c.args.framing.alignment ++ initiator_rows c.args.framing.initiator)
    c.push_skip.new.rows.items c.in_ok-push_skip.ensures.rows (2 ^ 32) c.requires in
    let few = others_few c.push_skip.new.rows.items (align_rows c.args.framing.alignment) (initiator_rows c.args.framing.initiator)
    c.push_align.new.rows.items c.in_ok-push_align.ensures.rows (2 ^ 32) first in
    omega (arith, few)

pub returns-clause-rows : goal.returns-clause-rows
returns-clause-rows c =
    both_rows c.args.rows.now.items (skip_rows c.args.framing.leading_skip) (align_rows c.args.framing.alignment ++ initiator_rows c.args.framing.initiator)
    c.push_skip.new.rows.items c.in_ok-push_skip.ensures.rows c.push_initiator.new.rows.items
    (both_rows c.push_skip.new.rows.items (align_rows c.args.framing.alignment) (initiator_rows c.args.framing.initiator)
    c.push_align.new.rows.items c.in_ok-push_align.ensures.rows c.push_initiator.new.rows.items c.in_ok-push_initiator.ensures.rows)

pub returns-clause-group : goal.returns-clause-group
returns-clause-group c =
    both_numbers c.args.rows.now.items (skip_rows c.args.framing.leading_skip) (align_rows c.args.framing.alignment ++ initiator_rows c.args.framing.initiator)
    c.push_skip.new.rows.items c.in_ok-push_skip.ensures.rows
    c.args.group.now.items c.push_skip.new.group.items c.push_initiator.new.group.items c.in_ok-push_skip.ensures.group
    (both_numbers c.push_skip.new.rows.items (align_rows c.args.framing.alignment) (initiator_rows c.args.framing.initiator)
    c.push_align.new.rows.items c.in_ok-push_align.ensures.rows
    c.push_skip.new.group.items c.push_align.new.group.items c.push_initiator.new.group.items c.in_ok-push_align.ensures.group c.in_ok-push_initiator.ensures.group)
