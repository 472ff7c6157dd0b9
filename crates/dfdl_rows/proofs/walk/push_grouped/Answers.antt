use Rattle.std.proofs.Common.{◌^◌}
use Rattle.dfdl_rows.specs.Slots.{kind_of}
use Rattle.dfdl_rows.proofs.RowsOf.{conclusion_few, group_whole}
use Rattle.dfdl_rows.proofs.Walks.{on_ok}
use Rattle.dfdl_rows.proofs.walk.push_grouped.Goals as goal

pub push_conclusion-requires : goal.push_conclusion-requires
push_conclusion-requires c =
    conclusion_few (kind_of c.args.group.kind c.args.dispatch.now) c.args.framing c.args.group.separated c.args.group.initiated c.args.slots.now c.args.parts.now c.args.rows.now.items
    c.push_unconcluded.new.rows.items c.in_ok-push_unconcluded.ensures (2 ^ 32) c.requires

pub returns : goal.returns
returns c =
    on_ok c.push_conclusion.result _ _ c.push_conclusion.ensures
    (λ all_is.
    group_whole (kind_of c.args.group.kind c.args.dispatch.now) c.args.framing c.args.group.separated c.args.group.initiated c.args.slots.now c.args.parts.now c.args.rows.now.items
    c.push_unconcluded.new.rows.items c.in_ok-push_unconcluded.ensures c.push_conclusion.new.rows.items all_is)
