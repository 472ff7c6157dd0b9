use Rattle.std.proofs.Common.{◌<◌, ◌+◌, ◌^◌, ◌++◌, ◌∙◌, ℕ, Option, length, sym, ap, subst}
use Rattle.dfdl_rows.specs.Framing.{opened_size}
use Rattle.dfdl_rows.specs.RowLists.{sequence_rows}
use Rattle.dfdl_rows.specs.Scopes.{list_of, scope_size}
use Rattle.dfdl_rows.specs.Slots.{kind_of}
use Rattle.dfdl_rows.proofs.RowsOf.{around_few, sequence_whole}
use Rattle.dfdl_rows.proofs.Walks.{on_ok}
use Rattle.dfdl_rows.proofs.walk.push_unconcluded.Goals as goal

pub push_around-requires : goal.push_around-requires
push_around-requires c =
    subst
    (λ (list : Option ℕ).
    length c.push_group.new.rows.items + scope_size list + scope_size (list_of c.args.framing.terminator)
    + opened_size c.args.framing list < 2 ^ 32)
    (sym c.separator_list-separators.ensures)
    (around_few (kind_of c.args.group.kind c.args.dispatch.now) c.args.framing c.args.group.separated c.args.group.initiated c.args.slots.now c.args.parts.now c.args.rows.now.items
    c.push_group.new.rows.items c.in_ok-content.ensures.rows (2 ^ 32) c.requires)

pub returns : goal.returns
returns c =
    on_ok c.push_around.result _ _ c.push_around.ensures
    (λ all_is.
    sequence_whole (kind_of c.args.group.kind c.args.dispatch.now) c.args.framing c.args.group.separated c.args.group.initiated c.args.slots.now c.args.parts.now c.args.rows.now.items
    c.push_group.new.rows.items c.in_ok-content.ensures.rows c.in_ok-content.content c.push_around.new.rows.items c.in_ok-content.ensures.number
    (all_is
    ∙ ap
    (λ (list : Option ℕ).
    c.push_group.new.rows.items ++ sequence_rows c.args.framing list c.in_ok-content.content (length c.push_group.new.rows.items))
    c.separator_list-separators.ensures))
