use Rattle.std.proofs.Common.{◌^◌, ◌∙◌}
use Rattle.dfdl_rows.specs.Walk.{made}
use Rattle.dfdl_rows.proofs.Walks.{closed_room}
use Rattle.dfdl_rows.proofs.walk.close.Goals as goal

pub push_own-requires : goal.push_own-requires
push_own-requires c =
    closed_room c.args.components.now c.args.number c.component.result.now c.as_slice.result.now (made c.args.rows.now.items c.args.lasts.now.items) (2 ^ 32)
    c.component.ensures.component (c.as_slice.ensures.value ∙ c.in_ok-slots.ensures) c.requires.few
