use Rattle.dfdl_vars.specs.declared.instances.Instance.{Instance}
use Rattle.std.proofs.Common.{List, sym, ◌∙◌, ap, length, true}
use Rattle.dfdl_vars.specs.declared.instances.Change.TheVariants.{Read}
use Rattle.dfdl_vars.specs.Instances.{read_as, at_place, has, is_read}
use Rattle.dfdl_vars.proofs.Backs.{length-at}
use Rattle.dfdl_vars.proofs.Rooms.{room_more, carried}
use Rattle.dfdl_vars.proofs.Sound.{sound_read}
use Rattle.dfdl_vars.proofs.keeping.note_read.Goals as goal

pub add_change-requires : goal.add_change-requires
add_change-requires c =
    room_more c.args.instances.now.items (at_place (read_as true) c.args.place c.args.instances.now.items) c.args.changes.now.items (Read c.args.place) _
    (length-at (read_as true) c.args.place c.args.instances.now.items)
    (sound_read c.args.instances.now.items c.args.changes.now.items c.args.place c.requires.sound (ap (λ (l : List Instance). has is_read l c.args.place) (sym c.as_slice.ensures.value) ∙ (sym c.is_read_at.ensures ∙ c.if-is_read_at.false)) c.requires.place)
    c.requires.room

pub returns-clause-sound : goal.returns-clause-sound
returns-clause-sound c =
    carried _ _ _ _ c.set_read.ensures.items c.add_change.ensures.items (sound_read c.args.instances.now.items c.args.changes.now.items c.args.place c.requires.sound (ap (λ (l : List Instance). has is_read l c.args.place) (sym c.as_slice.ensures.value) ∙ (sym c.is_read_at.ensures ∙ c.if-is_read_at.false)) c.requires.place)

pub returns-clause-length : goal.returns-clause-length
returns-clause-length c = ap length c.set_read.ensures.items ∙ length-at (read_as true) c.args.place c.args.instances.now.items
