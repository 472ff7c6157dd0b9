use Rattle.std.proofs.Common.{◌∙◌, ap, length, Some}
use Rattle.dfdl_vars.specs.declared.instances.Change.TheVariants.{Set}
use Rattle.dfdl_vars.specs.Instances.{set_to, at_place}
use Rattle.dfdl_vars.proofs.Backs.{length-at}
use Rattle.dfdl_vars.proofs.Rooms.{room_more, carried}
use Rattle.dfdl_vars.proofs.Sound.{sound_set}
use Rattle.dfdl_vars.proofs.keeping.note_setting.Goals as goal

pub add_change-requires : goal.add_change-requires
add_change-requires c =
    room_more c.args.instances.now.items (at_place (set_to (Some c.args.value)) c.args.place c.args.instances.now.items) c.args.changes.now.items (Set c.args.place) _
    (length-at (set_to (Some c.args.value)) c.args.place c.args.instances.now.items)
    (sound_set c.args.instances.now.items c.args.changes.now.items c.args.place c.args.value c.requires.sound c.requires.free c.requires.place)
    c.requires.room

pub returns-clause-sound : goal.returns-clause-sound
returns-clause-sound c =
    carried _ _ _ _ c.give_setting.ensures.items c.add_change.ensures.items (sound_set c.args.instances.now.items c.args.changes.now.items c.args.place c.args.value c.requires.sound c.requires.free c.requires.place)

pub returns-clause-length : goal.returns-clause-length
returns-clause-length c = ap length c.give_setting.ensures.items ∙ length-at (set_to (Some c.args.value)) c.args.place c.args.instances.now.items
