use Rattle.std.proofs.Common.{◌≤◌, arith}
use Rattle.dfdl_region.proofs.Rooms.{room_for}
use Rattle.dfdl_region.proofs.text.put_characters.Goals as goal

-- the next character is one of those that there was room for
pub put_character-requires : goal.put_character-requires
put_character-requires c =
    let fits = c.requires in
    let room = c.loop-c.invariant.1 in
    room_for c.loop-c.bytes.items c.args.bytes.now.items c.args.characters.now c.loop-c.c-index c.c-item.result _ c.loop-c-test.true c.c-item.is
    c.loop-c.invariant.0 (omega (arith, fits, room))
