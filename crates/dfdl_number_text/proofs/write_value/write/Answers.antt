use Rattle.std.proofs.Common.{◌≤◌, length, option_and_then, Some, arith}
use Rattle.dfdl_forms.specs.NumberRooms.{room_with}
use Rattle.dfdl_number_text.specs.Writing.{number_of_value, pattern_text}
use Rattle.dfdl_number_text.proofs.WriteLemmas.{written_inside}
use Rattle.dfdl_number_text.proofs.write_value.write.Goals as goal

pub write_pattern-requires-clause-room : goal.write_pattern-requires-clause-room
write_pattern-requires-clause-room c =
    let pattern = c.in-Some.pattern in
    let room : room_with (Some pattern) ≤ length c.args.into.now = rw c.in-Some.is at c.requires.room in
    omega (arith, room)

pub write_pattern-requires-clause-negative_room : goal.write_pattern-requires-clause-negative_room
write_pattern-requires-clause-negative_room c =
    let pattern = c.in-Some.pattern in
    let room : room_with (Some pattern) ≤ length c.args.into.now = rw c.in-Some.is at c.requires.room in
    omega (arith, room)

pub returns-in-Some-clause-rest : goal.returns-in-Some-clause-rest
returns-in-Some-clause-rest c =
    written_inside c.write_pattern.result (option_and_then (pattern_text c.args.form.now c.in-Some.pattern) (number_of_value c.args.value.now)) c.args.into.now c.write_pattern.new.into c.write_pattern.ensures
