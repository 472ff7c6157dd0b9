use Rattle.std.proofs.Common.{◌≡◌, ◌≤◌, length, drop, vec_len}
use Rattle.dfdl_json.specs.Children.{bodies_of}
use Rattle.dfdl_json.specs.Marking.{all_marked}
use Rattle.dfdl_json.proofs.hidden.mark_slots.Given as goal

-- the rows of the slots from a place on are marked
abbrev pub invariant-loop-at : goal.invariant-loop-at
invariant-loop-at l = record {
  within : l.at ≤ length l.slots;
  many : vec_len l.marks ≡ vec_len l.fn.marks;
  marked : l.marks.items ≡ all_marked l.fn.marks.items (bodies_of (drop l.at l.slots));
}
