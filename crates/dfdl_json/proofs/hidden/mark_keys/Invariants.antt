use Rattle.std.proofs.Common.{◌≡◌, ◌≤◌, length, drop, vec_len}
use Rattle.dfdl_json.specs.Children.{keyed}
use Rattle.dfdl_json.specs.Marking.{all_marked}
use Rattle.dfdl_json.proofs.hidden.mark_keys.Given as goal

-- the rows of the keys from a place on are marked
abbrev pub invariant-loop-at : goal.invariant-loop-at
invariant-loop-at l = record {
  within : l.at ≤ length l.keys;
  many : vec_len l.marks ≡ vec_len l.fn.marks;
  marked : l.marks.items ≡ all_marked l.fn.marks.items (keyed (drop l.at l.keys));
}
