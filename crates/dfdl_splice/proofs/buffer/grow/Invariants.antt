use Rattle.std.proofs.Common.{◌≡◌, ◌≤◌, ◌-◌, take, length, vec_len, vec_capacity}
use Rattle.dfdl_splice.proofs.buffer.grow.Given as goal

abbrev pub invariant-loop-bytes : goal.invariant-loop-bytes
invariant-loop-bytes l = record {
  more : vec_len l.bytes ≤ l.len;
  longer : length l.fn.bytes.items ≤ length l.bytes.items;
  kept : take (length l.fn.bytes.items) l.bytes.items ≡ l.fn.bytes.items;
  capacity : vec_capacity l.fn.bytes ≤ vec_capacity l.bytes;
}

abbrev pub decreases-loop-bytes : goal.decreases-loop-bytes
decreases-loop-bytes l = l.len - vec_len l.bytes
