use Rattle.std.proofs.Common.{◌≡◌, ◌||◌, ℕ, take, vec_len}
use Rattle.std.specs.List.{list_any}
use Rattle.dfdl_terms.specs.Arrays.{is_item_in, is_marked}
use Rattle.dfdl_terms.proofs.arrays.mark_slots.Given as goal

-- what was marked before and the rows of the slots so far are marked
abbrev pub invariant-loop-slot : goal.invariant-loop-slot
invariant-loop-slot l = record {
  many : vec_len l.marks ≡ vec_len l.fn.marks;
  marked : (e : ℕ) → is_marked l.marks.items e ≡ (is_marked l.fn.marks.items e || list_any (is_item_in e) (take l.slot-index l.slots));
}
