use Rattle.std.proofs.Common.{◌≡◌, ℕ, take, length, vec_len}
use Rattle.std.specs.List.{list_any}
use Rattle.dfdl_terms.specs.Arrays.{is_item_of, is_marked}
use Rattle.dfdl_terms.proofs.arrays.Items.of.Given as goal

-- what the rows so far repeat is marked
abbrev pub invariant-loop-row : goal.invariant-loop-row
invariant-loop-row l = record {
  many : length l.terms.rows ≡ vec_len l.marks;
  marked : (e : ℕ) → is_marked l.marks.items e ≡ list_any (is_item_of l.terms.rows e) (take l.row l.terms.rows);
}
