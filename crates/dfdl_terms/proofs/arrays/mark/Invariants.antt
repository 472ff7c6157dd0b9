use Rattle.std.proofs.Common.{◌≡◌, ◌||◌, ℕ, eqb, take, vec_len}
use Rattle.std.specs.List.{list_any}
use Rattle.dfdl_terms.specs.Arrays.{is_marked}
use Rattle.dfdl_terms.proofs.arrays.mark.Given as goal

-- what was marked before and the rows so far are marked
abbrev pub invariant-loop-row : goal.invariant-loop-row
invariant-loop-row l = record {
  many : vec_len l.marks ≡ vec_len l.fn.marks;
  marked : (e : ℕ) → is_marked l.marks.items e ≡ (is_marked l.fn.marks.items e || list_any (eqb e) (take l.row-index l.rows));
}
