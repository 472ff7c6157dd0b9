-- What a loop over the open parts still has to count.
use Rattle.std.proofs.Common.{◌≡◌, ℕ, ◌+◌, ◌<◌, ◌≤◌, List, length, drop, get_or, ap, arith}
use Rattle.std.proofs.lemmas.List.{drop_more, drop_all}
use Rattle.dfdl_expression_text.specs.declared.mark.Frame.{Frame}
use Rattle.dfdl_expression_text.specs.Limit.{owed_frame, owed_all}

-- one of them more
pub owed_more : (fs : List Frame) (at : ℕ) (d : Frame) → at < length fs
    → owed_all (drop at fs) ≡ owed_frame (get_or fs at d) + owed_all (drop (at + 1) fs)
owed_more fs at d within = ap owed_all (drop_more fs at d within)

-- and none left
pub owed_end : (fs : List Frame) (at : ℕ) → length fs ≤ at → owed_all (drop at fs) ≡ 0
owed_end fs at few = ap owed_all (drop_all at fs few)
