-- The steps of choices and of occurrences that are tried, by points of uncertainty.
use Rattle.std.specs.Prelude.{ℕ, ◌+◌, ◌-◌, nat_eq, Bool, List, ◌∷◌, Option, Some, None, if◌then◌else◌}
use Rattle.dfdl_bits.specs.Window.{Held}
use Rattle.dfdl_report.specs.declared.cause.ParseCause.TheVariants.{NoBranch}
use Rattle.dfdl_looks.specs.Tallies.{Tally, nothing}
use Rattle.dfdl_grammar.specs.declared.end.End.{End}
use Rattle.dfdl_grammar.specs.declared.end.End.TheVariants.{Done, Failed}
use Rattle.dfdl_grammar.specs.States.{State}
use Rattle.dfdl_grammar.specs.Marks.{back, closed, is_settled, pointed, stays_at}
use Rattle.dfdl_grammar.specs.Occurrences.{as_tried, dropped}
use Rattle.dfdl_parse.specs.declared.frame.Frame.{Frame}
use Rattle.dfdl_parse.specs.declared.frame.Frame.TheVariants.{Branch, Occurrence}
use Rattle.dfdl_parse.specs.declared.frame.Focus.TheVariants.{Enter, Leave}
use Rattle.dfdl_parse.specs.Moves.{Move, pass}

-- the branch of a place in a choice begins at the innermost mark, if there is one, and else the mark is closed, and the choice fails there
abbrev pub try_branch : Tally → Held → ℕ → ℕ → Option ℕ → List Frame → State → Move
try_branch cost held id place None k s = pass cost held (Leave (Failed NoBranch s.at)) k (closed s)
try_branch cost held id place (Some branch) k s = pass cost held (Enter branch) (Branch id (place + 1) ∷ k) s

-- a branch has failed at this end: the next one begins at the point, if there is one; where the point is resolved, it is closed, and the
-- choice fails as the branch did
abbrev pub branch_failed : Held → ℕ → ℕ → Option ℕ → End → List Frame → State → Move
branch_failed held id place branch end k s =
    if is_settled s.marks then pass nothing held (Leave end) k (closed s) else try_branch nothing held id place branch k (back s)

-- an occurrence of a row begins at a point, which an initiator resolves or not, where any of so many are left
abbrev pub try_occurrence : Tally → Held → ℕ → Bool → ℕ → List Frame → State → Move
try_occurrence cost held body initiated left k s =
    if nat_eq left 0
    then pass cost held (Leave Done) k s
    else pass cost held (Enter body) (Occurrence body initiated (left - 1) ∷ k) (as_tried (pointed initiated s))

-- an occurrence is done: it is dropped where it has passed over no bit, and else its point is closed, and the next one begins, if any are left
abbrev pub occurrence_done : Held → ℕ → Bool → ℕ → List Frame → State → Move
occurrence_done held body initiated left k s =
    if stays_at s.marks s.at
    then pass nothing held (Leave Done) k (dropped s)
    else try_occurrence nothing held body initiated left k (closed s)

-- an occurrence has failed at this end: it is dropped; where its point is resolved, it is closed, and the array fails as the occurrence did
abbrev pub occurrence_failed : Held → End → List Frame → State → Move
occurrence_failed held end k s =
    if is_settled s.marks then pass nothing held (Leave end) k (closed s) else pass nothing held (Leave Done) k (dropped s)
