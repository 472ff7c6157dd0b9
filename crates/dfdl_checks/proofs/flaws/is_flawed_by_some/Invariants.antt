use Rattle.std.proofs.Common.{◌≡◌, drop, map}
use Rattle.std.specs.List.{list_any}
use Rattle.dfdl_checks.specs.Flaws.{is_flawed_at}
use Rattle.dfdl_checks.specs.JudgedShown.{judged_of}
use Rattle.dfdl_checks.specs.TableShown.{applicability_shown}
use Rattle.dfdl_checks.proofs.flaws.is_flawed_by_some.Given as goal

-- what is left answers the same as all
abbrev pub invariant-loop-row : goal.invariant-loop-row
invariant-loop-row l =
    list_any (is_flawed_at l.flaw (judged_of l.subject)) (map applicability_shown (drop l.row-index l.rows))
    ≡ list_any (is_flawed_at l.flaw (judged_of l.subject)) (map applicability_shown l.rows)
