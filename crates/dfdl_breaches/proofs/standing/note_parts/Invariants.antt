use Rattle.std.proofs.Common.{◌≡◌, ℕ, drop, get_or, length, map}
use Rattle.dfdl_components.specs.Recursion.{number_of}
use Rattle.dfdl_checks.specs.Places.{both_of, nowhere}
use Rattle.dfdl_breaches.specs.Standing.{standing_among}
use Rattle.dfdl_breaches.specs.StandingShown.{asked_shown}
use Rattle.dfdl_breaches.proofs.standing.note_parts.Given as goal

-- what was asked before and of the parts so far, with what is asked of the others, is all
abbrev pub invariant-loop-at : goal.invariant-loop-at
invariant-loop-at l = record {
  many : length l.standings.items ≡ length l.fn.standings.items;
  noted : (c : ℕ) → both_of (get_or l.standings.items c nowhere) (standing_among (asked_shown l.asking) (map (number_of l.schema) (drop l.at l.parts)) c)
      ≡ both_of (get_or l.fn.standings.items c nowhere) (standing_among (asked_shown l.asking) (map (number_of l.schema) l.parts) c);
}
