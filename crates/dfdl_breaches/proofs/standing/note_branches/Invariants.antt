use Rattle.std.proofs.Common.{◌≡◌, ℕ, [], drop, get_or, length}
use Rattle.dfdl_checks.specs.Places.{both_of, nowhere}
use Rattle.dfdl_breaches.specs.Standing.{keying_among}
use Rattle.dfdl_breaches.proofs.standing.note_branches.Given as goal

-- what was asked before and of the branches so far, with what is asked of the others, is all
abbrev pub invariant-loop-at : goal.invariant-loop-at
invariant-loop-at l = record {
  many : length l.standings.items ≡ length l.fn.standings.items;
  noted : (c : ℕ) → both_of (get_or l.standings.items c nowhere) (keying_among l.schema l.taken.items (drop l.at l.branches) c)
      ≡ both_of (get_or l.fn.standings.items c nowhere) (keying_among l.schema [] l.branches c);
}
