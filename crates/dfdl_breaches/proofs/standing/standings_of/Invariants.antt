use Rattle.std.proofs.Common.{◌≡◌, ℕ, drop, get_or, length}
use Rattle.dfdl_components.specs.Recursion.{count_of}
use Rattle.dfdl_checks.specs.Places.{both_of, nowhere}
use Rattle.dfdl_breaches.specs.Standing.{standing_from}
use Rattle.dfdl_breaches.proofs.standing.standings_of.Given as goal

-- what the groups so far ask, with what the others ask, is all
abbrev pub invariant-loop-site : goal.invariant-loop-site
invariant-loop-site l = record {
  many : length l.standings.items ≡ count_of l.schema;
  noted : (c : ℕ) → both_of (get_or l.standings.items c nowhere) (standing_from l.schema (drop l.site-index l.site-items) c)
      ≡ standing_from l.schema l.site-items c;
}
