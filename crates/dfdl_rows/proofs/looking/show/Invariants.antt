use Rattle.std.proofs.Common.{◌≡◌, ◌||◌, drop, ℕ, List, Bor}
use Rattle.std.specs.BTreeSet.{contains}
use Rattle.std.specs.Cmp.Lexicographic.{slice_cmp}
use Rattle.std.specs.Ordering.{nat_cmp}
use Rattle.dfdl_rows.specs.Looking.{names_in}
use Rattle.dfdl_rows.specs.Refusals.{is_among}
use Rattle.dfdl_rows.proofs.looking.show.Given as goal

-- what is left to be added comes to the same
abbrev pub invariant-loop-name : goal.invariant-loop-name
invariant-loop-name l = (name : Bor (List ℕ))
    → (contains (λ x y. slice_cmp nat_cmp x.now y.now) l.names name || is_among (names_in (drop l.name-index l.others)) name.now)
    ≡ (contains (λ x y. slice_cmp nat_cmp x.now y.now) l.fn.names name || is_among (names_in l.others) name.now)
