-- One turn more of the loop over statements.
use Rattle.std.proofs.Common.{◌≡◌, ◌∙◌, ℕ, suc, ◌+◌, ◌-◌, ◌<◌, ◌||◌, slice_get, ap, arith}
use Rattle.dfdl_cells.specs.Plans.{Plan}
use Rattle.dfdl_planning.specs.Planned.{computing_from, is_computing}

-- one statement more
pub computing_next : (plan : Plan) (first at count : ℕ) → at < count
    → computing_from plan (first + at) (count - at)
    ≡ (is_computing (slice_get plan.table.statements (first + at)) || computing_from plan (first + (at + 1)) (count - (at + 1)))
computing_next plan first at count less =
    ap (λ (n : ℕ). computing_from plan (first + at) n) (left count at less)
    ∙ ap (λ (n : ℕ). is_computing (slice_get plan.table.statements (first + at)) || computing_from plan n (count - (at + 1))) (next first at)
  where
    left : (count at : ℕ) → at < count → count - at ≡ suc (count - (at + 1))
    left count at less = omega arith

    next : (first at : ℕ) → (first + at) + 1 ≡ first + (at + 1)
    next first at = omega arith
