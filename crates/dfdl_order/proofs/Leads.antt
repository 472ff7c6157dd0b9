-- Ways from component to component: each one can be made longer at its end, and more steps lead no less far.
use Rattle.std.proofs.Common.{◌≡◌, ℕ, zero, suc, ◌<◌, ◌≤◌, ◌||◌, List, length, get_or, true, false, nat_eq, Contains, sym, ap, subst, refl, arith, inl, inr, ◌⊎◌}
use Rattle.std.specs.List.{Any}
use Rattle.std.proofs.lemmas.Bool.{or_cases, or_left, or_right, eqb-true, eq-eqb}
use Rattle.std.proofs.lemmas.List.Folds.{Any-from_list_any, list_any-from_Any}
use Rattle.dfdl_order.specs.Parts.{uses_of}
use Rattle.dfdl_order.specs.Cycles.{leads}

-- a part is led to
pub leads_part : (parts : ℕ → List ℕ) (n from p : ℕ) → Contains (parts from) p → leads parts (suc n) from p ≡ true
unfolding leads
leads_part parts n from p is = list_any-from_Any (λ q. nat_eq q p || leads parts n q p) (parts from)
    (is.0, p, is.1, is.2, or_left (nat_eq p p) (leads parts n p p) (eq-eqb p p refl))

-- what a part leads to
pub leads_by : (parts : ℕ → List ℕ) (n from p to : ℕ) → Contains (parts from) p → leads parts n p to ≡ true → leads parts (suc n) from to ≡ true
unfolding leads
leads_by parts n from p to is e = list_any-from_Any (λ q. nat_eq q to || leads parts n q to) (parts from)
    (is.0, p, is.1, is.2, or_right (nat_eq p to) (leads parts n p to) e)

-- the first step of a way
pub first_step : (parts : ℕ → List ℕ) (n from to : ℕ) → leads parts (suc n) from to ≡ true
    → (p : ℕ) × Contains (parts from) p × ((p ≡ to) ⊎ (leads parts n p to ≡ true))
unfolding leads
first_step parts n from to e =
    let one : Any (λ p. (nat_eq p to || leads parts n p to) ≡ true) (parts from) = Any-from_list_any (λ p. nat_eq p to || leads parts n p to) (parts from) e in (
      one.1,
      (one.0, one.2, one.3),
      elim (or_cases (nat_eq one.1 to) (leads parts n one.1 to) one.4) [
        | inl same ↦ inl (eqb-true one.1 to same)
        | inr more ↦ inr more
      ],
    )

pub leads_zero : (parts : ℕ → List ℕ) (from to : ℕ) → leads parts zero from to ≡ true → ⊥
unfolding leads
leads_zero parts from to e = let never : false ≡ true = e in cc

-- one step more at the end
pub leads_on : (parts : ℕ → List ℕ) (n from q p : ℕ) → leads parts n from q ≡ true → Contains (parts q) p → leads parts (suc n) from p ≡ true
leads_on parts zero from q p e is = absurd (leads_zero parts from q e)
leads_on parts (suc n) from q p e is =
    let step = first_step parts n from q e in
    elim step.2 [
      | inl same ↦ leads_by parts (suc n) from step.0 p step.1 (leads_part parts n step.0 p (subst (λ (x : ℕ). Contains (parts x) p) (sym same) is))
      | inr more ↦ leads_by parts (suc n) from step.0 p step.1 (leads_on parts n step.0 q p more is)
    ]

-- more steps lead no less far
pub leads_more : (parts : ℕ → List ℕ) (n m from to : ℕ) → n ≤ m → leads parts n from to ≡ true → leads parts m from to ≡ true
leads_more parts zero m from to low e = absurd (leads_zero parts from to e)
leads_more parts (suc n) zero from to low e = absurd (omega (arith, low))
leads_more parts (suc n) (suc m) from to low e =
    let step = first_step parts n from to e in
    elim step.2 [
      | inl same ↦ leads_part parts m from to (subst (λ (x : ℕ). Contains (parts from) x) same step.1)
      | inr more ↦ leads_by parts m from step.0 to step.1 (leads_more parts n m step.0 to (omega (arith, low)) more)
    ]

-- where numbers never rise to parts, they rise to nothing that is led to
pub rises_not : (uses : List (List ℕ)) (levels : List ℕ) → ((c : ℕ) → c < length uses → (p : ℕ) → Contains (uses_of uses c) p → (p < length uses) × (get_or levels p 0 ≤ get_or levels c 0))
    → (n from to : ℕ) → from < length uses → leads (uses_of uses) n from to ≡ true → get_or levels to 0 ≤ get_or levels from 0
rises_not uses levels never zero from to within e = absurd (leads_zero (uses_of uses) from to e)
rises_not uses levels never (suc n) from to within e =
    let step = first_step (uses_of uses) n from to e in
    let low = never from within step.0 step.1 in
    elim step.2 [
      | inl same ↦ omega (arith, low.1, ap (λ (x : ℕ). get_or levels x 0) same)
      | inr more ↦ omega (arith, low.1, rises_not uses levels never n step.0 to low.0 more)
    ]
