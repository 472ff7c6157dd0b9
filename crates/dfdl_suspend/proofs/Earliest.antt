-- The first of some unknowns, as one unknown more is looked at.
use Rattle.std.proofs.Common.{◌≡◌, ℕ, ◌+◌, ◌<◌, Bool, true, false, Option, Some, None, List, sym, ap, subst, ◌∙◌, arith, inl, inr}
use Rattle.std.proofs.lemmas.Bool.{cases_eq}
use Rattle.std.specs.Option.{is_some}
use Rattle.dfdl_suspend.specs.Asks.{Asks, Gives, Gets, Faults, WaitsFor, at, gives}
use Rattle.dfdl_suspend.specs.Rounds.{Reached}
use Rattle.dfdl_suspend.proofs.Places.{option_cases}
use Rattle.dfdl_suspend.proofs.Solving.{reached_consistent}
use Rattle.dfdl_suspend.specs.Outcomes.{IsOrder, IsFirst, IsBest, NoneHas, HasFault, IsFirstFault}

module _ (earlier : ℕ → ℕ → Bool) (count n : ℕ) (P : ℕ → Type 0) (within : n < count) (order : IsOrder count earlier) where
  pub first_alone : NoneHas n P → P n → IsFirst earlier (n + 1) P n
  first_alone none holds = record {
    within = omega arith;
    holds = holds;
    first = λ other small has apart. absurd (none other (omega arith) has);
  }

  pub first_new : (c : ℕ) → IsFirst earlier n P c → P n → earlier n c ≡ true → IsFirst earlier (n + 1) P n
  first_new c is holds before = record {
    within = omega arith;
    holds = holds;
    first = λ other small has apart. elim (cases_eq other c) [
      | inl same ↦ ap (λ k. earlier n k) same ∙ before
      | inr differs ↦ order.through n c other within (let low = is.within in omega arith) (omega arith) before (is.first other (omega arith) has differs)
    ];
  }

  pub first_old : (c : ℕ) → IsFirst earlier n P c → earlier n c ≡ false → IsFirst earlier (n + 1) P c
  first_old c is behind =
      let low : c < n = is.within in
      record {
        within = omega arith;
        holds = is.holds;
        first = λ other small has apart. elim (cases_eq other n) [
          | inl same ↦ elim (order.total c other (omega arith) (omega arith) (λ e. apart (sym e))) [
            | inl yes_ ↦ yes_
            | inr no_ ↦ absurd (true_false (sym no_ ∙ (ap (λ k. earlier k c) same ∙ behind)))
          ]
          | inr differs ↦ is.first other (omega arith) has apart
        ];
      }
    where
      true_false : true ≡ false → ⊥
      true_false e = cc

  pub best_skip : (best : Option ℕ) → (P n → ⊥) → IsBest earlier n P best → IsBest earlier (n + 1) P best
  best_skip None lacks none = λ cell small has. elim (cases_eq cell n) [
    | inl same ↦ lacks (subst P same has)
    | inr differs ↦ none cell (omega arith) has
  ]
  best_skip (Some c) lacks is = record {
    within = let low = is.within in omega arith;
    holds = is.holds;
    first = λ other small has apart. elim (cases_eq other n) [
      | inl same ↦ absurd (lacks (subst P same has))
      | inr differs ↦ is.first other (omega arith) has apart
    ];
  }

-- the first fault, as one unknown more is looked at
module _ {V : Type 0} (earlier : ℕ → ℕ → Bool) (count n : ℕ) (equation : ℕ → Asks V) (known : List (Option V)) (within : n < count) (order : IsOrder count earlier) where
  pub fault_skip : (best : Option (ℕ × ℕ)) → (HasFault equation known n → ⊥) → IsFirstFault earlier n equation known best → IsFirstFault earlier (n + 1) equation known best
  fault_skip None lacks none = best_skip earlier count n (HasFault equation known) within order None lacks none
  fault_skip (Some found) lacks is = (is.0, best_skip earlier count n (HasFault equation known) within order (Some found.0) lacks is.1)

  pub fault_alone : (cause : ℕ) → IsFirstFault earlier n equation known None → gives (equation n) known ≡ Faults cause → IsFirstFault earlier (n + 1) equation known (Some (n, cause))
  fault_alone cause none is = (is, first_alone earlier count n (HasFault equation known) within order none (cause, is))

  pub fault_new : (found : ℕ × ℕ) (cause : ℕ) → IsFirstFault earlier n equation known (Some found) → gives (equation n) known ≡ Faults cause → earlier n found.0 ≡ true
      → IsFirstFault earlier (n + 1) equation known (Some (n, cause))
  fault_new found cause old is before = (is, first_new earlier count n (HasFault equation known) within order found.0 old.1 (cause, is) before)

  pub fault_old : (found : ℕ × ℕ) → IsFirstFault earlier n equation known (Some found) → earlier n found.0 ≡ false → IsFirstFault earlier (n + 1) equation known (Some found)
  fault_old found old behind = (old.0, first_old earlier count n (HasFault equation known) within order found.0 old.1 behind)

-- an unknown with a value, or one that waits, isn't faulty
pub known_no_fault : {V : Type 0} (cells : ℕ) (equation : ℕ → Asks V) (known : List (Option V)) (i : ℕ) → Reached cells equation known
    → is_some (at known i) ≡ true → HasFault equation known i → ⊥
known_no_fault cells equation known i reached some has = elim (option_cases (at known i)) [
  | inl none ↦ absurd (false_some (at known i) none some)
  | inr value ↦ apart value.0 has.0 (sym (reached_consistent cells equation known i value.0 reached value.1) ∙ has.1)
]
  where
    false_some : {X : Type 0} (o : Option X) → o ≡ None → is_some o ≡ true → ⊥
    false_some None e some = cc
    false_some (Some x) e some = cc

    apart : {V : Type 0} (v : V) (cause : ℕ) → Gets v ≡ Faults cause → ⊥
    apart v cause e = cc

pub wait_no_fault : {V : Type 0} (equation : ℕ → Asks V) (known : List (Option V)) (i w : ℕ) → gives (equation i) known ≡ WaitsFor w → HasFault equation known i → ⊥
wait_no_fault {V} equation known i w waits has = apart has.0 (sym waits ∙ has.1)
  where
    apart : (cause : ℕ) → ◌≡◌ {A = Gives V} (WaitsFor w) (Faults cause) → ⊥
    apart cause e = cc
