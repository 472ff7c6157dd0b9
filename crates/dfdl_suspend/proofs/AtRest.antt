-- A board on which no unknown is ready.
use Rattle.std.proofs.Common.{◌≡◌, ℕ, ◌≤◌, get_or, true, Option, Some, None, List, [], ◌∷◌, length, refl, sym, ap, ◌∙◌, arith, inl, inr}
use Rattle.std.specs.List.{slice_get}
use Rattle.std.proofs.lemmas.Option.{slice_get-get_or}
use Rattle.dfdl_suspend.specs.declared.known.Held.{Held}
use Rattle.dfdl_suspend.specs.declared.mark.Mark.{Mark}
use Rattle.dfdl_suspend.specs.declared.mark.Mark.TheVariants.{Ready, Done, Waits, Faulty}
use Rattle.dfdl_suspend.specs.Asks.{Asks, Gives, Gets, Faults, WaitsFor, at, gives, is_in, waiting}
use Rattle.dfdl_suspend.specs.Boards.{Fits}
use Rattle.dfdl_suspend.specs.Marks.{IsReadyList}
use Rattle.dfdl_suspend.specs.Outcomes.{HasFault}
use Rattle.dfdl_suspend.specs.Recorded.{IsTied}
use Rattle.dfdl_suspend.specs.Rounds.{Closed, solution}
use Rattle.std.proofs.lemmas.Bool.{cases_lt}
use Rattle.dfdl_suspend.proofs.Trees.{waiting_gives}
use Rattle.dfdl_suspend.proofs.OneRun.{shown}
use Rattle.dfdl_suspend.proofs.Places.{option_cases}
use Rattle.dfdl_suspend.proofs.Solving.{reached_consistent, solution_is}

empty_in : (cell : ℕ) (ready : List ℕ) → length ready ≡ 0 → is_in cell ready ≡ true → ⊥
empty_in cell [] none e = cc
empty_in cell (x ∷ xs) none e = absurd (omega arith)

module _ (count : ℕ) (equation : ℕ → Asks Held) (known : List (Option Held)) (marks : List Mark) (ready : List ℕ) (tied : IsTied known marks) (readies : IsReadyList marks ready)
    (none : length ready ≡ 0) (fits : Fits count equation (shown known marks ready)) where
  -- the value of one that is done
  done_value : (cell : ℕ) → slice_get marks cell ≡ Some Done → (v : Held) × (at known cell ≡ Some v)
  done_value cell e = elim (option_cases (at known cell)) [
    | inl none_ ↦ absurd (tied.filled cell e none_)
    | inr some ↦ some
  ]

  -- an unknown that isn't marked as faulty isn't
  pub no_fault : (cell : ℕ) (mark : Mark) → slice_get marks cell ≡ Some mark → ((cause : ℕ) → mark ≡ Faulty cause → ⊥) → HasFault equation known cell → ⊥
  no_fault cell Ready e other has = empty_in cell ready none (readies.every cell e)
  no_fault cell Done e other has =
      let value = done_value cell e in
      gets_faults value.0 has.0 (sym (reached_consistent (length known) equation known cell value.0 fits.reached value.1) ∙ has.1)
    where
      gets_faults : (v : Held) (cause : ℕ) → Gets v ≡ Faults cause → ⊥
      gets_faults v cause e = cc
  no_fault cell (Waits w) e other has = waits_faults has.0 (sym (fits.recorded cell (Waits w) e) ∙ has.1)
    where
      waits_faults : (cause : ℕ) → ◌≡◌ {A = Gives Held} (WaitsFor w) (Faults cause) → ⊥
      waits_faults cause e = cc
  no_fault cell (Faulty cause) e other has = other cause refl

  -- no equation of an unassigned unknown gives a value
  closed_at : (cell : ℕ) (value : Held) (mark : Mark) → slice_get marks cell ≡ Some mark → at known cell ≡ None → gives (equation cell) known ≡ Gets value → ⊥
  closed_at cell value Ready e open_ gets = empty_in cell ready none (readies.every cell e)
  closed_at cell value Done e open_ gets = tied.filled cell e open_
  closed_at cell value (Waits w) e open_ gets = waits_gets w (sym (fits.recorded cell (Waits w) e) ∙ gets)
    where
      waits_gets : (w : ℕ) → ◌≡◌ {A = Gives Held} (WaitsFor w) (Gets value) → ⊥
      waits_gets w e = cc
  closed_at cell value (Faulty cause) e open_ gets = faults_gets cause (sym (fits.recorded cell (Faulty cause) e) ∙ gets)
    where
      faults_gets : (cause : ℕ) → ◌≡◌ {A = Gives Held} (Faults cause) (Gets value) → ⊥
      faults_gets cause e = cc

  closed : ((cell : ℕ) → count ≤ cell → equation cell ≡ waiting cell) → Closed (length known) equation known
  closed beyond cell value within open_ gets = elim (cases_lt cell (length marks)) [
    | inl low ↦ closed_at cell value (get_or marks cell Ready) (slice_get-get_or marks cell Ready low) open_ gets
    | inr past ↦
        let added = fits.added in
        waits_gets cell (sym (waiting_gives cell known open_) ∙ (sym (ap (λ t. gives t known) (beyond cell (omega arith))) ∙ gets))
  ]
    where
      waits_gets : (w : ℕ) → ◌≡◌ {A = Gives Held} (WaitsFor w) (Gets value) → ⊥
      waits_gets w e = cc

  -- where no unknown is ready, what is known is the least solution
  pub least : ((cell : ℕ) → count ≤ cell → equation cell ≡ waiting cell) → known ≡ solution (length known) equation
  least beyond = solution_is (length known) equation known fits.reached (closed beyond)
