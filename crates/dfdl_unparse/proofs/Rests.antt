-- A board on which no unknown is ready.
use Rattle.std.proofs.Common.{◌≡◌, ℕ, ◌≤◌, get_or, true, Option, Some, None, List, [], ◌∷◌, length, sym, ap, ◌∙◌, arith, inl, inr}
use Rattle.std.specs.List.{slice_get}
use Rattle.std.proofs.lemmas.Bool.{cases_lt}
use Rattle.std.proofs.lemmas.Option.{slice_get-get_or}
use Rattle.dfdl_suspend.specs.declared.known.Held.{Held}
use Rattle.dfdl_suspend.specs.declared.mark.Mark.{Mark}
use Rattle.dfdl_suspend.specs.declared.mark.Mark.TheVariants.{Ready, Done, Waits, Faulty}
use Rattle.dfdl_suspend.specs.Asks.{Asks, Gives, Gets, Faults, WaitsFor, at, gives, is_in, told, waiting}
use Rattle.dfdl_suspend.specs.Boards.{Boarded, Fits, IsShown}
use Rattle.dfdl_suspend.specs.Rounds.{Closed}

empty_in : (cell : ℕ) (ready : List ℕ) → length ready ≡ 0 → is_in cell ready ≡ true → ⊥
empty_in cell [] none e = cc
empty_in cell (x ∷ xs) none e = absurd (omega arith)

pub waits_gets : (w : ℕ) (value : Held) → ◌≡◌ {A = Gives Held} (WaitsFor w) (Gets value) → ⊥
waits_gets w value e = cc

faults_gets : (cause : ℕ) (value : Held) → ◌≡◌ {A = Gives Held} (Faults cause) (Gets value) → ⊥
faults_gets cause value e = cc

-- an unknown that waits for itself
pub waiting_gives : (known : List (Option Held)) (cell : ℕ) → at known cell ≡ None → gives (waiting cell) known ≡ WaitsFor cell
waiting_gives known cell none = ap (λ (o : Option Held). told o cell (λ value. Gets value)) none

module _ (count : ℕ) (equation : ℕ → Asks Held) (board : Boarded) (shown : IsShown board) (none : length board.ready ≡ 0) (fits : Fits count equation board) where
  closed_at : (cell : ℕ) (value : Held) (mark : Mark) → slice_get board.marks cell ≡ Some mark → at board.known cell ≡ None → gives (equation cell) board.known ≡ Gets value → ⊥
  closed_at cell value Ready e open_ gets = empty_in cell board.ready none (shown.readies.every cell e)
  closed_at cell value Done e open_ gets = shown.filled cell e open_
  closed_at cell value (Waits w) e open_ gets = waits_gets w value (sym (fits.recorded cell (Waits w) e) ∙ gets)
  closed_at cell value (Faulty cause) e open_ gets = faults_gets cause value (sym (fits.recorded cell (Faulty cause) e) ∙ gets)

  -- no equation of an unassigned unknown gives a value
  pub rest_closed : ((cell : ℕ) → count ≤ cell → equation cell ≡ waiting cell) → Closed (length board.known) equation board.known
  rest_closed beyond cell value within open_ gets = elim (cases_lt cell (length board.marks)) [
    | inl low ↦ closed_at cell value (get_or board.marks cell Ready) (slice_get-get_or board.marks cell Ready low) open_ gets
    | inr past ↦
        let added = fits.added in
        waits_gets cell value (sym (waiting_gives board.known cell open_) ∙ (sym (ap (λ t. gives t board.known) (beyond cell (omega arith))) ∙ gets))
  ]
