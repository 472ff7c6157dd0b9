-- Steps one after another without the fill of alignments.
use Rattle.std.proofs.Common.{◌≡◌, ℕ, suc, ◌<◌, ◌≤◌, List, ◌∷◌, length, get_or, drop, Option, Result, Ok, Err, refl, sym, ap, ◌∙◌, drop-cons}
use Rattle.std.proofs.Math.ListN.{drop_of_length-le}
use Rattle.dfdl_suspend.specs.declared.known.Held.{Held}
use Rattle.dfdl_cells.specs.Asking.{onward, passed_all}
use Rattle.dfdl_cells.specs.Separators.{unaligned}
use Rattle.dfdl_cells.specs.declared.asking.Stop.{Stop}
use Rattle.dfdl_cells.specs.declared.cell.Cell.{Cell}
use Rattle.dfdl_cells.specs.declared.step.Step.{Step}
use Rattle.dfdl_cells.specs.declared.step.Step.TheVariants.{Fixed, Align, Marked, Length, Separator}
use Rattle.dfdl_evaluation.specs.AskingSeparators.{passed_if}

module _ (cells : List Cell) (known : List (Option Held)) where
  -- one step more in front
  one_more : (step : Step) (steps : List Step) (n : ℕ)
      → passed_all cells known (unaligned (step ∷ steps)) n ≡ onward (passed_if cells known step n) (λ after. passed_all cells known (unaligned steps) after)
  unfolding passed_all
  one_more (Fixed bits) steps n = refl
  one_more (Align bits) steps n = refl
  one_more (Marked mark) steps n = refl
  one_more (Length cell) steps n = refl
  one_more (Separator cell) steps n = refl

  module _ (steps : List Step) where
    -- the next step, and those behind it
    pub passed_next : (i n : ℕ) (step : Step) (told : Result ℕ Stop) → i < length steps → step ≡ get_or steps i step → told ≡ passed_if cells known step n
        → passed_all cells known (unaligned (drop i steps)) n ≡ onward told (λ after. passed_all cells known (unaligned (drop (suc i) steps)) after)
    passed_next i n step told within is told_is =
        ap (λ (ss : List Step). passed_all cells known (unaligned ss) n) (drop-cons steps i step within)
        ∙ (ap (λ (s : Step). passed_all cells known (unaligned (s ∷ drop (suc i) steps)) n) (sym is)
        ∙ (one_more step (drop (suc i) steps) n
        ∙ ap (λ (r : Result ℕ Stop). onward r (λ after. passed_all cells known (unaligned (drop (suc i) steps)) after)) (sym told_is)))

    -- where a step stops, all do
    pub passed_stops : (i n : ℕ) (step : Step) (told : Result ℕ Stop) (stop : Stop) (whole : Result ℕ Stop) → i < length steps → step ≡ get_or steps i step
        → told ≡ passed_if cells known step n → told ≡ Err stop → passed_all cells known (unaligned (drop i steps)) n ≡ whole → Err stop ≡ whole
    passed_stops i n step told stop whole within is told_is stops kept =
        sym (ap (λ (r : Result ℕ Stop). onward r (λ after. passed_all cells known (unaligned (drop (suc i) steps)) after)) stops)
        ∙ (sym (passed_next i n step told within is told_is) ∙ kept)

    -- where it does not, what is left comes to what all does
    pub passed_on : (i n after : ℕ) (step : Step) (told : Result ℕ Stop) (whole : Result ℕ Stop) → i < length steps → step ≡ get_or steps i step
        → told ≡ passed_if cells known step n → told ≡ Ok after → passed_all cells known (unaligned (drop i steps)) n ≡ whole
        → passed_all cells known (unaligned (drop (suc i) steps)) after ≡ whole
    passed_on i n after step told whole within is told_is goes kept =
        sym (ap (λ (r : Result ℕ Stop). onward r (λ m. passed_all cells known (unaligned (drop (suc i) steps)) m)) goes)
        ∙ (sym (passed_next i n step told within is told_is) ∙ kept)

    -- behind the last one
    pub passed_last : (i n : ℕ) (whole : Result ℕ Stop) → length steps ≤ i → passed_all cells known (unaligned (drop i steps)) n ≡ whole → Ok n ≡ whole
    unfolding passed_all
    passed_last i n whole past kept =
        sym (ap (λ (ss : List Step). passed_all cells known (unaligned ss) n) (drop_of_length-le steps past)) ∙ kept
