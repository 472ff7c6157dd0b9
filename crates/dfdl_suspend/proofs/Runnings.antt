-- The loop that runs a board.
use Rattle.std.proofs.Common.{◌≡◌, ℕ, ◌+◌, ◌-◌, ◌≤◌, List, [], ◌∷◌, ◌++◌, length, refl, sym, subst, ◌∙◌, arith, append_assoc, length-append, append-nil}
use Rattle.dfdl_suspend.specs.declared.known.Held.{Held}
use Rattle.dfdl_suspend.specs.Asks.{Asks}
use Rattle.dfdl_suspend.specs.Boards.{Boarded, Fits, Runs, WentOn}
use Rattle.dfdl_suspend.specs.Rises.{RoseBy}

-- so far
pub record IsRunning (count : ℕ) (equation : ℕ → Asks Held) (old now : Boarded) (steps_old steps picks_old picks : ℕ) : Type 0 where
  pub fits : Fits count equation now
  pub room : length now.known ≡ length old.known
  pub later : steps_old ≤ steps
  pub picks_rose : RoseBy (steps - steps_old) picks_old picks
  pub went : (ran were_set : List ℕ) → Runs equation old ran were_set → WentOn equation now ran were_set (steps - steps_old)

pub begins : (count : ℕ) (equation : ℕ → Asks Held) (board : Boarded) (steps picks : ℕ) → Fits count equation board → IsRunning count equation board board steps steps picks picks
begins count equation board steps picks fits = record {
  fits = fits;
  room = refl;
  later = omega arith;
  picks_rose = omega arith;
  went = λ ran were_set runs. record { more = []; runs = subst (λ xs. Runs equation board xs were_set) (sym (append-nil ran)) runs; counted = omega arith };
}

-- one run more
pub goes_on : (count : ℕ) (equation : ℕ → Asks Held) (old now new : Boarded) (steps_old steps steps_new picks_old picks picks_new cell : ℕ)
    → IsRunning count equation old now steps_old steps picks_old picks → Fits count equation new → length new.known ≡ length now.known → steps_new ≡ steps + 1 → RoseBy 1 picks picks_new
    → ((ran were_set : List ℕ) → Runs equation now ran were_set → Runs equation new (ran ++ cell ∷ []) were_set)
    → IsRunning count equation old new steps_old steps_new picks_old picks_new
goes_on count equation old now new steps_old steps steps_new picks_old picks picks_new cell is fits room step pick runs =
    let late = is.later in let rose = is.picks_rose in
    record {
      fits = fits;
      room = room ∙ is.room;
      later = omega arith;
      picks_rose = omega arith;
      went = λ ran were_set begun.
          let before : WentOn equation now ran were_set (steps - steps_old) = is.went ran were_set begun in
          record {
            more = before.more ++ cell ∷ [];
            runs = subst (λ xs. Runs equation new xs were_set) (append_assoc ran before.more (cell ∷ [])) (runs (ran ++ before.more) were_set before.runs);
            counted = let long = length-append before.more (cell ∷ []) in let counted = before.counted in omega arith;
          };
    }
