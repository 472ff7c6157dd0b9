-- The loop that runs a board and puts what is then known.
use Rattle.std.proofs.Common.{◌≡◌, ℕ, ◌+◌, ◌-◌, ◌≤◌, ◌<◌, Option, Some, None, List, [], ◌∷◌, ◌++◌, Bool, true, false, ◌||◌, eqb, zero, suc, inl, inr, length, slice_index, take, refl, sym, ap, subst, ◌∙◌, arith, append_assoc, length-append, append-nil, length-take}
use Rattle.std.specs.List.{slice_get}
use Rattle.std.proofs.lemmas.List.{take_all, take-take}
use Rattle.std.proofs.lemmas.Bool.Decides.{eqb_tells}
use Rattle.std.proofs.lemmas.Option.{slice_get_within}
use Rattle.dfdl_splice.specs.Splicing.{Spliced}
use Rattle.dfdl_suspend.specs.Asks.{Asks, at, gives, is_in}
use Rattle.dfdl_suspend.specs.Boards.{Boarded, Fits, IsShown, Runs, WentOn, with_given}
use Rattle.dfdl_suspend.specs.Rounds.{Reached}
use Rattle.dfdl_suspend.specs.Rises.{RoseBy}
use Rattle.dfdl_suspend.specs.declared.known.Held.{Held}
use Rattle.dfdl_suspend.specs.declared.mark.Mark.TheVariants.{Ready, Done}
use Rattle.dfdl_unparse.specs.Documents.{Pieces, told}
use Rattle.dfdl_unparse.specs.Fronts.{front, whole}
use Rattle.dfdl_unparse.specs.Splices.{IsNext, IsSpliced}

-- so far
pub record IsRunning (count : ℕ) (equation : ℕ → Asks Held) (pieces : Pieces) (old now : Boarded) (before after : Spliced) (steps_old steps picks_old picks : ℕ) : Type 0 where
  pub fits : Fits count equation now
  pub room : length now.known ≡ length old.known
  pub later : steps_old ≤ steps
  pub picks_rose : RoseBy (steps - steps_old) picks_old picks
  pub went : (ran were_set : List ℕ) → Runs equation old ran were_set → WentOn equation now ran were_set (steps - steps_old)
  pub spliced : IsSpliced pieces.order (told pieces now.known) (whole (front (told pieces old.known))) after
  pub longer : take (length (front (told pieces old.known))) (front (told pieces now.known)) ≡ front (told pieces old.known)
  pub most_pieces : after.most_pieces ≡ before.most_pieces
  pub most_bytes : after.most_bytes ≡ before.most_bytes

pub begins : (count : ℕ) (equation : ℕ → Asks Held) (pieces : Pieces) (board : Boarded) (splice : Spliced) (steps picks : ℕ) → Fits count equation board
    → IsSpliced pieces.order (told pieces board.known) (whole (front (told pieces board.known))) splice
    → IsRunning count equation pieces board board splice splice steps steps picks picks
begins count equation pieces board splice steps picks fits spliced = record {
  fits = fits;
  room = refl;
  later = omega arith;
  picks_rose = omega arith;
  went = λ ran were_set runs. record { more = []; runs = subst (λ xs. Runs equation board xs were_set) (sym (append-nil ran)) runs; counted = omega arith };
  spliced = spliced;
  longer = take_all (length (front (told pieces board.known))) (front (told pieces board.known)) (omega arith);
  most_pieces = refl;
  most_bytes = refl;
}

-- a ready unknown has no value
none_at : (o : Option Held) → ((value : Held) → o ≡ Some value → ⊥) → o ≡ None
none_at None no_value = refl
none_at (Some value) no_value = absurd (no_value value refl)

ready_done : Some Ready ≡ Some Done → ⊥
ready_done e = cc

pub ready_free : (board : Boarded) (cell : ℕ) → IsShown board → slice_get board.marks cell ≡ Some Ready → at board.known cell ≡ None
ready_free board cell shown ready = none_at (at board.known cell) (λ value is. ready_done (sym ready ∙ shown.done cell value is))

pub ready_inside : (board : Boarded) (cell : ℕ) → IsShown board → slice_get board.marks cell ≡ Some Ready → cell < length board.known
ready_inside board cell shown ready = omega (arith, slice_get_within board.marks cell Ready ready, shown.few)

or_true : (b : Bool) → (b || true) ≡ true
or_true true = refl
or_true false = refl

eqb_same : (n : ℕ) → eqb n n ≡ true
eqb_same n = elim (eqb_tells n n) [ inl e ↦ e.0 | inr e ↦ absurd (e.1 refl) ]

is_in_at : (cells : List ℕ) (choice : ℕ) → choice < length cells → is_in (slice_index cells choice) cells ≡ true
is_in_at [] choice within = absurd (omega arith)
is_in_at (cell ∷ cells) zero within = ap (λ (b : Bool). b || is_in cell cells) (eqb_same cell)
is_in_at (cell ∷ cells) (suc choice) within =
    ap (λ (b : Bool). eqb (slice_index cells choice) cell || b) (is_in_at cells choice (omega arith)) ∙ or_true (eqb (slice_index cells choice) cell)

pub ready_at : (board : Boarded) (choice cell : ℕ) → IsShown board → choice < length board.ready → cell ≡ slice_index board.ready choice → slice_get board.marks cell ≡ Some Ready
ready_at board choice cell shown within is =
    shown.readies.each cell (ap (λ (c : ℕ). is_in c board.ready) is ∙ is_in_at board.ready choice within)

-- one run more
module _ (count : ℕ) (equation : ℕ → Asks Held) (pieces : Pieces) (old now new : Boarded) (before after : Spliced) (steps_old steps steps_new picks_old picks picks_new cell : ℕ)
    (is : IsRunning count equation pieces old now before after steps_old steps picks_old picks) (shown : IsShown now) (ready : slice_get now.marks cell ≡ Some Ready)
    (fits : Fits count equation new) (room : length new.known ≡ length now.known)
    (step : new.known ≡ with_given (gives (equation cell) now.known) cell now.known) where
  pub next : IsNext equation pieces now.known new.known cell (whole (front (told pieces old.known))) after
  next = record {
    begun = subst (λ (n : ℕ). Reached n equation now.known) (sym room) is.fits.reached;
    reached = fits.reached;
    inside = ready_inside now cell shown ready;
    free = ready_free now cell shown ready;
    step = step;
    spliced = is.spliced;
  }

  pub goes_on : (put : Spliced) → steps_new ≡ steps + 1 → RoseBy 1 picks picks_new
      → ((ran were_set : List ℕ) → Runs equation now ran were_set → Runs equation new (ran ++ cell ∷ []) were_set)
      → IsSpliced pieces.order (told pieces new.known) (whole (front (told pieces old.known))) put
      → take (length (front (told pieces now.known))) (front (told pieces new.known)) ≡ front (told pieces now.known)
      → put.most_pieces ≡ after.most_pieces → put.most_bytes ≡ after.most_bytes
      → IsRunning count equation pieces old new before put steps_old steps_new picks_old picks_new
  goes_on put more pick runs spliced longer most_pieces most_bytes =
      let late = is.later in let rose = is.picks_rose in
      record {
        fits = fits;
        room = room ∙ is.room;
        later = omega arith;
        picks_rose = omega arith;
        went = λ ran were_set begun.
            let had : WentOn equation now ran were_set (steps - steps_old) = is.went ran were_set begun in
            record {
              more = had.more ++ cell ∷ [];
              runs = subst (λ xs. Runs equation new xs were_set) (append_assoc ran had.more (cell ∷ [])) (runs (ran ++ had.more) were_set had.runs);
              counted = let long = length-append had.more (cell ∷ []) in let counted = had.counted in omega arith;
            };
        spliced = spliced;
        longer = longer_twice (front (told pieces old.known)) (front (told pieces now.known)) (front (told pieces new.known)) is.longer longer;
        most_pieces = most_pieces ∙ is.most_pieces;
        most_bytes = most_bytes ∙ is.most_bytes;
      }
    where
      take_length : (xs : List ℕ) (n : ℕ) (ys : List ℕ) → take n xs ≡ ys → length ys ≤ n → length ys ≡ n → n ≤ length xs
      take_length xs n ys e few same = omega (arith, length-take n xs, ap (λ (zs : List ℕ). length zs) e, same)

      longer_twice : (a b c : List ℕ) → take (length a) b ≡ a → take (length b) c ≡ b → take (length a) c ≡ a
      longer_twice a b c ab bc =
          let few : length a ≤ length b = take_length b (length a) a ab (omega arith) refl in
          take_le (length a) (length b) c few ∙ (ap (λ (xs : List ℕ). take (length a) xs) bc ∙ ab)
        where
          take_le : (m n : ℕ) (xs : List ℕ) → m ≤ n → take m xs ≡ take m (take n xs)
          take_le m n xs few = sym (take-take m n xs few)
