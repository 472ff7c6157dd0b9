-- An unparser without events, and one at the end of them.
use Rattle.std.proofs.Common.{◌≡◌, ℕ, zero, suc, ◌+◌, ◌<◌, ◌≤◌, Bool, Option, Some, None, List, [], ◌∷◌, ◌++◌, flat_map, length, map, replicate, refl, sym, ap, subst, ◌∙◌, arith, inl, inr, append-nil}
use Rattle.std.specs.List.{range_with_len, slice_get}
use Rattle.std.proofs.lemmas.List.{length-replicate}
use Rattle.dfdl_splice.specs.Splicing.{Spliced}
use Rattle.dfdl_splice.proofs.Runs.{bits_from-none}
use Rattle.dfdl_suspend.specs.Asks.{Asks, at, gives, waiting}
use Rattle.dfdl_suspend.specs.Boards.{Boarded, Fits}
use Rattle.dfdl_suspend.specs.Outcomes.{HasFault, IsOpen, IsStuckAt, NoneHas}
use Rattle.dfdl_suspend.specs.Rounds.{Closed, Reached, nothing, solution}
use Rattle.dfdl_suspend.specs.declared.known.Held.{Held}
use Rattle.dfdl_suspend.specs.declared.mark.Mark.{Mark}
use Rattle.dfdl_unparse.specs.Documents.{HasCells, Pieces, all_bits, told, told_at, told_by}
use Rattle.dfdl_unparse.specs.Fronts.{HasTaken, front, whole}
use Rattle.dfdl_unparse.specs.Splices.{IsSpliced}
use Rattle.dfdl_unparse.specs.Unparsers.{IsReady}
use Rattle.dfdl_unparse.proofs.Places.{option_cases}
use Rattle.dfdl_unparse.proofs.Rests.{waiting_gives, waits_gets}

-- no equations fit a board without unknowns
pub nothing_fits : (unknowns cells : ℕ) (equation : ℕ → Asks Held) → unknowns ≡ 0 → Fits unknowns equation (record { known = replicate cells None; marks = []; ready = [] })
nothing_fits unknowns cells equation empty = record {
  added = sym empty;
  reached = subst (λ (n : ℕ). Reached n equation (replicate cells None)) (sym (length-replicate cells None)) nothing;
  recorded = λ cell mark e. absurd (no_mark cell mark e);
}
  where
    no_mark : (cell : ℕ) (mark : Mark) → slice_get [] cell ≡ Some mark → ⊥
    no_mark cell mark e = cc

module _ (unknowns cells held : ℕ) (equation : ℕ → Asks Held) (pieces : Pieces) (empty : unknowns ≡ 0) (has : HasCells unknowns pieces)
    (beyond : (cell : ℕ) → unknowns ≤ cell → equation cell ≡ waiting cell) where
  abbrev pub blank : List (Option Held)
  blank = replicate cells None

  long : length blank ≡ cells
  long = length-replicate cells None

  abbrev pub first_board : Boarded
  first_board = record { known = blank; marks = []; ready = [] }

  abbrev pub first_splice : Spliced
  first_splice = record { most_pieces = cells; most_bytes = held; order = pieces.order; added = 0; front = []; awaited = [] }

  pub nothing_told : (known : List (Option Held)) → told pieces known ≡ []
  nothing_told known = let zero_ : pieces.count ≡ 0 = omega (arith, has.few, empty) in ap (λ (n : ℕ). map (told_at pieces known) (range_with_len 0 n)) zero_

  closed : Closed cells equation blank
  closed cell value within open_ gets =
      waits_gets cell value (sym (waiting_gives blank cell open_) ∙ (sym (ap (λ t. gives t blank) (beyond cell (omega (arith, empty)))) ∙ gets))

  begun : IsSpliced pieces.order [] (whole (front [])) first_splice
  begun = record { added = refl; order_is = refl; front_is = refl; awaited_is = refl; within = omega arith; few = omega arith }

  pub start_ready : ((known : List (Option Held)) → Reached cells equation known → Closed cells equation known → known ≡ solution cells equation) → IsReady unknowns equation pieces first_board first_splice
  start_ready solution_is = record {
    fits = nothing_fits unknowns cells equation empty;
    idle = refl;
    least = solution_is blank nothing closed ∙ ap (λ (n : ℕ). solution n equation) (sym long);
    spliced = subst (λ (ps : List (Option (List ℕ))). IsSpliced pieces.order ps (whole (front ps)) first_splice) (sym (nothing_told blank)) begun;
    room = sym long;
  }

  pub start_taken : (known : List (Option Held)) (before : List ℕ) → HasTaken pieces.order (front (told pieces known)) before (Some before)
  start_taken known before = subst (λ (ps : List (Option (List ℕ))). HasTaken pieces.order (front ps) before (Some before)) (sym (nothing_told known)) (record {
    sent = [];
    packed = record { count = refl; same = bits_from-none pieces.order [] 0; each = λ k d h. absurd (omega arith) };
    all = ap (λ (xs : List ℕ). Some xs) (sym (append-nil before));
  })

-- where each unknown has a value, the front is all there is
all_front : (pieces : Pieces) (known : List (Option Held)) (first n : ℕ)
    → ((piece : ℕ) → first ≤ piece → piece < first + n → told_at pieces known piece ≡ Some (pieces.bits known piece))
    → front (map (told_at pieces known) (range_with_len first n)) ≡ flat_map (pieces.bits known) (range_with_len first n)
all_front pieces known first zero has = refl
all_front pieces known first (suc n) has =
    ap (λ (o : Option (List ℕ)). front (o ∷ map (told_at pieces known) (range_with_len (first + 1) n))) (has first (omega arith) (omega arith))
    ∙ ap (λ (xs : List ℕ). pieces.bits known first ++ xs) (all_front pieces known (first + 1) n (λ piece low high. has piece (omega arith) (omega arith)))

pub front_whole : (unknowns : ℕ) (pieces : Pieces) (known : List (Option Held)) → HasCells unknowns pieces → NoneHas unknowns (IsOpen known)
    → front (told pieces known) ≡ all_bits pieces known
front_whole unknowns pieces known has full = all_front pieces known 0 pieces.count (λ piece low high.
    elim (option_cases (at known (pieces.cell piece))) [
      | inl none ↦ absurd (full (pieces.cell piece) (has.inside piece (omega arith)) none)
      | inr some ↦ ap (λ (o : Option Held). told_by o (pieces.bits known piece)) some.1
    ])

pub all_known : (earlier : ℕ → ℕ → Bool) (count : ℕ) (equation : ℕ → Asks Held) (known : List (Option Held))
    → NoneHas count (HasFault equation known) → IsStuckAt earlier count equation known None → NoneHas count (IsOpen known)
all_known earlier count equation known faultless (inl fault) = absurd (faultless fault.0 fault.1 fault.2)
all_known earlier count equation known faultless (inr full) = full
