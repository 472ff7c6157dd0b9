-- What is known of pieces after one unknown was run.
use Rattle.std.proofs.Common.{◌≡◌, ◌≢◌, ℕ, ◌+◌, ◌-◌, ◌*◌, ◌<◌, ◌≤◌, Option, Some, None, List, length, set, take, sym, ap, subst, ◌∙◌, arith, inl, inr, ◌⊎◌}
use Rattle.std.specs.List.{slice_get}
use Rattle.std.proofs.lemmas.List.{take_all}
use Rattle.dfdl_splice.specs.Splicing.{IsAwaited, Spliced, Awaited, bit_count, with_bits}
use Rattle.dfdl_suspend.specs.Asks.{Asks, Gives, Gets, Faults, WaitsFor, at, gives}
use Rattle.dfdl_suspend.specs.Boards.{with_given}
use Rattle.dfdl_suspend.specs.declared.known.Held.{Held}
use Rattle.dfdl_unparse.specs.Documents.{HasCells, IsPieceOf, IsSteady, Pieces, told}
use Rattle.dfdl_unparse.specs.Fronts.{bits_known, front}
use Rattle.dfdl_unparse.specs.Splices.{IsNext, IsSpliced}
use Rattle.dfdl_unparse.proofs.Places.{at_set_same, some_is}
use Rattle.dfdl_unparse.proofs.Stretches.{bits_set, front_longer, is_awaited, spliced_bits, spliced_put}
use Rattle.dfdl_unparse.proofs.Tellings.{told_none, told_put, told_same}

module _ (unknowns : ℕ) (equation : ℕ → Asks Held) (pieces : Pieces) (before now : List (Option Held)) (cell dropped : ℕ) (splice : Spliced)
    (steady : IsSteady equation pieces) (cells : HasCells unknowns pieces) (next : IsNext equation pieces before now cell dropped splice) where
  step_cases : (given : Gives Held) → now ≡ with_given given cell before → (now ≡ before) ⊎ ((value : Held) × (now ≡ set before cell (Some value)))
  step_cases (Gets value) e = inr (value, e)
  step_cases (Faults cause) e = inl e
  step_cases (WaitsFor other) e = inl e

  -- it has no value
  same_none : at now cell ≡ None → now ≡ before
  same_none none = elim (step_cases (gives (equation cell) before) next.step) [
    | inl same ↦ same
    | inr put ↦ absurd (some_is (at now cell) put.0 (ap (λ (known : List (Option Held)). at known cell) put.1 ∙ at_set_same before cell (Some put.0) next.inside) none)
  ]

  pub told_unrun : at now cell ≡ None → told pieces now ≡ told pieces before
  told_unrun none = ap (λ (known : List (Option Held)). told pieces known) (same_none none)

  -- it is no piece's
  pub told_other : ((piece : ℕ) → piece < pieces.count → pieces.cell piece ≢ cell) → told pieces now ≡ told pieces before
  told_other none = elim (step_cases (gives (equation cell) before) next.step) [
    | inl same ↦ ap (λ (known : List (Option Held)). told pieces known) same
    | inr put ↦ told_same equation pieces (length now) cell put.0 before now steady next.begun next.free put.1 none
  ]

  -- it is that of a piece, and has a value
  module _ (piece : ℕ) (is : IsPieceOf pieces cell (Some piece)) (some : at now cell ≢ None) where
    pub told_now : told pieces now ≡ set (told pieces before) piece (Some (pieces.bits now piece))
    told_now = elim (step_cases (gives (equation cell) before) next.step) [
      | inl same ↦ absurd (some (ap (λ (known : List (Option Held)). at known cell) same ∙ next.free))
      | inr put ↦ told_put equation pieces (length now) cell put.0 before now steady next.begun next.free put.1 unknowns piece cells next.inside is.0 is.1
    ]

    pub free_before : slice_get (told pieces before) piece ≡ Some None
    free_before = told_none pieces before piece is.0 (ap (λ (c : ℕ). at before c) is.1 ∙ next.free)

    pub awaits : (count : ℕ) → IsAwaited piece count splice.awaited
    awaits count = subst (λ (xs : List Awaited). IsAwaited piece count xs) (sym next.spliced.awaited_is)
        (is_awaited 0 (told pieces before) piece piece count (omega arith) free_before)

    pub spliced_now : bit_count splice + length (pieces.bits now piece) ≤ 8 * splice.most_bytes
        → IsSpliced pieces.order (told pieces now) dropped (with_bits splice piece (pieces.bits now piece))
    spliced_now room = subst (λ (ps : List (Option (List ℕ))). IsSpliced pieces.order ps dropped (with_bits splice piece (pieces.bits now piece))) (sym told_now)
        (spliced_put pieces.order (told pieces before) dropped splice next.spliced piece (pieces.bits now piece) free_before room)

    pub longer_now : take (length (front (told pieces before))) (front (told pieces now)) ≡ front (told pieces before)
    longer_now = ap (λ (ps : List (Option (List ℕ))). take (length (front (told pieces before))) (front ps)) told_now
        ∙ front_longer (told pieces before) piece (pieces.bits now piece) free_before

    pub past_now : 8 * splice.most_bytes < bit_count splice + length (pieces.bits now piece) → 8 * splice.most_bytes < bits_known (told pieces now) - dropped
    past_now past =
        let all = spliced_bits pieces.order (told pieces before) dropped splice next.spliced in
        let more = ap (λ (ps : List (Option (List ℕ))). bits_known ps) told_now ∙ bits_set (told pieces before) piece (pieces.bits now piece) free_before in
        omega (arith, all, more, past)

  -- nothing has changed
  pub spliced_same : told pieces now ≡ told pieces before → IsSpliced pieces.order (told pieces now) dropped splice
  spliced_same same = subst (λ (ps : List (Option (List ℕ))). IsSpliced pieces.order ps dropped splice) (sym same) next.spliced

  pub longer_same : told pieces now ≡ told pieces before → take (length (front (told pieces before))) (front (told pieces now)) ≡ front (told pieces before)
  longer_same same =
      ap (λ (ps : List (Option (List ℕ))). take (length (front (told pieces before))) (front ps)) same ∙ take_all (length (front (told pieces before))) (front (told pieces before)) (omega arith)
