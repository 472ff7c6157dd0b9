-- What is known of pieces, after one more unknown got a value and after one more event.
use Rattle.std.proofs.Common.{◌≡◌, ◌≢◌, ℕ, suc, ◌-◌, ◌<◌, ◌≤◌, Option, Some, None, List, [], ◌∷◌, ◌++◌, length, set, get_or, replicate, refl, sym, ap, subst, ◌∙◌, arith, inl, inr, length-set, length-append}
use Rattle.std.specs.List.{slice_get}
use Rattle.std.proofs.lemmas.Bool.{cases_eq, cases_lt}
use Rattle.std.proofs.lemmas.List.{ext_get_or, get_or_append_left, get_or-append_right, get_or-set_same, get_or-set_other, get_or-replicate, length-replicate}
use Rattle.std.proofs.lemmas.List.FromFn.{length-map-range_with_len, get_or-map-range_with_len}
use Rattle.std.proofs.lemmas.Option.{get_or_from_slice_get, slice_get-get_or, slice_get_within}
use Rattle.dfdl_suspend.specs.Asks.{Asks, Below, at}
use Rattle.dfdl_suspend.specs.Rounds.{Reached}
use Rattle.dfdl_suspend.specs.declared.known.Held.{Held}
use Rattle.dfdl_unparse.specs.Documents.{HasCells, IsSteady, Lays, Pieces, told, told_at, told_by}
use Rattle.dfdl_unparse.specs.Fronts.{bits_known}
use Rattle.dfdl_unparse.proofs.Places.{at_set_other, at_set_same, below_set, option_cases, some_is}

pub told_long : (pieces : Pieces) (known : List (Option Held)) → length (told pieces known) ≡ pieces.count
told_long pieces known = length-map-range_with_len (told_at pieces known) 0 pieces.count

pub told_get_or : (pieces : Pieces) (known : List (Option Held)) (piece : ℕ) (d : Option (List ℕ)) → piece < pieces.count
    → get_or (told pieces known) piece d ≡ told_at pieces known piece
told_get_or pieces known piece d within = get_or-map-range_with_len (told_at pieces known) 0 pieces.count piece piece d within (omega arith)

-- the bits of a piece whose unknown has no value aren't known
pub told_none : (pieces : Pieces) (known : List (Option Held)) (piece : ℕ) → piece < pieces.count → at known (pieces.cell piece) ≡ None
    → slice_get (told pieces known) piece ≡ Some None
told_none pieces known piece within none =
    slice_get-get_or (told pieces known) piece None (omega (arith, told_long pieces known))
    ∙ ap (λ (o : Option (List ℕ)). Some o) (told_get_or pieces known piece None within ∙ ap (λ (o : Option Held). told_by o (pieces.bits known piece)) none)

-- one unknown got a value
module _ (equation : ℕ → Asks Held) (pieces : Pieces) (room cell : ℕ) (value : Held) (a b : List (Option Held))
    (steady : IsSteady equation pieces) (begun : Reached room equation a)
    (free : at a cell ≡ None) (is : b ≡ set a cell (Some value)) where
  below : Below a b
  below = subst (λ (known : List (Option Held)). Below a known) (sym is) (below_set a cell value free)

  other_by : (piece : ℕ) → piece < pieces.count → pieces.cell piece ≢ cell → told_at pieces b piece ≡ told_at pieces a piece
  other_by piece within apart =
      let same : at b (pieces.cell piece) ≡ at a (pieces.cell piece) =
      ap (λ (known : List (Option Held)). at known (pieces.cell piece)) is ∙ at_set_other a cell (pieces.cell piece) (Some value) apart in
      elim (option_cases (at a (pieces.cell piece))) [
        | inl none ↦ ap (λ (o : Option Held). told_by o (pieces.bits b piece)) (same ∙ none) ∙ sym (ap (λ (o : Option Held). told_by o (pieces.bits a piece)) none)
        | inr some ↦
            ap (λ (o : Option Held). told_by o (pieces.bits b piece)) (same ∙ some.1)
            ∙ ap (λ (bits : List ℕ). Some bits) (steady.stays room a b piece begun below within (some_is (at a (pieces.cell piece)) some.0 some.1))
            ∙ sym (ap (λ (o : Option Held). told_by o (pieces.bits a piece)) some.1)
      ]

  -- which is that of no piece's bits
  pub told_same : ((piece : ℕ) → piece < pieces.count → pieces.cell piece ≢ cell) → told pieces b ≡ told pieces a
  told_same none = ext_get_or None _ _ (told_long pieces b ∙ sym (told_long pieces a)) (λ i within.
      let here : i < pieces.count = omega (arith, told_long pieces b) in
      told_get_or pieces b i None here ∙ (other_by i here (none i here) ∙ sym (told_get_or pieces a i None here)))

  -- which is that of a piece's bits
  pub told_put : (unknowns : ℕ) (piece : ℕ) → HasCells unknowns pieces → cell < length a → piece < pieces.count → pieces.cell piece ≡ cell
      → told pieces b ≡ set (told pieces a) piece (Some (pieces.bits b piece))
  told_put unknowns piece cells inside within its =
      let there : at b (pieces.cell piece) ≡ Some value =
      ap (λ (c : ℕ). at b c) its ∙ (ap (λ (known : List (Option Held)). at known cell) is ∙ at_set_same a cell (Some value) inside) in
      ext_get_or None _ _ (told_long pieces b ∙ (sym (told_long pieces a) ∙ sym (length-set (told pieces a) piece (Some (pieces.bits b piece))))) (λ i below_.
      let here : i < pieces.count = omega (arith, told_long pieces b) in
      elim (cases_eq i piece) [
        | inl same ↦
            ap (λ (n : ℕ). get_or (told pieces b) n None) same
            ∙ (told_get_or pieces b piece None within ∙ ap (λ (o : Option Held). told_by o (pieces.bits b piece)) there)
            ∙ sym (ap (λ (n : ℕ). get_or (set (told pieces a) piece (Some (pieces.bits b piece))) n None) same
            ∙ get_or-set_same (told pieces a) piece (Some (pieces.bits b piece)) None (omega (arith, told_long pieces a)))
        | inr apart ↦
            told_get_or pieces b i None here
            ∙ (other_by i here (λ e. apart (cells.apart i piece here within (e ∙ sym its))) ∙ sym (told_get_or pieces a i None here))
            ∙ sym (get_or-set_other (told pieces a) piece i (Some (pieces.bits b piece)) None apart)
      ])

-- one event more, whose pieces aren't known
module _ (unknowns : ℕ) (equation : ℕ → Asks Held) (old new : Pieces) (room : ℕ) (known : List (Option Held))
    (lays : Lays unknowns equation old new) (reached : Reached room equation known)
    (none : (cell : ℕ) → unknowns ≤ cell → at known cell ≡ None) where
  old_by : (piece : ℕ) → piece < old.count → told_at new known piece ≡ told_at old known piece
  old_by piece within =
      let same : at known (new.cell piece) ≡ at known (old.cell piece) = ap (λ (c : ℕ). at known c) (lays.cells piece within) in
      elim (option_cases (at known (old.cell piece))) [
        | inl free ↦ ap (λ (o : Option Held). told_by o (new.bits known piece)) (same ∙ free) ∙ sym (ap (λ (o : Option Held). told_by o (old.bits known piece)) free)
        | inr some ↦
            ap (λ (o : Option Held). told_by o (new.bits known piece)) (same ∙ some.1)
            ∙ ap (λ (bits : List ℕ). Some bits) (lays.bits room known piece reached within (some_is (at known (old.cell piece)) some.0 some.1))
            ∙ sym (ap (λ (o : Option Held). told_by o (old.bits known piece)) some.1)
      ]

  pub told_grown : told new known ≡ told old known ++ replicate (new.count - old.count) None
  told_grown =
      let long = told_long new known in
      let before = told_long old known in
      let added = length-append (told old known) (replicate {A = Option (List ℕ)} (new.count - old.count) None) in
      let extra = length-replicate {A = Option (List ℕ)} (new.count - old.count) None in
      ext_get_or None _ _ (omega (arith, long, before, added, extra, lays.more)) (λ i within.
      let here : i < new.count = omega (arith, long) in
      told_get_or new known i None here ∙ elim (cases_lt i old.count) [
        | inl low ↦ old_by i low ∙ (sym (told_get_or old known i None low) ∙ sym (get_or_append_left (told old known) _ None i (omega (arith, before))))
        | inr past ↦
            ap (λ (o : Option Held). told_by o (new.bits known i)) (none (new.cell i) (lays.fresh i past here))
            ∙ sym (get_or-append_right (told old known) (replicate (new.count - old.count) None) old.count i None before past
            ∙ get_or-replicate (new.count - old.count) (i - old.count) None None (omega (arith, here, past)))
      ])

-- what is known of pieces is known where more is
told_cases : (o : Option Held) (bits found : List ℕ) → told_by o bits ≡ Some found → (value : Held) × (o ≡ Some value) × (bits ≡ found)
told_cases None bits found e = absurd (cc)
told_cases (Some value) bits found e = (value, refl, same e)
  where
    same : Some bits ≡ Some found → bits ≡ found
    same e = cc

bits_fewer : (xs ys : List (Option (List ℕ))) → ((i : ℕ) (bits : List ℕ) → slice_get xs i ≡ Some (Some bits) → slice_get ys i ≡ Some (Some bits)) → bits_known xs ≤ bits_known ys
bits_fewer [] ys stays = omega arith
bits_fewer (None ∷ xs) [] stays = bits_fewer xs [] (λ i bits e. stays (suc i) bits e)
bits_fewer (Some bits ∷ xs) [] stays = absurd (none_some (stays 0 bits refl))
  where
    none_some : ◌≡◌ {A = Option (Option (List ℕ))} None (Some (Some bits)) → ⊥
    none_some e = cc
bits_fewer (None ∷ xs) (None ∷ ys) stays = bits_fewer xs ys (λ i bits e. stays (suc i) bits e)
bits_fewer (None ∷ xs) (Some more ∷ ys) stays = omega (arith, bits_fewer xs ys (λ i bits e. stays (suc i) bits e))
bits_fewer (Some bits ∷ xs) (None ∷ ys) stays = absurd (none_some (stays 0 bits refl))
  where
    none_some : ◌≡◌ {A = Option (Option (List ℕ))} (Some None) (Some (Some bits)) → ⊥
    none_some e = cc
bits_fewer (Some bits ∷ xs) (Some more ∷ ys) stays =
    omega (arith, bits_fewer xs ys (λ i bits e. stays (suc i) bits e), ap (λ (zs : List ℕ). length zs) (same (stays 0 bits refl)))
  where
    same : ◌≡◌ {A = Option (Option (List ℕ))} (Some (Some more)) (Some (Some bits)) → more ≡ bits
    same e = cc

pub told_fewer : (equation : ℕ → Asks Held) (pieces : Pieces) (room : ℕ) (a b : List (Option Held)) → IsSteady equation pieces → Reached room equation a → Below a b
    → bits_known (told pieces a) ≤ bits_known (told pieces b)
told_fewer equation pieces room a b steady reached below = bits_fewer (told pieces a) (told pieces b) (λ i bits e.
    let here : i < pieces.count = omega (arith, slice_get_within (told pieces a) i (Some bits) e, told_long pieces a) in
    let its : told_at pieces a i ≡ Some bits = sym (told_get_or pieces a i None here) ∙ get_or_from_slice_get (told pieces a) i (Some bits) None e in
    let had = told_cases (at a (pieces.cell i)) (pieces.bits a i) bits its in
    slice_get-get_or (told pieces b) i None (omega (arith, told_long pieces b))
    ∙ ap (λ (o : Option (List ℕ)). Some o) (told_get_or pieces b i None here
    ∙ (ap (λ (o : Option Held). told_by o (pieces.bits b i)) (below (pieces.cell i) had.0 had.1)
    ∙ ap (λ (found : List ℕ). Some found) (steady.stays room a b i reached below here (some_is (at a (pieces.cell i)) had.0 had.1) ∙ had.2))))
