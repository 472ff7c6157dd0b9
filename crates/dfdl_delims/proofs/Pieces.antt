-- The items of a list from a place on, and the pieces of literals.
use Rattle.std.proofs.Common.{◌≡◌, ℕ, zero, suc, ◌+◌, ◌-◌, ◌<◌, ◌≤◌, List, [], ◌∷◌, length, take, drop, get_or, refl, ap, ◌∙◌, arith}
use Rattle.std.proofs.lemmas.List.{drop_more, drop_all}
use Rattle.dfdl_forms.specs.declared.literals.Piece.{Piece}
use Rattle.dfdl_delims.specs.Candidates.{pieces_from}

take_none : {X : Type 0} (xs : List X) (n : ℕ) → n ≡ 0 → take n xs ≡ []
take_none {X} [] n is = ap (λ k. take k []) is
take_none {X} (x ∷ xs) n is = ap (λ k. take k (x ∷ xs)) is

take_nothing : {X : Type 0} (xs : List X) (n : ℕ) → xs ≡ [] → take n xs ≡ []
take_nothing {X} [] zero is = refl
take_nothing {X} [] (suc n) is = refl
take_nothing {X} (x ∷ xs) n is = let no_it : ⊥ = cc in absurd no_it

pub no_item : {X : Type 0} (xs : List X) (at end : ℕ) → end ≤ at → take (end - at) (drop at xs) ≡ []
no_item xs at end past = take_none (drop at xs) (end - at) (omega (arith, past))

pub no_items_left : {X : Type 0} (xs : List X) (at end : ℕ) → length xs ≤ at → take (end - at) (drop at xs) ≡ []
no_items_left xs at end past = take_nothing (drop at xs) (end - at) (drop_all at xs past)

pub an_item : {X : Type 0} (xs : List X) (at end : ℕ) (d : X) → at < end → at < length xs
    → take (end - at) (drop at xs) ≡ get_or xs at d ∷ take (end - (at + 1)) (drop (at + 1) xs)
an_item xs at end d before within =
    ap (take (end - at)) (drop_more xs at d within)
    ∙ ap (λ n. take n (get_or xs at d ∷ drop (at + 1) xs)) (counts (end - at) (end - (at + 1)) (omega (arith, before)))
  where
    counts : (n m : ℕ) → n ≡ m + 1 → n ≡ suc m
    counts n m is = omega (arith, is)

pub no_piece : (pieces : List Piece) (at end : ℕ) → end ≤ at → pieces_from pieces at end ≡ []
no_piece pieces at end past = no_item pieces at end past

pub none_left : (pieces : List Piece) (at end : ℕ) → length pieces ≤ at → pieces_from pieces at end ≡ []
none_left pieces at end past = no_items_left pieces at end past

pub a_piece : (pieces : List Piece) (at end : ℕ) (d : Piece) → at < end → at < length pieces
    → pieces_from pieces at end ≡ get_or pieces at d ∷ pieces_from pieces (at + 1) end
a_piece pieces at end d before within = an_item pieces at end d before within
