-- Two lists, place by place.
use Rattle.std.proofs.Common.{◌≡◌, ℕ, zero, suc, ◌+◌, ◌<◌, ◌≤◌, List, [], ◌∷◌, ◌++◌, length, take, drop, get_or, ap, sym, subst, ◌∙◌, refl, inl, inr, arith, append_assoc, drop-cons}
use Rattle.std.specs.List.{AllZip}
use Rattle.std.proofs.Math.Seq.{take-suc}
use Rattle.std.proofs.lemmas.Bool.{cases_lt}
use Rattle.std.proofs.lemmas.List.{append-nil}

-- a loop over a vector has nothing left
pub none_left : {X : Type 0} (left : List X) (n : ℕ) → n ≡ 0 → n ≡ length left → left ≡ []
none_left [] n none many = refl
none_left (x ∷ left) n none many = absurd (omega (arith, none, many))

module _ {A B : Type 0} (R : A → B → Type 0) where
  pub zip_last : (xs : List A) (ys : List B) (x : A) (y : B) → AllZip R xs ys → R x y → AllZip R (xs ++ x ∷ []) (ys ++ y ∷ [])
  zip_last [] [] x y all one = (one, tt)
  zip_last [] (b ∷ ys) x y all one = absurd all
  zip_last (a ∷ xs) [] x y all one = absurd all
  zip_last (a ∷ xs) (b ∷ ys) x y all one = (all.0, zip_last xs ys x y all.1 one)

  -- one place more
  pub zip_more : (xs : List A) (at : ℕ) (d : A) (ys next : List B) (y : B) → at < length xs → next ≡ ys ++ y ∷ [] → R (get_or xs at d) y
      → AllZip R (take at xs) ys → AllZip R (take (at + 1) xs) next
  zip_more xs at d ys next y less next_is one all =
      let more : suc at ≡ at + 1 = omega arith in
      let taken : take at xs ++ get_or xs at d ∷ [] ≡ take (at + 1) xs = sym (take-suc xs at d less) ∙ ap (λ (k : ℕ). take k xs) more in
      subst (λ (zs : List B). AllZip R (take (at + 1) xs) zs) (sym next_is)
      (subst (λ (zs : List A). AllZip R zs (ys ++ y ∷ [])) taken (zip_last (take at xs) ys (get_or xs at d) y all one))

  -- where there is an item of the one, there is one of the other
  pub zip_there : (x : A) (xs : List A) (ys : List B) (at : ℕ) → AllZip R (x ∷ xs) (drop at ys) → at < length ys
  zip_there x xs ys at all = elim (cases_lt at (length ys)) [
    | inl less ↦ less
    | inr past ↦ absurd (subst (λ (zs : List B). AllZip R (x ∷ xs) zs) (none ys at past) all)
  ]
    where
      none : (ns : List B) (i : ℕ) → length ns ≤ i → drop i ns ≡ []
      none [] zero less = refl
      none [] (suc i) less = refl
      none (n ∷ ns) zero less = absurd (omega (arith, less))
      none (n ∷ ns) (suc i) less = none ns i (omega (arith, less))

  -- the first of each
  zip_apart : (x : A) (xs : List A) (ys : List B) (at : ℕ) (d : B) → AllZip R (x ∷ xs) (drop at ys) → AllZip R (x ∷ xs) (get_or ys at d ∷ drop (at + 1) ys)
  zip_apart x xs ys at d all =
      let more : suc at ≡ at + 1 = omega arith in
      subst (λ (zs : List B). AllZip R (x ∷ xs) zs) (drop-cons ys at d (zip_there x xs ys at all) ∙ ap (λ (k : ℕ). get_or ys at d ∷ drop k ys) more) all

  pub zip_first : (x : A) (xs : List A) (ys : List B) (at : ℕ) (d : B) → AllZip R (x ∷ xs) (drop at ys) → R x (get_or ys at d)
  zip_first x xs ys at d all = (zip_apart x xs ys at d all).0

  pub zip_rest : (x : A) (xs : List A) (ys : List B) (at : ℕ) → AllZip R (x ∷ xs) (drop at ys) → AllZip R xs (drop (at + 1) ys)
  zip_rest x xs ys at all =
      let more : suc at ≡ at + 1 = omega arith in
      let less = zip_there x xs ys at all in
      rest (drop at ys) refl all
    where
      tails : {z w : B} {zs ws : List B} → (z ∷ zs) ≡ (w ∷ ws) → zs ≡ ws
      tails is = cc

      rest : (zs : List B) → drop at ys ≡ zs → AllZip R (x ∷ xs) zs → AllZip R xs (drop (at + 1) ys)
      rest [] is both = absurd both
      rest (z ∷ zs) is both =
          let more : suc at ≡ at + 1 = omega arith in
          let split = sym is ∙ drop-cons ys at z (zip_there x xs ys at all) in
          subst (λ (ws : List B). AllZip R xs ws) (tails split ∙ ap (λ (k : ℕ). drop k ys) more) both.1

  -- what is made so far, and what is left of the one
  pub left_more : (x : A) (left : List A) (whole : List A) (made next : List B) (y : B) → next ≡ made ++ y ∷ [] → R x y
      → ((rest : List B) → AllZip R (x ∷ left) rest → AllZip R whole (made ++ rest)) → (rest : List B) → AllZip R left rest → AllZip R whole (next ++ rest)
  left_more x left whole made next y next_is one before rest all =
      subst (λ (zs : List B). AllZip R whole zs) (sym (append_assoc made (y ∷ []) rest) ∙ ap (λ (zs : List B). zs ++ rest) (sym next_is)) (before (y ∷ rest) (one, all))

  pub left_end : (left : List A) (whole : List A) (made : List B) → left ≡ []
      → ((rest : List B) → AllZip R left rest → AllZip R whole (made ++ rest)) → AllZip R whole made
  left_end left whole made none before =
      subst (λ (zs : List B). AllZip R whole zs) (append-nil made) (before [] (subst (λ (xs : List A). AllZip R xs []) (sym none) tt))
