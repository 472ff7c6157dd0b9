-- Places of a list of rows.
use Rattle.std.proofs.Common.{◌≡◌, ℕ, zero, suc, ◌+◌, ◌<◌, refl, List, [], ◌∷◌, drop, Some, None, All, ap, sym, subst, ◌∙◌, arith}
use Rattle.std.specs.Prelude.{slice_get}
use Rattle.std.proofs.lemmas.Option.{get_or_from_slice_get, slice_get_within}

suc_plus : (i : ℕ) → suc i + 1 ≡ suc (i + 1)
suc_plus i = omega arith

pub drop_some : (rows : List ℕ) (i row : ℕ) → slice_get rows i ≡ Some row → drop i rows ≡ row ∷ drop (i + 1) rows
drop_some [] i row is = absurd (cc)
drop_some (first ∷ rest) zero row is = let same : first ≡ row = cc in ap (λ (r : ℕ). r ∷ rest) same
drop_some (first ∷ rest) (suc i) row is =
    drop_some rest i row is ∙ ap (λ (n : ℕ). row ∷ drop n (first ∷ rest)) (sym (suc_plus i))

pub drop_none : (rows : List ℕ) (i : ℕ) → slice_get rows i ≡ None → drop i rows ≡ []
drop_none [] zero is = refl
drop_none [] (suc i) is = refl
drop_none (first ∷ rest) zero is = absurd (cc)
drop_none (first ∷ rest) (suc i) is = drop_none rest i is

pub all_at : (bound : ℕ) (rows : List ℕ) (i row : ℕ) → All (λ c. c < bound) rows → slice_get rows i ≡ Some row → row < bound
all_at bound rows i row all is =
    subst (λ (r : ℕ). r < bound) (get_or_from_slice_get rows i row row is) (all i row (slice_get_within rows i row is))
