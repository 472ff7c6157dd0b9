-- The value of a row, and those of the rows below it.
use Rattle.std.proofs.Common.{◌≡◌, ℕ, zero, suc, ◌<◌, ◌≤◌, List, [], ◌∷◌, ◌++◌, All, map, Option, slice_get, nat_eq, refl, ap, subst, ◌∙◌, arith}
use Rattle.std.specs.List.{flat_map}
use Rattle.std.proofs.lemmas.Bool.{cond_both}
use Rattle.std.proofs.lemmas.Bool.Decides.{nat_tests}
use Rattle.std.proofs.lemmas.List.Elements.{All-head, All-tail}
use Rattle.dfdl_terms.specs.declared.row.Row.{Row}
use Rattle.dfdl_json.specs.ByRows.{below, by_rows}

module _ {V : Type 0} (step : (ℕ → V) → ℕ → Option Row → V) (none : V) (rows : List Row) where
  -- a row's value, from those below it
  pub row_is : (id : ℕ) (row : Option Row) → slice_get rows id ≡ row → by_rows step none rows id ≡ step (below step none rows id) id row
  unfolding by_rows
  row_is id row is = ap (step (below step none rows id) id) is

  -- below a number each row has its own value
  pub below_is : (n id : ℕ) → id < n → below step none rows n id ≡ by_rows step none rows id
  unfolding below by_rows
  below_is zero id h = absurd (omega arith)
  below_is (suc n) id h =
      cond_both (nat_eq id n) _ _ (λ (v : V). v ≡ by_rows step none rows id)
      (λ e. let same : id ≡ n = grind (arith, nat_tests) in subst (λ (m : ℕ). step (below step none rows m) m (slice_get rows m) ≡ by_rows step none rows id) same refl)
      (λ e. let less : id < n = grind (arith, nat_tests) in below_is n id less)

  -- from there on there is nothing
  pub below_past : (n id : ℕ) → n ≤ id → below step none rows n id ≡ none
  unfolding below
  below_past zero id h = refl
  below_past (suc n) id h =
      cond_both (nat_eq id n) _ _ (λ (v : V). v ≡ none)
      (λ e. absurd (let same : id ≡ n = grind (arith, nat_tests) in omega (arith, same, h)))
      (λ e. below_past n id (omega (arith, h)))

-- what holds of a row where it holds of all below it holds of each
pub by_numbers : (P : ℕ → Type 0) → ((id : ℕ) → ((c : ℕ) → c < id → P c) → P id) → (n id : ℕ) → id < n → P id
by_numbers P step zero id h = absurd (omega arith)
by_numbers P step (suc n) id h = step id (λ c less. by_numbers P step n c (omega (arith, h, less)))

-- functions that are equal at each of these numbers
pub flat_map_same : {A : Type 0} (n : ℕ) (f g : ℕ → List A) → ((c : ℕ) → c < n → f c ≡ g c) → (cs : List ℕ) → All (λ c. c < n) cs → flat_map f cs ≡ flat_map g cs
flat_map_same n f g same [] within = refl
flat_map_same n f g same (c ∷ cs) within =
    ap (λ xs. xs ++ flat_map f cs) (same c (All-head (λ x. x < n) c cs within)) ∙ ap (λ ys. g c ++ ys) (flat_map_same n f g same cs (All-tail (λ x. x < n) c cs within))

pub map_same : {A : Type 0} (n : ℕ) (f g : ℕ → A) → ((c : ℕ) → c < n → f c ≡ g c) → (cs : List ℕ) → All (λ c. c < n) cs → map f cs ≡ map g cs
map_same n f g same [] within = refl
map_same n f g same (c ∷ cs) within =
    ap (λ x. x ∷ map f cs) (same c (All-head (λ x. x < n) c cs within)) ∙ ap (λ ys. g c ∷ ys) (map_same n f g same cs (All-tail (λ x. x < n) c cs within))
