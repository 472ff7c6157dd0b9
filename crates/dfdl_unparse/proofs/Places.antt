-- The values of unknowns after one more got a value, and fronts of lists.
use Rattle.std.proofs.Common.{◌≡◌, ◌≢◌, ℕ, zero, suc, ◌+◌, ◌<◌, Option, Some, None, List, [], ◌∷◌, ◌++◌, length, set, take, refl, ap, ◌∙◌, arith, inl, inr, ◌⊎◌}
use Rattle.std.specs.List.{slice_get}
use Rattle.std.proofs.lemmas.Bool.{cases_eq}
use Rattle.dfdl_suspend.specs.Asks.{Below, at, joined}

pub get_set_same : {X : Type 0} (xs : List X) (i : ℕ) (x : X) → i < length xs → slice_get (set xs i x) i ≡ Some x
get_set_same [] i x within = absurd (omega arith)
get_set_same (y ∷ ys) zero x within = refl
get_set_same (y ∷ ys) (suc i) x within = get_set_same ys i x (omega arith)

pub get_set_other : {X : Type 0} (xs : List X) (i j : ℕ) (x : X) → j ≢ i → slice_get (set xs i x) j ≡ slice_get xs j
get_set_other [] i j x other = refl
get_set_other (y ∷ ys) zero zero x other = absurd (other refl)
get_set_other (y ∷ ys) zero (suc j) x other = refl
get_set_other (y ∷ ys) (suc i) zero x other = refl
get_set_other (y ∷ ys) (suc i) (suc j) x other = get_set_other ys i j x (λ e. other (ap suc e))

-- None or a value, with its equation
pub option_cases : {X : Type 0} (o : Option X) → (o ≡ None) ⊎ ((x : X) × (o ≡ Some x))
option_cases None = inl refl
option_cases (Some x) = inr (x, refl)

pub some_is : {X : Type 0} (o : Option X) (x : X) → o ≡ Some x → o ≢ None
some_is o x some none = cc

pub at_set_same : {V : Type 0} (known : List (Option V)) (cell : ℕ) (o : Option V) → cell < length known → at (set known cell o) cell ≡ o
at_set_same known cell o within = ap joined (get_set_same known cell o within)

pub at_set_other : {V : Type 0} (known : List (Option V)) (cell other : ℕ) (o : Option V) → other ≢ cell → at (set known cell o) other ≡ at known other
at_set_other known cell other o apart = ap joined (get_set_other known cell other o apart)

-- a value more takes none away
pub below_set : {V : Type 0} (known : List (Option V)) (cell : ℕ) (value : V) → at known cell ≡ None → Below known (set known cell (Some value))
below_set known cell value free other v is = elim (cases_eq other cell) [
  | inl same ↦ absurd (some_is (at known other) v is (ap (λ (c : ℕ). at known c) same ∙ free))
  | inr apart ↦ at_set_other known cell other (Some value) apart ∙ is
]

-- a front goes on
pub take_behind : (xs ys : List ℕ) (n : ℕ) → take (length xs + n) (xs ++ ys) ≡ xs ++ take n ys
take_behind [] ys n = ap (λ (m : ℕ). take m ys) (omega arith)
take_behind (x ∷ xs) ys n = first (length (x ∷ xs) + n) (length xs + n) (omega arith) ∙ ap (λ (zs : List ℕ). x ∷ zs) (take_behind xs ys n)
  where
    first : (m k : ℕ) → m ≡ suc k → take m (x ∷ (xs ++ ys)) ≡ x ∷ take k (xs ++ ys)
    first m k e = ap (λ (j : ℕ). take j (x ∷ (xs ++ ys))) e
