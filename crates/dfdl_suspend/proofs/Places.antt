-- Places of lists: after a change, behind a push, and the values of unknowns there.
use Rattle.std.proofs.Common.{◌≡◌, ◌≢◌, ℕ, zero, suc, ◌<◌, ◌≤◌, Option, Some, None, List, [], ◌∷◌, ◌++◌, length, set, replicate, refl, ap, arith, inl, inr, ◌⊎◌}
use Rattle.std.specs.List.{slice_get}
use Rattle.std.proofs.lemmas.Option.{slice_get_within, slice_get_past}
use Rattle.dfdl_suspend.specs.Asks.{at, joined}

pub get_set_same : {X : Type 0} (xs : List X) (i : ℕ) (x : X) → i < length xs → slice_get (set xs i x) i ≡ Some x
get_set_same [] i x within = absurd (omega arith)
get_set_same (y ∷ ys) zero x within = refl
get_set_same (y ∷ ys) (suc i) x within = get_set_same ys i x (omega arith)

pub get_set_other : {X : Type 0} (xs : List X) (i j : ℕ) (x : X) → j ≢ i → slice_get (set xs i x) j ≡ slice_get xs j
get_set_other [] i j x other = refl
get_set_other (y ∷ ys) zero zero x other = absurd (other refl)
get_set_other (y ∷ ys) zero (suc j) x other = refl
get_set_other (y ∷ ys) (suc i) zero x other = refl
get_set_other (y ∷ ys) (suc i) (suc j) x other = get_set_other ys i j x (λ e. other (ap suc e))

pub get_append_old : {X : Type 0} (xs ys : List X) (i : ℕ) → i < length xs → slice_get (xs ++ ys) i ≡ slice_get xs i
get_append_old [] ys i within = absurd (omega arith)
get_append_old (x ∷ xs) ys zero within = refl
get_append_old (x ∷ xs) ys (suc i) within = get_append_old xs ys i (omega arith)

pub get_push_new : {X : Type 0} (xs : List X) (y : X) → slice_get (xs ++ y ∷ []) (length xs) ≡ Some y
get_push_new [] y = refl
get_push_new (x ∷ xs) y = get_push_new xs y

-- what stands in a list behind a push is old, or it is what was pushed
pub get_push_cases : {X : Type 0} (xs : List X) (y x : X) (i : ℕ) → slice_get (xs ++ y ∷ []) i ≡ Some x
    → (slice_get xs i ≡ Some x) ⊎ ((i ≡ length xs) × (y ≡ x))
get_push_cases [] y x zero e = inr (refl, cc)
get_push_cases [] y x (suc i) e = absurd (cc)
get_push_cases (z ∷ zs) y x zero e = inl e
get_push_cases (z ∷ zs) y x (suc i) e = elim (get_push_cases zs y x i e) [
  | inl old ↦ inl old
  | inr new ↦ inr (ap suc new.0, new.1)
]

pub get_replicate : {X : Type 0} (n : ℕ) (x y : X) (i : ℕ) → slice_get (replicate n x) i ≡ Some y → x ≡ y
get_replicate zero x y i e = absurd (cc)
get_replicate (suc n) x y zero e = cc
get_replicate (suc n) x y (suc i) e = get_replicate n x y i e

-- None or a value, with its equation
pub option_cases : {X : Type 0} (o : Option X) → (o ≡ None) ⊎ ((x : X) × (o ≡ Some x))
option_cases None = inl refl
option_cases (Some x) = inr (x, refl)

pub at_set_same : {V : Type 0} (known : List (Option V)) (cell : ℕ) (o : Option V) → cell < length known → at (set known cell o) cell ≡ o
at_set_same known cell o within = ap joined (get_set_same known cell o within)

pub at_set_other : {V : Type 0} (known : List (Option V)) (cell other : ℕ) (o : Option V) → other ≢ cell → at (set known cell o) other ≡ at known other
at_set_other known cell other o apart = ap joined (get_set_other known cell other o apart)

pub joined_some : {V : Type 0} (o : Option (Option V)) (v : V) → joined o ≡ Some v → o ≡ Some (Some v)
joined_some None v e = absurd (cc)
joined_some (Some o) v e = ap (λ x. Some x) e

-- an unknown with a value is there
pub at_within : {V : Type 0} (known : List (Option V)) (cell : ℕ) (v : V) → at known cell ≡ Some v → cell < length known
at_within known cell v e = slice_get_within known cell (Some v) (joined_some (slice_get known cell) v e)

pub at_past : {V : Type 0} (known : List (Option V)) (cell : ℕ) → length known ≤ cell → at known cell ≡ None
at_past known cell past = ap joined (slice_get_past known cell past)

pub at_nothing : {V : Type 0} (n cell : ℕ) → at {V = V} (replicate n None) cell ≡ None
at_nothing {V} n cell =
    let all : List (Option V) = replicate n None in
    elim (option_cases (at all cell)) [
      | inl none ↦ none
      | inr some ↦ absurd (none_some some.0 (get_replicate n None (Some some.0) cell (joined_some (slice_get all cell) some.0 some.1)))
    ]
  where
    none_some : {X : Type 0} (x : X) → None ≡ Some x → ⊥
    none_some x e = cc
