-- The first answer among numbers.
use Rattle.std.proofs.Common.{◌≡◌, ℕ, zero, suc, ◌+◌, ◌<◌, ◌≤◌, Option, Some, None, ap, sym, ◌∙◌, refl, arith, inl, inr}
use Rattle.std.proofs.lemmas.Bool.{cases_eq}
use Rattle.dfdl_components.specs.Searching.{or_else, first_below}

-- one number more
pub first_more : {X : Type 0} (answer : ℕ → Option X) (n : ℕ) → first_below answer (n + 1) ≡ or_else (first_below answer n) (answer n)
unfolding first_below
first_more {X} answer n = let same : n + 1 ≡ suc n = omega arith in ap (first_below answer) same ∙ step answer n
  where
    step : (f : ℕ → Option X) (m : ℕ) → first_below f (suc m) ≡ or_else (first_below f m) (f m)
    step f m = refl

-- no number has an answer
pub none_more : {X : Type 0} (answer : ℕ → Option X) (n : ℕ) → first_below answer n ≡ None → answer n ≡ None → first_below answer (n + 1) ≡ None
none_more {X} answer n none here = first_more answer n ∙ (ap (λ (o : Option X). or_else o (answer n)) none ∙ here)

-- an answer that is found stays
pub found_stays : {X : Type 0} (answer : ℕ → Option X) (n m : ℕ) (x : X) → n ≤ m → first_below answer n ≡ Some x → first_below answer m ≡ Some x
unfolding first_below
found_stays {X} answer n zero x low found = let same : zero ≡ n = omega (arith, low) in ap (first_below answer) same ∙ found
found_stays {X} answer n (suc m) x low found = elim (cases_eq n (suc m)) [
  | inl same ↦ ap (first_below answer) (sym same) ∙ found
  | inr other ↦ ap (λ (o : Option X). or_else o (answer m)) (found_stays answer n m x (omega (arith, low, other)) found)
]

-- the first number that has an answer
pub found_at : {X : Type 0} (answer : ℕ → Option X) (n m : ℕ) (x : X) → n < m → first_below answer n ≡ None → answer n ≡ Some x → first_below answer m ≡ Some x
found_at {X} answer n m x low none here = found_stays answer (n + 1) m x (omega (arith, low))
    (first_more answer n ∙ (ap (λ (o : Option X). or_else o (answer n)) none ∙ here))

-- no numbers have no answer
pub first_none : {X : Type 0} (answer : ℕ → Option X) → first_below answer 0 ≡ None
unfolding first_below
first_none answer = refl
