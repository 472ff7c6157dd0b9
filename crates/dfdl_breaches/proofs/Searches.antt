-- The first answer among numbers.
use Rattle.std.proofs.Common.{◌≡◌, ℕ, zero, suc, ◌+◌, ◌<◌, Option, Some, None, ap, sym, ◌∙◌, refl, arith, inl, inr}
use Rattle.std.proofs.lemmas.Bool.{cases_eq}
use Rattle.dfdl_components.specs.Searching.{or_else, first_below}

-- no numbers have no answer
pub first_none : {X : Type 0} (answer : ℕ → Option X) → first_below answer 0 ≡ None
unfolding first_below
first_none answer = refl

first_suc : {X : Type 0} (answer : ℕ → Option X) (n : ℕ) → first_below answer (suc n) ≡ or_else (first_below answer n) (answer n)
unfolding first_below
first_suc answer n = refl

-- no number has an answer
pub none_more : {X : Type 0} (answer : ℕ → Option X) (n : ℕ) → first_below answer n ≡ None → answer n ≡ None → first_below answer (n + 1) ≡ None
none_more {X} answer n none here =
    let same : n + 1 ≡ suc n = omega arith in
    ap (first_below answer) same ∙ (first_suc answer n ∙ (ap (λ (o : Option X). or_else o (answer n)) none ∙ here))

pub none_below : {X : Type 0} (answer : ℕ → Option X) (n : ℕ) → ((k : ℕ) → k < n → answer k ≡ None) → first_below answer n ≡ None
none_below answer zero nones = first_none answer
none_below {X} answer (suc n) nones =
    first_suc answer n ∙ (ap (λ (o : Option X). or_else o (answer n)) (none_below answer n (λ k less. nones k (omega (arith, less)))) ∙ nones n (omega arith))

-- the first number that has an answer
pub found_at : {X : Type 0} (answer : ℕ → Option X) (k n : ℕ) (x : X) → k < n → first_below answer k ≡ None → answer k ≡ Some x → first_below answer n ≡ Some x
found_at answer k zero x less none here = absurd (omega (arith, less))
found_at {X} answer k (suc n) x less none here = elim (cases_eq k n) [
  | inl same ↦ first_suc answer n ∙ (ap (λ (m : ℕ). or_else (first_below answer m) (answer m)) (sym same) ∙ (ap (λ (o : Option X). or_else o (answer k)) none ∙ here))
  | inr other ↦ first_suc answer n ∙ ap (λ (o : Option X). or_else o (answer n)) (found_at answer k n x (omega (arith, less, other)) none here)
]
