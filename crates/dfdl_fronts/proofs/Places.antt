-- A text is refused at one place.
use Rattle.std.proofs.Common.{◌≡◌, ℕ, ◌+◌, ◌<◌, ◌≤◌, ◌++◌, List, take, drop, sym, ap, subst, ◌∙◌, arith, append_assoc, inl, inr}
use Rattle.std.proofs.lemmas.Bool.{cases_order}
use Rattle.std.proofs.lemmas.List.{take-append-drop, take-take}
use Rattle.dfdl_fronts.specs.Fronts.{IsFront, IsPlace}

-- a front of a front is a front
front_less : {A : Type 0} (Text : List A → Type 0) (items : List A) (i j : ℕ) → i ≤ j → IsFront Text (take j items) → IsFront Text (take i items)
front_less Text items i j less front = (
  drop i (take j items) ++ front.0,
  subst Text (ap (λ xs. xs ++ front.0) (sym (take-append-drop i (take j items)) ∙ ap (λ xs. xs ++ drop i (take j items)) (take-take i j items less))
      ∙ append_assoc (take i items) (drop i (take j items)) front.0) front.1,
)

no_less : {A : Type 0} (Text : List A → Type 0) (items : List A) (a b : ℕ) → IsPlace Text items a → IsPlace Text items b → a < b → ⊥
no_less Text items a b first second less =
    let within = second.within in
    first.stops (omega arith) (front_less Text items (a + 1) b (omega arith) second.before)

pub one_place : {A : Type 0} (Text : List A → Type 0) (items : List A) (a b : ℕ) → IsPlace Text items a → IsPlace Text items b → a ≡ b
one_place Text items a b first second =
    elim (cases_order a b) [
      | inl same ↦ same
      | inr other ↦ (elim other [
        | inl less ↦ absurd (no_less Text items a b first second less)
        | inr more ↦ absurd (no_less Text items b a second first more)
      ])
    ]
