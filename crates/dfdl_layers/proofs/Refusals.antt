-- A refused text has one cause.
use Rattle.std.proofs.Common.{◌≡◌, ℕ, ◌+◌, ◌<◌, ◌≤◌, ◌++◌, List, length, take, arith, inl, inr}
use Rattle.std.proofs.lemmas.Bool.{cases_order}
use Rattle.dfdl_layers.specs.Causes.{IsBroken, IsRefused, LeavesFewer}

no_lower : {A : Type 0} (Text : ℕ → List A → Type 0) → LeavesFewer Text → (front : List A) (a b : ℕ)
    → IsBroken Text front a → IsBroken Text front b → a < b → ⊥
no_lower Text fewer front a b first second less =
    let kept = second.kept in
    first.broken (kept.0, fewer (a + 1) b (front ++ kept.0) (omega arith) kept.1)

-- items break one rule
pub one_rule : {A : Type 0} (Text : ℕ → List A → Type 0) → LeavesFewer Text
    → (front : List A) (a b : ℕ) → IsBroken Text front a → IsBroken Text front b → a ≡ b
one_rule Text fewer front a b first second =
    elim (cases_order a b) [
      | inl same ↦ same
      | inr other ↦ (elim other [
        | inl less ↦ absurd (no_lower Text fewer front a b first second less)
        | inr more ↦ absurd (no_lower Text fewer front b a second first more)
      ])
    ]

-- a refused text has one cause at its place
pub one_cause : {A : Type 0} (Text : ℕ → List A → Type 0) (all : ℕ) → LeavesFewer Text
    → (items : List A) (at a b : ℕ)
    → IsRefused Text all items at a → IsRefused Text all items at b → a ≡ b
one_cause Text all fewer items at a b first second =
    let within : at ≤ length items = first.place.within in
    elim (cases_order at (length items)) [
      | inl same ↦ omega (arith, first.ends same, second.ends same)
      | inr other ↦ (elim other [
        | inl less ↦
            one_rule Text fewer (take (at + 1) items) a b (first.breaks less) (second.breaks less)
        | inr more ↦ absurd (omega arith)
      ])
    ]
