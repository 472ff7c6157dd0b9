-- What steps by name reach is inside of where they begin.
use Rattle.std.proofs.Common.{◌≡◌, ℕ, ◌+◌, ◌<◌, ◌≤◌, ◌⊎◌, ◌&&◌, ◌||◌, [], ◌∷◌, List, Bool, true, false, length, Option, Some, eqb, inl, inr, refl, sym, ap, ◌∙◌, arith}
use Rattle.std.specs.List.{list_any}
use Rattle.std.proofs.lemmas.Bool.{cases_lt, eqb-true}
use Rattle.dfdl_expressions.specs.declared.path.Step.{Step}
use Rattle.dfdl_expressions.specs.declared.path.Step.TheVariants.{Here, Up, Down}
use Rattle.dfdl_region.specs.declared.node.Node.{Node}
use Rattle.dfdl_paths.specs.declared.place.Place.{Place}
use Rattle.dfdl_paths.specs.declared.place.Place.TheVariants.{Above, At, Inside}
use Rattle.dfdl_paths.specs.Elements.{around, is_named, is_place}
use Rattle.dfdl_paths.specs.Leads.{after, follow, has_place, left_behind, next_index, only_at}
use Rattle.dfdl_paths.specs.Spans.{IsAround, IsSpan, begins_down, is_up}
use Rattle.dfdl_paths.proofs.Bits.{false_unless, first_of, second_of}
use Rattle.dfdl_paths.proofs.Children.{named-within, outside-none}

-- no place outside of a span is reached
pub record IsInside (reached : Place → Bool) (from end : ℕ) : Type 0 where
  pub above : reached Above ≡ false
  pub group : (k : ℕ) → reached (Inside k) ≡ false
  pub other : (n : ℕ) → (n < from) ⊎ (end ≤ n) → reached (At n) ≡ false

module _ (numbers : List (Option ℕ)) (nodes : List Node) (place : Place) (from end : ℕ) (span : IsAround nodes place from end) where
  -- an element that stands at a place inside is inside
  stands-inside : (reached : Place → Bool) → IsInside reached from end → (n : ℕ) → n < length nodes → (p : Place)
      → around nodes n ≡ p → reached p ≡ true
      → (from ≤ n) × (n < end)
  stands-inside reached inside n within Above is yes_ = let e : true ≡ false = sym yes_ ∙ inside.above in absurd (cc)
  stands-inside reached inside n within (Inside k) is yes_ = let e : true ≡ false = sym yes_ ∙ inside.group k in absurd (cc)
  stands-inside reached inside n within (At m) is yes_ = elim (cases_lt m from) [
    | inl less ↦ let e : true ≡ false = sym yes_ ∙ inside.other m (inl less) in absurd (cc)
    | inr more ↦ elim (cases_lt m end) [
      | inl less ↦ span.more n m within is more less
      | inr past ↦ let e : true ≡ false = sym yes_ ∙ inside.other m (inr past) in absurd (cc)
    ]
  ]

  down-inside : (reached : Place → Bool) → IsInside reached from end → (name n : ℕ) → (n < from) ⊎ (end ≤ n)
      → (is_named numbers nodes name n && reached (around nodes n)) ≡ false
  down-inside reached inside name n outside = false_unless _ (λ both.
      let within : n < length nodes = named-within numbers nodes name n (first_of (is_named numbers nodes name n) _ both) in
      let stands = stands-inside reached inside n within (around nodes n) refl (second_of (is_named numbers nodes name n) _ both) in
      elim outside [ inl less ↦ omega (arith, less, stands.0) | inr past ↦ omega (arith, past, stands.1) ])

  pub after-inside : (step : Step) (index : ℕ) (reached : Place → Bool) → is_up step ≡ false → IsInside reached from end
      → IsInside (after numbers nodes step index reached) from end
  after-inside Here index reached level inside = inside
  after-inside Up index reached level inside = absurd (cc)
  after-inside (Down name false) index reached level inside = record {
    above = refl;
    group = λ k. refl;
    other = λ n outside. down-inside reached inside name n outside;
  }
  after-inside (Down name true) index reached level inside = record {
    above = refl;
    group = λ k. refl;
    other = λ n outside. ap (λ b. b && has_place numbers nodes name index (At n)) (down-inside reached inside name n outside);
  }

  pub first-inside : (name index : ℕ) (indexed : Bool) → IsInside (after numbers nodes (Down name indexed) index (only_at (Some place))) from end
  first-inside name index false = record {
    above = refl;
    group = λ k. refl;
    other = λ n outside. outside-none numbers nodes name place from end span n outside;
  }
  first-inside name index true = record {
    above = refl;
    group = λ k. refl;
    other = λ n outside. ap (λ b. b && has_place numbers nodes name index (At n)) (outside-none numbers nodes name place from end span n outside);
  }

  pub follow-inside : (steps : List Step) (indexes : List ℕ) (reached : Place → Bool) → list_any is_up steps ≡ false → IsInside reached from end
      → IsInside (follow numbers nodes reached steps indexes) from end
  follow-inside [] indexes reached level inside = inside
  follow-inside (step ∷ steps) indexes reached level inside =
      follow-inside steps (left_behind step indexes) (after numbers nodes step (next_index indexes) reached)
      (second_none (is_up step) (list_any is_up steps) level)
      (after-inside step (next_index indexes) reached (first_none (is_up step) (list_any is_up steps) level) inside)
    where
      first_none : (a b : Bool) → (a || b) ≡ false → a ≡ false
      first_none true b none = absurd (cc)
      first_none false b none = refl

      second_none : (a b : Bool) → (a || b) ≡ false → b ≡ false
      second_none true b none = absurd (cc)
      second_none false b none = none

  -- steps that begin with a name, without `..`
  pub all-inside : (steps : List Step) (indexes : List ℕ) → begins_down steps ≡ true → list_any is_up steps ≡ false
      → IsSpan numbers nodes place steps indexes from end
  all-inside [] indexes down level = absurd (cc)
  all-inside (Here ∷ steps) indexes down level = absurd (cc)
  all-inside (Up ∷ steps) indexes down level = absurd (cc)
  all-inside (Down name indexed ∷ steps) indexes down level =
      let inside = follow-inside steps (left_behind (Down name indexed) indexes)
      (after numbers nodes (Down name indexed) (next_index indexes) (only_at (Some place))) level (first-inside name (next_index indexes) indexed) in
      record {
        order = span.order;
        within = span.within;
        before = λ n less. inside.other n (inl less);
        behind = λ n past few. inside.other n (inr past);
      }

-- no steps
pub own-at : (numbers : List (Option ℕ)) (nodes : List Node) (m : ℕ) (indexes : List ℕ) → m < length nodes
    → IsSpan numbers nodes (At m) [] indexes m (m + 1)
own-at numbers nodes m indexes less = record {
  order = omega arith;
  within = omega arith;
  before = λ n few. false_unless (eqb m n) (λ e. let same : m ≡ n = eqb-true m n e in omega (arith, same, few));
  behind = λ n past few. false_unless (eqb m n) (λ e. let same : m ≡ n = eqb-true m n e in omega (arith, same, past));
}

pub own-none : (numbers : List (Option ℕ)) (nodes : List Node) (place : Place) (indexes : List ℕ)
    → ((n : ℕ) → n < length nodes → is_place place (At n) ≡ false) → IsSpan numbers nodes place [] indexes 0 0
own-none numbers nodes place indexes none = record {
  order = omega arith;
  within = omega arith;
  before = λ n few. absurd (omega arith);
  behind = λ n past few. none n few;
}

-- the span of all elements
pub whole-span : (numbers : List (Option ℕ)) (nodes : List Node) (place : Place) (steps : List Step) (indexes : List ℕ)
    → IsSpan numbers nodes place steps indexes 0 (length nodes)
whole-span numbers nodes place steps indexes = record {
  order = omega arith;
  within = omega arith;
  before = λ n few. absurd (omega arith);
  behind = λ n past few. absurd (omega arith);
}

pub empty-steps : (steps : List Step) → length steps ≡ 0 → steps ≡ []
empty-steps [] none = refl
empty-steps (step ∷ steps) none = absurd (omega arith)
