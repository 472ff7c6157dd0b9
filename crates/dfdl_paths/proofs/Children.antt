-- Children of a name, and their places.
use Rattle.std.proofs.Common.{◌≡◌, ℕ, suc, ◌+◌, ◌<◌, ◌≤◌, ◌⊎◌, inl, inr, ◌&&◌, List, true, false, eqb, length, Option, Some, None, refl, sym, ap, ◌∙◌, subst, arith}
use Rattle.std.proofs.lemmas.Bool.{cases_lt, eqb-true, eq-eqb}
use Rattle.std.proofs.lemmas.Option.{slice_get_past}
use Rattle.dfdl_expressions.specs.declared.path.Step.TheVariants.{Down}
use Rattle.dfdl_region.specs.declared.node.Node.{Node}
use Rattle.dfdl_paths.specs.declared.place.Place.{Place}
use Rattle.dfdl_paths.specs.declared.place.Place.TheVariants.{Above, At, Inside}
use Rattle.dfdl_paths.specs.Elements.{around, is_child, is_named, is_number, is_place, named_by, place_among}
use Rattle.dfdl_paths.specs.Leads.{after, only_at}
use Rattle.dfdl_paths.specs.Numbers.{count_below}
use Rattle.dfdl_paths.specs.Spans.{IsAround}
use Rattle.dfdl_paths.proofs.Below.{only-count}
use Rattle.dfdl_paths.proofs.Bits.{false_unless, same_truth, first_of, second_of, and_of, and_none, and_alike}

pub same-place : (p q : Place) → is_place p q ≡ true → p ≡ q
same-place Above Above is = refl
same-place Above (At n) is = absurd (cc)
same-place Above (Inside n) is = absurd (cc)
same-place (At n) Above is = absurd (cc)
same-place (At n) (At m) is = ap At (eqb-true n m is)
same-place (At n) (Inside m) is = absurd (cc)
same-place (Inside n) Above is = absurd (cc)
same-place (Inside n) (At m) is = absurd (cc)
same-place (Inside n) (Inside m) is = ap Inside (eqb-true n m is)

pub place-same : (p : Place) → is_place p p ≡ true
place-same Above = refl
place-same (At n) = eq-eqb n n refl
place-same (Inside n) = eq-eqb n n refl

module _ (numbers : List (Option ℕ)) (nodes : List Node) (name : ℕ) where
  -- behind the last element there is none of the name
  pub none-past : (n : ℕ) → length nodes ≤ n → is_named numbers nodes name n ≡ false
  none-past n past = ap (λ (o : Option Node). is_number (named_by numbers o) name) (slice_get_past nodes n past)

  pub named-within : (n : ℕ) → is_named numbers nodes name n ≡ true → n < length nodes
  named-within n is = elim (cases_lt n (length nodes)) [
    | inl less ↦ less
    | inr past ↦ let none : is_named numbers nodes name n ≡ false = none-past n past in absurd (cc)
  ]

  module _ (outer : Place) where
    -- none stands at a place outside of its span
    pub outside-none : (from end : ℕ) → IsAround nodes outer from end → (n : ℕ) → (n < from) ⊎ (end ≤ n) → is_child numbers nodes name outer n ≡ false
    outside-none from end span n outside = false_unless (is_child numbers nodes name outer n) (λ is.
        let within : n < length nodes = named-within n (first_of (is_named numbers nodes name n) (is_place outer (around nodes n)) is) in
        let inside = span.first n within (second_of (is_named numbers nodes name n) (is_place outer (around nodes n)) is) in
        elim outside [ inl less ↦ omega (arith, inside.0) | inr past ↦ omega (arith, inside.1) ])

    -- the place of a child is how many there are up to and with it
    pub among-rank : (n : ℕ) → is_place outer (around nodes n) ≡ true
        → place_among numbers nodes name n ≡ count_below (is_child numbers nodes name outer) (suc n)
    among-rank n is = ap (λ (p : Place). count_below (is_child numbers nodes name p) (suc n)) (sym (same-place outer (around nodes n) is))

    -- the children before a bound have other places
    abbrev pub Passed : ℕ → ℕ → Type 0
    Passed index bound = (n : ℕ) → n < bound
        → (is_child numbers nodes name outer n && eqb (count_below (is_child numbers nodes name outer) (suc n)) index) ≡ false

    pub passed-other : (index at : ℕ) → (count_below (is_child numbers nodes name outer) (suc at) ≡ index → ⊥)
        → Passed index at → Passed index (at + 1)
    passed-other index at other so_far n less = elim (cases_lt n at) [
      | inl before ↦ so_far n before
      | inr last ↦ let same : at ≡ n = omega arith in
          subst (λ (m : ℕ). (is_child numbers nodes name outer m && eqb (count_below (is_child numbers nodes name outer) (suc m)) index) ≡ false) same
          (and_none _ _ (false_unless _ (λ e. other (eqb-true _ _ e))))
    ]

    pub passed-none : (index at : ℕ) → is_child numbers nodes name outer at ≡ false → Passed index at → Passed index (at + 1)
    passed-none index at none so_far n less = elim (cases_lt n at) [
      | inl before ↦ so_far n before
      | inr last ↦ let same : at ≡ n = omega arith in
          subst (λ (m : ℕ). (is_child numbers nodes name outer m && eqb (count_below (is_child numbers nodes name outer) (suc m)) index) ≡ false) same
          (ap (λ b. b && eqb (count_below (is_child numbers nodes name outer) (suc at)) index) none)
    ]

    pub child-ranked : (index n : ℕ) → (is_child numbers nodes name outer n && eqb (place_among numbers nodes name n) index)
        ≡ (is_child numbers nodes name outer n && eqb (count_below (is_child numbers nodes name outer) (suc n)) index)
    child-ranked index n = and_alike (is_child numbers nodes name outer n) _ _ (λ is.
        ap (λ k. eqb k index) (among-rank n (second_of (is_named numbers nodes name n) (is_place outer (around nodes n)) is)))

    -- the one that is found
    pub child-found : (index c : ℕ) → is_child numbers nodes name outer c ≡ true
        → count_below (is_child numbers nodes name outer) (suc c) ≡ index → (q : Place)
        → after numbers nodes (Down name true) index (only_at (Some outer)) q ≡ only_at (Some (At c)) q
    child-found index c is count Above = refl
    child-found index c is count (Inside n) = refl
    child-found index c is count (At n) = child-ranked index n ∙ same_truth _ (eqb c n)
        (λ both. let also = first_of (is_child numbers nodes name outer n) _ both in
        let rank = eqb-true (count_below (is_child numbers nodes name outer) (suc n)) index
        (second_of (is_child numbers nodes name outer n) _ both) in
        eq-eqb c n (only-count (is_child numbers nodes name outer) c n is also (count ∙ sym rank)))
        (λ same. subst
        (λ (m : ℕ). (is_child numbers nodes name outer m && eqb (count_below (is_child numbers nodes name outer) (suc m)) index) ≡ true)
        (eqb-true c n same)
        (and_of (is_child numbers nodes name outer c) _ is (eq-eqb (count_below (is_child numbers nodes name outer) (suc c)) index count)))

    -- none is found
    pub child-none : (index from end : ℕ) → IsAround nodes outer from end → Passed index end → (q : Place)
        → after numbers nodes (Down name true) index (only_at (Some outer)) q ≡ only_at None q
    child-none index from end span passed Above = refl
    child-none index from end span passed (Inside n) = refl
    child-none index from end span passed (At n) = child-ranked index n ∙ elim (cases_lt n end) [
      | inl less ↦ passed n less
      | inr past ↦ ap (λ b. b && eqb (count_below (is_child numbers nodes name outer) (suc n)) index) (outside-none from end span n (inr past))
    ]
