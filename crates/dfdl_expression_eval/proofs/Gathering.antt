-- Places that are put one behind the other.
use Rattle.std.proofs.Common.{◌≡◌, ℕ, ◌++◌, List, [], ◌∷◌, Option, Some, None, refl, ap, ◌∙◌, sym, append_assoc}
use Rattle.dfdl_operators.specs.Numbers.{number_of}
use Rattle.dfdl_value.specs.declared.value.Value.{Value}
use Rattle.dfdl_expression_eval.specs.Places.{place_in, places_of, with_place}

-- places behind others
abbrev pub behind_places : List ℕ → Option (List ℕ) → Option (List ℕ)
behind_places got (Some rest) = Some (got ++ rest)
behind_places got None = None

more : (got : List ℕ) (place : ℕ) (rest : Option (List ℕ)) → behind_places got (with_place (Some place) rest) ≡ behind_places (got ++ place ∷ []) rest
more got place (Some rest) = ap Some (sym (append_assoc got (place ∷ []) rest))
more got place None = refl

-- one value more names a place
pub behind_more : (got : List ℕ) (v : Value) (vs : List Value) (place : ℕ) → place_in (number_of v) ≡ Some place
    → behind_places got (places_of (v ∷ vs)) ≡ behind_places (got ++ place ∷ []) (places_of vs)
behind_more got v vs place is = ap (λ o. behind_places got (with_place o (places_of vs))) is ∙ more got place (places_of vs)

-- one value names none
pub behind_none : (got : List ℕ) (v : Value) (vs : List Value) → place_in (number_of v) ≡ None → behind_places got (places_of (v ∷ vs)) ≡ None
behind_none got v vs is = ap (λ o. behind_places got (with_place o (places_of vs))) is
