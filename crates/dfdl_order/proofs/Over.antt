-- Along an order a table has the value of each component that stands before.
use Rattle.std.proofs.Common.{◌≡◌, ◌≢◌, ℕ, zero, suc, ◌+◌, ◌<◌, List, [], ◌∷◌, length, map, set, get_or, All, sym, ap, ◌∙◌, refl, arith, inl, inr, get_or-set_same, get_or-set_other}
use Rattle.std.proofs.lemmas.Bool.{cases_eq}
use Rattle.std.proofs.lemmas.List.Elements.{All-tail}
use Rattle.dfdl_order.specs.Parts.{uses_of, IsOrder, Places}
use Rattle.dfdl_order.specs.Folds.{over, value_by, HasBefore}

-- two functions that are one on each element
pub map_same : {V : Type 0} (f g : ℕ → V) (xs : List ℕ) → All (λ x. f x ≡ g x) xs → map f xs ≡ map g xs
map_same f g [] all = refl
map_same {V} f g (x ∷ xs) all =
    ap (λ (v : V). v ∷ map f xs) (all 0 x (omega arith)) ∙ ap (λ (vs : List V). g x ∷ vs) (map_same f g xs (All-tail (λ (y : ℕ). f y ≡ g y) x xs all))

-- more levels than a component's place change nothing
over_enough : {V : Type 0} (uses : List (List ℕ)) (order : Places) (step : ℕ → List V → V) (none : V) → IsOrder uses order
    → (n m c : ℕ) → c < length uses → get_or order.rank c 0 < n → get_or order.rank c 0 < m → over (uses_of uses) step none n c ≡ over (uses_of uses) step none m c
unfolding over
over_enough uses order step none is zero m c within low high = absurd (omega (arith, low))
over_enough uses order step none is (suc n) zero c within low high = absurd (omega (arith, high))
over_enough uses order step none is (suc n) (suc m) c within low high =
    ap (step c) (map_same (over (uses_of uses) step none n) (over (uses_of uses) step none m) (uses_of uses c)
    (λ k d small.
    let one : (get_or (uses_of uses c) k d < length uses) × (get_or order.rank (get_or (uses_of uses c) k d) 0 < get_or order.rank c 0) = is.falls c within k d small in
    over_enough uses order step none is n m (get_or (uses_of uses c) k d) one.0 (omega (arith, one.1, low)) (omega (arith, one.1, high))))

over_step : {V : Type 0} (uses : List (List ℕ)) (step : ℕ → List V → V) (none : V) (c : ℕ)
    → over (uses_of uses) step none (suc (length uses)) c ≡ step c (map (value_by uses step none) (uses_of uses c))
unfolding over
over_step uses step none c = refl

-- a component's value is the step from those of its parts
pub value_step : {V : Type 0} (uses : List (List ℕ)) (order : Places) (step : ℕ → List V → V) (none : V) → IsOrder uses order
    → (c : ℕ) → c < length uses → value_by uses step none c ≡ step c (map (value_by uses step none) (uses_of uses c))
value_step uses order step none is c within =
    let low : get_or order.rank c 0 < length uses = (is.place c within).0 in
    over_enough uses order step none is (length uses) (suc (length uses)) c within low (omega (arith, low)) ∙ over_step uses step none c

-- a table that has the values before a place, and then that at the place
pub has_more : {V : Type 0} (uses : List (List ℕ)) (order : Places) (step : ℕ → List V → V) (none : V) → IsOrder uses order
    → (i : ℕ) (table : List V) (v : V) → i < length uses → length table ≡ length uses → HasBefore uses order step none i table
    → v ≡ step (get_or order.list i 0) (map (λ p. get_or table p none) (uses_of uses (get_or order.list i 0)))
    → HasBefore uses order step none (i + 1) (set table (get_or order.list i 0) v)
has_more {V} uses order step none is i table v small long before made =
    let here : ℕ = get_or order.list i 0 in
    let at : (get_or order.list i 0 < length uses) × (get_or order.rank (get_or order.list i 0) 0 ≡ i) = is.component i small in
    let same : map (λ (p : ℕ). get_or table p none) (uses_of uses (get_or order.list i 0)) ≡ map (value_by uses step none) (uses_of uses (get_or order.list i 0))
    = map_same (λ (p : ℕ). get_or table p none) (value_by uses step none) (uses_of uses (get_or order.list i 0))
    (λ k d low.
    let one : (get_or (uses_of uses (get_or order.list i 0)) k d < length uses)
    × (get_or order.rank (get_or (uses_of uses (get_or order.list i 0)) k d) 0 < get_or order.rank (get_or order.list i 0) 0)
    = is.falls (get_or order.list i 0) at.0 k d low in
    before (get_or (uses_of uses (get_or order.list i 0)) k d) one.0 (omega (arith, one.1, at.1))) in
    let new : v ≡ value_by uses step none (get_or order.list i 0)
    = made ∙ (ap (step (get_or order.list i 0)) same ∙ sym (value_step uses order step none is (get_or order.list i 0) at.0)) in
    λ c within less. elim (cases_eq c (get_or order.list i 0)) [
      | inl it ↦ ap (λ (k : ℕ). get_or (set table (get_or order.list i 0) v) k none) it
          ∙ (get_or-set_same table (get_or order.list i 0) v none (omega (arith, at.0, long)) ∙ (new ∙ ap (value_by uses step none) (sym it)))
      | inr other ↦
          let apart : get_or order.rank c 0 ≢ i = λ e. other (sym ((is.place c within).1) ∙ ap (λ (k : ℕ). get_or order.list k 0) e) in
          get_or-set_other table (get_or order.list i 0) c v none other ∙ before c within (omega (arith, less, apart))
    ]
