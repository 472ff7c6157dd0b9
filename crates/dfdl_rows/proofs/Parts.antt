-- What holds of each component by induction on its parts, and folds that are seen through a function.
use Rattle.std.proofs.Common.{◌≡◌, ℕ, zero, suc, ◌<◌, List, [], ◌∷◌, length, map, get_or, All, ap, ◌∙◌, refl, arith}
use Rattle.dfdl_order.specs.Parts.{uses_of, IsOrder, Places}
use Rattle.dfdl_order.specs.Folds.{over}

-- what holds of a component where it holds of its parts
by_rank : (uses : List (List ℕ)) (order : Places) → IsOrder uses order → (P : ℕ → Type 0)
    → ((c : ℕ) → c < length uses → All P (uses_of uses c) → P c)
    → (n c : ℕ) → c < length uses → get_or order.rank c 0 < n → P c
by_rank uses order is P step zero c within low = absurd (omega (arith, low))
by_rank uses order is P step (suc n) c within low = step c within
    (λ k d small.
    let one : (get_or (uses_of uses c) k d < length uses) × (get_or order.rank (get_or (uses_of uses c) k d) 0 < get_or order.rank c 0) = is.falls c within k d small in
    by_rank uses order is P step n (get_or (uses_of uses c) k d) one.0 (omega (arith, one.1, low)))

pub by_parts : (uses : List (List ℕ)) (order : Places) → IsOrder uses order → (P : ℕ → Type 0)
    → ((c : ℕ) → c < length uses → All P (uses_of uses c) → P c)
    → (c : ℕ) → c < length uses → P c
by_parts uses order is P step c within = by_rank uses order is P step (length uses) c within ((is.place c within).0)

map_through : {V W : Type 0} (image : V → W) (f : ℕ → V) (g : ℕ → W) (xs : List ℕ) → ((x : ℕ) → image (f x) ≡ g x) → map image (map f xs) ≡ map g xs
map_through image f g [] same = refl
map_through {V} {W} image f g (x ∷ xs) same =
    ap (λ (w : W). w ∷ map image (map f xs)) (same x) ∙ ap (λ (ws : List W). g x ∷ ws) (map_through image f g xs same)

-- a fold seen through a function is a fold of its own
pub over_image : {V W : Type 0} (parts : ℕ → List ℕ) (step : ℕ → List V → V) (none : V) (other : ℕ → List W → W) (nothing : W) (image : V → W)
    → ((c : ℕ) (vs : List V) → image (step c vs) ≡ other c (map image vs)) → image none ≡ nothing
    → (n c : ℕ) → image (over parts step none n c) ≡ over parts other nothing n c
unfolding over
over_image parts step none other nothing image steps nones zero c = nones
over_image parts step none other nothing image steps nones (suc n) c =
    steps c (map (over parts step none n) (parts c))
    ∙ ap (other c) (map_through image (over parts step none n) (over parts other nothing n) (parts c)
    (over_image parts step none other nothing image steps nones n))

-- the parts of a component are components
pub parts_within : (uses : List (List ℕ)) (order : Places) → IsOrder uses order → (c : ℕ) → c < length uses → All (λ p. p < length uses) (uses_of uses c)
parts_within uses order is c within = λ k d small. (is.falls c within k d small).0
