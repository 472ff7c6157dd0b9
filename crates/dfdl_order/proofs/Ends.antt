-- A list of components is complete where each one has a place.
use Rattle.std.proofs.Common.{◌≡◌, ℕ, ◌<◌, List, length, get_or, true, nat_eq, ap, ◌∙◌, arith}
use Rattle.std.specs.List.{sum_by}
use Rattle.std.proofs.lemmas.Bool.{eqb-true}
use Rattle.std.proofs.lemmas.List.Elements.{All-from_get_or}
use Rattle.std.proofs.lemmas.List.Sums.{list_all-from_AllPass}
use Rattle.std.proofs.lemmas.List.Folds.{sum_by-zero}
use Rattle.dfdl_order.specs.Parts.{IsOrder, Places}
use Rattle.dfdl_order.specs.Filling.{IsPart, open_one, AllPlaced}
use Rattle.dfdl_order.proofs.Fill.{placed_is}

-- the list is complete where each component has a place
none_left : (n : ℕ) (rank : List ℕ) → ((i : ℕ) → i < length rank → get_or rank i 0 < n) → sum_by (open_one n) rank ≡ 0
none_left n rank all = eqb-true (sum_by (open_one n) rank) 0
    (sum_by-zero (open_one n) rank
    ∙ list_all-from_AllPass (λ r. nat_eq (open_one n r) 0) rank
    (All-from_get_or (λ r. nat_eq (open_one n r) 0 ≡ true) rank 0 (λ i small. ap (λ (k : ℕ). nat_eq k 0) (placed_is n (get_or rank i 0) (all i small)))))

pub is_order : (uses : List (List ℕ)) (order : Places) → IsPart uses order → AllPlaced uses order → IsOrder uses order
is_order uses order part all =
    let none : sum_by (open_one (length uses)) order.rank ≡ 0 = none_left (length uses) order.rank (λ i small. all i (omega (arith, small, part.listing.ranked))) in
    let listed : length order.list ≡ length uses = omega (arith, part.listing.counted, none) in
    record {
      listed = listed;
      ranked = part.listing.ranked;
      place = λ c small. (all c small, (part.listing.place c small (all c small)).1);
      component = λ i small. part.listing.component i (omega (arith, listed, small));
      falls = λ c small. part.falls c small (all c small);
    }
