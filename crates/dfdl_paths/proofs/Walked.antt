-- Loops over the elements that steps lead to.
use Rattle.std.proofs.Common.{◌≡◌, ℕ, ◌++◌, [], ◌∷◌, List, Bool, true, false, length, Option, Some, refl, sym, ap, ◌∙◌}
use Rattle.dfdl_expressions.specs.declared.path.Step.{Step}
use Rattle.dfdl_region.specs.declared.node.Node.{Node}
use Rattle.dfdl_paths.specs.declared.place.Place.{Place}
use Rattle.dfdl_paths.specs.declared.place.Place.TheVariants.{At}
use Rattle.dfdl_paths.specs.Leads.{follow, only_at}
use Rattle.dfdl_paths.specs.Numbers.{one_if, those_below}
use Rattle.dfdl_paths.specs.Spans.{IsSpan, items_from, with_item, with_one}
use Rattle.dfdl_paths.specs.Values.{found_of}
use Rattle.dfdl_paths.proofs.Below.{span-begin, those-end}

-- one more is found
pub found-one : (ns : List ℕ) (n : ℕ) → with_one (found_of ns) n ≡ found_of (ns ++ n ∷ [])
found-one [] n = refl
found-one (m ∷ []) n = refl
found-one (m ∷ k ∷ ns) n = refl

found-nil : (ns : List ℕ) → found_of ns ≡ found_of (ns ++ [])
found-nil [] = refl
found-nil (m ∷ []) = refl
found-nil (m ∷ k ∷ ns) = refl

pub found-if : (ns : List ℕ) (b : Bool) (n : ℕ) → with_item (found_of ns) (one_if b n) ≡ found_of (ns ++ one_if b n)
found-if ns true n = found-one ns n
found-if ns false n = found-nil ns

module _ (numbers : List (Option ℕ)) (nodes : List Node) (from : Place) (steps : List Step) (indexes : List ℕ) where
  module _ (low high : ℕ) (span : IsSpan numbers nodes from steps indexes low high) where
    pub items-begin : [] ≡ those_below (λ n. follow numbers nodes (only_at (Some from)) steps indexes (At n)) low
    items-begin = span-begin (λ n. follow numbers nodes (only_at (Some from)) steps indexes (At n)) low span.before

    pub items-end : (n : ℕ) → n ≡ high
        → those_below (λ n. follow numbers nodes (only_at (Some from)) steps indexes (At n)) n ≡ items_from numbers nodes from steps indexes
    items-end n last = ap (those_below (λ n. follow numbers nodes (only_at (Some from)) steps indexes (At n))) last
        ∙ sym (those-end (λ n. follow numbers nodes (only_at (Some from)) steps indexes (At n)) high (length nodes) span.within span.behind)
