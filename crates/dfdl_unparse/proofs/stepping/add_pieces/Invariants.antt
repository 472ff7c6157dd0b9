use Rattle.std.proofs.Common.{◌≡◌, ◌-◌, ◌++◌, ℕ, List, Option, None, replicate}
use Rattle.dfdl_forms.specs.declared.order.BitOrder.{BitOrder}
use Rattle.dfdl_unparse.specs.Splices.{IsSpliced}
use Rattle.dfdl_unparse.proofs.stepping.add_pieces.Given as goal

abbrev pub invariant-adding : goal.invariant-adding
invariant-adding l =
    (l.front.most_pieces ≡ l.fn.front.most_pieces) × (l.front.most_bytes ≡ l.fn.front.most_bytes) × (l.front.added ≡ l.counter)
    × ((order : BitOrder) (pieces : List (Option (List ℕ))) (dropped : ℕ) → IsSpliced order pieces dropped l.fn.front
    → IsSpliced order (pieces ++ replicate (l.counter - l.fn.front.added) None) dropped l.front)
