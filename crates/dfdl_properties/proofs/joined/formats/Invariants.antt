use Rattle.std.proofs.Common.{◌≡◌, ℕ, List, length, map, None}
use Rattle.dfdl_order.specs.Folds.{HasBefore}
use Rattle.dfdl_scope.specs.Shown.{format_given, given}
use Rattle.dfdl_properties.specs.Formats.{joined_step, parts_of}
use Rattle.dfdl_properties.proofs.joined.formats.Given as goal

-- each format before the place in the order is joined
abbrev pub invariant-loop-format : goal.invariant-loop-format
invariant-loop-format l =
    (length l.formats.items ≡ length l.refers)
    × ((q : List ℕ) → HasBefore (parts_of l.refers) l.order (joined_step (map given l.own) q) None l.format-index (map (λ f. format_given f q) l.formats.items))
