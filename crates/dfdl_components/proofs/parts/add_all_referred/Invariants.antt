use Rattle.std.proofs.Common.{◌≡◌, ◌++◌, drop, map}
use Rattle.std.specs.List.{flat_map}
use Rattle.dfdl_components.specs.Recursion.{numbers_referred}
use Rattle.dfdl_components.specs.Shown.{referring_shown}
use Rattle.dfdl_components.proofs.parts.add_all_referred.Given as goal

abbrev pub invariant-loop-row : goal.invariant-loop-row
invariant-loop-row l = l.parts.items ++ flat_map (numbers_referred l.schema l.site) (map referring_shown (drop l.row-index l.rows))
    ≡ l.fn.parts.items ++ flat_map (numbers_referred l.schema l.site) (map referring_shown l.rows)
