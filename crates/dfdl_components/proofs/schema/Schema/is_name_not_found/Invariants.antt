use Rattle.std.proofs.Common.{◌≡◌, drop, map}
use Rattle.std.specs.List.{list_any}
use Rattle.dfdl_components.specs.Naming.{refers_to_nothing}
use Rattle.dfdl_components.specs.Shown.{referring_shown}
use Rattle.dfdl_components.proofs.schema.Schema.is_name_not_found.Given as goal

abbrev pub invariant-loop-row : goal.invariant-loop-row
invariant-loop-row l = list_any (refers_to_nothing l.self l.site) (map referring_shown (drop l.row-index l.row-items))
    ≡ list_any (refers_to_nothing l.self l.site) (map referring_shown l.row-items)
