use Rattle.std.proofs.Common.{◌≡◌, drop, map}
use Rattle.std.specs.List.{list_any}
use Rattle.dfdl_scope.specs.Scoping.{is_repeated}
use Rattle.dfdl_scope.specs.Shown.{element_of}
use Rattle.dfdl_scope.specs.Table.{names_of}
use Rattle.dfdl_scope.specs.TableShown.{row_shown}
use Rattle.dfdl_scope.proofs.repeated.has_repeated.Given as goal

-- what is left answers the same as all
abbrev pub invariant-loop-row : goal.invariant-loop-row
invariant-loop-row l =
    list_any (is_repeated (element_of l.element) (map element_of l.behind)) (names_of (map row_shown (drop l.row-index l.rows)))
    ≡ list_any (is_repeated (element_of l.element) (map element_of l.behind)) (names_of (map row_shown l.rows))
