use Rattle.std.proofs.Common.{◌≡◌, drop, map}
use Rattle.dfdl_scope.specs.Scoping.{repeated_at}
use Rattle.dfdl_scope.specs.Shown.{element_of}
use Rattle.dfdl_scope.specs.Table.{names_of}
use Rattle.dfdl_scope.specs.TableShown.{row_shown}
use Rattle.dfdl_scope.proofs.repeated.repeated_among.Given as goal

-- what is left answers the same as all
abbrev pub invariant-loop-at : goal.invariant-loop-at
invariant-loop-at l =
    repeated_at (map element_of (drop l.at l.chain)) (names_of (map row_shown l.rows))
    ≡ repeated_at (map element_of l.chain) (names_of (map row_shown l.rows))
