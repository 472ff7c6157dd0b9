use Rattle.std.proofs.Common.{◌≡◌, drop, map}
use Rattle.dfdl_scope.specs.Scoping.{default_value}
use Rattle.dfdl_scope.specs.Shown.{element_of}
use Rattle.dfdl_scope.proofs.asking.in_default.Given as goal

-- what is left gives the same as all
abbrev pub invariant-loop-element : goal.invariant-loop-element
invariant-loop-element l =
    default_value (map element_of (drop l.element-index l.chain)) l.name ≡ default_value (map element_of l.chain) l.name
