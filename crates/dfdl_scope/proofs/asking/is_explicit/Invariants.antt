use Rattle.std.proofs.Common.{◌≡◌, drop, map}
use Rattle.dfdl_scope.specs.Scoping.{is_explicit}
use Rattle.dfdl_scope.specs.Shown.{element_of}
use Rattle.dfdl_scope.proofs.asking.is_explicit.Given as goal

-- what is left answers the same as all
abbrev pub invariant-loop-element : goal.invariant-loop-element
invariant-loop-element l =
    is_explicit (map element_of (drop l.element-index l.chain)) l.name ≡ is_explicit (map element_of l.chain) l.name
