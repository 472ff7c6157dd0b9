use Rattle.std.proofs.Common.{◌≡◌, drop, map}
use Rattle.dfdl_scope.specs.Scoping.{Told, told_explicitly}
use Rattle.dfdl_scope.specs.Shown.{element_of}
use Rattle.dfdl_scope.proofs.asking.property.Given as goal

-- what is left tells the same as all
abbrev pub invariant-loop-at : goal.invariant-loop-at
invariant-loop-at l = (otherwise : Told)
    → told_explicitly (map element_of (drop l.at l.chain)) l.name otherwise
    ≡ told_explicitly (map element_of l.chain) l.name otherwise
