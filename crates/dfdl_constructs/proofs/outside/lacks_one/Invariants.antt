use Rattle.std.proofs.Common.{◌≡◌, drop, map}
use Rattle.dfdl_constructs.specs.OutsideSubset.{lacks_one}
use Rattle.dfdl_constructs.proofs.outside.lacks_one.Given as goal

-- what is left answers the same as all
abbrev pub invariant-loop-name : goal.invariant-loop-name
invariant-loop-name l =
    lacks_one l.tree l.element (map (λ name. name.now) (drop l.name-index l.names))
    ≡ lacks_one l.tree l.element (map (λ name. name.now) l.names)
