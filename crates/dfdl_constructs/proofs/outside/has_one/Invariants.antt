use Rattle.std.proofs.Common.{◌≡◌, drop, map}
use Rattle.dfdl_constructs.specs.OutsideSubset.{has_one}
use Rattle.dfdl_constructs.proofs.outside.has_one.Given as goal

-- what is left answers the same as all
abbrev pub invariant-loop-name : goal.invariant-loop-name
invariant-loop-name l =
    has_one l.tree l.element (map (λ name. name.now) (drop l.name-index l.names))
    ≡ has_one l.tree l.element (map (λ name. name.now) l.names)
