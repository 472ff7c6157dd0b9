use Rattle.std.proofs.Common.{◌≡◌, drop, map}
use Rattle.std.specs.List.{list_any}
use Rattle.dfdl_constructs.specs.ValuesAllowed.{is_refused}
use Rattle.dfdl_constructs.specs.Shown.{known_shown}
use Rattle.dfdl_constructs.proofs.allowed.is_any_refused.Given as goal

-- what is left answers the same as all
abbrev pub invariant-loop-known : goal.invariant-loop-known
invariant-loop-known l =
    list_any (is_refused l.tree l.element) (map known_shown (drop l.known-index l.attributes))
    ≡ list_any (is_refused l.tree l.element) (map known_shown l.attributes)
