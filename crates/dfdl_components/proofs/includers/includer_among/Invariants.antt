use Rattle.std.proofs.Common.{◌≡◌, None}
use Rattle.dfdl_components.specs.Namespaces.{includer_among}
use Rattle.dfdl_components.proofs.includers.includer_among.Given as goal

abbrev pub invariant-loop-other : goal.invariant-loop-other
invariant-loop-other l = includer_among l.all l.name l.other ≡ None
