use Rattle.std.proofs.Common.{◌≡◌}
use Rattle.dfdl_components.specs.Recursion.{uses_before}
use Rattle.dfdl_components.proofs.parts.uses_of.Given as goal

abbrev pub invariant-loop-document : goal.invariant-loop-document
invariant-loop-document l = l.uses ≡ uses_before l.schema l.document
