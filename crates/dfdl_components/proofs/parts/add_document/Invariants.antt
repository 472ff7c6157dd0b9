use Rattle.std.proofs.Common.{◌≡◌, ◌++◌}
use Rattle.dfdl_components.specs.Recursion.{uses_in}
use Rattle.dfdl_components.proofs.parts.add_document.Given as goal

abbrev pub invariant-loop-element : goal.invariant-loop-element
invariant-loop-element l = l.uses ≡ l.fn.uses ++ uses_in l.schema l.document l.element
