use Rattle.dfdl_constructs.specs.Walking.{AreSoFar}
use Rattle.dfdl_constructs.proofs.roles.roles_of.Given as goal

abbrev pub invariant-loop-element : goal.invariant-loop-element
invariant-loop-element l = AreSoFar l.element l.tree l.roles.items
