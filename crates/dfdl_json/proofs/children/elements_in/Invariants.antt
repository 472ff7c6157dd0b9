use Rattle.std.proofs.Common.{◌≡◌, ◌++◌, map}
use Rattle.std.specs.List.{flat_map}
use Rattle.dfdl_json.specs.Children.{elements_in}
use Rattle.dfdl_json.specs.Steps.{steps_of, total}
use Rattle.dfdl_json.proofs.children.elements_in.Given as goal

abbrev pub invariant-loop-row : goal.invariant-loop-row
invariant-loop-row l = l.elements.items ++ flat_map (elements_in l.terms) l.left.items ≡ elements_in l.terms l.fn.id

abbrev pub decreases-loop-row : goal.decreases-loop-row
decreases-loop-row l = total (map (steps_of l.terms) l.left.items)
