use Rattle.std.proofs.Common.{◌≡◌, ◌++◌, All}
use Rattle.std.specs.List.{flat_map}
use Rattle.dfdl_chains.specs.Everywhere.{sites_in}
use Rattle.dfdl_variables.specs.Variables.{declared_if, IsTyped}
use Rattle.dfdl_variables.proofs.defining.push_document.Given as goal

abbrev pub invariant-loop-element : goal.invariant-loop-element
invariant-loop-element l = record {
  items : l.variables.items ≡ l.fn.variables.items ++ flat_map (declared_if l.schema) (sites_in l.document l.element);
  typed : All IsTyped l.variables.items;
}
