use Rattle.std.proofs.Common.{◌≡◌, All}
use Rattle.std.specs.List.{flat_map}
use Rattle.dfdl_chains.specs.Everywhere.{sites_before}
use Rattle.dfdl_variables.specs.Variables.{declared_if, IsTyped}
use Rattle.dfdl_variables.proofs.defining.variables_of.Given as goal

abbrev pub invariant-loop-document : goal.invariant-loop-document
invariant-loop-document l = record {
  items : l.variables.items ≡ flat_map (declared_if l.schema) (sites_before l.schema l.document);
  typed : All IsTyped l.variables.items;
}
