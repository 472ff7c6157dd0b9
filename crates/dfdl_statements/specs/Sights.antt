-- What the expression of a statement may name.
use Rattle.dfdl_expression_types.specs.declared.statics.Place.{Place}
use Rattle.dfdl_expression_types.specs.declared.statics.Statics.{Statics}
use Rattle.dfdl_statements.specs.declared.sight.Sight.{Sight}
use Rattle.dfdl_statements.specs.declared.written.Written.{Written}

-- what it may name where it stands there
abbrev pub statics_of : Sight → Written → Place → Statics
statics_of sight written place = record {
  elements = sight.elements;
  names = sight.names;
  prefixes = written.prefixes;
  variables = sight.variables;
  place = place;
}
