-- Mirror for the prover: what an answer tells.
use Rattle.dfdl_scope.specs.Scoping.{Told, Value, Absent, Twice}
use Rattle.dfdl_scope.specs.declared.asking.Asked.{Asked}
use Rattle.dfdl_scope.specs.declared.asking.Asked.TheVariants as answer

-- what an answer tells
abbrev pub told_by : Asked → Told
told_by (answer.Given value) = Value value.now
told_by answer.Absent = Absent
told_by (answer.Twice place) = Twice place
