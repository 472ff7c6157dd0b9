-- What can be wrong with one property at a component that it applies to. Of a property that is given twice none of this
-- is said: that is a rule of its own.
use Rattle.std.specs.Prelude.{List, ℕ, Bool, true, false, not, ◌&&◌}
use Rattle.std.specs.List.{list_any}
use Rattle.std.specs.Option.{option_map_or}
use Rattle.dfdl_scope.specs.Expressions.{is_expression, literal}
use Rattle.dfdl_scope.specs.Scoping.{Told, Value, Absent, Twice}
use Rattle.dfdl_scope.specs.Table.{Row, Absence, Else, Missing, MissingKey, Nothing, property_table, row_named}
use Rattle.dfdl_checks.specs.Subjects.{told_at}
use Rattle.dfdl_checks.specs.Values.{is_value, takes_expressions}
use Rattle.dfdl_checks.specs.Applying.{is_bearer}
use Rattle.dfdl_checks.specs.Table.{Applicability, Built, built_for, is_built, applicability_table}
use Rattle.dfdl_checks.specs.Judged.{Judged}
use Rattle.dfdl_checks.specs.declared.flaw.Flaw.{Flaw}
use Rattle.dfdl_checks.specs.declared.flaw.Flaw.TheVariants as flaws

-- a value, as it is written, has the flaw: it is one of the profile and none that is built; it is no expression and none
-- of the profile; or it is an expression where none may stand
abbrev pub is_value_flawed : Flaw → Row → Built → List ℕ → Bool
is_value_flawed flaws.Unbuilt row built written = is_value row.values written && not (is_built built (literal written))
is_value_flawed flaws.Missing row built written = false
is_value_flawed flaws.NotCarried row built written = not (is_expression written) && not (is_value row.values written)
is_value_flawed flaws.Expression row built written = is_expression written && not (takes_expressions row.values)

-- the flaw is that the property is missing
abbrev pub is_missing : Flaw → Bool
is_missing flaws.Missing = true
is_missing _ = false

-- a property that no scope gives has the flaw: it is missing where it has to be given, and a value that stands in its
-- place is taken as if it were given
abbrev pub is_absence_flawed : Flaw → Row → Built → Absence → Bool
is_absence_flawed flaw row built (Else value) = is_value_flawed flaw row built value
is_absence_flawed flaw row built Missing = is_missing flaw
is_absence_flawed flaw row built MissingKey = false
is_absence_flawed flaw row built Nothing = false

-- a property of which this is told has the flaw
abbrev pub is_flawed : Flaw → Row → Built → Told → Bool
is_flawed flaw row built (Value written) = is_value_flawed flaw row built written
is_flawed flaw row built Absent = is_absence_flawed flaw row built row.absent
is_flawed flaw row built (Twice place) = false

-- a property applies to the component, and has the flaw there
unfoldable pub is_flawed_at : Flaw → Judged → Applicability → Bool
is_flawed_at flaw subject a =
    is_bearer a.bearers subject
    && option_map_or (λ row. is_flawed flaw row (built_for subject.purpose a) (told_at subject a.name)) (row_named property_table a.name) false

-- some property that applies to the component has the flaw there
abbrev pub has_flaw : Flaw → Judged → Bool
has_flaw flaw subject = list_any (is_flawed_at flaw subject) applicability_table
