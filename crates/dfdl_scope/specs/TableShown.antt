-- Mirror for the prover: how the rows of the table are seen.
use Rattle.std.specs.Prelude.{map}
use Rattle.dfdl_scope.specs.Table as table
use Rattle.dfdl_scope.specs.declared.row.Values.{Values}
use Rattle.dfdl_scope.specs.declared.row.Values.TheVariants as allowed
use Rattle.dfdl_scope.specs.declared.row.Absence.{Absence}
use Rattle.dfdl_scope.specs.declared.row.Absence.TheVariants as otherwise
use Rattle.dfdl_scope.specs.declared.row.PropertyRow.{PropertyRow}

-- which values
abbrev pub values_shown : Values → table.Values
values_shown (allowed.Words words) = table.Words (map (λ word. word.now) words.now)
values_shown (allowed.Range least most) = table.Range least most
values_shown (allowed.Form form) = table.Formed form

-- what stands where no scope gives the property
abbrev pub absence_shown : Absence → table.Absence
absence_shown (otherwise.Value value) = table.Else value.now
absence_shown otherwise.Missing = table.Missing
absence_shown otherwise.MissingKey = table.MissingKey
absence_shown otherwise.Nothing = table.Nothing

-- a row
abbrev pub row_shown : PropertyRow → table.Row
row_shown row = table.row row.name.now (values_shown row.values) (absence_shown row.absent)
