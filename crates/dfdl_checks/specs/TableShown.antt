-- Mirror for the prover: how the rows of the table are seen.
use Rattle.std.specs.Prelude.{map}
use Rattle.dfdl_checks.specs.Table as table
use Rattle.dfdl_checks.specs.declared.applicability.Built.{Built}
use Rattle.dfdl_checks.specs.declared.applicability.Built.TheVariants as values
use Rattle.dfdl_checks.specs.declared.applicability.Applicability.{Applicability}

-- which values are built
abbrev pub built_shown : Built → table.Built
built_shown (values.Words words) = table.Words (map (λ word. word.now) words.now)
built_shown (values.Number number) = table.Number number
built_shown values.EachNumber = table.EachNumber
built_shown values.EveryValue = table.EveryValue
built_shown values.NoValue = table.NoValue

-- a row
abbrev pub applicability_shown : Applicability → table.Applicability
applicability_shown row = table.applies_by row.name.now row.bearers (built_shown row.parsing) (built_shown row.unparsing)
