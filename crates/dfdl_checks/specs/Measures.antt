-- The expressions that tell how long the content of an element is ('Lengths', on lengthKind explicit) and how often it occurs ('Arrays
-- and Optional Elements', on occursCount), which are built for parsing.
use Rattle.std.specs.Prelude.{List, ℕ, Bool, ◌&&◌, Option, None, option_map, codes, if◌then◌else◌}
use Rattle.dfdl_terms.specs.declared.prefix.LengthUnit.{LengthUnit}
use Rattle.dfdl_checks.specs.Calculations.{written_told}
use Rattle.dfdl_checks.specs.Judged.{Judged}
use Rattle.dfdl_checks.specs.Occurrences.{is_counted_by_expression}
use Rattle.dfdl_checks.specs.Prefixes.{unit_told}
use Rattle.dfdl_checks.specs.Subjects.{is_by_expression, is_element, told_at}
use Rattle.dfdl_checks.specs.declared.measures.MeasureForm.{MeasureForm}
use Rattle.dfdl_checks.specs.declared.purpose.Purpose.{Purpose}
use Rattle.dfdl_checks.specs.declared.purpose.Purpose.TheVariants.{Parsing, Unparsing}

-- an element whose length is its own, by an expression
abbrev pub is_measured_element : Judged → Bool
is_measured_element subject = is_element subject.kind && is_by_expression subject

-- the expression that tells how long the content of an element is, as it is written, which is built for parsing
abbrev pub length_expression_for : Purpose → Judged → Option (List ℕ)
length_expression_for Parsing subject = if is_measured_element subject then written_told (told_at subject (codes "length")) else None
length_expression_for Unparsing subject = None

-- the same for the component's purpose
abbrev pub length_expression : Judged → Option (List ℕ)
length_expression subject = length_expression_for subject.purpose subject

-- a length by the expression of this text, which counts these units
abbrev pub measure_with : LengthUnit → List ℕ → MeasureForm
measure_with unit text = record { text = text; unit = unit }

-- the length of the component's content by an expression, in the units that it counts, where it has one
abbrev pub measure_of : Judged → Option MeasureForm
measure_of subject = option_map (measure_with (unit_told (told_at subject (codes "lengthUnits")))) (length_expression subject)

-- the expression that tells how often an element occurs, as it is written, which is built for parsing
abbrev pub count_expression_for : Purpose → Judged → Option (List ℕ)
count_expression_for Parsing subject = if is_counted_by_expression subject then written_told (told_at subject (codes "occursCount")) else None
count_expression_for Unparsing subject = None

-- the same for the component's purpose
abbrev pub count_expression : Judged → Option (List ℕ)
count_expression subject = count_expression_for subject.purpose subject
