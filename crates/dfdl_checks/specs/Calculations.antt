-- The values of elements that are calculated ('Calculated Values'). For parsing an element with an expression inputValueCalc has no
-- representation, and the expression outputValueCalc, by which an element is written, is judged and never computed; for unparsing neither is built.
use Rattle.std.specs.Prelude.{ℕ, List, Bool, true, false, not, ◌&&◌, ◌||◌, Option, Some, None, codes, if◌then◌else◌}
use Rattle.dfdl_scope.specs.Scoping.{Element, Told, Value, Absent, Twice, told}
use Rattle.dfdl_checks.specs.Judged.{FactsJudged, Judged}
use Rattle.dfdl_checks.specs.Occurrences.{is_once}
use Rattle.dfdl_checks.specs.Subjects.{is_any_element, is_expression_told, told_at}
use Rattle.dfdl_checks.specs.declared.purpose.Purpose.{Purpose}
use Rattle.dfdl_checks.specs.declared.purpose.Purpose.TheVariants.{Parsing, Unparsing}
use Rattle.dfdl_checks.specs.declared.subject.Kind.{Kind}
use Rattle.dfdl_checks.specs.declared.subject.Kind.TheVariants.{SimpleElement, UncarriedElement, CalculatedElement}

-- something is told
abbrev pub is_given : Told → Bool
is_given (Value written) = true
is_given Absent = false
is_given (Twice place) = false

-- what is told, as it is written
abbrev pub written_told : Told → Option (List ℕ)
written_told (Value written) = Some written
written_told Absent = None
written_told (Twice place) = None

-- an element that is declared where it stands, is required and occurs once
abbrev pub is_single : FactsJudged → Bool
is_single facts = facts.is_local && is_once facts.bounds

-- the kind of an element whose value is calculated, where its type is simple and carried
abbrev pub kind_where : Bool → Kind → Kind
kind_where true (SimpleElement simple) = CalculatedElement simple
kind_where _ kind = kind

-- the kind of a component that states this, and whose properties are asked of this chain
abbrev pub kind_for : Purpose → FactsJudged → List Element → Kind → Kind
kind_for Parsing facts chain kind = kind_where (is_single facts && is_expression_told (told chain (codes "inputValueCalc"))) kind
kind_for Unparsing facts chain kind = kind

-- the expression of a component of a kind, where its value is calculated
abbrev pub calculation_by : Kind → Told → Option (List ℕ)
calculation_by (CalculatedElement simple) told = written_told told
calculation_by _ told = None

-- the expression by which the component's value is calculated, if it is
abbrev pub calculation_of : Judged → Option (List ℕ)
calculation_of subject = calculation_by subject.kind (told_at subject (codes "inputValueCalc"))

-- what is told of the value by which an element of a kind is written, where its type is simple and carried
abbrev pub output_by : Kind → Told → Option (List ℕ)
output_by (SimpleElement simple) told = written_told told
output_by (CalculatedElement simple) told = written_told told
output_by _ told = None

-- the expression by which the component's value is calculated for writing, if it is; it is told for parsing alone
abbrev pub output_for : Purpose → Judged → Option (List ℕ)
output_for Parsing subject =
    if is_single subject.facts && is_expression_told (told_at subject (codes "outputValueCalc"))
    then output_by subject.kind (told_at subject (codes "outputValueCalc")) else None
output_for Unparsing subject = None

-- the same for the component's purpose
abbrev pub output_of : Judged → Option (List ℕ)
output_of subject = output_for subject.purpose subject

-- an element of a simple type
abbrev pub is_of_simple_type : Kind → Bool
is_of_simple_type (SimpleElement simple) = true
is_of_simple_type UncarriedElement = true
is_of_simple_type (CalculatedElement simple) = true
is_of_simple_type _ = false

-- inputValueCalc and outputValueCalc are told
abbrev pub has_input : Judged → Bool
has_input subject = is_given (told_at subject (codes "inputValueCalc"))

abbrev pub has_output : Judged → Bool
has_output subject = is_given (told_at subject (codes "outputValueCalc"))

-- one of them may be
abbrev pub may_be_calculated : Judged → Bool
may_be_calculated subject = is_of_simple_type subject.kind && is_single subject.facts

-- 41: one of them at an element where none may stand, or both at one element
abbrev pub is_calculation_not_allowed : Judged → Bool
is_calculation_not_allowed subject =
    is_any_element subject.kind
    && (((has_input subject || has_output subject) && not (may_be_calculated subject)) || (has_input subject && has_output subject))
