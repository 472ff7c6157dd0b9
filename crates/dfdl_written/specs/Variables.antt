-- The variables that documents define, as expressions see them ('DFDL Expression Language', on variables).
use Rattle.std.specs.Prelude.{◌≡◌, ℕ, suc, List, [], ◌∷◌, map, Option, None, Some, Ok, Err, if◌then◌else◌, bytes_eq, unwrap_or}
use Rattle.std.specs.BTreeMap.{BTreeMap, get_by_text}
use Rattle.std.specs.Prelude.{String}
use Rattle.dfdl_forms.specs.declared.simple.Simple.{Simple}
use Rattle.dfdl_forms.specs.declared.simple.Simple.TheVariants as simple
use Rattle.dfdl_value.specs.declared.value.Value.{Value}
use Rattle.dfdl_vars.specs.declared.values.VarDef.{VarDef}
use Rattle.dfdl_documents.specs.Documents.{SchemaDocument}
use Rattle.dfdl_components.specs.Searching.{or_else}
use Rattle.dfdl_expression_types.specs.declared.statics.Variable.{Variable}
use Rattle.dfdl_variables.specs.Defaults.{Start}
use Rattle.dfdl_variables.specs.Variables.{variables_of}
use Rattle.dfdl_variables.specs.declared.variable.Declared.{Declared}

-- what a variable starts with, if with something; nothing where its definition is malformed
abbrev pub start_with : Start → Option Value
start_with (Ok start) = start
start_with (Err why) = None

-- the definition of a variable in the tables; where its type isn't carried it stands there as one of texts, and nothing sets or reads it
abbrev pub definition_of : Declared → VarDef
definition_of variable = record {
  name = variable.name;
  kind = unwrap_or variable.simple simple.String;
  start = start_with variable.start;
  external = variable.is_external;
}

-- the variables of the documents, by their numbers
abbrev pub definitions_of : List SchemaDocument → List VarDef
definitions_of documents = map definition_of (variables_of documents)

-- a variable's type, where its definition is sound
abbrev pub type_by : Option Simple → Start → Option Simple
type_by simple (Ok start) = simple
type_by simple (Err why) = None

abbrev pub sound_type : Declared → Option Simple
sound_type variable = type_by variable.simple variable.start

-- a variable of a number, where it has a type
abbrev pub variable_by : ℕ → Option Simple → Option Variable
variable_by number None = None
variable_by number (Some simple) = Some (record { number = number; simple = simple })

-- a variable of a number, where its local name is this one
abbrev pub variable_if : List ℕ → ℕ → Declared → Option Variable
variable_if name number variable = if bytes_eq variable.name name then variable_by number (sound_type variable) else None

-- the first of some variables that is sound and has this local name, where the first of them has this number
abbrev pub variable_from : ℕ → List Declared → List ℕ → Option Variable
variable_from number [] name = None
variable_from number (variable ∷ variables) name = or_else (variable_if name number variable) (variable_from (suc number) variables name)

-- a map has the sound variables of some by their local names
abbrev pub HasVariables : {Y : Type 0} → List Declared → BTreeMap (String Y) Variable → Type 0
HasVariables variables named = (q : List ℕ) → get_by_text named q ≡ variable_from 0 variables q
