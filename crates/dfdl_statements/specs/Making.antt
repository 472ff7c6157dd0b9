-- What is made of a statement that a schema writes, or why none is. 'DFDL Schema Component Model' (on asserts, discriminators and
-- variables), 'DFDL Expression Language', 'Calculated Values', 'Lengths', 'Arrays and Optional Elements', 'Choices'.
use Rattle.std.specs.Prelude.{◌≡◌, ℕ, Bool, true, false, if◌then◌else◌, List, [], ◌∷◌, Option, Some, None, Result, Ok, Err}
use Rattle.dfdl_forms.specs.declared.simple.Simple.{Simple}
use Rattle.dfdl_value.specs.declared.value.Value.{Value}
use Rattle.dfdl_value.specs.declared.value.Value.TheVariants as value
use Rattle.dfdl_value.specs.declared.read.NoValue.{NoValue}
use Rattle.dfdl_value.specs.ReadValues.{reading_of}
use Rattle.dfdl_expressions.specs.declared.node.Node.{Node}
use Rattle.dfdl_expressions.specs.declared.node.Node.TheVariants as node
use Rattle.dfdl_expression_tree.specs.Trees.{Formula}
use Rattle.dfdl_expression_types.specs.declared.fault.TypeFault.{TypeFault}
use Rattle.dfdl_expression_types.specs.declared.fault.TypeFault.TheVariants as fault
use Rattle.dfdl_expression_types.specs.declared.statics.Statics.{Statics}
use Rattle.dfdl_expression_types.specs.declared.types.Types.{Types}
use Rattle.dfdl_expression_types.specs.declared.types.ValueType.TheVariants as one
use Rattle.dfdl_expression_types.specs.TypeSets.{are_apart, every, only, type_of}
use Rattle.dfdl_expression_types.specs.Verdicts.{types_or_fault}
use Rattle.dfdl_expression_compile.specs.Compiling.{nodes_of}
use Rattle.dfdl_report.specs.declared.cause.SchemaCause.{SchemaCause}
use Rattle.dfdl_report.specs.declared.cause.SchemaCause.TheVariants.{ExpressionMalformed, ExpressionType, PathNowhere, VariableMalformed}
use Rattle.dfdl_scope.specs.Expressions.{is_expression, literal}
use Rattle.dfdl_terms.specs.declared.statement.Statement.{Statement}
use Rattle.dfdl_terms.specs.declared.statement.Statement.TheVariants as statement
use Rattle.dfdl_statements.specs.declared.written.Asked.{Asked}
use Rattle.dfdl_statements.specs.declared.written.Asked.TheVariants as asked
use Rattle.dfdl_statements.specs.declared.written.Source.{Source}
use Rattle.dfdl_statements.specs.declared.written.Source.TheVariants as source
use Rattle.dfdl_statements.specs.declared.written.Target.{Target}
use Rattle.dfdl_statements.specs.declared.written.Written.{Written}
use Rattle.dfdl_statements.specs.Braces.{unbraced}
use Rattle.dfdl_statements.specs.Unbound.{has_unbound}

-- the nodes of an expression, or why there are none
abbrev pub Nodes : Type 0
Nodes = Result (List Node) SchemaCause

-- nodes of a value of these types, where one of some types is wanted
abbrev pub fitting : Types → Types → List Node → Nodes
fitting types wanted nodes =
    if are_apart types wanted then Err ExpressionType else Ok nodes

-- the same where the types may not fit, a path may lead nowhere, or a variable may not be declared
abbrev pub checked : Result Types TypeFault → Types → List Node → Nodes
checked (Ok types) wanted nodes = fitting types wanted nodes
checked (Err fault.Types) wanted nodes = Err ExpressionType
checked (Err fault.NoPath) wanted nodes = Err PathNowhere
checked (Err fault.NoVariable) wanted nodes = Err VariableMalformed
checked (Err fault.OutOfMemory) wanted nodes = Err ExpressionType

-- the nodes of a text with this tree, where a value of some types is wanted; without one it is no expression, nor is one in which a prefix
-- isn't declared
abbrev pub compiled : Statics → Types → List ℕ → Option Formula → Nodes
compiled s wanted text None = Err ExpressionMalformed
compiled s wanted text (Some f) = if has_unbound s text f then Err ExpressionMalformed else checked (types_or_fault s text f) wanted (nodes_of s text f)

-- texts by what they are read as
module _ (read : List ℕ → Option Formula) where
  -- the nodes of a text that is inside of braces
  abbrev pub inside_braces : Statics → Types → Option (List ℕ) → Nodes
  inside_braces s wanted None = Err ExpressionMalformed
  inside_braces s wanted (Some text) = compiled s wanted text (read text)

  -- the nodes of an expression with its braces
  abbrev pub expression : Statics → Types → List ℕ → Nodes
  expression s wanted text = inside_braces s wanted (unbraced text)

-- the node of a constant, if it is one
abbrev pub constant : Result Value NoValue → Nodes
constant (Ok v) = Ok (node.Constant v ∷ [])
constant (Err why) = Err VariableMalformed

module _ (read : List ℕ → Option Formula) where
  -- the nodes of what sets a variable of this type: an expression, or a constant
  abbrev pub setting : Statics → Simple → List ℕ → Nodes
  setting s kind text = if is_expression text then expression read s (only (type_of kind)) text else constant (reading_of kind (literal text))

abbrev pub as_test : Bool → Option (List ℕ) → Nodes → Result Statement SchemaCause
as_test discriminates message (Ok nodes) =
    Ok (statement.Expression (record { expression = nodes; discriminates = discriminates; message = message }))
as_test discriminates message (Err cause) = Err cause

abbrev pub as_setting : Target → Nodes → Result Statement SchemaCause
as_setting target (Ok nodes) = Ok (statement.Setting (record { variable = target.number; kind = target.kind; expression = nodes }))
as_setting target (Err cause) = Err cause

abbrev pub as_opening : Target → Nodes → Result Statement SchemaCause
as_opening target (Ok nodes) = Ok (statement.Opening (record { variable = target.number; kind = target.kind; start = Some nodes }))
as_opening target (Err cause) = Err cause

-- what opens an instance that begins with what the variable does
abbrev pub bare_opening : Target → Statement
bare_opening target = statement.Opening (record { variable = target.number; kind = target.kind; start = None })

abbrev pub as_calculation : Simple → Bool → Nodes → Result Statement SchemaCause
as_calculation kind output (Ok nodes) = Ok (statement.Calculation (record { kind = kind; expression = nodes; output = output }))
as_calculation kind output (Err cause) = Err cause

abbrev pub as_question : Nodes → Result Statement SchemaCause
as_question (Ok nodes) = Ok (statement.Question (record { expression = nodes }))
as_question (Err cause) = Err cause

-- the types of the values that answer what a row asks for: a key is the text of any value
abbrev pub types_asked : Asked → Types
types_asked asked.Length = only one.Number
types_asked asked.Count = only one.Number
types_asked asked.Key = every

module _ (read : List ℕ → Option Formula) where
  -- what sets a variable; one whose definition is malformed can't be set
  abbrev pub setting_made : Statics → Option Target → List ℕ → Result Statement SchemaCause
  setting_made s None text = Err VariableMalformed
  setting_made s (Some target) text = as_setting target (setting read s target.kind text)

  -- what opens an instance of a variable, which begins with this if there is a text
  abbrev pub opening_with : Statics → Target → Option (List ℕ) → Result Statement SchemaCause
  opening_with s target None = Ok (bare_opening target)
  opening_with s target (Some text) = as_opening target (setting read s target.kind text)

  -- what opens an instance; one of a variable whose definition is malformed can't be opened
  abbrev pub opening_made : Statics → Option Target → Option (List ℕ) → Result Statement SchemaCause
  opening_made s None text = Err VariableMalformed
  opening_made s (Some target) text = opening_with s target text

  -- the statement that is made of what is written, where it sees this
  abbrev pub made : Statics → Source → Result Statement SchemaCause
  made s (source.Pattern test) = Ok (statement.Pattern test)
  made s (source.Test text discriminates message) = as_test discriminates message (expression read s (only one.Truth) text)
  made s (source.Setting variable text) = setting_made s variable text
  made s (source.Opening variable text) = opening_made s variable text
  made s (source.Calculation kind text output) = as_calculation kind output (expression read s (only (type_of kind)) text)
  made s (source.Question asked text) = as_question (expression read s (types_asked asked) text)

-- an expression that nothing asks for
abbrev pub never_asked : List Node
never_asked = node.Constant (value.Truth true) ∷ []

-- the statement that stands for one which no row has: it is never done
abbrev pub unused : Source → Statement
unused (source.Pattern test) = statement.Pattern test
unused (source.Test text discriminates message) =
    statement.Expression (record { expression = never_asked; discriminates = discriminates; message = message })
unused (source.Setting variable text) = statement.Expression (record { expression = never_asked; discriminates = false; message = None })
unused (source.Opening variable text) = statement.Expression (record { expression = never_asked; discriminates = false; message = None })
unused (source.Calculation kind text output) = statement.Calculation (record { kind = kind; expression = never_asked; output = output })
unused (source.Question asked text) = statement.Question (record { expression = never_asked })

-- what calculates a value of a type, for writing alone or not
abbrev pub IsCalculationOf : Simple → Bool → Statement → Type 0
IsCalculationOf kind output (statement.Calculation c) = (c.kind ≡ kind) × (c.output ≡ output)
IsCalculationOf kind output (statement.Pattern test) = ⊥
IsCalculationOf kind output (statement.Expression test) = ⊥
IsCalculationOf kind output (statement.Setting setting) = ⊥
IsCalculationOf kind output (statement.Question question) = ⊥
IsCalculationOf kind output (statement.Opening opening) = ⊥

-- what a row asks for
abbrev pub IsQuestion : Statement → Type 0
IsQuestion (statement.Question question) = Unit {0}
IsQuestion (statement.Pattern test) = ⊥
IsQuestion (statement.Expression test) = ⊥
IsQuestion (statement.Setting setting) = ⊥
IsQuestion (statement.Calculation calculation) = ⊥
IsQuestion (statement.Opening opening) = ⊥

-- of a calculation that is written a statement is one, of the same type and for the same, and of a question a question
abbrev pub IsOfSource : Source → Statement → Type 0
IsOfSource (source.Pattern test) s = Unit {0}
IsOfSource (source.Test text discriminates message) s = Unit {0}
IsOfSource (source.Setting variable text) s = Unit {0}
IsOfSource (source.Opening variable text) s = Unit {0}
IsOfSource (source.Calculation kind text output) s = IsCalculationOf kind output s
IsOfSource (source.Question asked text) s = IsQuestion s

abbrev pub IsMadeOf : Written → Statement → Type 0
IsMadeOf written s = IsOfSource written.source s
