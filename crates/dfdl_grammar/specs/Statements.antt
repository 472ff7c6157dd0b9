-- What the statements of a component come to besides tests of patterns: tests of expressions, settings of variables, and calculated values.
-- None of them looks at the data. 'DFDL Schema Component Model' (on asserts, discriminators and variables), 'DFDL Expression Language'.
use Rattle.std.specs.Prelude.{ℕ, zero, suc, ◌+◌, nat_eq, nat_lt, Bool, true, false, List, [], Option, Some, None, Result, Ok, Err, slice_get, if◌then◌else◌}
use Rattle.std.specs.Str.{is_utf8}
use Rattle.dfdl_value.specs.declared.value.Value.{Value}
use Rattle.dfdl_value.specs.declared.value.Value.TheVariants as value
use Rattle.dfdl_expressions.specs.declared.node.Node.{Node}
use Rattle.dfdl_expression_eval.specs.Asks.{gives}
use Rattle.dfdl_expression_eval.specs.Meanings.{meaning}
use Rattle.dfdl_expression_eval.specs.Runs.{left_by}
use Rattle.dfdl_expression_eval.specs.declared.env.Evaluated.{Evaluated}
use Rattle.dfdl_paths.specs.declared.place.Start.{Start}
use Rattle.dfdl_paths.specs.declared.place.Start.TheVariants as start
use Rattle.dfdl_surroundings.specs.Around.{Around}
use Rattle.dfdl_surroundings.specs.Answers.{answer_in, around, element_of, read_in}
use Rattle.dfdl_surroundings.specs.Taking.{taken, truth_taken}
use Rattle.dfdl_vars.specs.Kept.{fault_now, place_now, with_setting}
use Rattle.dfdl_vars.specs.declared.instances.VarFault.{VarFault}
use Rattle.dfdl_vars.specs.declared.instances.VarFault.TheVariants as fault
use Rattle.dfdl_report.specs.declared.cause.ParseCause.TheVariants.{ExpressionFault}
use Rattle.dfdl_report.specs.declared.cause.VariableCause.{VariableCause}
use Rattle.dfdl_report.specs.declared.cause.VariableCause.TheVariants as variable
use Rattle.dfdl_terms.specs.Arrays.{item_marks}
use Rattle.dfdl_terms.specs.Rows.{Table}
use Rattle.dfdl_terms.specs.declared.statement.Calculation.{Calculation as CalculationOf}
use Rattle.dfdl_terms.specs.declared.statement.Statement.{Statement}
use Rattle.dfdl_terms.specs.declared.statement.Statement.TheVariants.{Pattern, Expression, Setting, Calculation, Question, Opening}
use Rattle.dfdl_terms.specs.declared.statement.Statements.{Statements}
use Rattle.dfdl_looks.specs.Asks.{Told}
use Rattle.dfdl_grammar.specs.declared.end.End.{End}
use Rattle.dfdl_grammar.specs.declared.end.End.TheVariants.{Done, Failed, Stopped}
use Rattle.dfdl_grammar.specs.declared.end.Halt.TheVariants.{Variable}
use Rattle.dfdl_grammar.specs.declared.limits.Limits.{Limits}
use Rattle.dfdl_grammar.specs.States.{Input, State}
use Rattle.dfdl_grammar.specs.Outcomes.{Outcome, ended, then_do}
use Rattle.dfdl_grammar.specs.Leaves.{default_find, land}
use Rattle.dfdl_grammar.specs.Marks.{resolved}
use Rattle.dfdl_grammar.specs.Tests.{test, tested}

-- what stands around an expression that begins there
abbrev pub around_at : Table → Start → State → Around
around_at table start s =
    around (record { names = table.names; nodes = s.nodes; text = s.text; marks = item_marks table.rows; start = start }) s.variables

-- what an expression gives
abbrev pub evaluated : Table → Start → List Node → State → Evaluated
evaluated table start expression s = gives (meaning expression) (answer_in (around_at table start s))

-- the state behind that: the variables that it asks for are read
abbrev pub with_reads : Table → Start → List Node → State → State
with_reads table start expression s =
    record s { variables = (left_by answer_in read_in (meaning expression) (around_at table start s)).variables }

-- a test of an expression, as a discriminator or an assert: it holds, or doesn't, or has no truth for a reason
abbrev pub judged : Bool → ℕ → Result Bool ℕ → State → Outcome
judged discriminates number (Ok holds) s = tested discriminates number holds s
judged discriminates number (Err cause) s = ended (Failed (ExpressionFault cause) s.at) s

-- why a variable can't be set
abbrev pub variable_cause : VarFault → VariableCause
variable_cause fault.SetTwice = variable.SetTwice
variable_cause fault.SetAfterRead = variable.SetAfterRead

-- a variable gets a value, or can't be set for a reason
abbrev pub set_by : Option VarFault → ℕ → Value → State → Outcome
set_by None number v s = ended Done (record s { variables = with_setting s.variables (place_now s.variables number) v })
set_by (Some reason) number v s = ended (Stopped (Variable (variable_cause reason)) s.at) s

-- the variable of a number is set, where there is one
abbrev pub set_to : ℕ → Result Value ℕ → State → Outcome
set_to number (Ok v) s = if nat_lt number s.variables.globals then set_by (fault_now s.variables number) number v s else ended Done s
set_to number (Err cause) s = ended (Failed (ExpressionFault cause) s.at) s

-- each text is one of characters
abbrev pub is_written : Value → Bool
is_written (value.Text text) = is_utf8 text
is_written v = true

-- the open element gets a calculated value; there is no text but of characters
abbrev pub calculated : Limits → Result Value ℕ → State → Outcome
calculated limits (Ok v) s = if is_written v then land limits s.at (Told (default_find s.at v)) s else ended (Failed (ExpressionFault 6) s.at) s
calculated limits (Err cause) s = ended (Failed (ExpressionFault cause) s.at) s

-- a calculated value, or nothing where that is one of unparsing alone; an element's value is then that of the data
abbrev pub computed : Limits → Table → Start → CalculationOf → State → Outcome
computed limits table start calculation s =
    if calculation.output then ended Done s
    else calculated limits (taken calculation.kind (evaluated table start calculation.expression s)) (with_reads table start calculation.expression s)

-- what a statement comes to whose expression begins there; a test of a pattern has none, and a question is asked by its row
abbrev pub stated : Limits → Table → Start → ℕ → Option Statement → State → Outcome
stated limits table start number None s = ended Done s
stated limits table start number (Some (Pattern pattern)) s = ended Done s
stated limits table start number (Some (Expression asked)) s =
    judged asked.discriminates number (truth_taken (evaluated table start asked.expression s)) (with_reads table start asked.expression s)
stated limits table start number (Some (Setting setting)) s =
    set_to setting.variable (taken setting.kind (evaluated table start setting.expression s)) (with_reads table start setting.expression s)
stated limits table start number (Some (Calculation calculation)) s = computed limits table start calculation s
stated limits table start number (Some (Question question)) s = ended Done s
stated limits table start number (Some (Opening opening)) s = ended Done s

-- where the expression of a statement begins that has a row: that of a calculated value at the open element, others at a group in it
abbrev pub start_of : Option Statement → State → Start
start_of (Some (Calculation calculation)) s = start.At s.inside
start_of _ s = start.Inside s.inside

-- the statement of this number of the tables
abbrev pub statement_of : Input → Table → ℕ → Option Statement → State → Outcome
statement_of input table number (Some (Pattern pattern)) s = test input number pattern s
statement_of input table number found s = stated input.limits table (start_of found s) number found s

abbrev pub statement : Input → Table → ℕ → State → Outcome
statement input table number s = statement_of input table number (slice_get table.statements number) s

-- so many statements from one on, one after another
unfoldable pub stated_from : Limits → Table → Start → ℕ → ℕ → State → Outcome
stated_from limits table start first zero s = ended Done s
stated_from limits table start first (suc count) s =
    then_do (stated limits table start first (slice_get table.statements first) s) (stated_from limits table start (first + 1) count)

-- where something ends, the element is open that has the statements, or in which the group stands that has them
abbrev pub told_at : End → Start → State → State
told_at Done start s = s
told_at (Failed cause bit) start s = record s { inside = element_of start }
told_at (Stopped cause quantity) start s = record s { inside = element_of start }

-- statements behind a component that is done, which have no cost
abbrev pub with_end : Start → Outcome → Outcome → Outcome
with_end start o behind = record o { end = behind.end; state = told_at behind.end start behind.state }

-- a test that is known to hold
abbrev pub is_held : Result Bool ℕ → Bool
is_held (Ok holds) = holds
is_held (Err cause) = false

-- a discriminator is tested again where its component has failed: where it holds, it resolves the innermost point
abbrev pub reconsidered : Table → Start → Option Statement → State → State
reconsidered table start None s = s
reconsidered table start (Some (Pattern pattern)) s = s
reconsidered table start (Some (Expression asked)) s =
    if asked.discriminates
    then (if is_held (truth_taken (evaluated table start asked.expression s)) then resolved (with_reads table start asked.expression s)
    else with_reads table start asked.expression s)
    else s
reconsidered table start (Some (Setting setting)) s = s
reconsidered table start (Some (Calculation calculation)) s = s
reconsidered table start (Some (Question question)) s = s
reconsidered table start (Some (Opening opening)) s = s

-- the discriminators among so many statements from one on
unfoldable pub reconsidered_from : Table → Start → ℕ → ℕ → State → State
reconsidered_from table start first zero s = s
reconsidered_from table start first (suc count) s =
    reconsidered_from table start (first + 1) count (reconsidered table start (slice_get table.statements first) s)

-- after this end of a component with statements behind it
abbrev pub concluded_at : End → Limits → Table → Start → Statements → Outcome → Outcome
concluded_at Done limits table start behind o = with_end start o (stated_from limits table start behind.first behind.count o.state)
concluded_at (Failed cause bit) limits table start behind o =
    record o { state = reconsidered_from table start behind.first behind.count o.state }
concluded_at (Stopped cause quantity) limits table start behind o = o

-- a component with the statements behind it, if there are some
abbrev pub concluded : Limits → Table → Start → Statements → Outcome → Outcome
concluded limits table start behind o = if nat_eq behind.count 0 then o else concluded_at o.end limits table start behind o
