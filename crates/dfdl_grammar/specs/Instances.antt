-- Instances of variables that are open while a component is parsed: what such an instance begins with is evaluated where the component stands, and
-- behind the component the variable stands for the instance again that was open before. 'DFDL Expression Language' (on variables),
-- 'DFDL Schema Component Model' (newVariableInstance).
use Rattle.std.specs.Prelude.{ℕ, nat_lt, List, Option, Some, None, Result, Ok, Err, slice_get, if◌then◌else◌}
use Rattle.dfdl_forms.specs.declared.simple.Simple.{Simple}
use Rattle.dfdl_value.specs.declared.value.Value.{Value}
use Rattle.dfdl_expressions.specs.declared.node.Node.{Node}
use Rattle.dfdl_paths.specs.declared.place.Start.{Start}
use Rattle.dfdl_paths.specs.declared.place.Start.TheVariants.{Inside}
use Rattle.dfdl_surroundings.specs.Taking.{taken}
use Rattle.dfdl_vars.specs.Kept.{Kept, entered, without_innermost}
use Rattle.dfdl_report.specs.declared.cause.ParseCause.TheVariants.{ExpressionFault}
use Rattle.dfdl_terms.specs.Rows.{Table}
use Rattle.dfdl_terms.specs.declared.statement.Opening.{Opening as AnyOpening}
use Rattle.dfdl_terms.specs.declared.statement.Statement.{Statement}
use Rattle.dfdl_terms.specs.declared.statement.Statement.TheVariants.{Opening}
use Rattle.dfdl_grammar.specs.declared.end.End.{End}
use Rattle.dfdl_grammar.specs.declared.end.End.TheVariants.{Done, Failed, Stopped}
use Rattle.dfdl_grammar.specs.States.{State}
use Rattle.dfdl_grammar.specs.Outcomes.{Outcome, ended}
use Rattle.dfdl_grammar.specs.Statements.{evaluated, with_reads}

-- the statement opens an instance; other statements open none
abbrev pub opening_of : Option Statement → Option AnyOpening
opening_of (Some (Opening opening)) = Some opening
opening_of _ = None

-- a value that an instance begins with, or why there is none
abbrev pub begun_with : Result Value ℕ → Result (Option Value) ℕ
begun_with (Ok v) = Ok (Some v)
begun_with (Err cause) = Err cause

-- What an instance begins with by an expression that begins there, or why it can't begin. Without an expression it is what the variable's first
-- instance begins with.
abbrev pub start_told : Table → Start → Simple → Option (List Node) → State → Result (Option Value) ℕ
start_told table start kind None s = Ok None
start_told table start kind (Some expression) s = begun_with (taken kind (evaluated table start expression s))

-- the variables behind that: those that the expression asks for are read
abbrev pub start_read : Table → Start → Option (List Node) → State → Kept
start_read table start None s = s.variables
start_read table start (Some expression) s = (with_reads table start expression s).variables

-- the innermost instance is closed
abbrev pub instance_closed : State → State
instance_closed s = record s { variables = without_innermost s.variables }

-- after this end of a component: its instance is closed, also where the component has failed
abbrev pub closed_behind : End → Outcome → Outcome
closed_behind Done o = record o { state = instance_closed o.state }
closed_behind (Failed cause bit) o = record o { state = instance_closed o.state }
closed_behind (Stopped cause quantity) o = o

-- a component inside of which an instance is open that begins with this
abbrev pub with_instance : ℕ → Option Value → (State → Outcome) → State → Outcome
with_instance number start body s =
    let o : Outcome = body (record s { variables = entered s.variables number start }) in closed_behind o.end o

-- the same where there may be no such variable, or nothing that the instance can begin with
abbrev pub opened_with : ℕ → Result (Option Value) ℕ → (State → Outcome) → State → Outcome
opened_with number (Ok start) body s = if nat_lt number s.variables.globals then with_instance number start body s else body s
opened_with number (Err cause) body s = ended (Failed (ExpressionFault cause) s.at) s

-- a component with the instance that is opened for it, if one is; the expression begins in the element in which the component stands
abbrev pub opened_by : Table → Option AnyOpening → (State → Outcome) → State → Outcome
opened_by table None body s = body s
opened_by table (Some opening) body s =
    opened_with opening.variable (start_told table (Inside s.inside) opening.kind opening.start s) body
    (record s { variables = start_read table (Inside s.inside) opening.start s })

-- a component with the instance that the statement of a number opens
abbrev pub instanced : Table → ℕ → (State → Outcome) → State → Outcome
instanced table number body s = opened_by table (opening_of (slice_get table.statements number)) body s
