-- The steps of rows for which an instance of a variable is opened. None of them looks at the data.
use Rattle.std.specs.Prelude.{ℕ, nat_lt, List, ◌∷◌, Option, Some, None, Result, Ok, Err, slice_get, if◌then◌else◌}
use Rattle.dfdl_value.specs.declared.value.Value.{Value}
use Rattle.dfdl_paths.specs.declared.place.Start.TheVariants.{Inside}
use Rattle.dfdl_vars.specs.Kept.{entered}
use Rattle.dfdl_report.specs.declared.cause.ParseCause.TheVariants.{ExpressionFault}
use Rattle.dfdl_terms.specs.Rows.{Table}
use Rattle.dfdl_terms.specs.declared.statement.Opening.{Opening}
use Rattle.dfdl_grammar.specs.declared.end.End.TheVariants.{Failed}
use Rattle.dfdl_grammar.specs.States.{State}
use Rattle.dfdl_grammar.specs.Instances.{opening_of, start_read, start_told}
use Rattle.dfdl_parse.specs.declared.frame.Frame.{Frame}
use Rattle.dfdl_parse.specs.declared.frame.Frame.TheVariants.{Instance}
use Rattle.dfdl_parse.specs.declared.frame.Focus.TheVariants.{Enter}
use Rattle.dfdl_parse.specs.Moves.{Machine}
use Rattle.dfdl_parse.specs.Prefixed.{at_end}
use Rattle.dfdl_parse.specs.Asking.{row_begins}

-- a component begins inside of which an instance of the variable of this number is open, where there is one
abbrev pub instance_begins : ℕ → Option Value → ℕ → List Frame → State → Machine
instance_begins number start body k s =
    if nat_lt number s.variables.globals
    then record { focus = Enter body; stack = Instance ∷ k; state = record s { variables = entered s.variables number start } }
    else row_begins body k s

-- the same where there may be nothing that the instance can begin with
abbrev pub start_begins : ℕ → Result (Option Value) ℕ → ℕ → List Frame → State → Machine
start_begins number (Ok start) body k s = instance_begins number start body k s
start_begins number (Err cause) body k s = at_end (Failed (ExpressionFault cause) s.at) k s

-- a component begins, with the instance that is opened for it, if one is
abbrev pub opening_begins : Table → Option Opening → ℕ → List Frame → State → Machine
opening_begins table None body k s = row_begins body k s
opening_begins table (Some opening) body k s =
    start_begins opening.variable (start_told table (Inside s.inside) opening.kind opening.start s) body k
    (record s { variables = start_read table (Inside s.inside) opening.start s })

-- a component begins, with the instance that the statement of a number opens
abbrev pub instanced_begins : Table → ℕ → ℕ → List Frame → State → Machine
instanced_begins table number body k s = opening_begins table (opening_of (slice_get table.statements number)) body k s
