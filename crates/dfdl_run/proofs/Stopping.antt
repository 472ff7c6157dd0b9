-- What stops work is a limit on data, or a variable that can't be set.
use Rattle.dfdl_report.specs.declared.cause.LimitCause.TheVariants.{Window, Nodes, Text}
use Rattle.dfdl_grammar.specs.declared.end.Halt.{Halt}
use Rattle.dfdl_grammar.specs.declared.end.Halt.TheVariants.{Limit, Variable}
use Rattle.dfdl_grammar.specs.declared.end.End.{End}
use Rattle.dfdl_grammar.specs.declared.end.End.TheVariants.{Done, Failed, Stopped}
use Rattle.dfdl_grammar.specs.States.{State}
use Rattle.dfdl_grammar.specs.Outcomes.{Outcome}

-- a limit on data, or a variable that can't be set
abbrev pub IsOfData : Halt → Type 0
IsOfData (Limit Window) = Unit {0}
IsOfData (Limit Nodes) = Unit {0}
IsOfData (Limit Text) = Unit {0}
IsOfData (Limit _) = ⊥
IsOfData (Variable cause) = Unit {0}

-- where work is stopped, it is by one of these
abbrev pub StopsByData : End → Type 0
StopsByData Done = Unit {0}
StopsByData (Failed cause bit) = Unit {0}
StopsByData (Stopped cause quantity) = IsOfData cause

-- so it is from each state on
abbrev pub AlwaysStops : (State → Outcome) → Type 0
AlwaysStops f = (s : State) → StopsByData (f s).end
