-- What is around a box, while the machine is in it.
use Rattle.std.specs.Prelude.{ℕ}
use Rattle.dfdl_grammar.specs.States.{State}
use Rattle.dfdl_parse.specs.declared.frame.Outside.{Outside}

-- what is around the box that begins here
abbrev pub outside : State → Outside
outside s = record { stop = s.stop; hidden = s.hidden }

-- so many open lists end no content in the innermost box
abbrev pub hides : ℕ → State → State
hides hidden s = record s { hidden = hidden }

-- the innermost box has ended, and what was around it is again
abbrev pub back_outside : Outside → State → State
back_outside outer s = record s { stop = outer.stop; hidden = outer.hidden }
