-- What a row comes to, and how outcomes are put together. 'Parsing Algorithm'.
use Rattle.dfdl_grammar.specs.declared.end.End.{End}
use Rattle.dfdl_grammar.specs.declared.end.End.TheVariants.{Done, Failed, Stopped}
use Rattle.dfdl_looks.specs.Tallies.{Tally, nothing, plus}
use Rattle.dfdl_grammar.specs.States.{State}

-- how the work of a row ends, the state then, and its cost
pub record Outcome : Type 0 where
  pub end : End
  pub state : State
  pub tally : Tally

-- an end without any work
abbrev pub ended : End → State → Outcome
ended end s = record { end = end; state = s; tally = nothing }

-- an outcome behind a cost
abbrev pub spend : Tally → Outcome → Outcome
spend t o = record { end = o.end; state = o.state; tally = plus t o.tally }

-- after this end of an outcome: what follows, where it is done, and else the outcome itself
abbrev pub follow : End → Outcome → (State → Outcome) → Outcome
follow Done o next = spend o.tally (next o.state)
follow (Failed cause bit) o next = o
follow (Stopped cause quantity) o next = o

-- one after another
abbrev pub then_do : Outcome → (State → Outcome) → Outcome
then_do o next = follow o.end o next
