-- Occurrences that are tried, one after another: each is a point of uncertainty. 'Arrays and Optional Elements', 'Parsing Algorithm'
-- (points of uncertainty).
use Rattle.std.specs.Prelude.{ℕ, zero, suc, Bool, if◌then◌else◌}
use Rattle.dfdl_grammar.specs.declared.end.End.{End}
use Rattle.dfdl_grammar.specs.declared.end.End.TheVariants.{Done, Failed, Stopped}
use Rattle.dfdl_grammar.specs.declared.instead.Instead.{Instead}
use Rattle.dfdl_grammar.specs.declared.instead.Instead.TheVariants.{Nothing, Tried}
use Rattle.dfdl_grammar.specs.States.{State}
use Rattle.dfdl_grammar.specs.Outcomes.{Outcome, ended, spend}
use Rattle.dfdl_grammar.specs.Marks.{back, closed, is_settled, pointed, stays_at}

-- an occurrence is dropped, and ends those that are tried: the state is again that of its point, which is closed
abbrev pub dropped : State → State
dropped s = closed (back s)

-- After this end of an occurrence: where it is done and has passed over a bit, more may follow; where it hasn't, or fails, it is dropped.
-- Where its point is resolved, the array fails as it does.
abbrev pub after_occurrence : End → Outcome → (State → Outcome) → Outcome
after_occurrence Done o next =
    if stays_at o.state.marks o.state.at then record o { state = dropped o.state } else spend o.tally (next (closed o.state))
after_occurrence (Failed cause bit) o next =
    if is_settled o.state.marks then record o { state = closed o.state } else record o { end = Done; state = dropped o.state }
after_occurrence (Stopped cause quantity) o next = o

-- the element that begins next is an occurrence that is tried
abbrev pub as_tried : State → State
as_tried s = record s { instead = Tried }

-- it is none, and content is read by its own primitive
abbrev pub as_normal : State → State
as_normal s = record s { instead = Nothing }

-- after this end of an occurrence: what begins next is none that is tried, unless that is told again
abbrev pub untried : End → Outcome → Outcome
untried Done o = record o { state = as_normal o.state }
untried (Failed cause bit) o = record o { state = as_normal o.state }
untried (Stopped cause quantity) o = o

-- what content is read by where an occurrence begins, which is tried or not; one that is tried never takes a default
abbrev pub instead_in : Bool → Instead → Instead
instead_in tried instead = if tried then Tried else instead

abbrev pub as_occurrence : Bool → State → State
as_occurrence tried s = record s { instead = instead_in tried s.instead }

-- an occurrence, which is tried or not
abbrev pub occurring : Bool → (State → Outcome) → State → Outcome
occurring tried body s = let o : Outcome = body (as_occurrence tried s) in untried o.end o

-- at most so many occurrences, whose points an initiator resolves or not
unfoldable pub occurrences : (State → Outcome) → Bool → ℕ → State → Outcome
occurrences body initiated zero s = ended Done s
occurrences body initiated (suc left) s =
    let o : Outcome = body (pointed initiated s) in after_occurrence o.end o (occurrences body initiated left)
