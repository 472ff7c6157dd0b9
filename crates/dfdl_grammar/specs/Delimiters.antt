-- Initiators and terminators, and the lists of delimiters that are open. 'Framing'.
use Rattle.std.specs.Prelude.{ℕ, ◌+◌, ◌-◌, ◌/◌, Bool, true, false, ◌&&◌, nat_eq, nat_lt, List, [], ◌∷◌, ◌++◌, length, map, take, drop, get_or, Option, Some, None, if◌then◌else◌}
use Rattle.dfdl_forms.specs.declared.encoding.Encoding.TheVariants.{Utf8}
use Rattle.dfdl_report.specs.declared.cause.LimitCause.TheVariants.{Window}
use Rattle.dfdl_report.specs.declared.cause.ParseCause.{ParseCause}
use Rattle.dfdl_report.specs.declared.cause.ParseCause.TheVariants.{InitiatorMissing, SeparatorMissing, TerminatorMissing}
use Rattle.dfdl_delims.specs.Deciding.{goes_on}
use Rattle.dfdl_delims.specs.Lists.{Opened}
use Rattle.dfdl_delims.specs.Longest.{Longest, Text, NoText, longest_at}
use Rattle.dfdl_looks.specs.Asks.{Ask, Reached, Told, TooFar, Missing, Reading, ask}
use Rattle.dfdl_looks.specs.Looks.{seen_in}
use Rattle.dfdl_looks.specs.Tallies.{needs_from, nothing}
use Rattle.dfdl_terms.specs.declared.delimiters.Delimiter.{Delimiter}
use Rattle.dfdl_terms.specs.declared.delimiters.Delimiters.{Delimiters}
use Rattle.dfdl_grammar.specs.declared.end.End.{End}
use Rattle.dfdl_grammar.specs.declared.end.End.TheVariants.{Done, Failed, Stopped}
use Rattle.dfdl_grammar.specs.declared.end.Halt.TheVariants.{Limit}
use Rattle.dfdl_grammar.specs.declared.instead.Instead.{Instead}
use Rattle.dfdl_grammar.specs.declared.instead.Instead.TheVariants.{Nothing, Nil, Empty, Tried}
use Rattle.dfdl_grammar.specs.States.{Input, State, anchor_at}
use Rattle.dfdl_grammar.specs.Outcomes.{Outcome, ended, spend}
use Rattle.dfdl_grammar.specs.Framing.{aligned}
use Rattle.dfdl_grammar.specs.Marks.{initiated}

-- a list of the tables as one that is open
abbrev pub opened : Delimiters → Opened
opened list = record { encoding = list.encoding; fold = list.fold; literals = list.literals }

-- the list of no literals
abbrev pub no_literals : Opened
no_literals = record { encoding = Utf8; fold = false; literals = [] }

-- the lists of these numbers
abbrev pub lists_of : List Delimiters → List ℕ → List Opened
lists_of delimiters numbers = map (λ n. get_or (map opened delimiters) n no_literals) numbers

-- the numbers of the terminating markup: those of all open components inside of the innermost box
abbrev pub markup : State → List ℕ
markup s = drop s.hidden s.lists

-- a delimiter stands in the representation that is tried
abbrev pub stands_in : Instead → Delimiter → Bool
stands_in Nothing delimiter = true
stands_in (Nil prim) delimiter = delimiter.in_nil
stands_in (Empty prim) delimiter = delimiter.in_empty
stands_in Tried delimiter = true

-- the longest text of some lists at the next whole byte behind a bit, in a box that ends at another bit
abbrev pub sought_among : List Opened → ℕ → ℕ → Ask Longest
sought_among lists bit stop = longest_at (goes_on lists) lists stop (aligned 8 bit / 8)

-- what a search makes of the state: it goes on behind the text where this is one of the list at the place, and not of no bits, and else this
-- fails where it stood
abbrev pub passed_text : ParseCause → ℕ → ℕ → Reached Longest → State → Outcome
passed_text cause place window (Told (Text which bits)) s =
    if nat_eq which place && nat_lt 0 bits then ended Done (record s { at = aligned 8 s.at + bits }) else ended (Failed cause s.at) s
passed_text cause place window (Told NoText) s = ended (Failed cause s.at) s
passed_text cause place window TooFar s = ended (Stopped (Limit Window) window) s
passed_text cause place window Missing s = ended Done s

-- a text of the list at a place among some lists: the longest of all their texts has to be one of it
abbrev pub seek : Input → ParseCause → List Opened → ℕ → State → Outcome
seek input cause lists place s =
    let reading : Reading Longest =
    ask (seen_in input.bytes input.limits.window (anchor_at s (aligned 8 s.at))) (sought_among lists s.at s.stop) nothing in
    spend (needs_from (anchor_at s (aligned 8 s.at)) reading.tally) (passed_text cause place input.limits.window reading.reached s)

-- after this end of the search for an initiator: where it is found, it resolves the innermost point, or that where it can resolve it
abbrev pub found_initiator : Bool → End → Outcome → Outcome
found_initiator resolves Done o = record o { state = initiated resolves o.state }
found_initiator resolves (Failed cause bit) o = o
found_initiator resolves (Stopped cause quantity) o = o

-- an initiator, where it stands in the representation that is tried: it is sought among its own literals
abbrev pub initiator : Input → List Delimiters → Delimiter → State → Outcome
initiator input delimiters delimiter s =
    if stands_in s.instead delimiter
    then (let o : Outcome = seek input InitiatorMissing (lists_of delimiters (delimiter.list ∷ [])) 0 s in found_initiator delimiter.resolves o.end o)
    else ended Done s

-- the number of a list, if there is one
abbrev pub numbers_of : Option ℕ → List ℕ
numbers_of None = []
numbers_of (Some number) = number ∷ []

-- A terminator, where it stands in the representation that is tried: it is sought among all terminating markup, that of its own component
-- innermost. The separators of the component, if it has any, come before it.
abbrev pub terminator : Input → List Delimiters → Delimiter → Option ℕ → State → Outcome
terminator input delimiters delimiter separators s =
    if stands_in s.instead delimiter
    then seek input TerminatorMissing (lists_of delimiters (markup s ++ delimiter.list ∷ numbers_of separators)) (length (markup s)) s
    else ended Done s

-- a separator of the innermost component: it is sought among all terminating markup, of which its list is the innermost
abbrev pub separator : Input → List Delimiters → State → Outcome
separator input delimiters s = seek input SeparatorMissing (lists_of delimiters (markup s)) (length (markup s) - 1) s

-- a list is open
abbrev pub opens : ℕ → State → State
opens list s = record s { lists = s.lists ++ list ∷ [] }

-- so many lists are open, as before
abbrev pub closes_to : ℕ → State → State
closes_to count s = record s { lists = take count s.lists }

-- after this end of an outcome: so many lists are open again
abbrev pub unscoped : End → ℕ → Outcome → Outcome
unscoped Done count o = record o { state = closes_to count o.state }
unscoped (Failed cause bit) count o = record o { state = closes_to count o.state }
unscoped (Stopped cause quantity) count o = o

-- what is in a component whose terminator has this list of texts: they end a content in it
abbrev pub scoped : ℕ → (State → Outcome) → State → Outcome
scoped list body s = let o : Outcome = body (opens list s) in unscoped o.end (length s.lists) o
