-- The step of a search for a delimiter.
use Rattle.std.specs.Prelude.{ℕ, ◌+◌, ◌-◌, ◌*◌, ◌≤◌, min, Bool, true, false, List, [], ◌∷◌, ◌++◌, length, if◌then◌else◌}
use Rattle.dfdl_bits.specs.Window.{Held, from_byte, seen_at}
use Rattle.dfdl_delims.specs.declared.found.Found.{Found}
use Rattle.dfdl_delims.specs.declared.found.Found.TheVariants.{Match, None as NoMatch, NotYet, Over}
use Rattle.dfdl_delims.specs.Lists.{Opened}
use Rattle.dfdl_delims.specs.Longest.{Longest}
use Rattle.dfdl_report.specs.declared.cause.ParseCause.{ParseCause}
use Rattle.dfdl_report.specs.declared.cause.ParseCause.TheVariants.{InitiatorMissing, SeparatorMissing, TerminatorMissing}
use Rattle.dfdl_terms.specs.declared.delimiters.Delimiter.{Delimiter}
use Rattle.dfdl_terms.specs.declared.delimiters.Delimiters.{Delimiters}
use Rattle.dfdl_looks.specs.Asks.{Reached, Told, TooFar, Missing, Reading, ask}
use Rattle.dfdl_looks.specs.Tallies.{needs_from, nothing, one_row}
use Rattle.dfdl_grammar.specs.declared.end.End.TheVariants.{Done}
use Rattle.dfdl_grammar.specs.declared.limits.Limits.{Limits}
use Rattle.dfdl_grammar.specs.States.{Input, State, anchor_at}
use Rattle.dfdl_grammar.specs.Outcomes.{Outcome}
use Rattle.dfdl_grammar.specs.Framing.{aligned}
use Rattle.dfdl_grammar.specs.Delimiters.{found_initiator, lists_of, markup, numbers_of, passed_text, seek, sought_among, stands_in}
use Rattle.dfdl_parse.specs.declared.frame.Frame.{Frame}
use Rattle.dfdl_parse.specs.declared.frame.Focus.{Focus}
use Rattle.dfdl_parse.specs.declared.frame.Focus.TheVariants.{Seek, Leave}
use Rattle.dfdl_parse.specs.declared.frame.Sought.{Sought}
use Rattle.dfdl_parse.specs.declared.frame.Sought.TheVariants.{Initiator, Terminator, Separator}
use Rattle.dfdl_parse.specs.Moves.{Machine, Move, pass}

-- the lists that are put behind the open ones for a search
abbrev pub put_behind : Sought → List ℕ
put_behind (Initiator list resolves) = list ∷ []
put_behind (Terminator list separators) = list ∷ numbers_of separators
put_behind Separator = []

-- the numbers of the lists among whose texts a delimiter is sought
abbrev pub numbers_among : Sought → State → List ℕ
numbers_among (Initiator list resolves) s = list ∷ []
numbers_among (Terminator list separators) s = markup s ++ list ∷ numbers_of separators
numbers_among Separator s = markup s

-- these lists
abbrev pub among : List Delimiters → Sought → State → List Opened
among delimiters sought s = lists_of delimiters (numbers_among sought s)

-- how many open lists stand before the first of them, where some are put behind all
abbrev pub first_open : Sought → State → ℕ
first_open (Initiator list resolves) s = length s.lists
first_open (Terminator list separators) s = min s.hidden (length s.lists)
first_open Separator s = min s.hidden (length s.lists)

-- the place among them of the list of which a text is sought
abbrev pub place_of : Sought → State → ℕ
place_of (Initiator list resolves) s = 0
place_of (Terminator list separators) s = length (markup s)
place_of Separator s = length (markup s) - 1

-- why it fails where there is none
abbrev pub cause_of : Sought → ParseCause
cause_of (Initiator list resolves) = InitiatorMissing
cause_of (Terminator list separators) = TerminatorMissing
cause_of Separator = SeparatorMissing

-- what a search comes to of what is sought: an initiator that is found may resolve a point
abbrev pub sought_by : Sought → Outcome → Outcome
sought_by (Initiator list resolves) o = found_initiator resolves o.end o
sought_by (Terminator list separators) o = o
sought_by Separator o = o

-- a delimiter that is sought, as it is in the data
abbrev pub sought_text : Input → List Delimiters → Sought → State → Outcome
sought_text input delimiters sought s = sought_by sought (seek input (cause_of sought) (among delimiters sought s) (place_of sought s) s)

-- a delimiter begins: it is sought, where it stands in the representation that is tried
abbrev pub enter_delimiter : Held → Delimiter → Sought → List Frame → State → Move
enter_delimiter held delimiter sought k s =
    if stands_in s.instead delimiter then pass one_row held (Seek sought) k s else pass one_row held (Leave Done) k s

-- whether a byte of a text hasn't come
abbrev pub is_cut : Reached Longest → Bool
is_cut (Told found) = false
is_cut TooFar = false
is_cut Missing = true

-- the machine at what a search comes to
abbrev pub at_outcome : Outcome → List Frame → Machine
at_outcome o k = record { focus = Leave o.end; stack = k; state = o.state }

-- the machine behind a search: as it was, where a byte hasn't come
abbrev pub found_text : ℕ → Focus → Sought → ℕ → Reached Longest → List Frame → State → Machine
found_text window focus sought place Missing k s = record { focus = focus; stack = k; state = s }
found_text window focus sought place (Told found) k s = at_outcome (sought_by sought (passed_text (cause_of sought) place window (Told found) s)) k
found_text window focus sought place TooFar k s = at_outcome (sought_by sought (passed_text (cause_of sought) place window TooFar s)) k

-- the step of a search whose reading this is, with these bytes held behind it
abbrev pub search_move : ℕ → Focus → Sought → ℕ → Held → Reading Longest → List Frame → State → Move
search_move window focus sought place sight reading k s = record {
  tally = needs_from sight.base reading.tally;
  machine = found_text window focus sought place reading.reached k s;
  held = sight;
  waits = is_cut reading.reached;
}

-- a search, which gives up the bytes that are no longer needed at the next whole byte
abbrev pub search : Limits → List Delimiters → Held → Sought → List Frame → State → Move
search limits delimiters held sought k s =
    let sight : Held = from_byte held (anchor_at s (aligned 8 s.at)) in
    search_move limits.window (Seek sought) sought (place_of sought s) sight
    (ask (seen_at sight) (sought_among (among delimiters sought s) s.at s.stop) nothing) k s

-- a text that is found at a bit ends before this byte
abbrev pub EndsWithin : Found → ℕ → ℕ → Type 0
EndsWithin (Match which bits) bit end = bit + bits ≤ 8 * end
EndsWithin NoMatch bit end = Unit {0}
EndsWithin NotYet bit end = Unit {0}
EndsWithin Over bit end = Unit {0}
