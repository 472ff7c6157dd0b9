-- The slots of a sequence with separators, some of whose occurrences are tried. What each slot comes to, and which separator is sought
-- when, dfdl_separators says; here is what that does to the state. 'Sequence Groups' (sequence groups with separators), 'Parsing
-- Algorithm' (points of uncertainty).
use Rattle.std.specs.Prelude.{ℕ, zero, suc, ◌-◌, ◌/◌, Bool, true, false, ◌&&◌, ◌||◌, nat_eq, nat_le, nat_lt, List, [], ◌∷◌, length, Option, Some, None, if◌then◌else◌}
use Rattle.dfdl_paths.specs.declared.place.Start.TheVariants as start
use Rattle.dfdl_report.specs.declared.cause.LimitCause.TheVariants.{Window}
use Rattle.dfdl_report.specs.declared.cause.ParseCause.{ParseCause}
use Rattle.dfdl_report.specs.declared.cause.ParseCause.TheVariants.{EmptyTrailingSlot, NegativeCount, SeparatorMissing}
use Rattle.dfdl_delims.specs.Lists.{Opened}
use Rattle.dfdl_delims.specs.Longest.{Longest, Text, NoText}
use Rattle.dfdl_looks.specs.Asks.{Ask, Answer, Reached, Told, TooFar, Missing, Reading, and_then, ask, look_at}
use Rattle.dfdl_looks.specs.Looks.{seen_in}
use Rattle.dfdl_looks.specs.Tallies.{needs_from, nothing, one_row}
use Rattle.dfdl_separators.specs.declared.moves.SlotMove.{SlotMove}
use Rattle.dfdl_separators.specs.declared.moves.SlotMove.TheVariants.{TakeSeparator, LookForSeparator, Parse, Keep, Drop, EndArray, EndGroup, Fail}
use Rattle.dfdl_separators.specs.declared.moves.SlotSeen.TheVariants as seen
use Rattle.dfdl_separators.specs.declared.policy.SeparatorPosition.{SeparatorPosition}
use Rattle.dfdl_separators.specs.declared.policy.SeparatorSuppressionPolicy.{SeparatorSuppressionPolicy}
use Rattle.dfdl_separators.specs.declared.progress.Progress.{Progress}
use Rattle.dfdl_separators.specs.declared.verdict.Here.{Here}
use Rattle.dfdl_separators.specs.declared.verdict.Outcome.{Outcome as SlotOutcome}
use Rattle.dfdl_separators.specs.declared.verdict.Outcome.TheVariants.{Item, Unmoved, Blank, Broken, Resolved}
use Rattle.dfdl_separators.specs.declared.verdict.SlotRule.{SlotRule}
use Rattle.dfdl_separators.specs.declared.verdict.SlotRule.TheVariants.{Required, NeverMissing, TrailingMissing, AnyMissing}
use Rattle.dfdl_separators.specs.Groups.{begun, ending, group_after, here_of, move_at}
use Rattle.dfdl_separators.specs.Verdicts.{begins, ends, outcome, rule_of}
use Rattle.dfdl_terms.specs.declared.slots.Slot.{Slot}
use Rattle.dfdl_terms.specs.Rows.{Table}
use Rattle.dfdl_grammar.specs.declared.end.End.{End}
use Rattle.dfdl_grammar.specs.declared.end.End.TheVariants.{Done, Failed, Stopped}
use Rattle.dfdl_grammar.specs.declared.end.Halt.TheVariants.{Limit}
use Rattle.dfdl_grammar.specs.declared.limits.Limits.{Limits}
use Rattle.dfdl_grammar.specs.States.{Input, State, anchor}
use Rattle.dfdl_grammar.specs.Outcomes.{Outcome, ended, spend, then_do}
use Rattle.dfdl_grammar.specs.Delimiters.{lists_of, markup, separator, sought_among}
use Rattle.dfdl_grammar.specs.Occurrences.{occurring}
use Rattle.dfdl_grammar.specs.Marks.{back, closed, is_settled, marked, pointed}
use Rattle.dfdl_grammar.specs.Questions.{asked_count, question_at}

-- what a sequence with separators has besides its slots: the tables, the meaning of the rows inside it, where its separators stand, and
-- whether initiators resolve the points of its slots
pub record Sequence : Type 0 where
  pub input : Input
  pub table : Table
  pub child : ℕ → State → Outcome
  pub position : SeparatorPosition
  pub initiated : Bool

-- how far a sequence has come, and the bit at which the content of the slot began that was there last
pub record Course : Type 0 where
  pub progress : Progress
  pub last : ℕ

-- what follows in a sequence
abbrev pub Tail : Type 0
Tail = Course → State → Outcome

-- one slot: its row, its rule, what follows where it is there, and what follows where it isn't
pub record Turn : Type 0 where
  pub body : ℕ
  pub rule : SlotRule
  pub more : Tail
  pub none : Tail

-- the occurrence of such a slot is tried
abbrev pub is_tried : SlotRule → Bool
is_tried Required = false
is_tried NeverMissing = true
is_tried TrailingMissing = true
is_tried AnyMissing = true

-- where such a slot isn't there, parsing goes back to before it, whatever came of it
abbrev pub is_taken_back : SlotRule → Bool
is_taken_back Required = false
is_taken_back NeverMissing = false
is_taken_back TrailingMissing = true
is_taken_back AnyMissing = true

-- The point of a slot is opened before the separator that it begins with, where parsing can go back to before that one: so the bits before it
-- stay needed while it is sought.
abbrev pub opens_before : Here → Bool
opens_before here = is_taken_back here.rule && begins here

-- a mark that is no point is open around the point of a slot: parsing goes back there where the point is resolved, too
abbrev pub has_mark : Here → Bool
has_mark here = opens_before here || (is_taken_back here.rule && ends here)

-- the state at which the marks of a slot are open
abbrev pub opened_slot : Sequence → Here → State → State
opened_slot sequence here s =
    if is_tried here.rule then pointed sequence.initiated (if has_mark here then marked s else s) else s

-- the marks of a slot are closed
abbrev pub closed_slot : Here → State → State
closed_slot here s = if is_tried here.rule then (if has_mark here then closed (closed s) else closed s) else s

-- a slot is taken back: the state is that before it
abbrev pub taken_back : Here → State → State
taken_back here s = closed_slot here (back s)

-- the occurrence of a slot is taken back: its content begins at this bit
abbrev pub emptied : ℕ → State → State
emptied content s = record (back s) { at = content }

-- a text was found
abbrev pub is_found : Longest → Bool
is_found (Text which bits) = nat_lt 0 bits
is_found NoText = false

-- a text of the list at a place was found
abbrev pub is_found_at : ℕ → Longest → Bool
is_found_at place (Text which bits) = nat_eq which place && nat_lt 0 bits
is_found_at place NoText = false

-- whether terminating markup stands at the next whole byte behind a bit
abbrev pub markup_follows : List Opened → ℕ → ℕ → Ask Bool
markup_follows lists bit stop = and_then (sought_among lists bit stop) (λ found. Answer (is_found found))

-- whether a slot is empty whose content begins at a bit: the box or the data end there, or terminating markup matches
abbrev pub is_empty_at : List Opened → ℕ → ℕ → Ask Bool
is_empty_at lists bit stop =
    if nat_le stop bit then Answer true
    else and_then (look_at 1 (bit / 8) true (λ bytes. false)) (λ over. if over then Answer true else markup_follows lists bit stop)

-- whether a text of the list at a place among some lists stands at the next whole byte behind a bit
abbrev pub separator_follows : List Opened → ℕ → ℕ → ℕ → Ask Bool
separator_follows lists place bit stop = and_then (sought_among lists bit stop) (λ found. Answer (is_found_at place found))

-- what a question that leaves the state where it is comes to
abbrev pub told : Limits → (Bool → State → Outcome) → Reached Bool → State → Outcome
told limits next (Told answer) s = next answer s
told limits next TooFar s = ended (Stopped (Limit Window) limits.window) s
told limits next Missing s = ended Done s

-- a question that leaves the state where it is, and what follows
abbrev pub peek : Input → Ask Bool → (Bool → State → Outcome) → State → Outcome
peek input question next s =
    let reading : Reading Bool = ask (seen_in input.bytes input.limits.window (anchor s)) question nothing in
    spend (needs_from (anchor s) reading.tally) (told input.limits next reading.reached s)

-- whether the slot is empty whose content comes next
abbrev pub ask_empty : Sequence → State → Ask Bool
ask_empty sequence s = is_empty_at (lists_of sequence.table.delimiters (markup s)) s.at s.stop

-- whether a separator of the sequence comes next
abbrev pub ask_separator : Sequence → State → Ask Bool
ask_separator sequence s = separator_follows (lists_of sequence.table.delimiters (markup s)) (length (markup s) - 1) s.at s.stop

-- a slot that was there, whose content began at this bit
abbrev pub taken : Progress → ℕ → Course
taken progress content = record { progress = progress; last = content }

-- a slot that wasn't there
abbrev pub untaken : Course → Progress → Course
untaken course progress = record course { progress = progress }

-- what a move makes of a slot behind whose occurrence a separator was sought, of whose search this is the outcome
abbrev pub settle : Turn → Here → Course → ℕ → Progress → SlotMove → Outcome → Outcome
settle turn here course content after Keep o = spend o.tally (turn.more (taken after content) (closed_slot here o.state))
settle turn here course content after Drop o = spend o.tally (turn.more (taken after content) (closed_slot here o.state))
settle turn here course content after EndArray o = spend o.tally (turn.none (untaken course after) (taken_back here o.state))
settle turn here course content after (Fail fault) o = record o { state = closed_slot here o.state }
settle turn here course content after TakeSeparator o = o
settle turn here course content after LookForSeparator o = o
settle turn here course content after Parse o = o
settle turn here course content after EndGroup o = o

-- the same, by whether it was found
abbrev pub settled_by : Turn → Course → ℕ → Bool → Outcome → Outcome
settled_by turn course content found o =
    settle turn (here_of course.progress turn.rule) course content (group_after course.progress (seen.Separator found))
    (move_at course.progress (seen.Separator found)) o

-- after this end of the search for the separator that a slot ends with
abbrev pub after_closing : Turn → Course → ℕ → End → Outcome → Outcome
after_closing turn course content Done o = settled_by turn course content true o
after_closing turn course content (Failed cause bit) o = settled_by turn course content false o
after_closing turn course content (Stopped cause quantity) o = o

-- the occurrence of a slot gives no item, and neither its failure nor its place counts
abbrev pub is_blank : SlotOutcome → Bool
is_blank Item = false
is_blank Unmoved = false
is_blank Blank = true
is_blank (Broken cause) = false
is_blank (Resolved cause) = false

-- What a move makes of a slot whose occurrence came to this outcome, blank or not; the progress behind it knows what is sought next. A
-- separator costs what a row does.
abbrev pub decide : Sequence → Turn → Here → Course → ℕ → Bool → Progress → SlotMove → Outcome → Outcome
decide sequence turn here course content blank after Keep o = spend o.tally (turn.more (taken after content) (closed_slot here o.state))
decide sequence turn here course content blank after Drop o =
    spend o.tally (turn.more (taken after content) (closed_slot here (emptied content o.state)))
decide sequence turn here course content blank after EndArray o = spend o.tally (turn.none (untaken course after) (taken_back here o.state))
decide sequence turn here course content blank after (Fail fault) o = record o { state = closed_slot here o.state }
decide sequence turn here course content blank after TakeSeparator o =
    let closing : Outcome = separator sequence.input sequence.table.delimiters (if blank then emptied content o.state else o.state) in
    spend o.tally (spend one_row (after_closing turn (untaken course after) content closing.end closing))
decide sequence turn here course content blank after LookForSeparator o =
    let s : State = if blank then emptied content o.state else o.state in
    spend o.tally (peek sequence.input (ask_separator sequence s) (λ found t. settled_by turn (untaken course after) content found (ended Done t)) s)
decide sequence turn here course content blank after Parse o = o
decide sequence turn here course content blank after EndGroup o = o

-- the same, by what there is to see of the occurrence
abbrev pub decided_by : Sequence → Turn → Course → ℕ → Bool → Bool → Option ParseCause → Outcome → Outcome
decided_by sequence turn course content empty moved failure o =
    let resolved : Bool = is_settled o.state.marks in
    decide sequence turn (here_of course.progress turn.rule) course content (is_blank (outcome moved empty failure resolved))
    (group_after course.progress (seen.Ended moved empty failure resolved)) (move_at course.progress (seen.Ended moved empty failure resolved)) o

-- after this end of the occurrence of a slot, which was empty or not, whose content began at this bit
abbrev pub after_content : Sequence → Turn → Course → ℕ → Bool → End → Outcome → Outcome
after_content sequence turn course content empty Done o = decided_by sequence turn course content empty (nat_lt content o.state.at) None o
after_content sequence turn course content empty (Failed cause bit) o = decided_by sequence turn course content empty false (Some cause) o
after_content sequence turn course content empty (Stopped cause quantity) o = o

-- the occurrence of a slot, which is empty or not; its marks are open where it is tried
abbrev pub occur : Sequence → Turn → Course → Bool → State → Outcome
occur sequence turn course empty s =
    let o : Outcome = occurring (is_tried turn.rule) (sequence.child turn.body) s in after_content sequence turn course s.at empty o.end o

-- the content of a slot begins: where its occurrence is tried, it is looked whether it is empty, and its marks are opened, unless they are open
abbrev pub content : Sequence → Turn → Course → State → Outcome
content sequence turn course s =
    if is_tried turn.rule
    then peek sequence.input (ask_empty sequence s) (λ empty t. occur sequence turn course empty
    (if opens_before (here_of course.progress turn.rule) then t else opened_slot sequence (here_of course.progress turn.rule) t)) s
    else occur sequence turn course false s

-- a slot without the separator that it begins with: the sequence fails there, or the slot isn't there
abbrev pub without_separator : Turn → Here → Course → Progress → SlotMove → Outcome → Outcome
without_separator turn here course after (Fail fault) o = o
without_separator turn here course after EndArray o =
    spend o.tally (turn.none (untaken course after) (if opens_before here then taken_back here o.state else o.state))
without_separator turn here course after move o = o

-- after this end of the search for the separator that a slot begins with
abbrev pub after_separator : Sequence → Turn → Course → End → Outcome → Outcome
after_separator sequence turn course Done o =
    spend o.tally (content sequence turn (untaken course (group_after course.progress (seen.Separator true))) o.state)
after_separator sequence turn course (Failed cause bit) o =
    without_separator turn (here_of course.progress turn.rule) course (group_after course.progress (seen.Separator false))
    (move_at course.progress (seen.Separator false)) o
after_separator sequence turn course (Stopped cause quantity) o = o

-- a slot begins, by the first move in it
abbrev pub begin : Sequence → Turn → Here → Course → Progress → SlotMove → State → Outcome
begin sequence turn here course after TakeSeparator s =
    let o : Outcome = separator sequence.input sequence.table.delimiters (if opens_before here then opened_slot sequence here s else s) in
    spend one_row (after_separator sequence turn (untaken course after) o.end o)
begin sequence turn here course after Parse s = content sequence turn (untaken course after) s
begin sequence turn here course after EndArray s = turn.none (untaken course after) s
begin sequence turn here course after (Fail fault) s = ended (Failed SeparatorMissing s.at) s
begin sequence turn here course after move s = ended Done s

-- a slot whose occurrence is tried or not, and is of kind parsed or not, of the row of this number
abbrev pub slot : Sequence → Bool → Bool → ℕ → Tail → Tail → Tail
slot sequence optional parsed body more none course s =
    let rule : SlotRule = rule_of course.progress.policy optional parsed in
    begin sequence (record { body = body; rule = rule; more = more; none = none }) (here_of course.progress rule) course
    (group_after course.progress (seen.Slot optional parsed)) (move_at course.progress (seen.Slot optional parsed)) s

-- so many such slots of one row; the first that isn't there ends them
unfoldable pub times : Sequence → Bool → Bool → ℕ → ℕ → Tail → Tail
times sequence optional parsed body zero next course s = next course s
times sequence optional parsed body (suc left) next course s =
    slot sequence optional parsed body (times sequence optional parsed body left next) next course s

-- behind the last slot the sequence is done, or fails where the content of the slot began that was there last
abbrev pub ended_by : SlotMove → Course → State → Outcome
ended_by (Fail fault) course s = ended (Failed EmptyTrailingSlot course.last) s
ended_by move course s = ended Done s

-- the slots of one row: so many that are required, and then those that are tried
abbrev pub in_row : Sequence → Slot → ℕ → Tail → Tail
in_row sequence own least next = times sequence false false own.body least (times sequence true own.is_parsed own.body own.further next)

-- The same, where a question may tell how many are required. It is asked where the first of them would begin, before its separator, and costs
-- what a row does.
abbrev pub told_row : Sequence → Slot → Option ℕ → Tail → Tail
told_row sequence own None next course s = in_row sequence own own.least next course s
told_row sequence own (Some question) next course s =
    spend one_row (asked_count sequence.table (start.Inside s.inside) NegativeCount (λ count after. in_row sequence own count next course after)
    (question_at sequence.table question) s)

-- One row and what follows it. A row without a slot is there once, without a separator, and the sequence has come no further behind it.
abbrev pub then_slots : Sequence → Slot → Tail → Tail
then_slots sequence own next course s =
    if own.is_slotless then then_do (sequence.child own.body s) (next course) else told_row sequence own own.question next course s

-- the slots of some rows, one row after another
abbrev pub in_slots : Sequence → List Slot → Tail
in_slots sequence [] course s = ended_by (ending course.progress) course s
in_slots sequence (own ∷ slots) course s = then_slots sequence own (in_slots sequence slots) course s

-- the slots of a sequence of this policy
abbrev pub separated : Sequence → SeparatorSuppressionPolicy → List Slot → State → Outcome
separated sequence policy slots s = in_slots sequence slots (record { progress = begun policy sequence.position; last = s.at }) s
