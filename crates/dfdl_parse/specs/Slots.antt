-- The steps of a sequence with separators whose occurrences are tried.
use Rattle.std.specs.Prelude.{ℕ, ◌+◌, ◌-◌, nat_eq, Bool, true, false, ◌&&◌, List, [], ◌∷◌, drop, length, Option, Some, None, Result, Ok, Err, slice_get, if◌then◌else◌}
use Rattle.dfdl_bits.specs.Window.{Held, from_byte, seen_at}
use Rattle.dfdl_report.specs.declared.cause.LimitCause.TheVariants.{Window}
use Rattle.dfdl_report.specs.declared.cause.ParseCause.{ParseCause}
use Rattle.dfdl_report.specs.declared.cause.ParseCause.TheVariants.{EmptyTrailingSlot, ExpressionFault, NegativeCount, SeparatorMissing}
use Rattle.dfdl_paths.specs.declared.place.Start.TheVariants as start
use Rattle.dfdl_separators.specs.declared.moves.SlotMove.{SlotMove}
use Rattle.dfdl_separators.specs.declared.moves.SlotMove.TheVariants.{TakeSeparator, LookForSeparator, Parse, Keep, Drop, EndArray, EndGroup, Fail}
use Rattle.dfdl_separators.specs.declared.moves.SlotSeen.TheVariants as seen
use Rattle.dfdl_separators.specs.declared.policy.SeparatorPosition.{SeparatorPosition}
use Rattle.dfdl_separators.specs.declared.policy.SeparatorPosition.TheVariants.{Infix}
use Rattle.dfdl_separators.specs.declared.policy.SeparatorSuppressionPolicy.{SeparatorSuppressionPolicy}
use Rattle.dfdl_separators.specs.declared.progress.Progress.{Progress}
use Rattle.dfdl_separators.specs.declared.verdict.Here.{Here}
use Rattle.dfdl_separators.specs.declared.verdict.SlotRule.{SlotRule}
use Rattle.dfdl_separators.specs.declared.verdict.SlotRule.TheVariants.{Required}
use Rattle.dfdl_separators.specs.Groups.{begun, ending, group_after, here_of, move_at}
use Rattle.dfdl_separators.specs.Verdicts.{outcome, rule_of}
use Rattle.dfdl_terms.specs.declared.delimiters.Delimiters.{Delimiters}
use Rattle.dfdl_terms.specs.declared.row.Row.{Row}
use Rattle.dfdl_terms.specs.declared.row.Row.TheVariants.{Separated}
use Rattle.dfdl_terms.specs.declared.slots.Slot.{Slot}
use Rattle.dfdl_terms.specs.Rows.{Table}
use Rattle.dfdl_looks.specs.Asks.{Reached, Told, TooFar, Missing, Reading, ask}
use Rattle.dfdl_looks.specs.Tallies.{Tally, needs_from, nothing, one_row, plus}
use Rattle.dfdl_grammar.specs.declared.end.End.{End}
use Rattle.dfdl_grammar.specs.declared.end.End.TheVariants.{Done, Failed, Stopped}
use Rattle.dfdl_grammar.specs.declared.end.Halt.TheVariants.{Limit}
use Rattle.dfdl_grammar.specs.declared.limits.Limits.{Limits}
use Rattle.dfdl_grammar.specs.States.{State, anchor}
use Rattle.dfdl_grammar.specs.Marks.{is_settled, marked, pointed}
use Rattle.dfdl_grammar.specs.Delimiters.{lists_of, markup}
use Rattle.dfdl_grammar.specs.Questions.{question_at}
use Rattle.dfdl_grammar.specs.Occurrences.{as_occurrence}
use Rattle.dfdl_grammar.specs.Slots.{closed_slot, emptied, has_mark, is_blank, is_empty_at, is_tried, opens_before, separator_follows, taken_back}
use Rattle.dfdl_parse.specs.declared.frame.Coming.{Coming}
use Rattle.dfdl_parse.specs.declared.frame.Coming.TheVariants.{Past, Seeks, Parses, Counts, Aside, Lacks, Over}
use Rattle.dfdl_parse.specs.declared.frame.Frame.{Frame}
use Rattle.dfdl_parse.specs.declared.frame.Frame.TheVariants.{Before, Content, Closing, Aside as AsideFrame}
use Rattle.dfdl_parse.specs.declared.frame.Focus.{Focus}
use Rattle.dfdl_parse.specs.declared.frame.Focus.TheVariants.{Enter, Seek, LookIn, LookBehind, Count, Leave}
use Rattle.dfdl_parse.specs.declared.frame.SlotPlace.{SlotPlace}
use Rattle.dfdl_parse.specs.declared.frame.Sought.TheVariants.{Separator}
use Rattle.dfdl_parse.specs.Asking.{behind_question, count_told, given_by}
use Rattle.dfdl_parse.specs.Moves.{Move, pass}

-- what the row of such a sequence says of it
pub record Separation : Type 0 where
  pub position : SeparatorPosition
  pub initiated : Bool
  pub slots : List Slot

-- the same by the row; of another row nothing
abbrev pub separation_of : Option Row → Separation
separation_of (Some (Separated policy position initiated slots)) = record { position = position; initiated = initiated; slots = slots }
separation_of row = record { position = Infix; initiated = false; slots = [] }

-- the sequence that a slot is one of
abbrev pub separation_at : Table → SlotPlace → Separation
separation_at table slot = separation_of (slice_get table.rows slot.sequence)

-- the slots of its sequence from a slot on
abbrev pub slots_from : Table → SlotPlace → List Slot
slots_from table slot = drop slot.place (separation_at table slot).slots

-- the slots of its sequence behind a slot
abbrev pub later_than : Table → SlotPlace → List Slot
later_than table slot = drop (slot.place + 1) (separation_at table slot).slots

-- the marks of a slot are opened, whose point an initiator resolves or not
abbrev pub opened_at : Bool → Here → State → State
opened_at initiated here s = if is_tried here.rule then pointed initiated (if has_mark here then marked s else s) else s

-- a slot that begins, by the first move in it
abbrev pub begins_by : SlotPlace → Slot → SlotRule → Progress → SlotMove → Coming
begins_by slot own rule after TakeSeparator = Seeks (record slot { rule = rule; left = slot.left - 1; progress = after }) (here_of slot.progress rule)
begins_by slot own rule after Parse = Parses (record slot { rule = rule; left = slot.left - 1; progress = after }) own.body
begins_by slot own rule after EndArray = Past after
begins_by slot own rule after (Fail fault) = Lacks
begins_by slot own rule after move = Over

-- the first of some slots of one row, of which so many are left
abbrev pub first_of : SlotPlace → Slot → Coming
first_of slot own =
    if nat_eq slot.left 0 then Past slot.progress
    else begins_by slot own (rule_of slot.progress.policy slot.optional (slot.optional && own.is_parsed))
    (group_after slot.progress (seen.Slot slot.optional (slot.optional && own.is_parsed)))
    (move_at slot.progress (seen.Slot slot.optional (slot.optional && own.is_parsed)))

-- one of those, or of others that follow
abbrev pub or_next : Coming → (Progress → Coming) → Coming
or_next (Past progress) next = next progress
or_next (Seeks slot here) next = Seeks slot here
or_next (Parses slot body) next = Parses slot body
or_next (Counts slot question) next = Counts slot question
or_next (Aside slot body) next = Aside slot body
or_next Lacks next = Lacks
or_next Over next = Over

-- behind those of a row that are required those follow that are tried
abbrev pub then_tried : SlotPlace → Slot → Progress → Coming
then_tried slot own progress =
    if slot.optional then Past progress else first_of (record slot { optional = true; left = own.further; progress = progress }) own

-- the first slot of a row from a place on
abbrev pub first_here : SlotPlace → Slot → Coming
first_here slot own = or_next (first_of slot own) (then_tried slot own)

-- the first slot of a row, of which a question may tell how many are required
abbrev pub first_told : SlotPlace → Slot → Option ℕ → Coming
first_told slot own None = first_here (record slot { optional = false; left = own.least }) own
first_told slot own (Some question) = Counts slot question

-- the same, or the row itself, if it has none
abbrev pub first_row : SlotPlace → Slot → Coming
first_row slot own = if own.is_slotless then Aside (record slot { place = slot.place + 1 }) own.body else first_told slot own own.question

-- the first slot of some rows, of which the first has this place
abbrev pub first_in : SlotPlace → List Slot → Coming
first_in slot [] = Past slot.progress
first_in slot (own ∷ slots) =
    or_next (first_row slot own) (λ progress. first_in (record slot { place = slot.place + 1; progress = progress }) slots)

-- the slot of a row from a place on, or the first one behind them
abbrev pub coming_from : SlotPlace → Slot → List Slot → Coming
coming_from slot own slots =
    or_next (first_here slot own) (λ progress. first_in (record slot { place = slot.place + 1; progress = progress }) slots)

-- the sequence ends, by its last move
abbrev pub sequence_ends : Tally → Held → SlotMove → ℕ → List Frame → State → Move
sequence_ends cost held (Fail fault) last k s = pass cost held (Leave (Failed EmptyTrailingSlot last)) k s
sequence_ends cost held move last k s = pass cost held (Leave Done) k s

-- the content of a slot begins: it is looked whether it is empty, where its occurrence is tried
abbrev pub content_begins : Tally → Held → SlotPlace → ℕ → List Frame → State → Move
content_begins cost held slot body k s =
    if is_tried slot.rule then pass cost held (LookIn slot) k s
    else pass cost held (Enter body) (Content slot s.at false ∷ k) (as_occurrence (is_tried slot.rule) s)

-- what comes next in a sequence begins
abbrev pub comes : Tally → Held → Bool → ℕ → Coming → List Frame → State → Move
comes cost held initiated last (Past progress) k s = sequence_ends cost held (ending progress) last k s
comes cost held initiated last (Seeks slot here) k s =
    pass (plus cost one_row) held (Seek Separator) (Before slot ∷ k) (if opens_before here then opened_at initiated here s else s)
comes cost held initiated last (Parses slot body) k s = content_begins cost held slot body k s
comes cost held initiated last (Counts slot question) k s = pass cost held (Count slot question) k s
comes cost held initiated last (Aside slot body) k s = pass cost held (Enter body) (AsideFrame slot ∷ k) s
comes cost held initiated last Lacks k s = pass cost held (Leave (Failed SeparatorMissing s.at)) k s
comes cost held initiated last Over k s = pass cost held (Leave Done) k s

-- a sequence begins, of the row of this number
abbrev pub enter_separated : Held → ℕ → SeparatorSuppressionPolicy → SeparatorPosition → Bool → List Slot → List Frame → State → Move
enter_separated held id policy position initiated slots k s =
    comes one_row held initiated s.at
    (first_in (record { sequence = id; place = 0; optional = false; rule = Required; left = 0; progress = begun policy position; last = s.at }) slots) k s

-- the sequence goes on behind a slot
abbrev pub goes_on : Tally → Held → Bool → SlotPlace → Slot → List Slot → List Frame → State → Move
goes_on cost held initiated slot own slots k s = comes cost held initiated slot.last (coming_from slot own slots) k s

-- the sequence goes on behind a row that has no slot
abbrev pub goes_beside : Held → Bool → SlotPlace → List Slot → List Frame → State → Move
goes_beside held initiated slot slots k s = comes nothing held initiated slot.last (first_in slot slots) k s

-- so many slots of a row are required, if that is told
abbrev pub counted_slots : Held → Bool → SlotPlace → Slot → List Slot → Result (Option ℕ) ℕ → List Frame → State → Move
counted_slots held initiated slot own slots (Ok (Some count)) k s =
    goes_on one_row held initiated (record slot { optional = false; left = count }) own slots k s
counted_slots held initiated slot own slots (Ok None) k s = pass one_row held (Leave (Failed NegativeCount s.at)) k s
counted_slots held initiated slot own slots (Err fault) k s = pass one_row held (Leave (Failed (ExpressionFault fault) s.at)) k s

-- the question of this number is asked how many slots of the first row are required
abbrev pub count_slots : Table → Held → Bool → SlotPlace → ℕ → List Slot → List Frame → State → Move
count_slots table held initiated slot question [] k s = pass one_row held (Leave Done) k s
count_slots table held initiated slot question (own ∷ slots) k s =
    counted_slots held initiated slot own slots (count_told (given_by table (start.Inside s.inside) (question_at table question) s)) k
    (behind_question table (start.Inside s.inside) question s)

-- what a move makes of a slot whose separator behind it was sought, at this end
abbrev pub settle : Tally → Held → Bool → SlotPlace → ℕ → Slot → List Slot → Progress → SlotMove → End → List Frame → State → Move
settle cost held initiated slot bit own slots after Keep end k s =
    goes_on cost held initiated (record slot { progress = after; last = bit }) own slots k (closed_slot (here_of slot.progress slot.rule) s)
settle cost held initiated slot bit own slots after Drop end k s =
    goes_on cost held initiated (record slot { progress = after; last = bit }) own slots k (closed_slot (here_of slot.progress slot.rule) s)
settle cost held initiated slot bit own slots after EndArray end k s =
    goes_on cost held initiated (record slot { progress = after; left = 0 }) own slots k (taken_back (here_of slot.progress slot.rule) s)
settle cost held initiated slot bit own slots after (Fail fault) end k s =
    pass cost held (Leave end) k (closed_slot (here_of slot.progress slot.rule) s)
settle cost held initiated slot bit own slots after move end k s = pass cost held (Leave end) k s

-- the same, by whether it was found
abbrev pub settled : Tally → Held → Bool → SlotPlace → ℕ → Slot → List Slot → Bool → End → List Frame → State → Move
settled cost held initiated slot bit own slots found end k s =
    settle cost held initiated slot bit own slots (group_after slot.progress (seen.Separator found)) (move_at slot.progress (seen.Separator found)) end k s

-- what a move makes of a slot whose occurrence has come to this end, blank or not
abbrev pub decide : Held → Bool → SlotPlace → ℕ → Slot → List Slot → Bool → Progress → SlotMove → End → List Frame → State → Move
decide held initiated slot bit own slots blank after Keep end k s =
    goes_on nothing held initiated (record slot { progress = after; last = bit }) own slots k (closed_slot (here_of slot.progress slot.rule) s)
decide held initiated slot bit own slots blank after Drop end k s =
    goes_on nothing held initiated (record slot { progress = after; last = bit }) own slots k (closed_slot (here_of slot.progress slot.rule) (emptied bit s))
decide held initiated slot bit own slots blank after EndArray end k s =
    goes_on nothing held initiated (record slot { progress = after; left = 0 }) own slots k (taken_back (here_of slot.progress slot.rule) s)
decide held initiated slot bit own slots blank after (Fail fault) end k s =
    pass nothing held (Leave end) k (closed_slot (here_of slot.progress slot.rule) s)
decide held initiated slot bit own slots blank after TakeSeparator end k s =
    pass one_row held (Seek Separator) (Closing (record slot { progress = after }) bit ∷ k) (if blank then emptied bit s else s)
decide held initiated slot bit own slots blank after LookForSeparator end k s =
    pass nothing held (LookBehind (record slot { progress = after }) bit) k (if blank then emptied bit s else s)
decide held initiated slot bit own slots blank after Parse end k s = pass nothing held (Leave end) k s
decide held initiated slot bit own slots blank after EndGroup end k s = pass nothing held (Leave end) k s

-- the same, by what there is to see of the occurrence
abbrev pub decided : Held → Bool → SlotPlace → ℕ → Bool → Slot → List Slot → Bool → Option ParseCause → End → List Frame → State → Move
decided held initiated slot bit empty own slots moved failure end k s =
    decide held initiated slot bit own slots (is_blank (outcome moved empty failure (is_settled s.marks)))
    (group_after slot.progress (seen.Ended moved empty failure (is_settled s.marks)))
    (move_at slot.progress (seen.Ended moved empty failure (is_settled s.marks))) end k s

-- a slot without the separator that it begins with, at this end of the search
abbrev pub without_separator : Held → Bool → SlotPlace → Slot → List Slot → Progress → SlotMove → End → List Frame → State → Move
without_separator held initiated slot own slots after EndArray end k s =
    goes_on nothing held initiated (record slot { progress = after; left = 0 }) own slots k
    (if opens_before (here_of slot.progress slot.rule) then taken_back (here_of slot.progress slot.rule) s else s)
without_separator held initiated slot own slots after move end k s = pass nothing held (Leave end) k s

-- the marks are closed that are open while the separator is sought that a slot begins with
abbrev pub unsought : SlotPlace → State → State
unsought slot s = if opens_before (here_of slot.progress slot.rule) then closed_slot (here_of slot.progress slot.rule) s else s

-- the marks of a slot are closed
abbrev pub unslotted : SlotPlace → State → State
unslotted slot s = closed_slot (here_of slot.progress slot.rule) s

-- the search for the separator that a slot begins with is done
abbrev pub before_done : Held → SlotPlace → List Slot → List Frame → State → Move
before_done held slot [] k s = pass nothing held (Leave Done) k (unsought slot s)
before_done held slot (own ∷ slots) k s =
    content_begins nothing held (record slot { progress = group_after slot.progress (seen.Separator true) }) own.body k s

-- that search has failed, at this end
abbrev pub before_failed : Held → Bool → SlotPlace → List Slot → End → List Frame → State → Move
before_failed held initiated slot [] end k s = pass nothing held (Leave end) k (unsought slot s)
before_failed held initiated slot (own ∷ slots) end k s =
    without_separator held initiated slot own slots (group_after slot.progress (seen.Separator false)) (move_at slot.progress (seen.Separator false)) end k s

-- the occurrence of a slot has come to this end, by whether it moved over a bit, and why it failed, if it did
abbrev pub content_ended : Held → Bool → SlotPlace → ℕ → Bool → List Slot → Bool → Option ParseCause → End → List Frame → State → Move
content_ended held initiated slot bit empty [] moved failure end k s = pass nothing held (Leave end) k (unslotted slot s)
content_ended held initiated slot bit empty (own ∷ slots) moved failure end k s =
    decided held initiated slot bit empty own slots moved failure end k s

-- the cause of a failure
abbrev pub cause_of : End → Option ParseCause
cause_of Done = None
cause_of (Failed cause bit) = Some cause
cause_of (Stopped cause quantity) = None

-- the search for the separator that a slot ends with has come to this end, and has found it or not
abbrev pub closing_ended : Held → Bool → SlotPlace → ℕ → List Slot → Bool → End → List Frame → State → Move
closing_ended held initiated slot bit [] found end k s = pass nothing held (Leave end) k (unslotted slot s)
closing_ended held initiated slot bit (own ∷ slots) found end k s = settled nothing held initiated slot bit own slots found end k s

-- the step of a question that leaves the state where it is, by its answer: as it was, where a byte hasn't come
abbrev pub told_move : Limits → Focus → Held → Tally → (Bool → Move) → Reached Bool → List Frame → State → Move
told_move limits focus sight cost next (Told answer) k s = next answer
told_move limits focus sight cost next TooFar k s = pass cost sight (Leave (Stopped (Limit Window) limits.window)) k s
told_move limits focus sight cost next Missing k s = record {
  tally = cost;
  machine = record { focus = focus; stack = k; state = s };
  held = sight;
  waits = true;
}

-- the occurrence of a slot begins, which is empty or not
abbrev pub occurs : Tally → Held → Bool → SlotPlace → ℕ → List Frame → State → Bool → Move
occurs cost held initiated slot body k s empty =
    pass cost held (Enter body) (Content slot s.at empty ∷ k)
    (as_occurrence (is_tried slot.rule) (if opens_before (here_of slot.progress slot.rule) then s else opened_at initiated (here_of slot.progress slot.rule) s))

-- the step by which it is known whether a slot is empty, of which this is the reading
abbrev pub in_move : Limits → Held → Bool → SlotPlace → ℕ → Reading Bool → List Frame → State → Move
in_move limits sight initiated slot body reading k s =
    told_move limits (LookIn slot) sight (needs_from sight.base reading.tally)
    (occurs (needs_from sight.base reading.tally) sight initiated slot body k s) reading.reached k s

-- whether a slot is empty, which gives up the bytes that are no longer needed
abbrev pub look_in : Limits → List Delimiters → Held → Bool → SlotPlace → List Slot → List Frame → State → Move
look_in limits delimiters held initiated slot [] k s = pass nothing held (Leave Done) k (unsought slot s)
look_in limits delimiters held initiated slot (own ∷ slots) k s =
    let sight : Held = from_byte held (anchor s) in
    in_move limits sight initiated slot own.body (ask (seen_at sight) (is_empty_at (lists_of delimiters (markup s)) s.at s.stop) nothing) k s

-- the step by which it is known whether a separator follows, of which this is the reading
abbrev pub behind_move : Limits → Held → Bool → SlotPlace → ℕ → Slot → List Slot → Reading Bool → List Frame → State → Move
behind_move limits sight initiated slot bit own slots reading k s =
    told_move limits (LookBehind slot bit) sight (needs_from sight.base reading.tally)
    (λ found. settled (needs_from sight.base reading.tally) sight initiated slot bit own slots found Done k s) reading.reached k s

-- whether a separator follows, which gives up the bytes that are no longer needed
abbrev pub look_behind : Limits → List Delimiters → Held → Bool → SlotPlace → ℕ → List Slot → List Frame → State → Move
look_behind limits delimiters held initiated slot bit [] k s = pass nothing held (Leave Done) k (unslotted slot s)
look_behind limits delimiters held initiated slot bit (own ∷ slots) k s =
    let sight : Held = from_byte held (anchor s) in
    behind_move limits sight initiated slot bit own slots
    (ask (seen_at sight) (separator_follows (lists_of delimiters (markup s)) (length (markup s) - 1) s.at s.stop) nothing) k s
