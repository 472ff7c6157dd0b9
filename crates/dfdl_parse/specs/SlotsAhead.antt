-- What is ahead in a sequence with separators whose occurrences are tried.
use Rattle.std.specs.Prelude.{ℕ, Bool, true, false, List, [], ◌∷◌, slice_get, if◌then◌else◌}
use Rattle.dfdl_terms.specs.declared.slots.Slot.{Slot}
use Rattle.dfdl_terms.specs.Rows.{Table}
use Rattle.dfdl_report.specs.declared.cause.ParseCause.TheVariants.{NegativeCount}
use Rattle.dfdl_paths.specs.declared.place.Start.TheVariants as start
use Rattle.dfdl_separators.specs.Groups.{here_of}
use Rattle.dfdl_looks.specs.Tallies.{one_row}
use Rattle.dfdl_grammar.specs.declared.end.End.{End}
use Rattle.dfdl_grammar.specs.declared.end.End.TheVariants.{Done, Failed, Stopped}
use Rattle.dfdl_grammar.specs.States.{Input, State}
use Rattle.dfdl_grammar.specs.Outcomes.{Outcome, ended, spend, then_do}
use Rattle.dfdl_grammar.specs.Questions.{asked_count, question_at}
use Rattle.dfdl_grammar.specs.Rows.{below}
use Rattle.dfdl_grammar.specs.Slots.{Course, Sequence, Tail, Turn, after_closing, after_content, after_separator, ask_empty, ask_separator, in_row, in_slots, occur, opened_slot, opens_before, peek, settled_by, times}
use Rattle.dfdl_parse.specs.declared.frame.SlotPlace.{SlotPlace}
use Rattle.dfdl_parse.specs.Slots.{separation_of, slots_from, unslotted, unsought}

-- the sequence of a row
abbrev pub sequence_of : Input → Table → ℕ → Sequence
sequence_of input table id = record {
  input = input;
  table = table;
  child = below input table id;
  position = (separation_of (slice_get table.rows id)).position;
  initiated = (separation_of (slice_get table.rows id)).initiated;
}

-- how far the sequence of a slot has come
abbrev pub course_of : SlotPlace → Course
course_of slot = record { progress = slot.progress; last = slot.last }

-- what follows where so many slots of the first row are left, which are tried or not
abbrev pub following : Sequence → Bool → ℕ → Slot → List Slot → Tail
following sequence true left own slots = times sequence true own.is_parsed own.body left (in_slots sequence slots)
following sequence false left own slots = in_row sequence own left (in_slots sequence slots)

-- the turn of a slot
abbrev pub turn_of : Sequence → SlotPlace → Slot → List Slot → Turn
turn_of sequence slot own slots = record {
  body = own.body;
  rule = slot.rule;
  more = following sequence slot.optional slot.left own slots;
  none = following sequence slot.optional 0 own slots;
}

-- after this end of an outcome in a slot: its marks are closed, but behind a limit
abbrev pub outside : (State → State) → End → Outcome → Outcome
outside close Done o = record o { state = close o.state }
outside close (Failed cause bit) o = record o { state = close o.state }
outside close (Stopped cause quantity) o = o

-- what follows the search for the separator that a slot begins with
abbrev pub before_slot : Sequence → SlotPlace → List Slot → Outcome → Outcome
before_slot sequence slot [] o = outside (unsought slot) o.end o
before_slot sequence slot (own ∷ slots) o = after_separator sequence (turn_of sequence slot own slots) (course_of slot) o.end o

-- what follows the occurrence of a slot
abbrev pub content_slot : Sequence → SlotPlace → ℕ → Bool → List Slot → Outcome → Outcome
content_slot sequence slot bit empty [] o = outside (unslotted slot) o.end o
content_slot sequence slot bit empty (own ∷ slots) o =
    after_content sequence (turn_of sequence slot own slots) (course_of slot) bit empty o.end o

-- what follows the search for the separator that a slot ends with
abbrev pub closing_slot : Sequence → SlotPlace → ℕ → List Slot → Outcome → Outcome
closing_slot sequence slot bit [] o = outside (unslotted slot) o.end o
closing_slot sequence slot bit (own ∷ slots) o = after_closing (turn_of sequence slot own slots) (course_of slot) bit o.end o

-- the occurrence of a slot, behind the question whether it is empty
abbrev pub occur_in : Sequence → SlotPlace → Slot → List Slot → Bool → State → Outcome
occur_in sequence slot own slots empty t =
    occur sequence (turn_of sequence slot own slots) (course_of slot) empty
    (if opens_before (here_of slot.progress slot.rule) then t else opened_slot sequence (here_of slot.progress slot.rule) t)

-- whether a slot is empty, and its occurrence
abbrev pub asked_in : Sequence → SlotPlace → List Slot → State → Outcome
asked_in sequence slot [] s = ended Done (unsought slot s)
asked_in sequence slot (own ∷ slots) s = peek sequence.input (ask_empty sequence s) (occur_in sequence slot own slots) s

-- whether a separator follows a slot, and what it comes to
abbrev pub asked_behind : Sequence → SlotPlace → ℕ → List Slot → State → Outcome
asked_behind sequence slot bit [] s = ended Done (unslotted slot s)
asked_behind sequence slot bit (own ∷ slots) s =
    peek sequence.input (ask_separator sequence s)
    (λ found t. settled_by (turn_of sequence slot own slots) (course_of slot) bit found (ended Done t)) s

-- what follows a row that has no slot
abbrev pub beside_slots : Input → Table → SlotPlace → Outcome → Outcome
beside_slots input table slot o = then_do o (in_slots (sequence_of input table slot.sequence) (slots_from table slot) (course_of slot))

-- the slots of some rows, where it is asked how many of the first are required
abbrev pub asked_slots : Sequence → SlotPlace → ℕ → List Slot → State → Outcome
asked_slots sequence slot question [] s = spend one_row (ended Done s)
asked_slots sequence slot question (own ∷ slots) s =
    spend one_row (asked_count sequence.table (start.Inside s.inside) NegativeCount
    (λ count after. in_row sequence own count (in_slots sequence slots) (course_of slot) after) (question_at sequence.table question) s)
