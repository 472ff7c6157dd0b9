-- The slots of a sequence stop by a limit on data alone.
use Rattle.std.proofs.Common.{ℕ, zero, suc, Bool, true, false, cond, nat_lt, List, [], ◌∷◌, Option, Some, None}
use Rattle.dfdl_report.specs.declared.cause.ParseCause.{ParseCause}
use Rattle.dfdl_report.specs.declared.cause.ParseCause.TheVariants.{NegativeCount}
use Rattle.dfdl_paths.specs.declared.place.Start.TheVariants as start
use Rattle.dfdl_looks.specs.Asks.{Ask, Reached, Told, TooFar, Missing, ask}
use Rattle.dfdl_looks.specs.Looks.{seen_in}
use Rattle.dfdl_looks.specs.Tallies.{nothing}
use Rattle.dfdl_separators.specs.declared.moves.SlotMove.{SlotMove}
use Rattle.dfdl_separators.specs.declared.moves.SlotMove.TheVariants.{TakeSeparator, LookForSeparator, Parse, Keep, Drop, EndArray, EndGroup, Fail}
use Rattle.dfdl_separators.specs.declared.moves.SlotSeen.TheVariants as seen
use Rattle.dfdl_separators.specs.declared.policy.SeparatorSuppressionPolicy.{SeparatorSuppressionPolicy}
use Rattle.dfdl_separators.specs.declared.progress.Progress.{Progress}
use Rattle.dfdl_separators.specs.declared.verdict.Here.{Here}
use Rattle.dfdl_separators.specs.declared.verdict.SlotRule.{SlotRule}
use Rattle.dfdl_separators.specs.Groups.{begun, ending, group_after, here_of, move_at}
use Rattle.dfdl_separators.specs.Verdicts.{outcome, rule_of}
use Rattle.dfdl_terms.specs.declared.slots.Slot.{Slot}
use Rattle.dfdl_grammar.specs.declared.end.End.{End}
use Rattle.dfdl_grammar.specs.declared.end.End.TheVariants.{Done, Failed, Stopped}
use Rattle.dfdl_grammar.specs.States.{Input, State, anchor}
use Rattle.dfdl_grammar.specs.Outcomes.{Outcome, ended, then_do}
use Rattle.dfdl_grammar.specs.Delimiters.{separator}
use Rattle.dfdl_grammar.specs.Marks.{is_settled}
use Rattle.dfdl_grammar.specs.Occurrences.{occurring}
use Rattle.dfdl_grammar.specs.Questions.{question_at}
use Rattle.dfdl_grammar.specs.Slots.{Course, Sequence, Tail, Turn, after_closing, after_content, after_separator, ask_empty, ask_separator, begin, closed_slot, content, decide, decided_by, emptied, ended_by, in_row, in_slots, is_blank, is_tried, occur, opened_slot, opens_before, peek, separated, settle, settled_by, slot, taken, taken_back, then_slots, times, told, told_row, untaken, without_separator}
use Rattle.dfdl_run.proofs.AskedStops.{count-stops}
use Rattle.dfdl_run.proofs.StatedStops.{follow-stops, occurring-stops}
use Rattle.dfdl_run.proofs.Stopping.{AlwaysStops, StopsByData}

told-stops : (input : Input) (next : Bool → State → Outcome) → ((answer : Bool) → AlwaysStops (next answer)) → (reached : Reached Bool)
    → AlwaysStops (told input.limits next reached)
told-stops input next after (Told answer) s = after answer s
told-stops input next after TooFar s = tt
told-stops input next after Missing s = tt

peek-stops : (input : Input) (question : Ask Bool) (next : Bool → State → Outcome) → ((answer : Bool) → AlwaysStops (next answer))
    → AlwaysStops (peek input question next)
peek-stops input question next after s =
    told-stops input next after (ask (seen_in input.bytes input.limits.window (anchor s)) question nothing).reached s

-- what follows in a sequence
abbrev TailStops : Tail → Type 0
TailStops tail = (course : Course) → AlwaysStops (tail course)

module _ (sequence : Sequence) (each : (id : ℕ) → AlwaysStops (sequence.child id))
    (sought : AlwaysStops (separator sequence.input sequence.table.delimiters)) where
  module _ (turn : Turn) (more : TailStops turn.more) (none : TailStops turn.none) where
    settle-stops : (here : Here) (course : Course) (content : ℕ) (after : Progress) (move : SlotMove) (o : Outcome) → StopsByData o.end
        → StopsByData (settle turn here course content after move o).end
    settle-stops here course content after Keep o own = more (taken after content) (closed_slot here o.state)
    settle-stops here course content after Drop o own = more (taken after content) (closed_slot here o.state)
    settle-stops here course content after EndArray o own = none (untaken course after) (taken_back here o.state)
    settle-stops here course content after (Fail fault) o own = own
    settle-stops here course content after TakeSeparator o own = own
    settle-stops here course content after LookForSeparator o own = own
    settle-stops here course content after Parse o own = own
    settle-stops here course content after EndGroup o own = own

    settled-stops : (course : Course) (content : ℕ) (found : Bool) (o : Outcome) → StopsByData o.end
        → StopsByData (settled_by turn course content found o).end
    settled-stops course content found o own =
        settle-stops (here_of course.progress turn.rule) course content (group_after course.progress (seen.Separator found))
        (move_at course.progress (seen.Separator found)) o own

    closing-stops : (course : Course) (content : ℕ) (end : End) (o : Outcome) → StopsByData o.end
        → StopsByData (after_closing turn course content end o).end
    closing-stops course content Done o own = settled-stops course content true o own
    closing-stops course content (Failed cause bit) o own = settled-stops course content false o own
    closing-stops course content (Stopped cause quantity) o own = own

    decide-stops : (here : Here) (course : Course) (content : ℕ) (blank : Bool) (after : Progress) (move : SlotMove) (o : Outcome) → StopsByData o.end
        → StopsByData (decide sequence turn here course content blank after move o).end
    decide-stops here course content blank after Keep o own = more (taken after content) (closed_slot here o.state)
    decide-stops here course content blank after Drop o own = more (taken after content) (closed_slot here (emptied content o.state))
    decide-stops here course content blank after EndArray o own = none (untaken course after) (taken_back here o.state)
    decide-stops here course content blank after (Fail fault) o own = own
    decide-stops here course content blank after TakeSeparator o own =
        let s : State = cond blank (emptied content o.state) o.state in
        let closing : Outcome = separator sequence.input sequence.table.delimiters s in
        closing-stops (untaken course after) content closing.end closing (sought s)
    decide-stops here course content blank after LookForSeparator o own =
        let s : State = cond blank (emptied content o.state) o.state in
        peek-stops sequence.input (ask_separator sequence s) (λ found t. settled_by turn (untaken course after) content found (ended Done t))
        (λ found t. settled-stops (untaken course after) content found (ended Done t) tt) s
    decide-stops here course content blank after Parse o own = own
    decide-stops here course content blank after EndGroup o own = own

    decided-stops : (course : Course) (content : ℕ) (empty moved : Bool) (failure : Option ParseCause) (o : Outcome) → StopsByData o.end
        → StopsByData (decided_by sequence turn course content empty moved failure o).end
    decided-stops course content empty moved failure o own =
        let resolved : Bool = is_settled o.state.marks in
        decide-stops (here_of course.progress turn.rule) course content (is_blank (outcome moved empty failure resolved))
        (group_after course.progress (seen.Ended moved empty failure resolved))
        (move_at course.progress (seen.Ended moved empty failure resolved)) o own

    occurred-stops : (course : Course) (content : ℕ) (empty : Bool) (end : End) (o : Outcome) → StopsByData o.end
        → StopsByData (after_content sequence turn course content empty end o).end
    occurred-stops course content empty Done o own = decided-stops course content empty (nat_lt content o.state.at) None o own
    occurred-stops course content empty (Failed cause bit) o own = decided-stops course content empty false (Some cause) o own
    occurred-stops course content empty (Stopped cause quantity) o own = own

    occur-stops : (course : Course) (empty : Bool) → AlwaysStops (occur sequence turn course empty)
    occur-stops course empty s =
        let o : Outcome = occurring (is_tried turn.rule) (sequence.child turn.body) s in
        occurred-stops course s.at empty o.end o (occurring-stops (is_tried turn.rule) (sequence.child turn.body) (each turn.body) s)

    content-by : (course : Course) (s : State) (tried : Bool)
        → (let out : Outcome = cond tried (peek sequence.input (ask_empty sequence s) (λ empty t. occur sequence turn course empty
        (cond (opens_before (here_of course.progress turn.rule)) t (opened_slot sequence (here_of course.progress turn.rule) t))) s)
        (occur sequence turn course false s) in StopsByData out.end)
    content-by course s true =
        let here : Here = here_of course.progress turn.rule in
        peek-stops sequence.input (ask_empty sequence s)
        (λ empty t. occur sequence turn course empty (cond (opens_before here) t (opened_slot sequence here t)))
        (λ empty t. occur-stops course empty (cond (opens_before here) t (opened_slot sequence here t))) s
    content-by course s false = occur-stops course false s

    content-stops : (course : Course) → AlwaysStops (content sequence turn course)
    content-stops course s = content-by course s (is_tried turn.rule)

    without-stops : (here : Here) (course : Course) (after : Progress) (move : SlotMove) (o : Outcome) → StopsByData o.end
        → StopsByData (without_separator turn here course after move o).end
    without-stops here course after (Fail fault) o own = own
    without-stops here course after EndArray o own = none (untaken course after) (cond (opens_before here) (taken_back here o.state) o.state)
    without-stops here course after Keep o own = own
    without-stops here course after Drop o own = own
    without-stops here course after TakeSeparator o own = own
    without-stops here course after LookForSeparator o own = own
    without-stops here course after Parse o own = own
    without-stops here course after EndGroup o own = own

    sought-stops : (course : Course) (end : End) (o : Outcome) → StopsByData o.end → StopsByData (after_separator sequence turn course end o).end
    sought-stops course Done o own = content-stops (untaken course (group_after course.progress (seen.Separator true))) o.state
    sought-stops course (Failed cause bit) o own =
        without-stops (here_of course.progress turn.rule) course (group_after course.progress (seen.Separator false))
        (move_at course.progress (seen.Separator false)) o own
    sought-stops course (Stopped cause quantity) o own = own

    begin-stops : (here : Here) (course : Course) (after : Progress) (move : SlotMove) → AlwaysStops (begin sequence turn here course after move)
    begin-stops here course after TakeSeparator s =
        let t : State = cond (opens_before here) (opened_slot sequence here s) s in
        let o : Outcome = separator sequence.input sequence.table.delimiters t in
        sought-stops (untaken course after) o.end o (sought t)
    begin-stops here course after Parse s = content-stops (untaken course after) s
    begin-stops here course after EndArray s = none (untaken course after) s
    begin-stops here course after (Fail fault) s = tt
    begin-stops here course after Keep s = tt
    begin-stops here course after Drop s = tt
    begin-stops here course after LookForSeparator s = tt
    begin-stops here course after EndGroup s = tt

  slot-stops : (optional parsed : Bool) (body : ℕ) (more none : Tail) → TailStops more → TailStops none
      → TailStops (slot sequence optional parsed body more none)
  slot-stops optional parsed body more none more_stops none_stops course s =
      let rule : SlotRule = rule_of course.progress.policy optional parsed in
      begin-stops (record { body = body; rule = rule; more = more; none = none }) more_stops none_stops (here_of course.progress rule) course
      (group_after course.progress (seen.Slot optional parsed)) (move_at course.progress (seen.Slot optional parsed)) s

  times-stop : (optional parsed : Bool) (body count : ℕ) (next : Tail) → TailStops next → TailStops (times sequence optional parsed body count next)
  unfolding times
  times-stop optional parsed body zero next next_stops course s = next_stops course s
  times-stop optional parsed body (suc left) next next_stops course s =
      slot-stops optional parsed body (times sequence optional parsed body left next) next
      (times-stop optional parsed body left next next_stops) next_stops course s

  ended-stops : (move : SlotMove) (course : Course) → AlwaysStops (ended_by move course)
  ended-stops (Fail fault) course s = tt
  ended-stops Keep course s = tt
  ended-stops Drop course s = tt
  ended-stops EndArray course s = tt
  ended-stops EndGroup course s = tt
  ended-stops TakeSeparator course s = tt
  ended-stops LookForSeparator course s = tt
  ended-stops Parse course s = tt

  -- the slots of one row, of which a question may tell how many are required
  row-stops : (own : Slot) (least : ℕ) (next : Tail) → TailStops next → TailStops (in_row sequence own least next)
  row-stops own least next next_stops course s =
      times-stop false false own.body least (times sequence true own.is_parsed own.body own.further next)
      (times-stop true own.is_parsed own.body own.further next next_stops) course s

  told_row-stops : (own : Slot) (question : Option ℕ) (next : Tail) → TailStops next → TailStops (told_row sequence own question next)
  told_row-stops own None next next_stops course s = row-stops own own.least next next_stops course s
  told_row-stops own (Some question) next next_stops course s =
      count-stops NegativeCount (λ count after. in_row sequence own count next course after)
      (λ count after. row-stops own count next next_stops course after) sequence.table (start.Inside s.inside) (question_at sequence.table question) s

  -- a row without a slot, and what follows it
  then-stops : (own : Slot) (next : Tail) → TailStops next → TailStops (then_slots sequence own next)
  then-stops own next next_stops course s = by own.is_slotless
    where
      by : (slotless : Bool) → StopsByData
          (cond slotless (then_do (sequence.child own.body s) (next course)) (told_row sequence own own.question next course s)).end
      by true = follow-stops (sequence.child own.body s).end (sequence.child own.body s) (next course) (each own.body s) (next_stops course)
      by false = told_row-stops own own.question next next_stops course s

  slots-stop : (slots : List Slot) → TailStops (in_slots sequence slots)
  slots-stop [] course s = ended-stops (ending course.progress) course s
  slots-stop (own ∷ slots) course s = then-stops own (in_slots sequence slots) (slots-stop slots) course s

  pub separated-stops : (policy : SeparatorSuppressionPolicy) (slots : List Slot) → AlwaysStops (separated sequence policy slots)
  separated-stops policy slots s = slots-stop slots (record { progress = begun policy sequence.position; last = s.at }) s
