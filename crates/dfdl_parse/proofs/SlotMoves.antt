-- What the steps of slots make: each only passes on, at its cost; and what was spent before a slot ends was spent before what follows it.
use Rattle.std.proofs.Common.{◌≡◌, ℕ, zero, suc, ◌+◌, ◌-◌, nat_lt, arith, refl, ap, sym, List, [], ◌∷◌, Bool, true, false, cond, Option, Some, None, Result, Ok, Err}
use Rattle.dfdl_bits.specs.Window.{Held}
use Rattle.dfdl_report.specs.declared.cause.ParseCause.{ParseCause}
use Rattle.dfdl_separators.specs.declared.moves.SlotMove.{SlotMove}
use Rattle.dfdl_separators.specs.declared.moves.SlotMove.TheVariants.{TakeSeparator, LookForSeparator, Keep, Drop, EndArray, Fail}
use Rattle.dfdl_separators.specs.declared.moves.SlotSeen.TheVariants as seen
use Rattle.dfdl_separators.specs.declared.policy.SeparatorPosition.{SeparatorPosition}
use Rattle.dfdl_separators.specs.declared.policy.SeparatorSuppressionPolicy.{SeparatorSuppressionPolicy}
use Rattle.dfdl_separators.specs.declared.progress.Progress.{Progress}
use Rattle.dfdl_separators.specs.declared.verdict.Here.{Here}
use Rattle.dfdl_separators.specs.Groups.{ending, group_after, here_of, move_at}
use Rattle.dfdl_separators.specs.Verdicts.{outcome}
use Rattle.dfdl_paths.specs.declared.place.Start.TheVariants as start
use Rattle.dfdl_terms.specs.declared.slots.Slot.{Slot}
use Rattle.dfdl_terms.specs.Rows.{Table}
use Rattle.dfdl_looks.specs.Tallies.{Tally, first_of as first_told, nothing, one_row, plus}
use Rattle.dfdl_grammar.specs.declared.end.End.{End}
use Rattle.dfdl_grammar.specs.declared.end.End.TheVariants.{Done, Failed, Stopped}
use Rattle.dfdl_grammar.specs.States.{State}
use Rattle.dfdl_grammar.specs.Marks.{is_settled}
use Rattle.dfdl_grammar.specs.Outcomes.{Outcome, spend}
use Rattle.dfdl_grammar.specs.Questions.{question_at}
use Rattle.dfdl_grammar.specs.Occurrences.{as_occurrence}
use Rattle.dfdl_grammar.specs.Slots.{Course, Sequence, Turn, after_closing, after_content, after_separator, closed_slot, decide as decides, emptied, is_blank, is_tried, opens_before, settle as settles, taken_back, without_separator as lacks}
use Rattle.dfdl_grammar.proofs.Spending.{spend-spend}
use Rattle.dfdl_parse.specs.declared.frame.Coming.{Coming}
use Rattle.dfdl_parse.specs.declared.frame.Coming.TheVariants.{Past, Seeks, Parses, Counts, Aside, Lacks, Over}
use Rattle.dfdl_parse.specs.declared.frame.Frame.{Frame}
use Rattle.dfdl_parse.specs.declared.frame.Frame.TheVariants.{Content}
use Rattle.dfdl_parse.specs.declared.frame.Focus.{Focus}
use Rattle.dfdl_parse.specs.declared.frame.Focus.TheVariants.{Enter, LookIn}
use Rattle.dfdl_parse.specs.declared.frame.SlotPlace.{SlotPlace}
use Rattle.dfdl_parse.specs.Asking.{behind_question, count_told, given_by}
use Rattle.dfdl_parse.specs.Moves.{Move, pass}
use Rattle.dfdl_parse.specs.Slots.{before_done, before_failed, closing_ended, coming_from, comes, content_begins, content_ended, count_slots, counted_slots, decide, enter_separated, first_in, goes_beside, goes_on, occurs, sequence_ends, settle, settled, unslotted, unsought, without_separator}
use Rattle.dfdl_parse.specs.SlotsAhead.{before_slot, closing_slot, content_slot, course_of, outside, turn_of}

-- a step that looks at nothing besides this cost, with these bytes held
pub record Passes (cost : Tally) (held : Held) (move : Move) : Type 0 where
  pub looks : move.tally.looks ≡ cost.looks
  pub far : move.tally.far ≡ cost.far
  pub tail : move.tally.tail ≡ cost.tail
  pub held_are : move.held ≡ held
  pub waits : move.waits ≡ false

tail-none : (tail : ℕ) → first_told tail 0 ≡ tail
tail-none zero = refl
tail-none (suc tail) = refl

pass-passes : (cost : Tally) (held : Held) (focus : Focus) (k : List Frame) (s : State) → Passes cost held (pass cost held focus k s)
pass-passes cost held focus k s = record { looks = refl; far = refl; tail = refl; held_are = refl; waits = refl }

row-passes : (cost : Tally) (held : Held) (focus : Focus) (k : List Frame) (s : State) → Passes cost held (pass (plus cost one_row) held focus k s)
row-passes cost held focus k s =
    record { looks = omega arith; far = omega arith; tail = tail-none cost.tail; held_are = refl; waits = refl }

module _ (held : Held) (initiated : Bool) (k : List Frame) where
  tried-passes : (cost : Tally) (slot : SlotPlace) (body : ℕ) (s : State) (tried : Bool)
      → Passes cost held (cond tried (pass cost held (LookIn slot) k s)
      (pass cost held (Enter body) (Content slot s.at false ∷ k) (as_occurrence (is_tried slot.rule) s)))
  tried-passes cost slot body s true = pass-passes cost held _ _ _
  tried-passes cost slot body s false = pass-passes cost held _ _ _

  pub content-passes : (cost : Tally) (slot : SlotPlace) (body : ℕ) (s : State) → Passes cost held (content_begins cost held slot body k s)
  content-passes cost slot body s = tried-passes cost slot body s (is_tried slot.rule)

  end-passes : (cost : Tally) (move : SlotMove) (last : ℕ) (s : State) → Passes cost held (sequence_ends cost held move last k s)
  end-passes cost (Fail fault) last s = pass-passes cost held _ _ _
  end-passes cost move last s = pass-passes cost held _ _ _

  pub coming-passes : (cost : Tally) (last : ℕ) (coming : Coming) (s : State) → Passes cost held (comes cost held initiated last coming k s)
  coming-passes cost last (Past progress) s = end-passes cost (ending progress) last s
  coming-passes cost last (Seeks slot here) s = row-passes cost held _ _ _
  coming-passes cost last (Parses slot body) s = content-passes cost slot body s
  coming-passes cost last (Counts slot question) s = pass-passes cost held _ _ _
  coming-passes cost last (Aside slot body) s = pass-passes cost held _ _ _
  coming-passes cost last Lacks s = pass-passes cost held _ _ _
  coming-passes cost last Over s = pass-passes cost held _ _ _

  pub separated-passes : (id : ℕ) (policy : SeparatorSuppressionPolicy) (position : SeparatorPosition) (slots : List Slot) (s : State)
      → Passes one_row held (enter_separated held id policy position initiated slots k s)
  separated-passes id policy position slots s = coming-passes one_row s.at _ s

  going-passes : (cost : Tally) (slot : SlotPlace) (own : Slot) (slots : List Slot) (s : State) → Passes cost held (goes_on cost held initiated slot own slots k s)
  going-passes cost slot own slots s = coming-passes cost slot.last (coming_from slot own slots) s

  pub beside-passes : (slot : SlotPlace) (slots : List Slot) (s : State) → Passes nothing held (goes_beside held initiated slot slots k s)
  beside-passes slot slots s = coming-passes nothing slot.last (first_in slot slots) s

  counted-passes : (slot : SlotPlace) (own : Slot) (slots : List Slot) (count : Result (Option ℕ) ℕ) (s : State)
      → Passes one_row held (counted_slots held initiated slot own slots count k s)
  counted-passes slot own slots (Ok (Some count)) s = going-passes one_row (record slot { optional = false; left = count }) own slots s
  counted-passes slot own slots (Ok None) s = pass-passes one_row held _ _ _
  counted-passes slot own slots (Err fault) s = pass-passes one_row held _ _ _

  pub count-passes : (table : Table) (slot : SlotPlace) (question : ℕ) (slots : List Slot) (s : State)
      → Passes one_row held (count_slots table held initiated slot question slots k s)
  count-passes table slot question [] s = pass-passes one_row held _ _ _
  count-passes table slot question (own ∷ slots) s =
      counted-passes slot own slots (count_told (given_by table (start.Inside s.inside) (question_at table question) s))
      (behind_question table (start.Inside s.inside) question s)

  settle-passes : (cost : Tally) (slot : SlotPlace) (bit : ℕ) (own : Slot) (slots : List Slot) (after : Progress) (move : SlotMove) (end : End) (s : State)
      → Passes cost held (settle cost held initiated slot bit own slots after move end k s)
  settle-passes cost slot bit own slots after Keep end s =
      going-passes cost (record slot { progress = after; last = bit }) own slots (closed_slot (here_of slot.progress slot.rule) s)
  settle-passes cost slot bit own slots after Drop end s =
      going-passes cost (record slot { progress = after; last = bit }) own slots (closed_slot (here_of slot.progress slot.rule) s)
  settle-passes cost slot bit own slots after EndArray end s =
      going-passes cost (record slot { progress = after; left = 0 }) own slots (taken_back (here_of slot.progress slot.rule) s)
  settle-passes cost slot bit own slots after move end s = pass-passes cost held _ _ _

  pub settled-passes : (cost : Tally) (slot : SlotPlace) (bit : ℕ) (own : Slot) (slots : List Slot) (found : Bool) (end : End) (s : State)
      → Passes cost held (settled cost held initiated slot bit own slots found end k s)
  settled-passes cost slot bit own slots found end s =
      settle-passes cost slot bit own slots (group_after slot.progress (seen.Separator found)) (move_at slot.progress (seen.Separator found)) end s

  pub occurs-passes : (cost : Tally) (slot : SlotPlace) (body : ℕ) (s : State) (empty : Bool) → Passes cost held (occurs cost held initiated slot body k s empty)
  occurs-passes cost slot body s empty = pass-passes cost held _ _ _

  decide-passes : (slot : SlotPlace) (bit : ℕ) (own : Slot) (slots : List Slot) (blank : Bool) (after : Progress) (move : SlotMove) (end : End) (s : State)
      → Passes nothing held (decide held initiated slot bit own slots blank after move end k s)
  decide-passes slot bit own slots blank after Keep end s =
      going-passes nothing (record slot { progress = after; last = bit }) own slots (closed_slot (here_of slot.progress slot.rule) s)
  decide-passes slot bit own slots blank after Drop end s =
      going-passes nothing (record slot { progress = after; last = bit }) own slots (closed_slot (here_of slot.progress slot.rule) (emptied bit s))
  decide-passes slot bit own slots blank after EndArray end s =
      going-passes nothing (record slot { progress = after; left = 0 }) own slots (taken_back (here_of slot.progress slot.rule) s)
  decide-passes slot bit own slots blank after TakeSeparator end s =
      record { looks = refl; far = refl; tail = refl; held_are = refl; waits = refl }
  decide-passes slot bit own slots blank after move end s = pass-passes nothing held _ _ _

  lacking-passes : (slot : SlotPlace) (own : Slot) (slots : List Slot) (after : Progress) (move : SlotMove) (end : End) (s : State)
      → Passes nothing held (without_separator held initiated slot own slots after move end k s)
  lacking-passes slot own slots after EndArray end s =
      going-passes nothing (record slot { progress = after; left = 0 }) own slots
      (cond (opens_before (here_of slot.progress slot.rule)) (taken_back (here_of slot.progress slot.rule) s) s)
  lacking-passes slot own slots after move end s = pass-passes nothing held _ _ _

  pub done-passes : (slot : SlotPlace) (slots : List Slot) (s : State) → Passes nothing held (before_done held slot slots k s)
  done-passes slot [] s = pass-passes nothing held _ _ _
  done-passes slot (own ∷ slots) s = content-passes nothing (record slot { progress = group_after slot.progress (seen.Separator true) }) own.body s

  pub failed-passes : (slot : SlotPlace) (slots : List Slot) (end : End) (s : State) → Passes nothing held (before_failed held initiated slot slots end k s)
  failed-passes slot [] end s = pass-passes nothing held _ _ _
  failed-passes slot (own ∷ slots) end s =
      lacking-passes slot own slots (group_after slot.progress (seen.Separator false)) (move_at slot.progress (seen.Separator false)) end s

  pub ended-passes : (slot : SlotPlace) (bit : ℕ) (empty : Bool) (slots : List Slot) (moved : Bool) (failure : Option ParseCause) (end : End) (s : State)
      → Passes nothing held (content_ended held initiated slot bit empty slots moved failure end k s)
  ended-passes slot bit empty [] moved failure end s = pass-passes nothing held _ _ _
  ended-passes slot bit empty (own ∷ slots) moved failure end s =
      decide-passes slot bit own slots (is_blank (outcome moved empty failure (is_settled s.marks)))
      (group_after slot.progress (seen.Ended moved empty failure (is_settled s.marks)))
      (move_at slot.progress (seen.Ended moved empty failure (is_settled s.marks))) end s

  pub closing-passes : (slot : SlotPlace) (bit : ℕ) (slots : List Slot) (found : Bool) (end : End) (s : State)
      → Passes nothing held (closing_ended held initiated slot bit slots found end k s)
  closing-passes slot bit [] found end s = pass-passes nothing held _ _ _
  closing-passes slot bit (own ∷ slots) found end s = settled-passes nothing slot bit own slots found end s

-- what was spent before a slot ends was spent before what follows it
lacks-spend : (turn : Turn) (here : Here) (course : Course) (after : Progress) (move : SlotMove) (t : Tally) (o : Outcome)
    → lacks turn here course after move (spend t o) ≡ spend t (lacks turn here course after move o)
lacks-spend turn here course after EndArray t o = sym (spend-spend t o.tally _)
lacks-spend turn here course after move t o = refl

separator-spend : (sequence : Sequence) (turn : Turn) (course : Course) (end : End) (t : Tally) (o : Outcome)
    → after_separator sequence turn course end (spend t o) ≡ spend t (after_separator sequence turn course end o)
separator-spend sequence turn course Done t o = sym (spend-spend t o.tally _)
separator-spend sequence turn course (Failed cause bit) t o =
    lacks-spend turn (here_of course.progress turn.rule) course (group_after course.progress (seen.Separator false))
    (move_at course.progress (seen.Separator false)) t o
separator-spend sequence turn course (Stopped cause quantity) t o = refl

settles-spend : (turn : Turn) (here : Here) (course : Course) (bit : ℕ) (after : Progress) (move : SlotMove) (t : Tally) (o : Outcome)
    → settles turn here course bit after move (spend t o) ≡ spend t (settles turn here course bit after move o)
settles-spend turn here course bit after Keep t o = sym (spend-spend t o.tally _)
settles-spend turn here course bit after Drop t o = sym (spend-spend t o.tally _)
settles-spend turn here course bit after EndArray t o = sym (spend-spend t o.tally _)
settles-spend turn here course bit after move t o = refl

closing-spend : (turn : Turn) (course : Course) (bit : ℕ) (end : End) (t : Tally) (o : Outcome)
    → after_closing turn course bit end (spend t o) ≡ spend t (after_closing turn course bit end o)
closing-spend turn course bit Done t o =
    settles-spend turn (here_of course.progress turn.rule) course bit (group_after course.progress (seen.Separator true))
    (move_at course.progress (seen.Separator true)) t o
closing-spend turn course bit (Failed cause at) t o =
    settles-spend turn (here_of course.progress turn.rule) course bit (group_after course.progress (seen.Separator false))
    (move_at course.progress (seen.Separator false)) t o
closing-spend turn course bit (Stopped cause quantity) t o = refl

decides-spend : (sequence : Sequence) (turn : Turn) (here : Here) (course : Course) (bit : ℕ) (blank : Bool) (after : Progress) (move : SlotMove) (t : Tally) (o : Outcome)
    → decides sequence turn here course bit blank after move (spend t o) ≡ spend t (decides sequence turn here course bit blank after move o)
decides-spend sequence turn here course bit blank after Keep t o = sym (spend-spend t o.tally _)
decides-spend sequence turn here course bit blank after Drop t o = sym (spend-spend t o.tally _)
decides-spend sequence turn here course bit blank after EndArray t o = sym (spend-spend t o.tally _)
decides-spend sequence turn here course bit blank after TakeSeparator t o = sym (spend-spend t o.tally _)
decides-spend sequence turn here course bit blank after LookForSeparator t o = sym (spend-spend t o.tally _)
decides-spend sequence turn here course bit blank after move t o = refl

content-spend : (sequence : Sequence) (turn : Turn) (course : Course) (bit : ℕ) (empty : Bool) (end : End) (t : Tally) (o : Outcome)
    → after_content sequence turn course bit empty end (spend t o) ≡ spend t (after_content sequence turn course bit empty end o)
content-spend sequence turn course bit empty Done t o =
    let moved : Bool = nat_lt bit o.state.at in
    let resolved : Bool = is_settled o.state.marks in
    decides-spend sequence turn (here_of course.progress turn.rule) course bit (is_blank (outcome moved empty None resolved))
    (group_after course.progress (seen.Ended moved empty None resolved)) (move_at course.progress (seen.Ended moved empty None resolved)) t o
content-spend sequence turn course bit empty (Failed cause at) t o =
    let resolved : Bool = is_settled o.state.marks in
    decides-spend sequence turn (here_of course.progress turn.rule) course bit (is_blank (outcome false empty (Some cause) resolved))
    (group_after course.progress (seen.Ended false empty (Some cause) resolved)) (move_at course.progress (seen.Ended false empty (Some cause) resolved)) t o
content-spend sequence turn course bit empty (Stopped cause quantity) t o = refl

outside-spend : (close : State → State) (end : End) (t : Tally) (o : Outcome) → outside close end (spend t o) ≡ spend t (outside close end o)
outside-spend close Done t o = refl
outside-spend close (Failed cause bit) t o = refl
outside-spend close (Stopped cause quantity) t o = refl

pub before_slot-spend : (sequence : Sequence) (slot : SlotPlace) (slots : List Slot) (t : Tally) (o : Outcome)
    → before_slot sequence slot slots (spend t o) ≡ spend t (before_slot sequence slot slots o)
before_slot-spend sequence slot [] t o = outside-spend (unsought slot) o.end t o
before_slot-spend sequence slot (own ∷ slots) t o = separator-spend sequence (turn_of sequence slot own slots) (course_of slot) o.end t o

pub content_slot-spend : (sequence : Sequence) (slot : SlotPlace) (bit : ℕ) (empty : Bool) (slots : List Slot) (t : Tally) (o : Outcome)
    → content_slot sequence slot bit empty slots (spend t o) ≡ spend t (content_slot sequence slot bit empty slots o)
content_slot-spend sequence slot bit empty [] t o = outside-spend (unslotted slot) o.end t o
content_slot-spend sequence slot bit empty (own ∷ slots) t o = content-spend sequence (turn_of sequence slot own slots) (course_of slot) bit empty o.end t o

pub closing_slot-spend : (sequence : Sequence) (slot : SlotPlace) (bit : ℕ) (slots : List Slot) (t : Tally) (o : Outcome)
    → closing_slot sequence slot bit slots (spend t o) ≡ spend t (closing_slot sequence slot bit slots o)
closing_slot-spend sequence slot bit [] t o = outside-spend (unslotted slot) o.end t o
closing_slot-spend sequence slot bit (own ∷ slots) t o = closing-spend (turn_of sequence slot own slots) (course_of slot) bit o.end t o
