-- The steps of a sequence whose slots are tried do a part of what is ahead.
use Rattle.std.proofs.Common.{◌≡◌, ℕ, zero, suc, ◌+◌, ◌-◌, ◌<◌, ◌&&◌, nat_eq, nat_lt, refl, List, [], ◌∷◌, length, Bool, true, false, cond, Option, Some, None, Result, Ok, Err, ap, sym, subst, ◌∙◌, arith}
use Rattle.std.proofs.lemmas.Bool.Decides.{nat_tests}
use Rattle.std.specs.Prelude.{slice_get}
use Rattle.dfdl_bits.specs.Window.{Held, from_byte, seen_at}
use Rattle.dfdl_report.specs.declared.cause.ParseCause.{ParseCause}
use Rattle.dfdl_report.specs.declared.cause.ParseCause.TheVariants.{EmptyTrailingSlot, ExpressionFault, NegativeCount, SeparatorMissing}
use Rattle.dfdl_expressions.specs.declared.node.Node.{Node}
use Rattle.dfdl_paths.specs.declared.place.Start.TheVariants as start
use Rattle.dfdl_surroundings.specs.Taking.{count_taken}
use Rattle.dfdl_separators.specs.declared.moves.SlotMove.{SlotMove}
use Rattle.dfdl_separators.specs.declared.moves.SlotMove.TheVariants.{TakeSeparator, LookForSeparator, Parse, Keep, Drop, EndArray, EndGroup, Fail}
use Rattle.dfdl_separators.specs.declared.moves.SlotSeen.TheVariants as seen
use Rattle.dfdl_separators.specs.declared.policy.SeparatorPosition.{SeparatorPosition}
use Rattle.dfdl_separators.specs.declared.policy.SeparatorSuppressionPolicy.{SeparatorSuppressionPolicy}
use Rattle.dfdl_separators.specs.declared.progress.Progress.{Progress}
use Rattle.dfdl_separators.specs.declared.verdict.Here.{Here}
use Rattle.dfdl_separators.specs.declared.verdict.SlotRule.{SlotRule}
use Rattle.dfdl_separators.specs.declared.verdict.SlotRule.TheVariants.{Required}
use Rattle.dfdl_separators.specs.Groups.{begun, ending, group_after, here_of, move_at}
use Rattle.dfdl_separators.specs.Verdicts.{outcome, rule_of}
use Rattle.dfdl_terms.specs.declared.row.Row.TheVariants.{Separated}
use Rattle.dfdl_terms.specs.declared.slots.Slot.{Slot}
use Rattle.dfdl_terms.specs.Rows.{Table}
use Rattle.dfdl_delims.specs.Lists.{Opened}
use Rattle.dfdl_looks.specs.Looks.{Agrees}
use Rattle.dfdl_looks.specs.Asks.{Ask, ask}
use Rattle.dfdl_looks.specs.Tallies.{Tally, needs_from, nothing, one_row, plus}
use Rattle.dfdl_grammar.specs.declared.end.End.{End}
use Rattle.dfdl_grammar.specs.declared.end.End.TheVariants.{Done, Failed, Stopped}
use Rattle.dfdl_grammar.specs.declared.end.Halt.{Halt}
use Rattle.dfdl_grammar.specs.States.{Input, State, anchor}
use Rattle.dfdl_grammar.specs.Marks.{is_settled, marked, pointed}
use Rattle.dfdl_grammar.specs.Outcomes.{Outcome, ended, spend, then_do}
use Rattle.dfdl_grammar.specs.Questions.{asked_count, question_at, told_count}
use Rattle.dfdl_grammar.specs.Statements.{evaluated, with_reads}
use Rattle.dfdl_grammar.specs.Delimiters.{lists_of, markup, separator}
use Rattle.dfdl_grammar.specs.Rows.{below, meaning}
use Rattle.dfdl_grammar.specs.Occurrences.{as_occurrence, occurring, untried}
use Rattle.dfdl_grammar.specs.Slots.{Course, Sequence, Tail, Turn, begin, closed_slot, content, decide as decides, emptied, ended_by, has_mark, in_row, in_slots, is_blank, is_empty_at, is_tried, occur, opened_slot, opens_before, separated, separator_follows, settle as settles, settled_by, taken_back, then_slots, times, told_row, without_separator as lacks}
use Rattle.dfdl_grammar.proofs.Spending.{spend-nothing, spend-spend}
use Rattle.dfdl_grammar.proofs.Towers.{below-meaning}
use Rattle.dfdl_parse.specs.declared.frame.Coming.{Coming}
use Rattle.dfdl_parse.specs.declared.frame.Coming.TheVariants.{Past, Seeks, Parses, Counts, Aside, Lacks, Over}
use Rattle.dfdl_parse.specs.declared.frame.Frame.{Frame}
use Rattle.dfdl_parse.specs.declared.frame.Frame.TheVariants.{Before, Content, Aside as AsideFrame}
use Rattle.dfdl_parse.specs.declared.frame.Focus.TheVariants.{Enter, Seek, LookIn, LookBehind, Count, Leave}
use Rattle.dfdl_parse.specs.declared.frame.SlotPlace.{SlotPlace}
use Rattle.dfdl_parse.specs.declared.frame.Sought.TheVariants.{Separator}
use Rattle.dfdl_parse.specs.Asking.{count_told, given_by, variables_behind}
use Rattle.dfdl_parse.specs.Moves.{Move, pass}
use Rattle.dfdl_parse.specs.Slots.{Separation, before_done, before_failed, begins_by, closing_ended, coming_from, comes, content_begins, content_ended, count_slots, counted_slots, decide, enter_separated, first_here, first_in, first_of, first_row, first_told, goes_beside, goes_on, look_behind, look_in, occurs, opened_at, or_next, separation_at, separation_of, sequence_ends, settle, settled, slots_from, then_tried, unslotted, unsought, without_separator}
use Rattle.dfdl_parse.specs.SlotsAhead.{asked_behind, asked_in, asked_slots, before_slot, beside_slots, closing_slot, content_slot, course_of, following, occur_in, sequence_of, turn_of}
use Rattle.dfdl_parse.specs.Ahead.{ahead, finish}
use Rattle.dfdl_parse.proofs.Finishes.{Anchored, Does, after_nothing, finish-spend}
use Rattle.dfdl_parse.proofs.SlotAsks.{empty-from, peek-ahead, separator-from}
use Rattle.dfdl_parse.proofs.SlotRows.{AreBelow, drop-next}

-- what comes next begins, or what follows where it is none
abbrev comes_or : Tally → Held → Bool → List Frame → State → Coming → (Progress → Move) → Move
comes_or cost held initiated k s (Past progress) next = next progress
comes_or cost held initiated k s (Seeks slot here) next =
    pass (plus cost one_row) held (Seek Separator) (Before slot ∷ k) (cond (opens_before here) (opened_at initiated here s) s)
comes_or cost held initiated k s (Parses slot body) next = content_begins cost held slot body k s
comes_or cost held initiated k s (Counts slot question) next = pass cost held (Count slot question) k s
comes_or cost held initiated k s (Aside slot body) next = pass cost held (Enter body) (AsideFrame slot ∷ k) s
comes_or cost held initiated k s Lacks next = pass cost held (Leave (Failed SeparatorMissing s.at)) k s
comes_or cost held initiated k s Over next = pass cost held (Leave Done) k s

comes-are : (cost : Tally) (held : Held) (initiated : Bool) (k : List Frame) (s : State) (last : ℕ) (coming : Coming)
    → comes cost held initiated last coming k s ≡ comes_or cost held initiated k s coming (λ p. sequence_ends cost held (ending p) last k s)
comes-are cost held initiated k s last (Past progress) = refl
comes-are cost held initiated k s last (Seeks slot here) = refl
comes-are cost held initiated k s last (Parses slot body) = refl
comes-are cost held initiated k s last (Counts slot question) = refl
comes-are cost held initiated k s last (Aside slot body) = refl
comes-are cost held initiated k s last Lacks = refl
comes-are cost held initiated k s last Over = refl

next-are : (cost : Tally) (held : Held) (initiated : Bool) (k : List Frame) (s : State) (coming : Coming) (more : Progress → Coming) (next : Progress → Move)
    → comes_or cost held initiated k s (or_next coming more) next
    ≡ comes_or cost held initiated k s coming (λ p. comes_or cost held initiated k s (more p) next)
next-are cost held initiated k s (Past progress) more next = refl
next-are cost held initiated k s (Seeks slot here) more next = refl
next-are cost held initiated k s (Parses slot body) more next = refl
next-are cost held initiated k s (Counts slot question) more next = refl
next-are cost held initiated k s (Aside slot body) more next = refl
next-are cost held initiated k s Lacks more next = refl
next-are cost held initiated k s Over more next = refl

module _ (input : Input) (table : Table) where
  abbrev sequence_at : SlotPlace → Sequence
  sequence_at slot = sequence_of input table slot.sequence

  abbrev initiated_at : SlotPlace → Bool
  initiated_at slot = (separation_at table slot).initiated

  -- a content begins
  pub content-ahead : (cost : Tally) (held : Held) (slot : SlotPlace) (own : Slot) (slots : List Slot) (k : List Frame) (s : State)
      → slots_from table slot ≡ own ∷ slots → own.body < slot.sequence
      → Does input table
      (finish input table k (spend cost (content (sequence_at slot) (turn_of (sequence_at slot) slot own slots) (course_of slot) s)))
      (content_begins cost held slot own.body k s)
  unfolding finish
  content-ahead cost held slot own slots k s is less = by (is_tried slot.rule)
    where
      by : (tried : Bool) → Does input table
          (finish input table k (spend cost (cond tried (asked_in (sequence_at slot) slot (own ∷ slots) s)
          (occur (sequence_at slot) (turn_of (sequence_at slot) slot own slots) (course_of slot) false s))))
          (cond tried (pass cost held (LookIn slot) k s)
          (pass cost held (Enter own.body) (Content slot s.at false ∷ k) (as_occurrence (is_tried slot.rule) s)))
      by true =
          finish-spend input table k cost (asked_in (sequence_at slot) slot (own ∷ slots) s)
          ∙ ap (λ (all : List Slot). spend cost (finish input table k (asked_in (sequence_at slot) slot all s))) (sym is)
      by false =
          finish-spend input table k cost (occur (sequence_at slot) (turn_of (sequence_at slot) slot own slots) (course_of slot) false s)
          ∙ ap (λ (o : Outcome). spend cost (finish input table k (content_slot (sequence_at slot) slot s.at false (own ∷ slots) (untried o.end o))))
          (below-meaning input table slot.sequence own.body (as_occurrence (is_tried slot.rule) s) less)
          ∙ ap (λ (all : List Slot). spend cost (finish input table k (content_slot (sequence_at slot) slot s.at false all
          (occurring (is_tried slot.rule) (meaning input table own.body) s)))) (sym is)

  -- a slot begins by its first move, where what follows it if it isn't there does its part
  begins-ahead : (cost : Tally) (held : Held) (slot : SlotPlace) (own : Slot) (slots : List Slot) (k : List Frame) (s : State)
      → slots_from table slot ≡ own ∷ slots → own.body < slot.sequence → (moves : Progress → Move)
      → ((p : Progress) → Does input table
      (finish input table k (spend cost (following (sequence_at slot) slot.optional 0 own slots (record { progress = p; last = slot.last }) s))) (moves p))
      → (rule : SlotRule) (after : Progress) (move : SlotMove) → Does input table
      (finish input table k (spend cost (begin (sequence_at slot) (record {
        body = own.body;
        rule = rule;
        more = following (sequence_at slot) slot.optional (slot.left - 1) own slots;
        none = following (sequence_at slot) slot.optional 0 own slots;
      }) (here_of slot.progress rule) (course_of slot) after move s)))
      (comes_or cost held (initiated_at slot) k s (begins_by slot own rule after move) moves)
  unfolding finish
  begins-ahead cost held slot own slots k s is less moves each rule after TakeSeparator =
      let begun : SlotPlace = record slot { rule = rule; left = slot.left - 1; progress = after } in
      let here : Here = here_of slot.progress rule in
      let o : Outcome = separator input table.delimiters (cond (opens_before here) (opened_slot (sequence_at slot) here s) s) in
      ap (finish input table k) (spend-spend cost one_row (before_slot (sequence_at slot) begun (own ∷ slots) o))
      ∙ finish-spend input table k (plus cost one_row) (before_slot (sequence_at slot) begun (own ∷ slots) o)
      ∙ ap (λ (all : List Slot). spend (plus cost one_row) (finish input table k (before_slot (sequence_at slot) begun all o))) (sym is)
  begins-ahead cost held slot own slots k s is less moves each rule after Parse =
      content-ahead cost held (record slot { rule = rule; left = slot.left - 1; progress = after }) own slots k s is less
  begins-ahead cost held slot own slots k s is less moves each rule after EndArray = each after
  begins-ahead cost held slot own slots k s is less moves each rule after (Fail fault) =
      finish-spend input table k cost (ended (Failed SeparatorMissing s.at) s)
  begins-ahead cost held slot own slots k s is less moves each rule after move = finish-spend input table k cost (ended Done s)

  -- the first of so many slots of one row, or what follows them
  some-ahead : (cost : Tally) (held : Held) (slot : SlotPlace) (own : Slot) (slots : List Slot) (k : List Frame) (s : State)
      → slots_from table slot ≡ own ∷ slots → own.body < slot.sequence → (optional : Bool) (next : Tail)
      → ((m : ℕ) → times (sequence_at slot) optional (optional && own.is_parsed) own.body m next ≡ following (sequence_at slot) optional m own slots)
      → (moves : Progress → Move)
      → ((p : Progress) → Does input table (finish input table k (spend cost (next (record { progress = p; last = slot.last }) s))) (moves p))
      → (n : ℕ) → Does input table
      (finish input table k (spend cost (times (sequence_at slot) optional (optional && own.is_parsed) own.body n next (course_of slot) s)))
      (comes_or cost held (initiated_at slot) k s (first_of (record slot { optional = optional; left = n }) own) moves)
  unfolding times
  some-ahead cost held slot own slots k s is less optional next same moves each zero = each slot.progress
  some-ahead cost held slot own slots k s is less optional next same moves each (suc m) =
      let tried : SlotPlace = record slot { optional = optional; left = suc m } in
      let parsed : Bool = optional && own.is_parsed in
      let rule : SlotRule = rule_of slot.progress.policy optional parsed in
      let after : Progress = group_after slot.progress (seen.Slot optional parsed) in
      let move : SlotMove = move_at slot.progress (seen.Slot optional parsed) in
      let fewer : m ≡ suc m - 1 = omega arith in
      let some : nat_eq (suc m) 0 ≡ false = grind (arith, nat_tests) in
      let more : times (sequence_at slot) optional parsed own.body m next ≡ following (sequence_at slot) optional (suc m - 1) own slots =
      same m ∙ ap (λ (l : ℕ). following (sequence_at slot) optional l own slots) fewer in
      let none : next ≡ following (sequence_at slot) optional 0 own slots = same 0 in
      subst (λ (is_none : Bool). Does input table
      (finish input table k (spend cost (times (sequence_at slot) optional parsed own.body (suc m) next (course_of slot) s)))
      (comes_or cost held (initiated_at slot) k s (cond is_none (Past slot.progress) (begins_by tried own rule after move)) moves)) (sym some)
      (ap (λ (turn : Turn). finish input table k (spend cost (begin (sequence_at slot) turn (here_of slot.progress rule) (course_of slot) after move s)))
      (λ i. record { body = own.body; rule = rule; more = more i; none = none i })
      ∙ begins-ahead cost held tried own slots k s is less moves
      (λ p. ap (λ (tail : Tail). finish input table k (spend cost (tail (record { progress = p; last = slot.last }) s))) (sym none) ∙ each p) rule after move)

  -- the first slot of a row from a place on, or what follows those of the row
  row-ahead : (cost : Tally) (held : Held) (slot : SlotPlace) (own : Slot) (slots : List Slot) (k : List Frame) (s : State)
      → slots_from table slot ≡ own ∷ slots → own.body < slot.sequence → (moves : Progress → Move)
      → ((p : Progress) → Does input table
      (finish input table k (spend cost (in_slots (sequence_at slot) slots (record { progress = p; last = slot.last }) s))) (moves p))
      → (optional : Bool) (left : ℕ) → Does input table
      (finish input table k (spend cost (following (sequence_at slot) optional left own slots (course_of slot) s)))
      (comes_or cost held (initiated_at slot) k s (first_here (record slot { optional = optional; left = left }) own) moves)
  row-ahead cost held slot own slots k s is less moves each true left =
      let tried : SlotPlace = record slot { optional = true; left = left } in
      some-ahead cost held slot own slots k s is less true (in_slots (sequence_at slot) slots) (λ m. refl) moves each left
      ∙ ap (λ (move : Move). spend move.tally (ahead input table move.machine))
      (sym (next-are cost held (initiated_at slot) k s (first_of tried own) (then_tried tried own) moves))
  row-ahead cost held slot own slots k s is less moves each false left =
      let needed : SlotPlace = record slot { optional = false; left = left } in
      some-ahead cost held slot own slots k s is less false
      (times (sequence_at slot) true own.is_parsed own.body own.further (in_slots (sequence_at slot) slots)) (λ m. refl)
      (λ p. comes_or cost held (initiated_at slot) k s (first_of (record slot { optional = true; left = own.further; progress = p }) own) moves)
      (λ p. some-ahead cost held (record slot { progress = p }) own slots k s is less true (in_slots (sequence_at slot) slots) (λ m. refl) moves each own.further)
      left
      ∙ ap (λ (move : Move). spend move.tally (ahead input table move.machine))
      (sym (next-are cost held (initiated_at slot) k s (first_of needed own) (then_tried needed own) moves))

  -- the sequence ends
  ends-ahead : (cost : Tally) (held : Held) (move : SlotMove) (course : Course) (k : List Frame) (s : State)
      → Does input table (finish input table k (spend cost (ended_by move course s))) (sequence_ends cost held move course.last k s)
  ends-ahead cost held (Fail fault) course k s = finish-spend input table k cost (ended (Failed EmptyTrailingSlot course.last) s)
  ends-ahead cost held move course k s = finish-spend input table k cost (ended Done s)

  -- the first slot of a row, of which a question may tell how many are required
  told-ahead : (cost : Tally) (held : Held) (slot : SlotPlace) (own : Slot) (slots : List Slot) (k : List Frame) (s : State)
      → slots_from table slot ≡ own ∷ slots → own.body < slot.sequence → (moves : Progress → Move)
      → ((p : Progress) → Does input table
      (finish input table k (spend cost (in_slots (sequence_at slot) slots (record { progress = p; last = slot.last }) s))) (moves p))
      → (question : Option ℕ) → Does input table
      (finish input table k (spend cost (told_row (sequence_at slot) own question (in_slots (sequence_at slot) slots) (course_of slot) s)))
      (comes_or cost held (initiated_at slot) k s (first_told slot own question) moves)
  told-ahead cost held slot own slots k s is less moves each None = row-ahead cost held slot own slots k s is less moves each false own.least
  told-ahead cost held slot own slots k s is less moves each (Some question) =
      finish-spend input table k cost (asked_slots (sequence_at slot) slot question (own ∷ slots) s)
      ∙ ap (λ (all : List Slot). spend cost (finish input table k (asked_slots (sequence_at slot) slot question all s))) (sym is)

  -- the same, or the row itself, if it has none
  then-ahead : (cost : Tally) (held : Held) (slot : SlotPlace) (own : Slot) (slots : List Slot) (k : List Frame) (s : State)
      → slots_from table slot ≡ own ∷ slots → own.body < slot.sequence → (moves : Progress → Move)
      → ((p : Progress) → Does input table
      (finish input table k (spend cost (in_slots (sequence_at slot) slots (record { progress = p; last = slot.last }) s))) (moves p))
      → Does input table
      (finish input table k (spend cost (then_slots (sequence_at slot) own (in_slots (sequence_at slot) slots) (course_of slot) s)))
      (comes_or cost held (initiated_at slot) k s (first_row slot own) moves)
  unfolding finish
  then-ahead cost held slot own slots k s is less moves each = by own.is_slotless
    where
      behind : SlotPlace
      behind = record slot { place = slot.place + 1 }

      by : (slotless : Bool) → Does input table
          (finish input table k (spend cost (cond slotless
          (then_do (below input table slot.sequence own.body s) (in_slots (sequence_at slot) slots (course_of slot)))
          (told_row (sequence_at slot) own own.question (in_slots (sequence_at slot) slots) (course_of slot) s))))
          (comes_or cost held (initiated_at slot) k s (cond slotless (Aside behind own.body) (first_told slot own own.question)) moves)
      by true =
          finish-spend input table k cost (then_do (below input table slot.sequence own.body s) (in_slots (sequence_at slot) slots (course_of slot)))
          ∙ ap (λ (o : Outcome). spend cost (finish input table k (then_do o (in_slots (sequence_at slot) slots (course_of slot)))))
          (below-meaning input table slot.sequence own.body s less)
          ∙ ap (λ (all : List Slot). spend cost (finish input table k (then_do (meaning input table own.body s) (in_slots (sequence_at slot) all (course_of slot)))))
          (sym (drop-next slot.place (separation_at table slot).slots own slots is))
      by false = told-ahead cost held slot own slots k s is less moves each own.question

  -- the first slot of some rows
  in-ahead : (cost : Tally) (held : Held) (k : List Frame) (s : State) (slots : List Slot) (slot : SlotPlace) → slots_from table slot ≡ slots
      → AreBelow slot.sequence slots → Does input table
      (finish input table k (spend cost (in_slots (sequence_at slot) slots (course_of slot) s)))
      (comes_or cost held (initiated_at slot) k s (first_in slot slots) (λ p. sequence_ends cost held (ending p) slot.last k s))
  in-ahead cost held k s [] slot is below = ends-ahead cost held (ending slot.progress) (course_of slot) k s
  in-ahead cost held k s (own ∷ slots) slot is below =
      let ends : Progress → Move = λ p. sequence_ends cost held (ending p) slot.last k s in
      then-ahead cost held slot own slots k s is below.0
      (λ p. comes_or cost held (initiated_at slot) k s (first_in (record slot { place = slot.place + 1; progress = p }) slots) ends)
      (λ p. in-ahead cost held k s slots (record slot { place = slot.place + 1; progress = p })
      (drop-next slot.place (separation_at table slot).slots own slots is) below.1)
      ∙ ap (λ (move : Move). spend move.tally (ahead input table move.machine))
      (sym (next-are cost held (initiated_at slot) k s (first_row slot own) (λ p. first_in (record slot { place = slot.place + 1; progress = p }) slots) ends))

  -- a sequence begins
  pub separated-ahead : (held : Held) (id : ℕ) (policy : SeparatorSuppressionPolicy) (position : SeparatorPosition) (initiated : Bool) (slots : List Slot)
      (k : List Frame) (s : State) → slice_get table.rows id ≡ Some (Separated policy position initiated slots) → AreBelow id slots
      → Does input table
      (finish input table k (spend one_row (separated (record {
        input = input;
        table = table;
        child = below input table id;
        position = position;
        initiated = initiated;
      }) policy slots s)))
      (enter_separated held id policy position initiated slots k s)
  separated-ahead held id policy position initiated slots k s is under =
      let slot : SlotPlace =
      record { sequence = id; place = 0; optional = false; rule = Required; left = 0; progress = begun policy position; last = s.at } in
      let same : separation_of (slice_get table.rows id) ≡ record { position = position; initiated = initiated; slots = slots } = ap separation_of is in
      ap (λ (of : Separation). finish input table k (spend one_row (in_slots (record {
        input = input;
        table = table;
        child = below input table id;
        position = of.position;
        initiated = of.initiated;
      }) slots (record { progress = begun policy of.position; last = s.at }) s))) (sym same)
      ∙ ap (λ (where_is : SeparatorPosition). finish input table k (spend one_row (in_slots (sequence_of input table id) slots
      (record { progress = begun policy where_is; last = s.at }) s))) (ap (λ (of : Separation). of.position) same)
      ∙ in-ahead one_row held k s slots slot (ap (λ (of : Separation). of.slots) same) under
      ∙ ap (λ (b : Bool). spend (comes_or one_row held b k s (first_in slot slots) (λ p. sequence_ends one_row held (ending p) s.at k s)).tally
      (ahead input table (comes_or one_row held b k s (first_in slot slots) (λ p. sequence_ends one_row held (ending p) s.at k s)).machine))
      (ap (λ (of : Separation). of.initiated) same)
      ∙ ap (λ (move : Move). spend move.tally (ahead input table move.machine))
      (sym (comes-are one_row held initiated k s s.at (first_in slot slots)))

  -- the sequence goes on behind a slot
  pub goes-ahead : (cost : Tally) (held : Held) (slot : SlotPlace) (own : Slot) (slots : List Slot) (k : List Frame) (s : State)
      → slots_from table slot ≡ own ∷ slots → AreBelow slot.sequence (own ∷ slots) → Does input table
      (finish input table k (spend cost (following (sequence_at slot) slot.optional slot.left own slots (course_of slot) s)))
      (goes_on cost held (initiated_at slot) slot own slots k s)
  goes-ahead cost held slot own slots k s is below =
      let ends : Progress → Move = λ p. sequence_ends cost held (ending p) slot.last k s in
      row-ahead cost held slot own slots k s is below.0
      (λ p. comes_or cost held (initiated_at slot) k s (first_in (record slot { place = slot.place + 1; progress = p }) slots) ends)
      (λ p. in-ahead cost held k s slots (record slot { place = slot.place + 1; progress = p })
      (drop-next slot.place (separation_at table slot).slots own slots is) below.1)
      slot.optional slot.left
      ∙ ap (λ (move : Move). spend move.tally (ahead input table move.machine))
      (sym (next-are cost held (initiated_at slot) k s (first_here slot own) (λ p. first_in (record slot { place = slot.place + 1; progress = p }) slots) ends))
      ∙ ap (λ (move : Move). spend move.tally (ahead input table move.machine))
      (sym (comes-are cost held (initiated_at slot) k s slot.last (coming_from slot own slots)))

  -- the sequence goes on behind a row without a slot
  pub beside-ahead : (held : Held) (slot : SlotPlace) (k : List Frame) (s : State) → AreBelow slot.sequence (slots_from table slot)
      → Does input table (finish input table k (beside_slots input table slot (ended Done s)))
      (goes_beside held (initiated_at slot) slot (slots_from table slot) k s)
  beside-ahead held slot k s below =
      in-ahead nothing held k s (slots_from table slot) slot refl below
      ∙ ap (λ (move : Move). spend move.tally (ahead input table move.machine))
      (sym (comes-are nothing held (initiated_at slot) k s slot.last (first_in slot (slots_from table slot))))

  -- it is asked how many slots of a row are required
  module _ (held : Held) (slot : SlotPlace) (own : Slot) (slots : List Slot) (k : List Frame) (is : slots_from table slot ≡ own ∷ slots)
      (below : AreBelow slot.sequence (own ∷ slots)) where
    abbrev following_count : ℕ → State → Outcome
    following_count count after = in_row (sequence_at slot) own count (in_slots (sequence_at slot) slots) (course_of slot) after

    count_told-ahead : (count : Result (Option ℕ) ℕ) (s : State) → Does input table
        (finish input table k (spend one_row (told_count NegativeCount following_count count s)))
        (counted_slots held (initiated_at slot) slot own slots count k s)
    count_told-ahead (Ok (Some count)) s = goes-ahead one_row held (record slot { optional = false; left = count }) own slots k s is below
    count_told-ahead (Ok None) s = finish-spend input table k one_row (ended (Failed NegativeCount s.at) s)
    count_told-ahead (Err fault) s = finish-spend input table k one_row (ended (Failed (ExpressionFault fault) s.at) s)

    count_asked-ahead : (s : State) (found : Option (List Node)) → Does input table
        (finish input table k (spend one_row (asked_count table (start.Inside s.inside) NegativeCount following_count found s)))
        (counted_slots held (initiated_at slot) slot own slots (count_told (given_by table (start.Inside s.inside) found s)) k
        (record s { variables = variables_behind table (start.Inside s.inside) found s }))
    count_asked-ahead s None = count_told-ahead (Ok None) s
    count_asked-ahead s (Some expression) =
        count_told-ahead (count_taken (evaluated table (start.Inside s.inside) expression s)) (with_reads table (start.Inside s.inside) expression s)

  pub count-ahead : (held : Held) (slot : SlotPlace) (question : ℕ) (k : List Frame) (s : State) (slots : List Slot) → slots_from table slot ≡ slots
      → AreBelow slot.sequence slots → Does input table (finish input table k (asked_slots (sequence_at slot) slot question slots s))
      (count_slots table held (initiated_at slot) slot question slots k s)
  count-ahead held slot question k s [] is below = finish-spend input table k one_row (ended Done s)
  count-ahead held slot question k s (own ∷ slots) is below = count_asked-ahead held slot own slots k is below s (question_at table question)

  -- what a slot comes to
  module _ (slot : SlotPlace) (own : Slot) (slots : List Slot) (is : slots_from table slot ≡ own ∷ slots) (below : AreBelow slot.sequence (own ∷ slots)) where
    abbrev seq : Sequence
    seq = sequence_at slot

    abbrev here : Here
    here = here_of slot.progress slot.rule

    -- behind a cost and nothing else
    free : (cost : Tally) (k : List Frame) (o : Outcome) → finish input table k (spend cost (spend nothing o)) ≡ finish input table k (spend cost o)
    free cost k o = ap (λ (p : Outcome). finish input table k (spend cost p)) (spend-nothing o)

    settle-ahead : (cost : Tally) (held : Held) (bit : ℕ) (after : Progress) (move : SlotMove) (end : End) (k : List Frame) (s : State)
        → Does input table
        (finish input table k (spend cost (settles (turn_of seq slot own slots) here (course_of slot) bit after move (ended end s))))
        (settle cost held (initiated_at slot) slot bit own slots after move end k s)
    settle-ahead cost held bit after Keep end k s =
        free cost k (following seq slot.optional slot.left own slots (record { progress = after; last = bit }) (closed_slot here s))
        ∙ goes-ahead cost held (record slot { progress = after; last = bit }) own slots k (closed_slot here s) is below
    settle-ahead cost held bit after Drop end k s =
        free cost k (following seq slot.optional slot.left own slots (record { progress = after; last = bit }) (closed_slot here s))
        ∙ goes-ahead cost held (record slot { progress = after; last = bit }) own slots k (closed_slot here s) is below
    settle-ahead cost held bit after EndArray end k s =
        free cost k (following seq slot.optional 0 own slots (record { progress = after; last = slot.last }) (taken_back here s))
        ∙ goes-ahead cost held (record slot { progress = after; left = 0 }) own slots k (taken_back here s) is below
    settle-ahead cost held bit after (Fail fault) end k s = finish-spend input table k cost (ended end (closed_slot here s))
    settle-ahead cost held bit after move end k s = finish-spend input table k cost (ended end s)

    pub settled-ahead : (cost : Tally) (held : Held) (bit : ℕ) (found : Bool) (end : End) (k : List Frame) (s : State)
        → Does input table (finish input table k (spend cost (settled_by (turn_of seq slot own slots) (course_of slot) bit found (ended end s))))
        (settled cost held (initiated_at slot) slot bit own slots found end k s)
    settled-ahead cost held bit found end k s =
        settle-ahead cost held bit (group_after slot.progress (seen.Separator found)) (move_at slot.progress (seen.Separator found)) end k s

    decide-ahead : (held : Held) (bit : ℕ) (blank : Bool) (after : Progress) (move : SlotMove) (end : End) (k : List Frame) (s : State)
        → Does input table
        (finish input table k (decides seq (turn_of seq slot own slots) here (course_of slot) bit blank after move (ended end s)))
        (decide held (initiated_at slot) slot bit own slots blank after move end k s)
    unfolding finish
    decide-ahead held bit blank after Keep end k s =
        goes-ahead nothing held (record slot { progress = after; last = bit }) own slots k (closed_slot here s) is below
    decide-ahead held bit blank after Drop end k s =
        goes-ahead nothing held (record slot { progress = after; last = bit }) own slots k (closed_slot here (emptied bit s)) is below
    decide-ahead held bit blank after EndArray end k s =
        goes-ahead nothing held (record slot { progress = after; left = 0 }) own slots k (taken_back here s) is below
    decide-ahead held bit blank after (Fail fault) end k s = after_nothing input table k (ended end (closed_slot here s))
    decide-ahead held bit blank after TakeSeparator end k s =
        let closing : SlotPlace = record slot { progress = after } in
        let o : Outcome = separator input table.delimiters (cond blank (emptied bit s) s) in
        ap (finish input table k) (spend-nothing (spend one_row (closing_slot seq closing bit (own ∷ slots) o)))
        ∙ finish-spend input table k one_row (closing_slot seq closing bit (own ∷ slots) o)
        ∙ ap (λ (all : List Slot). spend one_row (finish input table k (closing_slot seq closing bit all o))) (sym is)
    decide-ahead held bit blank after LookForSeparator end k s =
        let closing : SlotPlace = record slot { progress = after } in
        let t : State = cond blank (emptied bit s) s in
        finish-spend input table k nothing (asked_behind seq closing bit (own ∷ slots) t)
        ∙ ap (λ (all : List Slot). spend nothing (finish input table k (asked_behind seq closing bit all t))) (sym is)
    decide-ahead held bit blank after Parse end k s = after_nothing input table k (ended end s)
    decide-ahead held bit blank after EndGroup end k s = after_nothing input table k (ended end s)

    lacks-ahead : (held : Held) (after : Progress) (move : SlotMove) (end : End) (k : List Frame) (s : State)
        → Does input table
        (finish input table k (lacks (turn_of seq slot own slots) here (course_of slot) after move (ended end s)))
        (without_separator held (initiated_at slot) slot own slots after move end k s)
    lacks-ahead held after EndArray end k s =
        goes-ahead nothing held (record slot { progress = after; left = 0 }) own slots k (cond (opens_before here) (taken_back here s) s) is below
    lacks-ahead held after move end k s = after_nothing input table k (ended end s)

    -- the occurrence of a slot begins, once it is known whether it is empty
    opened-at : (initiated before tried mark : Bool) (s : State)
        → (cond before s (cond tried (pointed initiated (cond mark (marked s) s)) s)).at ≡ s.at
    opened-at initiated true tried mark s = refl
    opened-at initiated false true true s = refl
    opened-at initiated false true false s = refl
    opened-at initiated false false mark s = refl

    pub occurs-ahead : (cost : Tally) (held : Held) (empty : Bool) (k : List Frame) (s : State)
        → Does input table (finish input table k (spend cost (occur_in seq slot own slots empty s)))
        (occurs cost held (initiated_at slot) slot own.body k s empty)
    unfolding finish
    occurs-ahead cost held empty k s =
        let t : State = cond (opens_before here) s (opened_at (initiated_at slot) here s) in
        finish-spend input table k cost (occur_in seq slot own slots empty s)
        ∙ ap (λ (o : Outcome). spend cost (finish input table k (content_slot seq slot t.at empty (own ∷ slots) (untried o.end o))))
        (below-meaning input table slot.sequence own.body (as_occurrence (is_tried slot.rule) t) below.0)
        ∙ ap (λ (bit : ℕ). spend cost (finish input table k (content_slot seq slot bit empty (own ∷ slots)
        (occurring (is_tried slot.rule) (meaning input table own.body) t))))
        (opened-at (initiated_at slot) (opens_before here) (is_tried slot.rule) (has_mark here) s)
        ∙ ap (λ (all : List Slot). spend cost (finish input table k (content_slot seq slot s.at empty all
        (occurring (is_tried slot.rule) (meaning input table own.body) t)))) (sym is)

  -- what waits in a slot takes an end
  module _ (held : Held) (slot : SlotPlace) (k : List Frame) (s : State) where
    pub before_done-ahead : (slots : List Slot) → slots_from table slot ≡ slots → AreBelow slot.sequence slots
        → Does input table (finish input table k (before_slot (sequence_at slot) slot slots (ended Done s))) (before_done held slot slots k s)
    before_done-ahead [] is below = after_nothing input table k (ended Done (unsought slot s))
    before_done-ahead (own ∷ slots) is below =
        content-ahead nothing held (record slot { progress = group_after slot.progress (seen.Separator true) }) own slots k s is below.0

    pub before_failed-ahead : (cause : ParseCause) (bit : ℕ) (slots : List Slot) → slots_from table slot ≡ slots → AreBelow slot.sequence slots
        → Does input table (finish input table k (before_slot (sequence_at slot) slot slots (ended (Failed cause bit) s)))
        (before_failed held (initiated_at slot) slot slots (Failed cause bit) k s)
    before_failed-ahead cause bit [] is below = after_nothing input table k (ended (Failed cause bit) (unsought slot s))
    before_failed-ahead cause bit (own ∷ slots) is below =
        lacks-ahead slot own slots is below held (group_after slot.progress (seen.Separator false)) (move_at slot.progress (seen.Separator false))
        (Failed cause bit) k s

    pub content_done-ahead : (bit : ℕ) (empty : Bool) (slots : List Slot) → slots_from table slot ≡ slots → AreBelow slot.sequence slots
        → Does input table (finish input table k (content_slot (sequence_at slot) slot bit empty slots (ended Done s)))
        (content_ended held (initiated_at slot) slot bit empty slots (nat_lt bit s.at) None Done k s)
    content_done-ahead bit empty [] is below = after_nothing input table k (ended Done (unslotted slot s))
    content_done-ahead bit empty (own ∷ slots) is below =
        let moved : Bool = nat_lt bit s.at in
        let resolved : Bool = is_settled s.marks in
        decide-ahead slot own slots is below held bit (is_blank (outcome moved empty None resolved))
        (group_after slot.progress (seen.Ended moved empty None resolved)) (move_at slot.progress (seen.Ended moved empty None resolved)) Done k s

    pub content_failed-ahead : (bit : ℕ) (empty : Bool) (cause : ParseCause) (at : ℕ) (slots : List Slot) → slots_from table slot ≡ slots
        → AreBelow slot.sequence slots
        → Does input table (finish input table k (content_slot (sequence_at slot) slot bit empty slots (ended (Failed cause at) s)))
        (content_ended held (initiated_at slot) slot bit empty slots false (Some cause) (Failed cause at) k s)
    content_failed-ahead bit empty cause at [] is below = after_nothing input table k (ended (Failed cause at) (unslotted slot s))
    content_failed-ahead bit empty cause at (own ∷ slots) is below =
        let resolved : Bool = is_settled s.marks in
        decide-ahead slot own slots is below held bit (is_blank (outcome false empty (Some cause) resolved))
        (group_after slot.progress (seen.Ended false empty (Some cause) resolved)) (move_at slot.progress (seen.Ended false empty (Some cause) resolved))
        (Failed cause at) k s

    pub closing_done-ahead : (bit : ℕ) (slots : List Slot) → slots_from table slot ≡ slots → AreBelow slot.sequence slots
        → Does input table (finish input table k (closing_slot (sequence_at slot) slot bit slots (ended Done s)))
        (closing_ended held (initiated_at slot) slot bit slots true Done k s)
    closing_done-ahead bit [] is below = after_nothing input table k (ended Done (unslotted slot s))
    closing_done-ahead bit (own ∷ slots) is below =
        ap (finish input table k) (sym (spend-nothing (settled_by (turn_of (sequence_at slot) slot own slots) (course_of slot) bit true (ended Done s))))
        ∙ settled-ahead slot own slots is below nothing held bit true Done k s

    pub closing_failed-ahead : (bit : ℕ) (cause : ParseCause) (at : ℕ) (slots : List Slot) → slots_from table slot ≡ slots → AreBelow slot.sequence slots
        → Does input table (finish input table k (closing_slot (sequence_at slot) slot bit slots (ended (Failed cause at) s)))
        (closing_ended held (initiated_at slot) slot bit slots false (Failed cause at) k s)
    closing_failed-ahead bit cause at [] is below = after_nothing input table k (ended (Failed cause at) (unslotted slot s))
    closing_failed-ahead bit cause at (own ∷ slots) is below =
        ap (finish input table k)
        (sym (spend-nothing (settled_by (turn_of (sequence_at slot) slot own slots) (course_of slot) bit false (ended (Failed cause at) s))))
        ∙ settled-ahead slot own slots is below nothing held bit false (Failed cause at) k s

    -- a limit is one of the whole
    before-stopped : (cause : Halt) (quantity : ℕ) (slots : List Slot)
        → before_slot (sequence_at slot) slot slots (ended (Stopped cause quantity) s) ≡ ended (Stopped cause quantity) s
    before-stopped cause quantity [] = refl
    before-stopped cause quantity (own ∷ slots) = refl

    content-stopped : (bit : ℕ) (empty : Bool) (cause : Halt) (quantity : ℕ) (slots : List Slot)
        → content_slot (sequence_at slot) slot bit empty slots (ended (Stopped cause quantity) s) ≡ ended (Stopped cause quantity) s
    content-stopped bit empty cause quantity [] = refl
    content-stopped bit empty cause quantity (own ∷ slots) = refl

    closing-stopped : (bit : ℕ) (cause : Halt) (quantity : ℕ) (slots : List Slot)
        → closing_slot (sequence_at slot) slot bit slots (ended (Stopped cause quantity) s) ≡ ended (Stopped cause quantity) s
    closing-stopped bit cause quantity [] = refl
    closing-stopped bit cause quantity (own ∷ slots) = refl

    pub before_stopped-ahead : (cause : Halt) (quantity : ℕ)
        → Does input table (finish input table k (before_slot (sequence_at slot) slot (slots_from table slot) (ended (Stopped cause quantity) s)))
        (pass nothing held (Leave (Stopped cause quantity)) k s)
    before_stopped-ahead cause quantity =
        ap (finish input table k) (before-stopped cause quantity (slots_from table slot)) ∙ after_nothing input table k (ended (Stopped cause quantity) s)

    pub content_stopped-ahead : (bit : ℕ) (empty : Bool) (cause : Halt) (quantity : ℕ)
        → Does input table (finish input table k (content_slot (sequence_at slot) slot bit empty (slots_from table slot) (ended (Stopped cause quantity) s)))
        (pass nothing held (Leave (Stopped cause quantity)) k s)
    content_stopped-ahead bit empty cause quantity =
        ap (finish input table k) (content-stopped bit empty cause quantity (slots_from table slot))
        ∙ after_nothing input table k (ended (Stopped cause quantity) s)

    pub closing_stopped-ahead : (bit : ℕ) (cause : Halt) (quantity : ℕ)
        → Does input table (finish input table k (closing_slot (sequence_at slot) slot bit (slots_from table slot) (ended (Stopped cause quantity) s)))
        (pass nothing held (Leave (Stopped cause quantity)) k s)
    closing_stopped-ahead bit cause quantity =
        ap (finish input table k) (closing-stopped bit cause quantity (slots_from table slot))
        ∙ after_nothing input table k (ended (Stopped cause quantity) s)

    -- a question of a slot, by the window
    module _ (agrees : Agrees held input.bytes) (size : held.size ≡ input.limits.window) (stands : Anchored held s) where
      abbrev lists : List Opened
      lists = lists_of table.delimiters (markup s)

      pub look_in-ahead : (slots : List Slot) → slots_from table slot ≡ slots → AreBelow slot.sequence slots
          → (look_in input.limits table.delimiters held (initiated_at slot) slot slots k s).waits ≡ false
          → Does input table (finish input table k (asked_in (sequence_at slot) slot slots s))
          (look_in input.limits table.delimiters held (initiated_at slot) slot slots k s)
      look_in-ahead [] is below going = after_nothing input table k (ended Done (unsought slot s))
      look_in-ahead (own ∷ slots) is below going =
          let question : Ask Bool = is_empty_at lists s.at s.stop in
          let from = empty-from lists (anchor s) s.at s.stop stands.low in
          let cost : Tally = needs_from (anchor s) (ask (seen_at (from_byte held (anchor s))) question nothing).tally in
          peek-ahead held s question stands from input table agrees size (occur_in (sequence_at slot) slot own slots) k (LookIn slot)
          (occurs cost (from_byte held (anchor s)) (initiated_at slot) slot own.body k s)
          (λ empty. occurs-ahead slot own slots is below cost (from_byte held (anchor s)) empty k s) going

      pub look_behind-ahead : (bit : ℕ) (slots : List Slot) → slots_from table slot ≡ slots → AreBelow slot.sequence slots
          → (look_behind input.limits table.delimiters held (initiated_at slot) slot bit slots k s).waits ≡ false
          → Does input table (finish input table k (asked_behind (sequence_at slot) slot bit slots s))
          (look_behind input.limits table.delimiters held (initiated_at slot) slot bit slots k s)
      look_behind-ahead bit [] is below going = after_nothing input table k (ended Done (unslotted slot s))
      look_behind-ahead bit (own ∷ slots) is below going =
          let question : Ask Bool = separator_follows lists (length (markup s) - 1) s.at s.stop in
          let from = separator-from lists (length (markup s) - 1) (anchor s) s.at s.stop stands.low in
          let cost : Tally = needs_from (anchor s) (ask (seen_at (from_byte held (anchor s))) question nothing).tally in
          peek-ahead held s question stands from input table agrees size
          (λ found t. settled_by (turn_of (sequence_at slot) slot own slots) (course_of slot) bit found (ended Done t)) k (LookBehind slot bit)
          (λ found. settled cost (from_byte held (anchor s)) (initiated_at slot) slot bit own slots found Done k s)
          (λ found. settled-ahead slot own slots is below cost (from_byte held (anchor s)) bit found Done k s) going
