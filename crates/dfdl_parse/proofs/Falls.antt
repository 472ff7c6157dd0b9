-- Each step leaves less to be done.
use Rattle.std.proofs.Common.{◌≡◌, ℕ, suc, ◌+◌, ◌-◌, ◌*◌, ◌/◌, ◌<◌, ◌≤◌, min, nat_eq, nat_le, refl, List, [], ◌∷◌, length, Bool, true, false, cond, nat_lt, Option, Some, None, ap, arith, replicate}
use Rattle.std.specs.Prelude.{slice_get}
use Rattle.dfdl_bits.specs.Window.{Held, end_of, from_byte, seen_at}
use Rattle.dfdl_bits.specs.declared.window.Seen.{Seen}
use Rattle.dfdl_bits.specs.declared.window.Seen.TheVariants.{Byte, End as DataEnded, NotYet, Over}
use Rattle.dfdl_report.specs.declared.cause.LimitCause.TheVariants.{Nodes}
use Rattle.dfdl_report.specs.declared.cause.ParseCause.{ParseCause}
use Rattle.dfdl_report.specs.declared.cause.ParseCause.TheVariants.{LengthOutOfRange}
use Rattle.dfdl_value.specs.declared.value.Value.{Value}
use Rattle.dfdl_terms.specs.declared.delimiters.Delimiters.{Delimiters}
use Rattle.dfdl_terms.specs.declared.row.Primitive.{Primitive}
use Rattle.dfdl_delims.specs.Longest.{Longest}
use Rattle.dfdl_terms.specs.declared.row.Row.{Row}
use Rattle.dfdl_terms.specs.declared.row.Row.TheVariants.{Leaf, Elem, Group, Skip, Align, Initiator, Terminator, Separator, Scope, Boxed, PrefixedLeaf, PrefixedBox, MeasuredLeaf, MeasuredBox, Repeat, Counted, Optional, Choice, Dispatch, Statement, Concluded, Hidden, Spanned, Instance, Separated}
use Rattle.dfdl_terms.specs.Rows.{Table, Nests}
use Rattle.dfdl_looks.specs.Asks.{Reached, Told, TooFar, Missing, Reading, ask}
use Rattle.dfdl_looks.specs.Tallies.{Tally, needs_from, nothing, one_row, saw_byte}
use Rattle.dfdl_grammar.specs.declared.end.End.{End}
use Rattle.dfdl_grammar.specs.declared.end.End.TheVariants.{Done, Failed, Stopped}
use Rattle.dfdl_grammar.specs.declared.end.Halt.TheVariants.{Limit}
use Rattle.dfdl_grammar.specs.declared.limits.Limits.{Limits}
use Rattle.dfdl_grammar.specs.States.{Input, State, anchor, anchor_at}
use Rattle.dfdl_grammar.specs.Marks.{back, closed, is_settled, marked, pointed, stays_at}
use Rattle.dfdl_grammar.specs.Occurrences.{as_normal, as_tried, dropped}
use Rattle.dfdl_grammar.specs.declared.mark.Mark.{Mark}
use Rattle.dfdl_grammar.specs.declared.instead.Instead.{Instead}
use Rattle.dfdl_grammar.specs.declared.instead.Instead.TheVariants.{Nothing, Nil, Empty}
use Rattle.dfdl_grammar.specs.Outcomes.{Outcome}
use Rattle.dfdl_terms.specs.declared.text.TextSize.{TextSize}
use Rattle.dfdl_grammar.specs.Leaves.{Find, Fails, Finds, FindsOctets, FindsText, content_begins, has_room, nil_values, program, program_for, read_by}
use Rattle.dfdl_grammar.specs.Prefixes.{bits_of_units, resized, size_of, units_told}
use Rattle.dfdl_grammar.specs.Framing.{aligned}
use Rattle.dfdl_grammar.specs.Boxes.{boxed_at, filled_from}
use Rattle.dfdl_grammar.specs.Delimiters.{lists_of, markup, sought_among, stands_in}
use Rattle.dfdl_grammar.specs.Elements.{begun, has_elements}
use Rattle.dfdl_parse.specs.declared.frame.Frame.{Frame}
use Rattle.dfdl_parse.specs.declared.frame.Frame.TheVariants.{Rest, Element, Box, Spanning, Scope as ScopeFrame, Trial, Branch, Occurrence, Times, Before, Content, Closing, Aside, Concluding, Instance as InstanceFrame}
use Rattle.dfdl_parse.specs.declared.frame.Outside.{Outside}
use Rattle.dfdl_parse.specs.declared.frame.Next.{Next}
use Rattle.dfdl_parse.specs.declared.frame.Next.TheVariants as next
use Rattle.dfdl_parse.specs.declared.frame.Parts.{Parts}
use Rattle.dfdl_parse.specs.declared.frame.Focus.{Focus}
use Rattle.dfdl_parse.specs.declared.frame.Focus.TheVariants.{Enter, Pass, PassRest, Sized, Seek, LookIn, LookBehind, Count, Leave}
use Rattle.dfdl_parse.specs.declared.frame.Behind.TheVariants as behind
use Rattle.dfdl_parse.specs.Boxing.{back_outside, outside}
use Rattle.dfdl_parse.specs.declared.frame.Sought.{Sought}
use Rattle.dfdl_parse.specs.declared.frame.Sought.TheVariants as sought
use Rattle.dfdl_parse.specs.Searches.{among, found_text, is_cut, place_of}
use Rattle.dfdl_parse.specs.Moves.{Machine, Move, is_missing, landed, pass, read_leaf, read_move}
use Rattle.dfdl_parse.specs.Prefixed.{at_end, behind_units, can_fit, landed_prefix, prefix_move, read_prefix, read_resized, read_sized, sized_begins, units_begin}
use Rattle.dfdl_parse.specs.Machines.{HasEnded, children_of, enter, enter_group, fill_move, go_on, leave, rest_move, seen_beyond, step}
use Rattle.dfdl_parse.specs.Trials.{attempt, parts_here, parts_of, refused, retry, trial_done, try_empty, try_nil, try_normal, two_rows}
use Rattle.dfdl_parse.specs.Points.{try_branch, try_occurrence}
use Rattle.dfdl_parse.specs.Testing.{is_unknown, landed_test, read_test, verdict_in}
use Rattle.dfdl_parse.specs.Stating.{make_statement, with_behind}
use Rattle.dfdl_terms.specs.declared.statement.Statement.{Statement as AnyStatement}
use Rattle.dfdl_terms.specs.declared.statement.Statement.TheVariants.{Pattern, Expression, Setting, Calculation, Question, Opening}
use Rattle.dfdl_paths.specs.declared.place.Start.TheVariants.{At, Inside}
use Rattle.dfdl_parse.proofs.Stated.{few-behind}
use Rattle.dfdl_parse.proofs.Asked.{counted-has, dispatch-has, measured-has, times-have}
use Rattle.dfdl_parse.proofs.InstanceSteps.{instanced-has}
use Rattle.dfdl_terms.specs.declared.statement.PatternTest.{PatternTest}
use Rattle.dfdl_texts.specs.Texts.{Text}
use Rattle.dfdl_grammar.specs.Leaves.{text_sought}
use Rattle.dfdl_parse.specs.Ahead.{ahead}
use Rattle.dfdl_grammar.specs.Slots.{is_empty_at, separator_follows}
use Rattle.dfdl_terms.specs.declared.slots.Slot.{Slot}
use Rattle.dfdl_parse.specs.declared.frame.SlotPlace.{SlotPlace}
use Rattle.dfdl_parse.specs.Slots.{content_ended, look_behind, look_in, occurs, separation_at, settled, slots_from, told_move}
use Rattle.dfdl_parse.proofs.SlotComes.{Ways, beside-has, closing-has, content_ended-has, count-has, done-has, failed-has, separated-has, settled-has}
use Rattle.dfdl_parse.proofs.Finishes.{Fits}
use Rattle.dfdl_parse.proofs.Ahead.{step-ahead}

-- what is done next, besides the rows that are ahead
abbrev pub mode : Focus → ℕ
mode (Enter id) = 0
mode (Pass to) = 4
mode (PassRest bit outer) = 4
mode (Sized prim size) = 4
mode (Seek what) = 4
mode (LookIn slot) = 4
mode (LookBehind slot bit) = 5
mode (Count slot question) = 4
mode (Leave end) = 3

-- what is left to be done over some data
abbrev pub measure : Input → Table → Machine → ℕ
measure input table m = 16 * ((ahead input table m).tally.rows + (ahead input table m).tally.looks) + (3 * length m.stack + mode m.focus)

-- a step falls by its rows, its looks and the stack
abbrev Falls : Focus → List Frame → Move → Type 0
Falls focus k move = 3 * length move.machine.stack + mode move.machine.focus < 16 * (move.tally.rows + move.tally.looks) + (3 * length k + mode focus)

landed-falls : (limits : Limits) (focus : Focus) (first : ℕ) (reached : Reached Find) (k : List Frame) (s : State) → is_missing reached ≡ false
    → 3 * length (landed limits focus first reached k s).stack + mode (landed limits focus first reached k s).focus ≡ 3 * length k + 3
landed-falls limits focus first (Told found) k s going = refl
landed-falls limits focus first TooFar k s going = refl
landed-falls limits focus first Missing k s going = absurd (cc)

-- a leaf falls by its row, or from the focus in which it waits
read-falls : (cost : Tally) (limits : Limits) (focus : Focus) (held : Held) (delimiters : List Delimiters) (nil : Option (List Value)) (primitive : Primitive) (k : List Frame) (s : State) → 3 < 16 * cost.rows + mode focus → (room : Bool)
    → let sight : Held = from_byte held (anchor s) in
    let move : Move = cond room
    (read_move cost limits focus (content_begins primitive s.at) sight (ask (seen_at sight) (program_for nil (lists_of delimiters (markup s)) primitive s.at s.stop) nothing) k s)
    (pass cost held (Leave (Failed LengthOutOfRange s.at)) k s) in
    move.waits ≡ false → Falls focus k move
read-falls cost limits focus held delimiters nil primitive k s some true going =
    let here : Reading Find = ask (seen_at (from_byte held (anchor s))) (program_for nil (lists_of delimiters (markup s)) primitive s.at s.stop) nothing in
    let falls = landed-falls limits focus (content_begins primitive s.at) here.reached k s going in
    omega arith
read-falls cost limits focus held delimiters nil primitive k s some false going = omega arith

leaf-falls : (cost : Tally) (limits : Limits) (focus : Focus) (held : Held) (delimiters : List Delimiters) (nil : Option (List Value)) (primitive : Option Primitive) (k : List Frame) (s : State) → 3 < 16 * cost.rows + mode focus
    → (read_leaf cost limits focus held delimiters nil primitive k s).waits ≡ false → Falls focus k (read_leaf cost limits focus held delimiters nil primitive k s)
leaf-falls cost limits focus held delimiters nil None k s some going = omega arith
leaf-falls cost limits focus held delimiters nil (Some primitive) k s some going = read-falls cost limits focus held delimiters nil primitive k s some (has_room primitive s.at s.stop) going

resized-falls : (limits : Limits) (prim : ℕ) (size : TextSize) (held : Held) (delimiters : List Delimiters) (nil : Option (List Value)) (primitive : Option Primitive) (k : List Frame) (s : State)
    → (read_resized limits (Sized prim size) held delimiters nil primitive k s).waits ≡ false → Falls (Sized prim size) k (read_resized limits (Sized prim size) held delimiters nil primitive k s)
resized-falls limits prim size held delimiters nil None k s going = omega arith
resized-falls limits prim size held delimiters nil (Some primitive) k s going = leaf-falls nothing limits (Sized prim size) held delimiters nil (Some primitive) k s (omega arith) going

sized-falls : (limits : Limits) (held : Held) (prim : ℕ) (size : TextSize) (delimiters : List Delimiters) (nil : Option (List Value)) (primitive : Option Primitive) (k : List Frame) (s : State)
    → (read_sized limits held delimiters prim size nil primitive k s).waits ≡ false → Falls (Sized prim size) k (read_sized limits held delimiters prim size nil primitive k s)
sized-falls limits held prim size delimiters nil None k s going = omega arith
sized-falls limits held prim size delimiters nil (Some primitive) k s going = resized-falls limits prim size held delimiters nil (resized size primitive) k s going

-- what is left of a machine besides its rows
abbrev left_of : Machine → ℕ
left_of m = 3 * length m.stack + mode m.focus

-- a step falls below a bound, by its rows and its looks
abbrev HasFallen : ℕ → Move → Type 0
HasFallen bound move = left_of move.machine < 16 * (move.tally.rows + move.tally.looks) + bound

-- of any state
abbrev Any : State → Type 0
Any s = Unit {0}

-- the steps of slots, where their cost is enough for what they put on the stack
slot-ways : (cost : Tally) (held : Held) (k : List Frame) (bound : ℕ) → 3 * length k + 4 < 16 * (cost.rows + cost.looks) + bound
    → Ways (HasFallen bound) Any cost held k
slot-ways cost held k bound some = record {
  leaves = λ end t any. omega arith;
  looks = λ slot t any. omega arith;
  enters = λ slot body bit empty t any. omega arith;
  seeks = λ slot t any. omega arith;
  counts = λ slot question t any. omega arith;
  besides = λ slot body t any. omega arith;
}

-- and of those that have ended
content-falls : (held : Held) (initiated : Bool) (k : List Frame) (slot : SlotPlace) (s : State) (bit : ℕ) (empty : Bool) (slots : List Slot) (moved : Bool)
    (failure : Option ParseCause) (end : End)
    → Falls (Leave end) (Content slot bit empty ∷ k) (content_ended held initiated slot bit empty slots moved failure end k s)
content-falls held initiated k slot s bit empty slots moved failure end =
    let bound : ℕ = 3 * length (Content slot bit empty ∷ k) + mode (Leave end) in
    content_ended-has (HasFallen bound) Any held initiated k (λ here t any. tt) (slot-ways nothing held k bound (omega arith)) slot s tt (λ here. tt) (λ here. tt)
    (record { closes = λ slot bit t any. omega arith; asks = λ slot bit t any. omega arith }) bit tt (λ here. tt) empty slots moved failure end

-- what stands behind a prefix
begun-falls : (prim : ℕ) (size : TextSize) (primitive : Option Primitive) (k : List Frame) (s : State) → left_of (sized_begins primitive prim size k s) ≤ 3 * length k + 4
begun-falls prim size None k s = omega arith
begun-falls prim size (Some primitive) k s = by (can_fit size s.at s.stop)
  where
    by : (fits : Bool) → left_of (cond fits (record { focus = Sized prim size; stack = k; state = s }) (at_end (Failed LengthOutOfRange s.at) k s)) ≤ 3 * length k + 4
    by true = omega arith
    by false = omega arith

box-begun-falls : (bits body : ℕ) (k : List Frame) (s : State) (inside : Bool)
    → left_of (cond inside (record { focus = Enter body; stack = Box (outside s) s.at ∷ k; state = boxed_at (s.at + bits) s }) (at_end (Failed LengthOutOfRange s.at) k s)) ≤ 3 * length k + 4
box-begun-falls bits body k s true = omega arith
box-begun-falls bits body k s false = omega arith

-- so do rows that ask an expression
abbrev HasFew : List Frame → Machine → Type 0
HasFew k m = left_of m ≤ 3 * length k + 4

ended-falls : (k : List Frame) → 3 * length k + 3 ≤ 3 * length k + 4
ended-falls k = omega arith

time-falls : (k : List Frame) → 3 * suc (length k) + 0 ≤ 3 * length k + 4
time-falls k = omega arith

row-falls : (k : List Frame) → 3 * length k + 0 ≤ 3 * length k + 4
row-falls k = omega arith

module _ (limits : Limits) (delimiters : List Delimiters) (id own : ℕ) (next : ℕ → List Frame → State → Machine) (k : List Frame)
    (few : (units : ℕ) (s : State) → left_of (next units k s) ≤ 3 * length k + 4) where
  units-falls : (end : ℕ) (units : Option ℕ) (s : State) → left_of (units_begin end next units k s) ≤ 3 * length k + 4
  units-falls end None s = omega arith
  units-falls end (Some units) s = few units (record s { at = end })

  prefix-landed-falls : (first : ℕ) (reached : Reached Find) (s : State) → left_of (landed_prefix limits id own first next reached k s) ≤ 3 * length k + 4
  prefix-landed-falls first (Told (Fails cause)) s = omega arith
  prefix-landed-falls first (Told (Finds content span)) s = units-falls span.end (units_told own content) s
  prefix-landed-falls first (Told (FindsOctets bytes span)) s = omega arith
  prefix-landed-falls first (Told (FindsText bytes span)) s = omega arith
  prefix-landed-falls first TooFar s = omega arith
  prefix-landed-falls first Missing s = omega arith

  prefix-in-falls : (held : Held) (primitive : Primitive) (s : State) (room : Bool)
      → let sight : Held = from_byte held (anchor s) in
      Falls (Enter id) k (cond room
      (prefix_move limits id own (content_begins primitive s.at) next sight (ask (seen_at sight) (program (lists_of delimiters (markup s)) primitive s.at s.stop) nothing) k s)
      (pass one_row held (Leave (Failed LengthOutOfRange s.at)) k s))
  prefix-in-falls held primitive s true =
      let here : Reading Find = ask (seen_at (from_byte held (anchor s))) (program (lists_of delimiters (markup s)) primitive s.at s.stop) nothing in
      let falls = prefix-landed-falls (content_begins primitive s.at) here.reached s in
      omega arith
  prefix-in-falls held primitive s false = omega arith

  prefix-falls : (held : Held) (primitive : Option Primitive) (s : State) → Falls (Enter id) k (read_prefix limits id held delimiters own next primitive k s)
  prefix-falls held None s = omega arith
  prefix-falls held (Some primitive) s = prefix-in-falls held primitive s (has_room primitive s.at s.stop)

-- one representation of an element, where its cost is enough for what it puts on the stack
attempt-falls : (cost : Tally) (most : ℕ) (held : Held) (id : ℕ) (parts : Parts) (instead : Instead) (k : List Frame) (s : State) (bound : ℕ)
    → 3 * length k + 3 < 16 * (cost.rows + cost.looks) + bound → (room : Bool)
    → let move : Move = cond room
    (pass cost held (Enter parts.body) (Element s.inside parts.complex ∷ k) (begun id instead s))
    (pass cost held (Leave (Stopped (Limit Nodes) most)) k s) in
    left_of move.machine < 16 * (move.tally.rows + move.tally.looks) + bound
attempt-falls cost most held id parts instead k s bound some true = omega arith
attempt-falls cost most held id parts instead k s bound some false = omega arith

module _ (cost : Tally) (most : ℕ) (held : Held) (id : ℕ) (parts : Parts) (k : List Frame) (s : State) (bound : ℕ)
    (some : 3 * length k + 6 < 16 * (cost.rows + cost.looks) + bound) where
  abbrev HasLess : Move → Type 0
  HasLess move = left_of move.machine < 16 * (move.tally.rows + move.tally.looks) + bound

  normal-falls : HasLess (try_normal cost most held id parts k s)
  normal-falls = attempt-falls cost most held id parts Nothing (Trial id parts.occurrence next.Nothing ∷ k) s bound (omega arith) (nat_lt (length s.nodes) most)

  empty-falls : (empty : Option ℕ) → HasLess (try_empty cost most held id parts empty k s)
  empty-falls None = normal-falls
  empty-falls (Some prim) = attempt-falls cost most held id parts (Empty prim) (Trial id parts.occurrence next.Normal ∷ k) s bound (omega arith) (nat_lt (length s.nodes) most)

  nil-falls : (nil : Option ℕ) → HasLess (try_nil cost most held id parts nil k s)
  nil-falls None = empty-falls parts.tried.empty
  nil-falls (Some prim) = attempt-falls cost most held id parts (Nil prim) (Trial id parts.occurrence next.Empty ∷ k) s bound (omega arith) (nat_lt (length s.nodes) most)

element-falls : (most : ℕ) (held : Held) (id : ℕ) (parts : Parts) (k : List Frame) (s : State) (bound : ℕ) → 3 * length k + 6 < 32 + bound → (several : Bool)
    → HasFallen bound (cond several
    (try_nil two_rows most held id parts parts.tried.nil k (marked s)) (attempt two_rows most held id parts Nothing k s))
element-falls most held id parts k s bound few true = nil-falls two_rows most held id parts k (marked s) bound (omega arith) parts.tried.nil
element-falls most held id parts k s bound few false = attempt-falls two_rows most held id parts Nothing k s bound (omega arith) (nat_lt (length s.nodes) most)

retry-falls : (most : ℕ) (held : Held) (id : ℕ) (occurrence : Bool) (parts : Option Parts) (follows : Next) (end : End) (k : List Frame) (s : State)
    → Falls (Leave end) (Trial id occurrence follows ∷ k) (retry most held id parts follows end k s)
retry-falls most held id occurrence None follows end k s = omega arith
retry-falls most held id occurrence (Some parts) next.Empty end k s =
    empty-falls one_row most held id parts k (back s) (3 * length (Trial id occurrence next.Empty ∷ k) + mode (Leave end)) (omega arith) parts.tried.empty
retry-falls most held id occurrence (Some parts) next.Normal end k s = normal-falls one_row most held id parts k (back s) (3 * length (Trial id occurrence next.Normal ∷ k) + mode (Leave end)) (omega arith)
retry-falls most held id occurrence (Some parts) next.Nothing end k s = omega arith

-- a representation that is done
refused-falls : (held : Held) (id : ℕ) (occurrence : Bool) (follows : Next) (marks : List Mark) (k : List Frame) (s : State) → Falls (Leave Done) (Trial id occurrence follows ∷ k) (refused marks held k s)
refused-falls held id occurrence follows [] k s = omega arith
refused-falls held id occurrence follows (mark ∷ outer) k s = omega arith

empty-found-falls : (held : Held) (id : ℕ) (occurrence : Bool) (follows : Next) (refuses : Bool) (k : List Frame) (s : State)
    → Falls (Leave Done) (Trial id occurrence follows ∷ k) (cond refuses (refused s.marks held k s) (pass nothing held (Leave Done) k (closed s)))
empty-found-falls held id occurrence follows true k s = refused-falls held id occurrence follows s.marks k s
empty-found-falls held id occurrence follows false k s = omega arith

done-falls : (held : Held) (id : ℕ) (occurrence : Bool) (parts : Option Parts) (follows : Next) (k : List Frame) (s : State)
    → Falls (Leave Done) (Trial id occurrence follows ∷ k) (trial_done held parts follows k s)
done-falls held id occurrence None follows k s = omega arith
done-falls held id occurrence (Some parts) next.Empty k s = omega arith
done-falls held id occurrence (Some parts) next.Normal k s = empty-found-falls held id occurrence next.Normal parts.tried.refuses_empty k s
done-falls held id occurrence (Some parts) next.Nothing k s = omega arith

-- a branch, where its cost is enough for what it puts on the stack
branch-falls : (cost : Tally) (held : Held) (id place : ℕ) (child : Option ℕ) (k : List Frame) (s : State) (bound : ℕ)
    → 3 * length k + 3 < 16 * (cost.rows + cost.looks) + bound
    → left_of (try_branch cost held id place child k s).machine
    < 16 * ((try_branch cost held id place child k s).tally.rows + (try_branch cost held id place child k s).tally.looks) + bound
branch-falls cost held id place None k s bound some = omega arith
branch-falls cost held id place (Some child) k s bound some = omega arith

-- the same of an occurrence
begun-occurrence-falls : (cost : Tally) (held : Held) (body : ℕ) (initiated : Bool) (left : ℕ) (k : List Frame) (s : State) (bound : ℕ)
    → 3 * length k + 3 < 16 * (cost.rows + cost.looks) + bound → (none : Bool)
    → let move : Move = cond none (pass cost held (Leave Done) k s) (pass cost held (Enter body) (Occurrence body initiated (left - 1) ∷ k) (as_tried (pointed initiated s))) in
    left_of move.machine < 16 * (move.tally.rows + move.tally.looks) + bound
begun-occurrence-falls cost held body initiated left k s bound some true = omega arith
begun-occurrence-falls cost held body initiated left k s bound some false = omega arith

occurrence-falls : (cost : Tally) (held : Held) (body : ℕ) (initiated : Bool) (left : ℕ) (k : List Frame) (s : State) (bound : ℕ)
    → 3 * length k + 3 < 16 * (cost.rows + cost.looks) + bound
    → left_of (try_occurrence cost held body initiated left k s).machine
    < 16 * ((try_occurrence cost held body initiated left k s).tally.rows + (try_occurrence cost held body initiated left k s).tally.looks) + bound
occurrence-falls cost held body initiated left k s bound some = begun-occurrence-falls cost held body initiated left k s bound some (nat_eq left 0)

-- what has failed at a point that is resolved, or not
failed-falls : (held : Held) (frame : Frame) (end : End) (k : List Frame) (s : State) (other : Move) → Falls (Leave end) (frame ∷ k) other → (settled : Bool)
    → Falls (Leave end) (frame ∷ k) (cond settled (pass nothing held (Leave end) k (closed s)) other)
failed-falls held frame end k s other falls true = omega arith
failed-falls held frame end k s other falls false = falls

-- a test
verdict-falls : (limits : Limits) (focus : Focus) (test : PatternTest) (number : ℕ) (reached : Reached Bool) (k : List Frame) (s : State) → is_unknown reached ≡ false
    → left_of (landed_test limits focus test number reached k s) ≡ 3 * length k + 3
verdict-falls limits focus test number (Told holds) k s going = refl
verdict-falls limits focus test number TooFar k s going = refl
verdict-falls limits focus test number Missing k s going = absurd (cc)

test-falls : (limits : Limits) (held : Held) (id number : ℕ) (test : PatternTest) (k : List Frame) (s : State)
    → (read_test one_row limits (Enter id) held number test k s).waits ≡ false → Falls (Enter id) k (read_test one_row limits (Enter id) held number test k s)
test-falls limits held id number test k s going =
    let here : Reading Text = ask (seen_at (from_byte held (anchor s))) (text_sought test.form (aligned 8 s.at) s.stop) nothing in
    let falls = verdict-falls limits (Enter id) test number (verdict_in test.form here.reached) k s going in
    omega arith

statement-falls : (limits : Limits) (table : Table) (held : Held) (id number : ℕ) (found : Option AnyStatement) (k : List Frame) (s : State)
    → (make_statement one_row limits table (Enter id) held number found k s).waits ≡ false
    → Falls (Enter id) k (make_statement one_row limits table (Enter id) held number found k s)
statement-falls limits table held id number None k s going = omega arith
statement-falls limits table held id number (Some (Pattern test)) k s going = test-falls limits held id number test k s going
statement-falls limits table held id number (Some (Expression test)) k s going = omega arith
statement-falls limits table held id number (Some (Setting setting)) k s going = omega arith
statement-falls limits table held id number (Some (Calculation calculation)) k s going = omega arith
statement-falls limits table held id number (Some (Question question)) k s going = omega arith
statement-falls limits table held id number (Some (Opening opening)) k s going = omega arith

passed-falls : (held : Held) (body : ℕ) (initiated : Bool) (left : ℕ) (k : List Frame) (s : State) (stays : Bool)
    → Falls (Leave Done) (Occurrence body initiated left ∷ k)
    (cond stays (pass nothing held (Leave Done) k (dropped s)) (try_occurrence nothing held body initiated left k (closed s)))
passed-falls held body initiated left k s true = omega arith
passed-falls held body initiated left k s false =
    occurrence-falls nothing held body initiated left k (closed s) (3 * length (Occurrence body initiated left ∷ k) + mode (Leave Done)) (omega arith)

-- a delimiter falls by its row, and then from the focus in which it waits
delimiter-falls : (held : Held) (id : ℕ) (what : Sought) (k : List Frame) (s : State) (does_stand : Bool)
    → Falls (Enter id) k (cond does_stand (pass one_row held (Seek what) k s) (pass one_row held (Leave Done) k s))
delimiter-falls held id what k s true = omega arith
delimiter-falls held id what k s false = omega arith

text-falls : (window : ℕ) (focus : Focus) (what : Sought) (place : ℕ) (reached : Reached Longest) (k : List Frame) (s : State) → is_cut reached ≡ false
    → 3 * length (found_text window focus what place reached k s).stack + mode (found_text window focus what place reached k s).focus ≡ 3 * length k + 3
text-falls window focus what place (Told found) k s going = refl
text-falls window focus what place TooFar k s going = refl
text-falls window focus what place Missing k s going = absurd (cc)

group-falls : (held : Held) (id : ℕ) (children : List ℕ) (k : List Frame) (s : State) → Falls (Enter id) k (enter_group held id children k s)
group-falls held id [] k s = omega arith
group-falls held id (child ∷ rest) k s = omega arith

begin-falls : (held : Held) (id to : ℕ) (k : List Frame) (s : State) (over inside : Bool)
    → Falls (Enter id) k (cond over (pass one_row held (Leave Done) k s)
    (cond inside (pass one_row held (Pass to) k s) (pass one_row held (Leave (Failed LengthOutOfRange s.at)) k s)))
begin-falls held id to k s true inside = omega arith
begin-falls held id to k s false true = omega arith
begin-falls held id to k s false false = omega arith

leave-box-falls : (held : Held) (outer : Outside) (from : ℕ) (k : List Frame) (s : State) (over : Bool)
    → Falls (Leave Done) (Box outer from ∷ k)
    (cond over (pass nothing held (Leave Done) k (back_outside outer (filled_from from s))) (pass nothing held (PassRest s.at outer) k (filled_from from s)))
leave-box-falls held outer from k s true = omega arith
leave-box-falls held outer from k s false = omega arith

past-falls : (sight : Held) (low bit byte : ℕ) (outer : Outside) (k : List Frame) (s : State) (last : Bool)
    → Falls (PassRest bit outer) k (cond last (pass (needs_from low (saw_byte byte nothing)) sight (Leave Done) k (back_outside outer (record s { at = s.stop })))
    (pass (needs_from low (saw_byte byte nothing)) sight (PassRest (8 * (byte + 1)) outer) k s))
past-falls sight low bit byte outer k s true = omega arith
past-falls sight low bit byte outer k s false = omega arith

rested-falls : (window : ℕ) (sight : Held) (low bit : ℕ) (outer : Outside) (v : Seen) (k : List Frame) (s : State)
    → (rest_move window sight low bit outer v k s).waits ≡ false → Falls (PassRest bit outer) k (rest_move window sight low bit outer v k s)
rested-falls window sight low bit outer (Byte b) k s going = past-falls sight low bit (bit / 8) outer k s (nat_le ((s.stop - 1) / 8) (bit / 8))
rested-falls window sight low bit outer DataEnded k s going = omega arith
rested-falls window sight low bit outer NotYet k s going = absurd (cc)
rested-falls window sight low bit outer Over k s going = omega arith

filled-falls : (window : ℕ) (sight : Held) (low to : ℕ) (v : Seen) (k : List Frame) (s : State) → (fill_move window sight low to v k s).waits ≡ false
    → Falls (Pass to) k (fill_move window sight low to v k s)
filled-falls window sight low to (Byte b) k s going = omega arith
filled-falls window sight low to DataEnded k s going = omega arith
filled-falls window sight low to NotYet k s going = absurd (cc)
filled-falls window sight low to Over k s going = omega arith

enter-falls : (limits : Limits) (table : Table) (held : Held) (id : ℕ) (r : Option Row) (k : List Frame) (s : State)
    → (enter limits table held id r k s).waits ≡ false → Falls (Enter id) k (enter limits table held id r k s)
enter-falls limits table held id None k s going = omega arith
enter-falls limits table held id (Some (Leaf prim)) k s going =
    leaf-falls one_row limits (Enter id) held table.delimiters (nil_values table.primitives s.instead)
    (slice_get table.primitives (read_by table.primitives s.instead prim)) k s (omega arith) going
enter-falls limits table held id (Some (Elem name simple tried statements body)) k s going =
    let few = few-behind statements (At (length s.nodes)) k in
    element-falls limits.nodes held id (parts_here s.instead (has_elements simple) tried body) (with_behind statements (At (length s.nodes)) k) s
    (3 * length k + mode (Enter id)) (omega arith) (parts_here s.instead (has_elements simple) tried body).tried.are_several
enter-falls limits table held id (Some (Group children)) k s going = group-falls held id children k s
enter-falls limits table held id (Some (Skip bits)) k s going =
    begin-falls held id (s.at + bits) k s (nat_le (s.at + bits) s.at) (nat_le (s.at + bits) s.stop)
enter-falls limits table held id (Some (Align bits)) k s going =
    begin-falls held id (aligned bits s.at) k s (nat_le (aligned bits s.at) s.at) (nat_le (aligned bits s.at) s.stop)
enter-falls limits table held id (Some (Initiator delimiter)) k s going = delimiter-falls held id (sought.Initiator delimiter.list delimiter.resolves) k s (stands_in s.instead delimiter)
enter-falls limits table held id (Some (Terminator delimiter separators)) k s going =
    delimiter-falls held id (sought.Terminator delimiter.list separators) k s (stands_in s.instead delimiter)
enter-falls limits table held id (Some Separator) k s going = omega arith
enter-falls limits table held id (Some (Scope list body)) k s going = omega arith
enter-falls limits table held id (Some (Boxed bits body)) k s going =
    let falls = box-begun-falls bits body k s (nat_le (s.at + bits) s.stop) in omega arith
enter-falls limits table held id (Some (PrefixedLeaf prefix prim)) k s going =
    prefix-falls limits table.delimiters id prefix.own (behind_units table.primitives prefix.unit (behind.Leaf (read_by table.primitives s.instead prim))) k
    (λ units after. begun-falls (read_by table.primitives s.instead prim) (size_of prefix.unit units) (slice_get table.primitives (read_by table.primitives s.instead prim)) k after)
    held (slice_get table.primitives prefix.prim) s
enter-falls limits table held id (Some (Repeat count body)) k s going = group-falls held id (replicate count body) k s
enter-falls limits table held id (Some (Optional most item initiated body)) k s going =
    occurrence-falls one_row held body initiated most k s (3 * length k + mode (Enter id)) (omega arith)
enter-falls limits table held id (Some (Choice rows initiated)) k s going =
    branch-falls one_row held id 0 (slice_get rows 0) k (pointed initiated s) (3 * length k + mode (Enter id)) (omega arith)
enter-falls limits table held id (Some (PrefixedBox prefix body)) k s going =
    prefix-falls limits table.delimiters id prefix.own (behind_units table.primitives prefix.unit (behind.Box body)) k
    (λ units after. box-begun-falls (bits_of_units prefix.unit units) body k after (nat_le (after.at + bits_of_units prefix.unit units) after.stop))
    held (slice_get table.primitives prefix.prim) s
enter-falls limits table held id (Some (MeasuredLeaf by prim)) k s going =
    let own : ℕ = read_by table.primitives s.instead prim in
    let few = measured-has (HasFew k) table k s (λ variables why. ended-falls k) by (behind.Leaf own)
    (λ variables units. begun-falls own (size_of by.unit units) (slice_get table.primitives own) k (record s { variables = variables })) in
    omega arith
enter-falls limits table held id (Some (MeasuredBox by body)) k s going =
    let few = measured-has (HasFew k) table k s (λ variables why. ended-falls k) by (behind.Box body)
    (λ variables units. box-begun-falls (bits_of_units by.unit units) body k (record s { variables = variables })
    (nat_le (s.at + bits_of_units by.unit units) s.stop)) in
    omega arith
enter-falls limits table held id (Some (Counted question body)) k s going =
    let few = counted-has (HasFew k) table k s (λ variables why. ended-falls k) question body (λ variables. ended-falls k) (λ variables left. time-falls k) in
    omega arith
enter-falls limits table held id (Some (Dispatch question keys)) k s going =
    let few = dispatch-has (HasFew k) table k s (λ variables why. ended-falls k) question keys (λ variables row. row-falls k) in
    omega arith
enter-falls limits table held id (Some (Statement number)) k s going = statement-falls limits table held id number (slice_get table.statements number) k s going
enter-falls limits table held id (Some (Concluded statements body)) k s going = let few = few-behind statements (Inside s.inside) k in omega arith
enter-falls limits table held id (Some (Hidden body)) k s going = omega arith
enter-falls limits table held id (Some (Spanned body)) k s going = omega arith
enter-falls limits table held id (Some (Instance statement body)) k s going =
    let few = instanced-has (HasFew k) table body k s (λ variables why. ended-falls k) (λ variables. row-falls k) (λ variables. time-falls k) statement in
    omega arith
enter-falls limits table held id (Some (Separated policy position initiated slots)) k s going =
    separated-has (HasFallen (3 * length k + mode (Enter id))) Any held initiated k (λ here t any. tt)
    (slot-ways one_row held k (3 * length k + mode (Enter id)) (omega arith)) id policy position slots s tt

go-falls : (held : Held) (id next : ℕ) (child : Option ℕ) (k : List Frame) (s : State) → Falls (Leave Done) (Rest id next ∷ k) (go_on held id next child k s)
go-falls held id next None k s = omega arith
go-falls held id next (Some child) k s = omega arith

leave-falls : (limits : Limits) (table : Table) (held : Held) (frame : Frame) (end : End) (k : List Frame) (s : State) → Falls (Leave end) (frame ∷ k) (leave limits table held frame end k s)
leave-falls limits table held (Rest id next) Done k s = go-falls held id next (slice_get (children_of (slice_get table.rows id)) next) k s
leave-falls limits table held (Rest id next) (Failed cause bit) k s = omega arith
leave-falls limits table held (Element outer complex) Done k s = omega arith
leave-falls limits table held (Element outer complex) (Failed cause bit) k s = omega arith
leave-falls limits table held (Box outer from) Done k s = leave-box-falls held outer from k s (nat_le s.stop s.at)
leave-falls limits table held (Box outer from) (Failed cause bit) k s = omega arith
leave-falls limits table held (Spanning from) Done k s = omega arith
leave-falls limits table held (Spanning from) (Failed cause bit) k s = omega arith
leave-falls limits table held (ScopeFrame count) Done k s = omega arith
leave-falls limits table held (ScopeFrame count) (Failed cause bit) k s = omega arith
leave-falls limits table held (Trial id occurrence next) Done k s = done-falls held id occurrence (parts_of occurrence (slice_get table.rows id)) next k s
leave-falls limits table held (Trial id occurrence next) (Failed cause bit) k s =
    retry-falls limits.nodes held id occurrence (parts_of occurrence (slice_get table.rows id)) next (Failed cause bit) k s
leave-falls limits table held (Branch id next) Done k s = omega arith
leave-falls limits table held (Branch id next) (Failed cause bit) k s =
    failed-falls held (Branch id next) (Failed cause bit) k s (try_branch nothing held id next (slice_get (children_of (slice_get table.rows id)) next) k (back s))
    (branch-falls nothing held id next (slice_get (children_of (slice_get table.rows id)) next) k (back s)
    (3 * length (Branch id next ∷ k) + mode (Leave (Failed cause bit))) (omega arith)) (is_settled s.marks)
leave-falls limits table held (Occurrence body initiated left) Done k s = passed-falls held body initiated left k (as_normal s) (stays_at s.marks s.at)
leave-falls limits table held (Occurrence body initiated left) (Failed cause bit) k s =
    failed-falls held (Occurrence body initiated left) (Failed cause bit) k (as_normal s) (pass nothing held (Leave Done) k (dropped (as_normal s))) (omega arith)
    (is_settled s.marks)
leave-falls limits table held (Times body left) Done k s =
    let few = times-have (HasFew k) body k s (ended-falls k) (λ more. time-falls k) left in omega arith
leave-falls limits table held (Times body left) (Failed cause bit) k s = omega arith
leave-falls limits table held (Before slot) Done k s =
    let bound : ℕ = 3 * length (Before slot ∷ k) + mode (Leave Done) in
    done-has (HasFallen bound) Any held false k (λ here t any. tt) (slot-ways nothing held k bound (omega arith)) slot s tt (λ here. tt) (slots_from table slot)
leave-falls limits table held (Before slot) (Failed cause bit) k s =
    let bound : ℕ = 3 * length (Before slot ∷ k) + mode (Leave (Failed cause bit)) in
    failed-has (HasFallen bound) Any held (separation_at table slot).initiated k (λ here t any. tt) (slot-ways nothing held k bound (omega arith))
    slot s tt (λ here. tt) (λ here. tt) (slots_from table slot) (Failed cause bit)
leave-falls limits table held (Content slot bit empty) Done k s =
    content-falls held (separation_at table slot).initiated k slot (as_normal s) bit empty (slots_from table slot) (nat_lt bit s.at) None Done
leave-falls limits table held (Content slot bit empty) (Failed cause at) k s =
    content-falls held (separation_at table slot).initiated k slot (as_normal s) bit empty (slots_from table slot) false (Some cause) (Failed cause at)
leave-falls limits table held (Closing slot bit) Done k s =
    let bound : ℕ = 3 * length (Closing slot bit ∷ k) + mode (Leave Done) in
    closing-has (HasFallen bound) Any held (separation_at table slot).initiated k (λ here t any. tt) (slot-ways nothing held k bound (omega arith))
    slot s tt (λ here. tt) (λ here. tt) bit (slots_from table slot) true Done
leave-falls limits table held (Closing slot bit) (Failed cause at) k s =
    let bound : ℕ = 3 * length (Closing slot bit ∷ k) + mode (Leave (Failed cause at)) in
    closing-has (HasFallen bound) Any held (separation_at table slot).initiated k (λ here t any. tt) (slot-ways nothing held k bound (omega arith))
    slot s tt (λ here. tt) (λ here. tt) bit (slots_from table slot) false (Failed cause at)
leave-falls limits table held (Aside slot) Done k s =
    let bound : ℕ = 3 * length (Aside slot ∷ k) + mode (Leave Done) in
    beside-has (HasFallen bound) Any held (separation_at table slot).initiated k (λ here t any. tt) (slot-ways nothing held k bound (omega arith)) slot
    (slots_from table slot) s tt
leave-falls limits table held (Aside slot) (Failed cause bit) k s = omega arith
leave-falls limits table held (Concluding statements start) Done k s = omega arith
leave-falls limits table held (Concluding statements start) (Failed cause bit) k s = omega arith
leave-falls limits table held InstanceFrame Done k s = omega arith
leave-falls limits table held InstanceFrame (Failed cause bit) k s = omega arith
leave-falls limits table held frame (Stopped cause quantity) k s = omega arith

-- a question of a slot falls from the focus in which it waits
in-falls : (limits : Limits) (sight : Held) (initiated : Bool) (slot : SlotPlace) (body : ℕ) (cost : Tally) (reached : Reached Bool) (k : List Frame) (s : State)
    → (told_move limits (LookIn slot) sight cost (occurs cost sight initiated slot body k s) reached k s).waits ≡ false
    → Falls (LookIn slot) k (told_move limits (LookIn slot) sight cost (occurs cost sight initiated slot body k s) reached k s)
in-falls limits sight initiated slot body cost (Told empty) k s going = omega arith
in-falls limits sight initiated slot body cost TooFar k s going = omega arith
in-falls limits sight initiated slot body cost Missing k s going = absurd (cc)

look_in-falls : (limits : Limits) (delimiters : List Delimiters) (held : Held) (initiated : Bool) (slot : SlotPlace) (slots : List Slot) (k : List Frame) (s : State)
    → (look_in limits delimiters held initiated slot slots k s).waits ≡ false → Falls (LookIn slot) k (look_in limits delimiters held initiated slot slots k s)
look_in-falls limits delimiters held initiated slot [] k s going =
    omega arith
look_in-falls limits delimiters held initiated slot (own ∷ slots) k s going =
    let sight : Held = from_byte held (anchor s) in
    let reading : Reading Bool = ask (seen_at sight) (is_empty_at (lists_of delimiters (markup s)) s.at s.stop) nothing in
    in-falls limits sight initiated slot own.body (needs_from sight.base reading.tally) reading.reached k s going

behind-falls : (limits : Limits) (sight : Held) (initiated : Bool) (slot : SlotPlace) (bit : ℕ) (own : Slot) (slots : List Slot) (cost : Tally)
    (reached : Reached Bool) (k : List Frame) (s : State)
    → (told_move limits (LookBehind slot bit) sight cost (λ found. settled cost sight initiated slot bit own slots found Done k s) reached k s).waits ≡ false
    → Falls (LookBehind slot bit) k
    (told_move limits (LookBehind slot bit) sight cost (λ found. settled cost sight initiated slot bit own slots found Done k s) reached k s)
behind-falls limits sight initiated slot bit own slots cost (Told found) k s going =
    let bound : ℕ = 3 * length k + mode (LookBehind slot bit) in
    settled-has (HasFallen bound) Any sight initiated k (λ here t any. tt) cost (slot-ways cost sight k bound (omega arith)) slot bit own slots found Done s tt
    (λ here. tt) (λ here. tt)
behind-falls limits sight initiated slot bit own slots cost TooFar k s going = omega arith
behind-falls limits sight initiated slot bit own slots cost Missing k s going = absurd (cc)

look_behind-falls : (limits : Limits) (delimiters : List Delimiters) (held : Held) (initiated : Bool) (slot : SlotPlace) (bit : ℕ) (slots : List Slot)
    (k : List Frame) (s : State) → (look_behind limits delimiters held initiated slot bit slots k s).waits ≡ false
    → Falls (LookBehind slot bit) k (look_behind limits delimiters held initiated slot bit slots k s)
look_behind-falls limits delimiters held initiated slot bit [] k s going = omega arith
look_behind-falls limits delimiters held initiated slot bit (own ∷ slots) k s going =
    let sight : Held = from_byte held (anchor s) in
    let reading : Reading Bool =
    ask (seen_at sight) (separator_follows (lists_of delimiters (markup s)) (length (markup s) - 1) s.at s.stop) nothing in
    behind-falls limits sight initiated slot bit own slots (needs_from sight.base reading.tally) reading.reached k s going

step-falls : (limits : Limits) (table : Table) (held : Held) (focus : Focus) (k : List Frame) (s : State) → (HasEnded focus k → ⊥)
    → (step limits table held focus k s).waits ≡ false → Falls focus k (step limits table held focus k s)
step-falls limits table held (Enter id) k s on going = enter-falls limits table held id (slice_get table.rows id) k s going
step-falls limits table held (PassRest bit outer) k s on going =
    let low : ℕ = anchor_at s (8 * (bit / 8)) in
    rested-falls limits.window (from_byte held (min low (end_of held))) low bit outer (seen_beyond held low (bit / 8)) k s going
step-falls limits table held (Pass to) k s on going =
    let low : ℕ = anchor_at s (to - 1) in
    filled-falls limits.window (from_byte held (min low (end_of held))) low to (seen_beyond held low ((to - 1) / 8)) k s going
step-falls limits table held (Sized prim size) k s on going = sized-falls limits held prim size table.delimiters (nil_values table.primitives s.instead) (slice_get table.primitives prim) k s going
step-falls limits table held (Seek what) k s on going =
    let here : Reading Longest = ask (seen_at (from_byte held (anchor_at s (aligned 8 s.at)))) (sought_among (among table.delimiters what s) s.at s.stop) nothing in
    let falls = text-falls limits.window (Seek what) what (place_of what s) here.reached k s going in
    omega arith
step-falls limits table held (LookIn slot) k s on going =
    look_in-falls limits table.delimiters held (separation_at table slot).initiated slot (slots_from table slot) k s going
step-falls limits table held (LookBehind slot bit) k s on going =
    look_behind-falls limits table.delimiters held (separation_at table slot).initiated slot bit (slots_from table slot) k s going
step-falls limits table held (Count slot question) k s on going =
    let bound : ℕ = 3 * length k + mode (Count slot question) in
    count-has (HasFallen bound) Any held (separation_at table slot).initiated k (λ here t any. tt) (slot-ways one_row held k bound (omega arith)) table slot
    question (slots_from table slot) s tt (λ kept. tt)
step-falls limits table held (Leave end) [] s on going = absurd (on refl)
step-falls limits table held (Leave end) (frame ∷ k) s on going = leave-falls limits table held frame end k s

-- less is left behind a step
pub smaller : (input : Input) (table : Table) → Nests table.rows → (held : Held) (focus : Focus) (k : List Frame) (s : State) → Fits held input focus s
    → (HasEnded focus k → ⊥) → (step input.limits table held focus k s).waits ≡ false
    → measure input table (step input.limits table held focus k s).machine < measure input table (record { focus = focus; stack = k; state = s })
smaller input table nests held focus k s fits on going =
    let move : Move = step input.limits table held focus k s in
    let falls = step-falls input.limits table held focus k s on going in
    let does = step-ahead input table nests held focus k s fits going in
    let rows = ap (λ (o : Outcome). o.tally.rows) does in
    let looks = ap (λ (o : Outcome). o.tally.looks) does in
    grow (ahead input table move.machine).tally.rows move.tally.rows (ahead input table (record { focus = focus; stack = k; state = s })).tally.rows
    (ahead input table move.machine).tally.looks move.tally.looks (ahead input table (record { focus = focus; stack = k; state = s })).tally.looks
    (3 * length move.machine.stack + mode move.machine.focus) (3 * length k + mode focus) falls rows looks
  where
    grow : (left made all further seen whole small large : ℕ) → small < 16 * (made + seen) + large → all ≡ made + left → whole ≡ seen + further
        → 16 * (left + further) + small < 16 * (all + whole) + large
    grow left made all further seen whole small large falls rows looks = omega arith
