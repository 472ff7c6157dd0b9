-- A step gives up no byte behind those that it has looked at, and comes to no bit behind them.
use Rattle.std.proofs.Common.{◌≡◌, ℕ, ◌+◌, ◌-◌, ◌*◌, ◌/◌, ◌<◌, ◌≤◌, ◌⊎◌, inl, inr, max, min, nat_eq, nat_le, nat_lt, ◌&&◌, refl, List, [], ◌∷◌, length, Bool, true, false, cond, leb, Option, Some, None, ap, ◌∙◌, arith, replicate}
use Rattle.std.specs.Prelude.{slice_get}
use Rattle.std.proofs.lemmas.Bool.Decides.{nat_tests}
use Rattle.dfdl_bits.specs.Window.{Held, end_of, from_byte, seen_at}
use Rattle.dfdl_bits.specs.declared.window.Seen.{Seen}
use Rattle.dfdl_bits.specs.declared.window.Seen.TheVariants.{Byte, End as DataEnded, NotYet, Over}
use Rattle.dfdl_report.specs.declared.cause.ParseCause.{ParseCause}
use Rattle.dfdl_report.specs.declared.cause.ParseCause.TheVariants.{LengthOutOfRange}
use Rattle.dfdl_report.specs.declared.cause.LimitCause.TheVariants.{Nodes, Text as TextLimit, Window}
use Rattle.dfdl_value.specs.declared.value.Value.{Value}
use Rattle.dfdl_delims.specs.Lists.{Opened}
use Rattle.dfdl_delims.specs.Longest.{Longest, Text, NoText}
use Rattle.dfdl_terms.specs.declared.delimiters.Delimiters.{Delimiters}
use Rattle.dfdl_terms.specs.declared.row.Primitive.{Primitive}
use Rattle.dfdl_terms.specs.declared.row.Row.{Row}
use Rattle.dfdl_terms.specs.declared.row.Row.TheVariants.{Leaf, Elem, Group, Skip, Align, Initiator, Terminator, Separator, Scope, Boxed, PrefixedLeaf, PrefixedBox, MeasuredLeaf, MeasuredBox, Repeat, Counted, Optional, Choice, Dispatch, Statement, Concluded, Hidden, Spanned, Instance, Separated}
use Rattle.dfdl_terms.specs.Rows.{Table}
use Rattle.dfdl_terms.specs.declared.prefix.LengthUnit.{LengthUnit}
use Rattle.dfdl_terms.specs.declared.text.TextSize.{TextSize}
use Rattle.dfdl_looks.specs.Asks.{Reached, Told, TooFar, Missing, Reading, ask}
use Rattle.dfdl_looks.specs.Tallies.{Tally, needs_from, nothing, one_row, plus, saw_byte}
use Rattle.dfdl_looks.proofs.Seeing.{shown}
use Rattle.dfdl_grammar.specs.declared.end.End.{End}
use Rattle.dfdl_grammar.specs.declared.end.End.TheVariants.{Done, Failed, Stopped}
use Rattle.dfdl_grammar.specs.declared.end.Halt.TheVariants.{Limit}
use Rattle.dfdl_grammar.specs.declared.instead.Instead.{Instead}
use Rattle.dfdl_grammar.specs.declared.instead.Instead.TheVariants.{Nothing, Nil, Empty}
use Rattle.dfdl_grammar.specs.declared.limits.Limits.{Limits}
use Rattle.dfdl_grammar.specs.declared.mark.Mark.{Mark}
use Rattle.dfdl_grammar.specs.Outcomes.{Outcome, ended}
use Rattle.dfdl_grammar.specs.States.{State, anchor, anchor_at, held_from}
use Rattle.dfdl_grammar.specs.Marks.{back, back_among, closed, is_settled, marked, pointed, stays_at}
use Rattle.dfdl_grammar.specs.Occurrences.{as_normal, as_occurrence, as_tried, dropped}
use Rattle.dfdl_grammar.specs.Prefixes.{bits_of_units, resized, size_of, units_told}
use Rattle.dfdl_grammar.specs.Leaves.{Find, Fails, Finds, FindsOctets, FindsText, content_begins, has_room, nil_values, program, program_for, read_by, text_sought}
use Rattle.dfdl_grammar.specs.Framing.{aligned}
use Rattle.dfdl_grammar.specs.Delimiters.{lists_of, markup, opens, passed_text, sought_among, stands_in}
use Rattle.dfdl_grammar.specs.Boxes.{boxed_at, filled_from}
use Rattle.dfdl_grammar.specs.Elements.{begun, has_elements}
use Rattle.dfdl_parse.specs.declared.frame.Frame.{Frame}
use Rattle.dfdl_parse.specs.declared.frame.Frame.TheVariants.{Rest, Element, Box, Spanning, Scope as ScopeFrame, Trial, Branch, Occurrence, Times, Before, Content, Closing, Aside, Concluding, Instance as InstanceFrame}
use Rattle.dfdl_parse.specs.declared.frame.Next.{Next}
use Rattle.dfdl_parse.specs.declared.frame.Next.TheVariants as next
use Rattle.dfdl_parse.specs.declared.frame.Parts.{Parts}
use Rattle.dfdl_parse.specs.declared.frame.Outside.{Outside}
use Rattle.dfdl_parse.specs.declared.frame.Focus.{Focus}
use Rattle.dfdl_parse.specs.declared.frame.Focus.TheVariants.{Enter, Pass, PassRest, Sized, Seek, LookIn, LookBehind, Count, Leave}
use Rattle.dfdl_parse.specs.declared.frame.Behind.{Behind}
use Rattle.dfdl_parse.specs.declared.frame.Behind.TheVariants as behind
use Rattle.dfdl_parse.specs.Boxing.{back_outside, outside}
use Rattle.dfdl_parse.specs.declared.frame.Sought.{Sought}
use Rattle.dfdl_parse.specs.declared.frame.Sought.TheVariants as sought
use Rattle.dfdl_parse.specs.Searches.{among, cause_of, found_text, is_cut, place_of, search}
use Rattle.dfdl_parse.specs.Moves.{Machine, Move, landed, pass, read_leaf, read_move}
use Rattle.dfdl_parse.specs.Prefixed.{at_end, behind_units, box_begins, can_fit, landed_prefix, prefix_move, read_prefix, read_resized, read_sized, sized_begins, units_begin}
use Rattle.dfdl_parse.specs.Machines.{children_of, enter, enter_group, fill, fill_move, go_on, leave, pass_rest, rest_move, seen_beyond, step}
use Rattle.dfdl_parse.specs.Opens.{AreOpen, GoesBack, IsBefore, NeedsFrom}
use Rattle.dfdl_parse.specs.Running.{Reaches}
use Rattle.dfdl_parse.specs.Trials.{attempt, is_refused, parts_here, parts_of, refused, retry, try_empty, try_nil, try_normal, two_rows}
use Rattle.dfdl_parse.specs.Points.{try_branch, try_occurrence}
use Rattle.dfdl_parse.specs.Testing.{landed_test, read_test, verdict_in}
use Rattle.dfdl_parse.specs.Stating.{behind_done, make_statement, with_behind}
use Rattle.dfdl_terms.specs.declared.statement.Statement.{Statement as AnyStatement}
use Rattle.dfdl_terms.specs.declared.statement.Statement.TheVariants.{Pattern, Expression, Setting, Calculation, Question, Opening}
use Rattle.dfdl_terms.specs.declared.statement.Statements.{Statements}
use Rattle.dfdl_paths.specs.declared.place.Start.{Start}
use Rattle.dfdl_paths.specs.declared.place.Start.TheVariants.{At, Inside}
use Rattle.dfdl_grammar.specs.Statements.{reconsidered_from, stated}
use Rattle.dfdl_parse.proofs.Stated.{all-again, behind-comes, stated-comes}
use Rattle.dfdl_parse.proofs.Asked.{counted-has, dispatch-has, measured-has, times-have}
use Rattle.dfdl_parse.proofs.InstanceSteps.{instanced-has}
use Rattle.dfdl_parse.specs.Instances.{instanced_begins}
use Rattle.dfdl_parse.specs.Asking.{begins, counted_begins, dispatch_begins, measured_begins, times_begin}
use Rattle.dfdl_parse.proofs.Resolved.{sought-comes, tested-comes}
use Rattle.dfdl_terms.specs.declared.statement.PatternTest.{PatternTest}
use Rattle.dfdl_texts.specs.Texts.{Text as TextRead}
use Rattle.dfdl_separators.specs.declared.verdict.Here.{Here}
use Rattle.dfdl_separators.specs.Groups.{here_of}
use Rattle.dfdl_terms.specs.declared.slots.Slot.{Slot}
use Rattle.dfdl_grammar.specs.Slots.{closed_slot, has_mark, is_empty_at, is_tried, opens_before, separator_follows}
use Rattle.dfdl_parse.specs.declared.frame.SlotPlace.{SlotPlace}
use Rattle.dfdl_parse.specs.Slots.{closing_ended, content_ended, look_behind, look_in, opened_at, separation_at, slots_from, told_move}
use Rattle.dfdl_parse.proofs.SlotComes.{Ways, beside-has, closing-has, content_ended-has, count-has, done-has, failed-has, separated-has, settled-has, unslotted_end-has, unsought_end-has}
use Rattle.dfdl_leaves.proofs.Ends.{AtEnd}
use Rattle.dfdl_parse.proofs.Finishes.{Anchored, Stands}
use Rattle.dfdl_leaves.proofs.Lies.{found-lies}
use Rattle.dfdl_parse.proofs.SeekLies.{AtText, sought-lies}
use Rattle.dfdl_parse.proofs.Opens.{held-near, holds}
use Rattle.dfdl_parse.proofs.Waits.{leave-on}

-- the bit behind what is found in a leaf
held-at : (room : Bool) (m : ℕ) (s t : State) (most : ℕ) → s.at ≤ m → t.at ≤ m
    → (cond room (ended Done s) (ended (Stopped (Limit TextLimit) most) t)).state.at ≤ m
held-at true m s t most first second = first
held-at false m s t most first second = second

landed-at : (limits : Limits) (focus : Focus) (first last : ℕ) (k : List Frame) (s : State) (r : Reached Find) → s.at ≤ 8 * last
    → AtEnd (λ end. end ≤ 8 * last) r → (landed limits focus first r k s).state.at ≤ 8 * last
landed-at limits focus first last k s (Told (Fails cause)) at there = at
landed-at limits focus first last k s (Told (Finds content span)) at there = there
landed-at limits focus first last k s (Told (FindsOctets bytes span)) at there =
    held-at (nat_le (length s.text + length bytes) limits.text) (8 * last) _ s limits.text there at
landed-at limits focus first last k s (Told (FindsText bytes span)) at there =
    held-at (nat_le (length s.text + length bytes) limits.text) (8 * last) _ s limits.text there at
landed-at limits focus first last k s TooFar at there = at
landed-at limits focus first last k s Missing at there = at

-- the bit that comes next is none behind this one
abbrev IsUpTo : ℕ → Machine → Type 0
IsUpTo last m = m.state.at ≤ last

-- what follows a prefix begins behind it
sized-at : (last prim : ℕ) (size : TextSize) (primitive : Option Primitive) (k : List Frame) (s : State) → s.at ≤ last
    → (sized_begins primitive prim size k s).state.at ≤ last
sized-at last prim size None k s at = at
sized-at last prim size (Some primitive) k s at = by (can_fit size s.at s.stop)
  where
    by : (fits : Bool) → IsUpTo last (cond fits (record { focus = Sized prim size; stack = k; state = s }) (at_end (Failed LengthOutOfRange s.at) k s))
    by true = at
    by false = at

box-at : (last bits body : ℕ) (k : List Frame) (s : State) → s.at ≤ last → (box_begins bits body k s).state.at ≤ last
box-at last bits body k s at = by (nat_le (s.at + bits) s.stop)
  where
    by : (fits : Bool) → IsUpTo last
        (cond fits (record { focus = Enter body; stack = Box (outside s) s.at ∷ k; state = boxed_at (s.at + bits) s }) (at_end (Failed LengthOutOfRange s.at) k s))
    by true = at
    by false = at

behind-at : (last : ℕ) (table : Table) (unit : LengthUnit) (what : Behind) (units : ℕ) (k : List Frame) (s : State) → s.at ≤ last
    → (behind_units table.primitives unit what units k s).state.at ≤ last
behind-at last table unit (behind.Leaf prim) units k s at = sized-at last prim (size_of unit units) (slice_get table.primitives prim) k s at
behind-at last table unit (behind.Box body) units k s at = box-at last (bits_of_units unit units) body k s at

module _ (limits : Limits) (id own : ℕ) (next : ℕ → List Frame → State → Machine) (k : List Frame) (last : ℕ)
    (follows : (units : ℕ) (s : State) → s.at ≤ last → (next units k s).state.at ≤ last) where
  units-at : (end : ℕ) (units : Option ℕ) (s : State) → s.at ≤ last → end ≤ last → (units_begin end next units k s).state.at ≤ last
  units-at end None s at there = at
  units-at end (Some units) s at there = follows units (record s { at = end }) there

  prefix-landed-at : (first : ℕ) (r : Reached Find) (s : State) → s.at ≤ last → AtEnd (λ end. end ≤ last) r
      → (landed_prefix limits id own first next r k s).state.at ≤ last
  prefix-landed-at first (Told (Fails cause)) s at there = at
  prefix-landed-at first (Told (Finds content span)) s at there = units-at span.end (units_told own content) s at there
  prefix-landed-at first (Told (FindsOctets bytes span)) s at there = at
  prefix-landed-at first (Told (FindsText bytes span)) s at there = at
  prefix-landed-at first TooFar s at there = at
  prefix-landed-at first Missing s at there = at

-- a step comes no further than these bytes and those that it looked at
abbrev pub Within : ℕ → Move → Type 0
Within m move = Reaches (max m move.tally.far) move.held move.machine.focus move.machine.state

both : (m : ℕ) (held : Held) (focus : Focus) (s : State) → held.base ≤ m → s.at ≤ 8 * m → Reaches m held focus s
both m held (Enter id) s base at = at
both m held (Pass to) s base at = at
both m held (PassRest bit outer) s base at = at
both m held (Sized prim size) s base at = at
both m held (Seek what) s base at = at
both m held (LookIn slot) s base at = at
both m held (LookBehind slot bit) s base at = at
both m held (Count slot question) s base at = at
both m held (Leave end) s base at = (base, at)

-- a look is too far by its place
over_far : (over inside ended : Bool) (byte : ℕ) → shown over inside ended byte ≡ Over → over ≡ true
over_far true inside ended byte is = refl
over_far false true ended byte is = absurd (cc)
over_far false false true byte is = absurd (cc)
over_far false false false byte is = absurd (cc)

-- where a look is too far, a mark is open before it
fill-over : (held : Held) (m low k : ℕ) (s : State) → s.at ≤ 8 * m → 0 < held.size → (low ≡ k) ⊎ (low ≤ s.at / 8) → seen_beyond held low k ≡ Over → low ≤ m
fill-over held m low k s at some (inr near) is = omega arith
fill-over held m low k s at some (inl same) is =
    let near : ℕ = min low (end_of held) in
    let over : leb held.size (near + (k - low) - near) ≡ true = over_far _ _ held.ended _ is in
    let few : held.size ≤ near + (k - low) - near = grind (arith, nat_tests) in
    absurd (omega arith)

-- the same of the bit of the first byte that is needed
near-byte : (at bit k : ℕ) (marks : List Mark) → bit / 8 ≡ k → (held_from marks bit ≡ bit) ⊎ (held_from marks bit / 8 ≤ at / 8)
    → (held_from marks bit / 8 ≡ k) ⊎ (held_from marks bit / 8 ≤ at / 8)
near-byte at bit k marks is (inl same) = inl (ap (λ (n : ℕ). n / 8) same ∙ is)
near-byte at bit k marks is (inr near) = inr near

-- fill, and the rest of a box
module _ (m : ℕ) (held : Held) (s : State) (at : s.at ≤ 8 * m) (some : 0 < held.size) where
  filled-reaches : (window low to : ℕ) (v : Seen) (k : List Frame) → low ≤ (to - 1) / 8 → (v ≡ Over → low ≤ m)
      → Within m (fill_move window (from_byte held (min low (end_of held))) low to v k s)
  filled-reaches window low to (Byte b) k less over = (omega arith, omega arith)
  filled-reaches window low to DataEnded k less over = (omega arith, omega arith)
  filled-reaches window low to NotYet k less over = omega arith
  filled-reaches window low to Over k less over = let few = over refl in (omega arith, omega arith)

  pub fill-reaches : (limits : Limits) (to base : ℕ) (k : List Frame) → AreOpen base s.at k s.marks → anchor_at s (to - 1) ≤ (to - 1) / 8
      → Within m (fill limits held to k s)
  fill-reaches limits to base k opens less =
      let low : ℕ = anchor_at s (to - 1) in
      filled-reaches limits.window low to (seen_beyond held low ((to - 1) / 8)) k less
      (fill-over held m low ((to - 1) / 8) s at some (near-byte s.at (to - 1) ((to - 1) / 8) s.marks refl (held-near base s.at (to - 1) k s.marks opens)))

  past-reaches : (low byte : ℕ) (outer : Outside) (k : List Frame) → low ≤ byte → (last : Bool) → nat_le ((s.stop - 1) / 8) byte ≡ last
      → let sight : Held = from_byte held (min low (end_of held)) in
      Within m (cond last (pass (needs_from low (saw_byte byte nothing)) sight (Leave Done) k (back_outside outer (record s { at = s.stop })))
      (pass (needs_from low (saw_byte byte nothing)) sight (PassRest (8 * (byte + 1)) outer) k s))
  past-reaches low byte outer k less true is =
      let most : (s.stop - 1) / 8 ≤ byte = grind (arith, nat_tests) in
      (omega arith, omega arith)
  past-reaches low byte outer k less false is = omega arith

  rested-reaches : (window low bit : ℕ) (outer : Outside) (v : Seen) (k : List Frame) → low ≤ bit / 8 → (v ≡ Over → low ≤ m)
      → Within m (rest_move window (from_byte held (min low (end_of held))) low bit outer v k s)
  rested-reaches window low bit outer (Byte b) k less over = past-reaches low (bit / 8) outer k less (nat_le ((s.stop - 1) / 8) (bit / 8)) refl
  rested-reaches window low bit outer DataEnded k less over = (omega arith, omega arith)
  rested-reaches window low bit outer NotYet k less over = omega arith
  rested-reaches window low bit outer Over k less over = let few = over refl in (omega arith, omega arith)

  pub rest-reaches : (limits : Limits) (bit : ℕ) (outer : Outside) (base : ℕ) (k : List Frame) → AreOpen base s.at k s.marks → anchor_at s (8 * (bit / 8)) ≤ bit / 8
      → Within m (pass_rest limits held bit outer k s)
  rest-reaches limits bit outer base k opens less =
      let low : ℕ = anchor_at s (8 * (bit / 8)) in
      rested-reaches limits.window low bit outer (seen_beyond held low (bit / 8)) k less
      (fill-over held m low (bit / 8) s at some (near-byte s.at (8 * (bit / 8)) (bit / 8) s.marks (omega arith) (held-near base s.at (8 * (bit / 8)) k s.marks opens)))

-- each other step
module _ (m : ℕ) (held : Held) (base : held.base ≤ m) where
  pass-reaches : (t : Tally) (focus : Focus) (k : List Frame) (s : State) → s.at ≤ 8 * m → Within m (pass t held focus k s)
  pass-reaches t focus k s at = both (max m t.far) held focus s (omega arith) (omega arith)

  -- one representation of an element
  attempt-reaches : (cost : Tally) (most id : ℕ) (parts : Parts) (instead : Instead) (k : List Frame) (s : State) → s.at ≤ 8 * m → (room : Bool)
      → Within m (cond room
      (pass cost held (Enter parts.body) (Element s.inside parts.complex ∷ k) (begun id instead s))
      (pass cost held (Leave (Stopped (Limit Nodes) most)) k s))
  attempt-reaches cost most id parts instead k s at true = pass-reaches cost (Enter parts.body) (Element s.inside parts.complex ∷ k) (begun id instead s) at
  attempt-reaches cost most id parts instead k s at false = pass-reaches cost (Leave (Stopped (Limit Nodes) most)) k s at

  module _ (cost : Tally) (most id : ℕ) (parts : Parts) (k : List Frame) (s : State) (at : s.at ≤ 8 * m) where
    normal-reaches : Within m (try_normal cost most held id parts k s)
    normal-reaches = attempt-reaches cost most id parts Nothing (Trial id parts.occurrence next.Nothing ∷ k) s at (nat_lt (length s.nodes) most)

    empty-reaches : (empty : Option ℕ) → Within m (try_empty cost most held id parts empty k s)
    empty-reaches None = normal-reaches
    empty-reaches (Some prim) = attempt-reaches cost most id parts (Empty prim) (Trial id parts.occurrence next.Normal ∷ k) s at (nat_lt (length s.nodes) most)

    nil-reaches : (nil : Option ℕ) → Within m (try_nil cost most held id parts nil k s)
    nil-reaches None = empty-reaches parts.tried.empty
    nil-reaches (Some prim) = attempt-reaches cost most id parts (Nil prim) (Trial id parts.occurrence next.Empty ∷ k) s at (nat_lt (length s.nodes) most)

  -- a branch, and an occurrence that is tried
  branch-reaches : (cost : Tally) (id place : ℕ) (child : Option ℕ) (k : List Frame) (s : State) → s.at ≤ 8 * m → Within m (try_branch cost held id place child k s)
  branch-reaches cost id place None k s at = (omega arith, omega arith)
  branch-reaches cost id place (Some child) k s at = pass-reaches cost (Enter child) (Branch id (place + 1) ∷ k) s at

  occurrence-reaches : (cost : Tally) (body : ℕ) (initiated : Bool) (left : ℕ) (k : List Frame) (s : State) → s.at ≤ 8 * m → (none : Bool)
      → Within m (cond none (pass cost held (Leave Done) k s) (pass cost held (Enter body) (Occurrence body initiated (left - 1) ∷ k) (as_tried (pointed initiated s))))
  occurrence-reaches cost body initiated left k s at true = pass-reaches cost (Leave Done) k s at
  occurrence-reaches cost body initiated left k s at false = pass-reaches cost (Enter body) (Occurrence body initiated (left - 1) ∷ k) (as_tried (pointed initiated s)) at

  -- the steps of slots
  abbrev UpTo : State → Type 0
  UpTo t = t.at ≤ 8 * m

  opened-up : (initiated tried mark : Bool) (t : State) → t.at ≤ 8 * m → (cond tried (pointed initiated (cond mark (marked t) t)) t).at ≤ 8 * m
  opened-up initiated true true t at = at
  opened-up initiated true false t at = at
  opened-up initiated false mark t at = at

  slot-at : (initiated : Bool) (here : Here) (t : State) → t.at ≤ 8 * m → (opened_at initiated here t).at ≤ 8 * m
  slot-at initiated here t at = opened-up initiated (is_tried here.rule) (has_mark here) t at

  shut-up : (tried mark : Bool) (t : State) → t.at ≤ 8 * m → (cond tried (cond mark (closed (closed t)) (closed t)) t).at ≤ 8 * m
  shut-up true true t at = at
  shut-up true false t at = at
  shut-up false mark t at = at

  closed-at : (here : Here) (t : State) → t.at ≤ 8 * m → (closed_slot here t).at ≤ 8 * m
  closed-at here t at = shut-up (is_tried here.rule) (has_mark here) t at

  slot-ways : (cost : Tally) (k : List Frame) → Ways (Within m) UpTo cost held k
  slot-ways cost k = record {
    leaves = λ told t at. pass-reaches cost (Leave told) k t at;
    looks = λ slot t at. pass-reaches cost (LookIn slot) k t at;
    enters = λ slot body bit empty t at. pass-reaches cost (Enter body) (Content slot bit empty ∷ k) (as_occurrence (is_tried slot.rule) t) at;
    seeks = λ slot t at. pass-reaches (plus cost one_row) (Seek sought.Separator) (Before slot ∷ k) t at;
    counts = λ slot question t at. pass-reaches cost (Count slot question) k t at;
    besides = λ slot body t at. pass-reaches cost (Enter body) (Aside slot ∷ k) t at;
  }

  -- what has failed at a point that is resolved, or not
  failed-reaches : (told : End) (k : List Frame) (s : State) (other : Move) → s.at ≤ 8 * m → Within m other → (settled : Bool)
      → Within m (cond settled (pass nothing held (Leave told) k (closed s)) other)
  failed-reaches told k s other at within true = (omega arith, omega arith)
  failed-reaches told k s other at within false = within

  module _ (s : State) (at : s.at ≤ 8 * m) where
    -- a leaf, by where what it finds ends
    look-reaches : Anchored held s → (cost : Tally) (delimiters : List Delimiters) (nil : Option (List Value)) (primitive : Primitive) → has_room primitive s.at s.stop ≡ true
        → (machine : Reached Find → Machine) → ((last : ℕ) (r : Reached Find) → s.at ≤ 8 * last → AtEnd (λ end. end ≤ 8 * last) r → (machine r).state.at ≤ 8 * last)
        → let reading : Reading Find = ask (seen_at (from_byte held (anchor s))) (program_for nil (lists_of delimiters (markup s)) primitive s.at s.stop) nothing in
        Reaches (max m (plus cost reading.tally).far) (from_byte held (anchor s)) (machine reading.reached).focus (machine reading.reached).state
    look-reaches stands cost delimiters nil primitive room machine ends =
        let sight : Held = from_byte held (anchor s) in
        let reading : Reading Find = ask (seen_at sight) (program_for nil (lists_of delimiters (markup s)) primitive s.at s.stop) nothing in
        let last : ℕ = max m (plus cost reading.tally).far in
        let low = stands.low in
        both last sight (machine reading.reached).focus (machine reading.reached).state (omega arith)
        (ends last reading.reached (omega arith) (found-lies (seen_at sight) last s.at s.stop (omega arith) nil (lists_of delimiters (markup s)) primitive room (omega arith)))

    room-reaches : Anchored held s → (cost : Tally) (limits : Limits) (focus : Focus) (delimiters : List Delimiters) (nil : Option (List Value)) (primitive : Primitive) (k : List Frame)
        → (room : Bool) → has_room primitive s.at s.stop ≡ room
        → Within m (cond room
        (read_move cost limits focus (content_begins primitive s.at) (from_byte held (anchor s))
        (ask (seen_at (from_byte held (anchor s))) (program_for nil (lists_of delimiters (markup s)) primitive s.at s.stop) nothing) k s)
        (pass cost held (Leave (Failed LengthOutOfRange s.at)) k s))
    room-reaches stands cost limits focus delimiters nil primitive k true has =
        look-reaches stands cost delimiters nil primitive has (λ r. landed limits focus (content_begins primitive s.at) r k s)
        (λ last r before there. landed-at limits focus (content_begins primitive s.at) last k s r before there)
    room-reaches stands cost limits focus delimiters nil primitive k false has = pass-reaches cost (Leave (Failed LengthOutOfRange s.at)) k s at

    leaf-reaches : Anchored held s → (cost : Tally) (limits : Limits) (focus : Focus) (delimiters : List Delimiters) (nil : Option (List Value)) (primitive : Option Primitive) (k : List Frame)
        → Within m (read_leaf cost limits focus held delimiters nil primitive k s)
    leaf-reaches stands cost limits focus delimiters nil None k = pass-reaches cost (Leave Done) k s at
    leaf-reaches stands cost limits focus delimiters nil (Some primitive) k = room-reaches stands cost limits focus delimiters nil primitive k (has_room primitive s.at s.stop) refl

    resized-reaches : Anchored held s → (limits : Limits) (focus : Focus) (delimiters : List Delimiters) (nil : Option (List Value)) (primitive : Option Primitive) (k : List Frame)
        → Within m (read_resized limits focus held delimiters nil primitive k s)
    resized-reaches stands limits focus delimiters nil None k = pass-reaches nothing (Leave (Failed LengthOutOfRange s.at)) k s at
    resized-reaches stands limits focus delimiters nil (Some primitive) k = leaf-reaches stands nothing limits focus delimiters nil (Some primitive) k

    pub told-reaches : Anchored held s → (limits : Limits) (prim : ℕ) (size : TextSize) (delimiters : List Delimiters) (nil : Option (List Value)) (primitive : Option Primitive) (k : List Frame)
        → Within m (read_sized limits held delimiters prim size nil primitive k s)
    told-reaches stands limits prim size delimiters nil None k = pass-reaches nothing (Leave Done) k s at
    told-reaches stands limits prim size delimiters nil (Some primitive) k = resized-reaches stands limits (Sized prim size) delimiters nil (resized size primitive) k

    prefix-room-reaches : Anchored held s → (limits : Limits) (delimiters : List Delimiters) (id own : ℕ) (next : ℕ → List Frame → State → Machine) (primitive : Primitive) (k : List Frame)
        → ((last units : ℕ) (after : State) → after.at ≤ last → (next units k after).state.at ≤ last)
        → (room : Bool) → has_room primitive s.at s.stop ≡ room
        → Within m (cond room
        (prefix_move limits id own (content_begins primitive s.at) next (from_byte held (anchor s))
        (ask (seen_at (from_byte held (anchor s))) (program (lists_of delimiters (markup s)) primitive s.at s.stop) nothing) k s)
        (pass one_row held (Leave (Failed LengthOutOfRange s.at)) k s))
    prefix-room-reaches stands limits delimiters id own next primitive k follows true has =
        look-reaches stands one_row delimiters None primitive has (λ r. landed_prefix limits id own (content_begins primitive s.at) next r k s)
        (λ last r before there. prefix-landed-at limits id own next k (8 * last) (follows (8 * last)) (content_begins primitive s.at) r s before there)
    prefix-room-reaches stands limits delimiters id own next primitive k follows false has = pass-reaches one_row (Leave (Failed LengthOutOfRange s.at)) k s at

    prefix-reaches : Anchored held s → (limits : Limits) (delimiters : List Delimiters) (id own : ℕ) (next : ℕ → List Frame → State → Machine) (primitive : Option Primitive) (k : List Frame)
        → ((last units : ℕ) (after : State) → after.at ≤ last → (next units k after).state.at ≤ last)
        → Within m (read_prefix limits id held delimiters own next primitive k s)
    prefix-reaches stands limits delimiters id own next None k follows = pass-reaches one_row (Leave (Failed LengthOutOfRange s.at)) k s at
    prefix-reaches stands limits delimiters id own next (Some primitive) k follows =
        prefix-room-reaches stands limits delimiters id own next primitive k follows (has_room primitive s.at s.stop) refl

    begin-reaches : (to : ℕ) (k : List Frame) (over inside : Bool)
        → Within m (cond over (pass one_row held (Leave Done) k s)
        (cond inside (pass one_row held (Pass to) k s) (pass one_row held (Leave (Failed LengthOutOfRange s.at)) k s)))
    begin-reaches to k true inside = pass-reaches one_row (Leave Done) k s at
    begin-reaches to k false true = pass-reaches one_row (Pass to) k s at
    begin-reaches to k false false = pass-reaches one_row (Leave (Failed LengthOutOfRange s.at)) k s at

    element-reaches : (most id : ℕ) (parts : Parts) (k : List Frame) (several : Bool)
        → Within m (cond several (try_nil two_rows most held id parts parts.tried.nil k (marked s)) (attempt two_rows most held id parts Nothing k s))
    element-reaches most id parts k true = nil-reaches two_rows most id parts k (marked s) at parts.tried.nil
    element-reaches most id parts k false = attempt-reaches two_rows most id parts Nothing k s at (nat_lt (length s.nodes) most)

    -- a delimiter begins, and is sought
    delimiter-reaches : (what : Sought) (k : List Frame) (stands : Bool)
        → Within m (cond stands (pass one_row held (Seek what) k s) (pass one_row held (Leave Done) k s))
    delimiter-reaches what k true = pass-reaches one_row (Seek what) k s at
    delimiter-reaches what k false = pass-reaches one_row (Leave Done) k s at

    -- a test
    verdict-reaches : (last : ℕ) (limits : Limits) (id number : ℕ) (test : PatternTest) (sight : Held) (reached : Reached Bool) (k : List Frame)
        → sight.base ≤ last → s.at ≤ 8 * last
        → let machine : Machine = landed_test limits (Enter id) test number reached k s in Reaches last sight machine.focus machine.state
    verdict-reaches last limits id number test sight (Told holds) k base before =
        tested-comes (λ told t. Reaches last sight (Leave told) t) (λ t there. there) test.discriminates number holds s (base, before) (base, before)
    verdict-reaches last limits id number test sight TooFar k base before = (base, before)
    verdict-reaches last limits id number test sight Missing k base before = before

    test-reaches : Anchored held s → (limits : Limits) (id number : ℕ) (test : PatternTest) (k : List Frame)
        → Within m (read_test one_row limits (Enter id) held number test k s)
    test-reaches stands limits id number test k =
        let sight : Held = from_byte held (anchor s) in
        let reading : Reading TextRead = ask (seen_at sight) (text_sought test.form (aligned 8 s.at) s.stop) nothing in
        let low = stands.low in
        verdict-reaches (max m (plus one_row (needs_from (anchor s) reading.tally)).far) limits id number test sight (verdict_in test.form reading.reached) k
        (omega arith) (omega arith)

    -- a statement stays where it is
    stated-at : (limits : Limits) (table : Table) (start : Start) (number : ℕ) (found : Option AnyStatement) → (stated limits table start number found s).state.at ≤ 8 * m
    stated-at limits table start number found =
        stated-comes (λ told t. t.at ≤ 8 * m) (λ t there. there) (λ t nodes text variables there. there) (λ t cause there. there) (λ t cause quantity there. there)
        limits table start number found s at

    concluded-at : (limits : Limits) (table : Table) (statements : Statements) (start : Start) → (behind_done limits table statements start s).state.at ≤ 8 * m
    concluded-at limits table statements start =
        behind-comes (λ told t. t.at ≤ 8 * m) (λ t there. there) (λ t nodes text variables there. there) (λ t cause there. there) (λ t cause quantity there. there)
        (λ told t inside there. there) limits table statements start s at

    again-at : (table : Table) (start : Start) (first count : ℕ) → (reconsidered_from table start first count s).at ≤ 8 * m
    again-at table start first count = all-again (λ t. t.at ≤ 8 * m) (λ t there. there) (λ t variables there. there) table start first count s at

    statement-reaches : Anchored held s → (limits : Limits) (table : Table) (id number : ℕ) (found : Option AnyStatement) (k : List Frame)
        → Within m (make_statement one_row limits table (Enter id) held number found k s)
    statement-reaches stands limits table id number None k = pass-reaches one_row (Leave Done) k s at
    statement-reaches stands limits table id number (Some (Pattern test)) k = test-reaches stands limits id number test k
    statement-reaches stands limits table id number (Some (Expression test)) k =
        let o : Outcome = stated limits table (Inside s.inside) number (Some (Expression test)) s in
        pass-reaches one_row (Leave o.end) k o.state (stated-at limits table (Inside s.inside) number (Some (Expression test)))
    statement-reaches stands limits table id number (Some (Setting setting)) k =
        let o : Outcome = stated limits table (Inside s.inside) number (Some (Setting setting)) s in
        pass-reaches one_row (Leave o.end) k o.state (stated-at limits table (Inside s.inside) number (Some (Setting setting)))
    statement-reaches stands limits table id number (Some (Calculation calculation)) k =
        let o : Outcome = stated limits table (At s.inside) number (Some (Calculation calculation)) s in
        pass-reaches one_row (Leave o.end) k o.state (stated-at limits table (At s.inside) number (Some (Calculation calculation)))
    statement-reaches stands limits table id number (Some (Question question)) k = pass-reaches one_row (Leave Done) k s at
    statement-reaches stands limits table id number (Some (Opening opening)) k = pass-reaches one_row (Leave Done) k s at

    begins-reaches : (cost : Tally) (machine : Machine) → IsUpTo (8 * m) machine → Within m (begins cost held machine)
    begins-reaches cost machine within = pass-reaches cost machine.focus machine.stack machine.state within

    group-reaches : (id : ℕ) (children : List ℕ) (k : List Frame) → Within m (enter_group held id children k s)
    group-reaches id [] k = pass-reaches one_row (Leave Done) k s at
    group-reaches id (child ∷ rest) k = pass-reaches one_row (Enter child) (Rest id 1 ∷ k) s at

    pub enter-reaches : Anchored held s → (limits : Limits) (table : Table) (id : ℕ) (r : Option Row) (k : List Frame) → Within m (enter limits table held id r k s)
    enter-reaches stands limits table id None k = pass-reaches one_row (Leave Done) k s at
    enter-reaches stands limits table id (Some (Leaf prim)) k =
        leaf-reaches stands one_row limits (Enter id) table.delimiters (nil_values table.primitives s.instead) (slice_get table.primitives (read_by table.primitives s.instead prim)) k
    enter-reaches stands limits table id (Some (Elem name simple tried statements body)) k =
        element-reaches limits.nodes id (parts_here s.instead (has_elements simple) tried body) (with_behind statements (At (length s.nodes)) k)
        (parts_here s.instead (has_elements simple) tried body).tried.are_several
    enter-reaches stands limits table id (Some (Group children)) k = group-reaches id children k
    enter-reaches stands limits table id (Some (Skip bits)) k = begin-reaches (s.at + bits) k (nat_le (s.at + bits) s.at) (nat_le (s.at + bits) s.stop)
    enter-reaches stands limits table id (Some (Align bits)) k = begin-reaches (aligned bits s.at) k (nat_le (aligned bits s.at) s.at) (nat_le (aligned bits s.at) s.stop)
    enter-reaches stands limits table id (Some (Initiator delimiter)) k = delimiter-reaches (sought.Initiator delimiter.list delimiter.resolves) k (stands_in s.instead delimiter)
    enter-reaches stands limits table id (Some (Terminator delimiter separators)) k = delimiter-reaches (sought.Terminator delimiter.list separators) k (stands_in s.instead delimiter)
    enter-reaches stands limits table id (Some Separator) k = pass-reaches one_row (Seek sought.Separator) k s at
    enter-reaches stands limits table id (Some (Scope list body)) k = pass-reaches one_row (Enter body) (ScopeFrame (length s.lists) ∷ k) (opens list s) at
    enter-reaches stands limits table id (Some (Boxed bits body)) k = both (max m 0) held (box_begins bits body k s).focus (box_begins bits body k s).state (omega arith) (let there = box-at (8 * m) bits body k s at in omega arith)
    enter-reaches stands limits table id (Some (PrefixedLeaf prefix prim)) k =
        let what : Behind = behind.Leaf (read_by table.primitives s.instead prim) in
        prefix-reaches stands limits table.delimiters id prefix.own (behind_units table.primitives prefix.unit what) (slice_get table.primitives prefix.prim) k
        (λ last units after before. behind-at last table prefix.unit what units k after before)
    enter-reaches stands limits table id (Some (Repeat count body)) k = group-reaches id (replicate count body) k
    enter-reaches stands limits table id (Some (Optional most item initiated body)) k = occurrence-reaches one_row body initiated most k s at (nat_eq most 0)
    enter-reaches stands limits table id (Some (Choice rows initiated)) k = branch-reaches one_row id 0 (slice_get rows 0) k (pointed initiated s) at
    enter-reaches stands limits table id (Some (PrefixedBox prefix body)) k =
        prefix-reaches stands limits table.delimiters id prefix.own (behind_units table.primitives prefix.unit (behind.Box body)) (slice_get table.primitives prefix.prim) k
        (λ last units after before. behind-at last table prefix.unit (behind.Box body) units k after before)
    enter-reaches stands limits table id (Some (MeasuredLeaf measure prim)) k =
        let what : Behind = behind.Leaf (read_by table.primitives s.instead prim) in
        begins-reaches one_row (measured_begins table measure what k s)
        (measured-has (IsUpTo (8 * m)) table k s (λ variables why. at) measure what
        (λ variables units. behind-at (8 * m) table measure.unit what units k (record s { variables = variables }) at))
    enter-reaches stands limits table id (Some (MeasuredBox measure body)) k =
        begins-reaches one_row (measured_begins table measure (behind.Box body) k s)
        (measured-has (IsUpTo (8 * m)) table k s (λ variables why. at) measure (behind.Box body)
        (λ variables units. behind-at (8 * m) table measure.unit (behind.Box body) units k (record s { variables = variables }) at))
    enter-reaches stands limits table id (Some (Counted question body)) k =
        begins-reaches one_row (counted_begins table question body k s)
        (counted-has (IsUpTo (8 * m)) table k s (λ variables why. at) question body (λ variables. at) (λ variables left. at))
    enter-reaches stands limits table id (Some (Dispatch question keys)) k =
        begins-reaches one_row (dispatch_begins table question keys k s)
        (dispatch-has (IsUpTo (8 * m)) table k s (λ variables why. at) question keys (λ variables row. at))
    enter-reaches stands limits table id (Some (Statement number)) k = statement-reaches stands limits table id number (slice_get table.statements number) k
    enter-reaches stands limits table id (Some (Concluded statements body)) k = pass-reaches one_row (Enter body) (with_behind statements (Inside s.inside) k) s at
    enter-reaches stands limits table id (Some (Hidden body)) k = pass-reaches one_row (Enter body) k s at
    enter-reaches stands limits table id (Some (Spanned body)) k = pass-reaches one_row (Enter body) (Spanning s.at ∷ k) s at
    enter-reaches stands limits table id (Some (Instance statement body)) k =
        begins-reaches one_row (instanced_begins table statement body k s)
        (instanced-has (IsUpTo (8 * m)) table body k s (λ variables why. at) (λ variables. at) (λ variables. at) statement)
    enter-reaches stands limits table id (Some (Separated policy position initiated slots)) k =
        separated-has (Within m) UpTo held initiated k (λ here t. slot-at initiated here t) (slot-ways one_row k) id policy position slots s at

    go-reaches : (id next : ℕ) (child : Option ℕ) (k : List Frame) → Within m (go_on held id next child k s)
    go-reaches id next None k = pass-reaches nothing (Leave Done) k s at
    go-reaches id next (Some child) k = pass-reaches nothing (Enter child) (Rest id (next + 1) ∷ k) s at

    leave-box-reaches : (outer : Outside) (from : ℕ) (k : List Frame) (over : Bool)
        → Within m (cond over (pass nothing held (Leave Done) k (back_outside outer (filled_from from s))) (pass nothing held (PassRest s.at outer) k (filled_from from s)))
    leave-box-reaches outer from k true = pass-reaches nothing (Leave Done) k (back_outside outer (filled_from from s)) at
    leave-box-reaches outer from k false = pass-reaches nothing (PassRest s.at outer) k (filled_from from s) at

    -- going back leads to no bit behind the one that comes next
    back-at : (marks : List Mark) → IsBefore marks s.at → (back_among marks s).at ≤ 8 * m
    back-at [] less = at
    back-at (mark ∷ outer) less = omega arith

    retry-reaches : (most id : ℕ) (parts : Option Parts) (follows : Next) (told : End) (k : List Frame) → IsBefore s.marks s.at
        → Within m (retry most held id parts follows told k s)
    retry-reaches most id None follows told k less = (omega arith, omega arith)
    retry-reaches most id (Some parts) next.Empty told k less = empty-reaches one_row most id parts k (back s) (back-at s.marks less) parts.tried.empty
    retry-reaches most id (Some parts) next.Normal told k less = normal-reaches one_row most id parts k (back s) (back-at s.marks less)
    retry-reaches most id (Some parts) next.Nothing told k less = (omega arith, omega arith)

    refused-reaches : (marks : List Mark) (k : List Frame) → Within m (refused marks held k s)
    refused-reaches [] k = (omega arith, omega arith)
    refused-reaches (mark ∷ outer) k = (omega arith, omega arith)

    done-reaches : (k : List Frame) (is : Bool) → Within m (cond is (refused s.marks held k s) (pass nothing held (Leave Done) k (closed s)))
    done-reaches k true = refused-reaches s.marks k
    done-reaches k false = (omega arith, omega arith)

    -- an occurrence is dropped
    back-of : (t : State) → t.at ≤ 8 * m → (marks : List Mark) → IsBefore marks t.at → (back_among marks t).at ≤ 8 * m
    back-of t up [] less = up
    back-of t up (mark ∷ outer) less = omega arith

    dropped-reaches : (k : List Frame) (t : State) → t.at ≤ 8 * m → IsBefore t.marks t.at → Within m (pass nothing held (Leave Done) k (dropped t))
    dropped-reaches k t up less = pass-reaches nothing (Leave Done) k (dropped t) (back-of t up t.marks less)

    passed-reaches : (body : ℕ) (initiated : Bool) (left : ℕ) (k : List Frame) (t : State) → t.at ≤ 8 * m → IsBefore t.marks t.at → (stays : Bool)
        → Within m (cond stays (pass nothing held (Leave Done) k (dropped t)) (try_occurrence nothing held body initiated left k (closed t)))
    passed-reaches body initiated left k t up less true = dropped-reaches k t up less
    passed-reaches body initiated left k t up less false = occurrence-reaches nothing body initiated left k (closed t) up (nat_eq left 0)

    -- what waits in a slot takes an end
    content-reaches : (initiated : Bool) (k : List Frame) (slot : SlotPlace) (bit : ℕ) (empty : Bool) (slots : List Slot) (moved : Bool) (failure : Option ParseCause) (told : End)
        (t : State) → t.at ≤ 8 * m → IsBefore t.marks t.at → bit ≤ t.at → Within m (content_ended held initiated slot bit empty slots moved failure told k t)
    content-reaches initiated k slot bit empty slots moved failure told t up less within =
        content_ended-has (Within m) UpTo held initiated k (λ here t. slot-at initiated here t) (slot-ways nothing k) slot t up (λ here. closed-at here t up)
        (λ here. closed-at here (back t) (back-of t up t.marks less))
        (record {
          closes = λ slot bit t there. pass-reaches one_row (Seek sought.Separator) (Closing slot bit ∷ k) t there;
          asks = λ slot bit t there. pass-reaches nothing (LookBehind slot bit) k t there;
        }) bit (omega arith) (λ here. closed-at here (record (back t) { at = bit }) (omega arith)) empty slots moved failure told

    closing-reaches : (initiated : Bool) (k : List Frame) (slot : SlotPlace) (bit : ℕ) (slots : List Slot) (found : Bool) (told : End)
        → IsBefore s.marks s.at → Within m (closing_ended held initiated slot bit slots found told k s)
    closing-reaches initiated k slot bit slots found told less =
        closing-has (Within m) UpTo held initiated k (λ here t. slot-at initiated here t) (slot-ways nothing k) slot s at (λ here. closed-at here s at)
        (λ here. closed-at here (back s) (back-at s.marks less)) bit slots found told

    pub leave-reaches : (limits : Limits) (table : Table) (frame : Frame) (told : End) (k : List Frame) → GoesBack told (frame ∷ k) s
        → Within m (leave limits table held frame told k s)
    leave-reaches limits table (Rest id next) Done k goes = go-reaches id next (slice_get (children_of (slice_get table.rows id)) next) k
    leave-reaches limits table (Rest id next) (Failed cause bit) k goes = (omega arith, omega arith)
    leave-reaches limits table (Element outer complex) Done k goes = (omega arith, omega arith)
    leave-reaches limits table (Element outer complex) (Failed cause bit) k goes = (omega arith, omega arith)
    leave-reaches limits table (Box outer from) Done k goes = leave-box-reaches outer from k (nat_le s.stop s.at)
    leave-reaches limits table (Box outer from) (Failed cause bit) k goes = (omega arith, omega arith)
    leave-reaches limits table (Spanning from) Done k goes = (omega arith, omega arith)
    leave-reaches limits table (Spanning from) (Failed cause bit) k goes = (omega arith, omega arith)
    leave-reaches limits table (ScopeFrame count) Done k goes = (omega arith, omega arith)
    leave-reaches limits table (ScopeFrame count) (Failed cause bit) k goes = (omega arith, omega arith)
    leave-reaches limits table (Trial id occurrence next) Done k goes = done-reaches k (is_refused (parts_of occurrence (slice_get table.rows id)) next)
    leave-reaches limits table (Trial id occurrence next) (Failed cause bit) k goes =
        retry-reaches limits.nodes id (parts_of occurrence (slice_get table.rows id)) next (Failed cause bit) k goes.0
    leave-reaches limits table (Branch id next) Done k goes = (omega arith, omega arith)
    leave-reaches limits table (Branch id next) (Failed cause bit) k goes =
        failed-reaches (Failed cause bit) k s _ at
        (branch-reaches nothing id next (slice_get (children_of (slice_get table.rows id)) next) k (back s) (back-at s.marks goes.0)) (is_settled s.marks)
    leave-reaches limits table (Occurrence body initiated left) Done k goes =
        passed-reaches body initiated left k (as_normal s) at goes.0 (stays_at s.marks s.at)
    leave-reaches limits table (Occurrence body initiated left) (Failed cause bit) k goes =
        failed-reaches (Failed cause bit) k (as_normal s) _ at (dropped-reaches k (as_normal s) at goes.0) (is_settled s.marks)
    leave-reaches limits table (Times body left) Done k goes =
        begins-reaches nothing (times_begin body left k s) (times-have (IsUpTo (8 * m)) body k s at (λ more. at) left)
    leave-reaches limits table (Times body left) (Failed cause bit) k goes = pass-reaches nothing (Leave (Failed cause bit)) k s at
    leave-reaches limits table (Before slot) Done k goes =
        done-has (Within m) UpTo held false k (λ here t. slot-at false here t) (slot-ways nothing k) slot s at (λ here. closed-at here s at) (slots_from table slot)
    leave-reaches limits table (Before slot) (Failed cause bit) k goes =
        failed-has (Within m) UpTo held (separation_at table slot).initiated k (λ here t. slot-at (separation_at table slot).initiated here t) (slot-ways nothing k) slot s at
        (λ here. closed-at here s at) (λ here. closed-at here (back s) (back-at s.marks goes.0)) (slots_from table slot) (Failed cause bit)
    leave-reaches limits table (Content slot bit empty) Done k goes =
        content-reaches (separation_at table slot).initiated k slot bit empty (slots_from table slot) (nat_lt bit s.at) None Done
        (as_normal s) at goes.0 goes.1
    leave-reaches limits table (Content slot bit empty) (Failed cause told) k goes =
        content-reaches (separation_at table slot).initiated k slot bit empty (slots_from table slot) false (Some cause) (Failed cause told)
        (as_normal s) at goes.0 goes.1
    leave-reaches limits table (Closing slot bit) Done k goes =
        closing-reaches (separation_at table slot).initiated k slot bit (slots_from table slot) true Done goes.0
    leave-reaches limits table (Closing slot bit) (Failed cause told) k goes =
        closing-reaches (separation_at table slot).initiated k slot bit (slots_from table slot) false (Failed cause told) goes.0
    leave-reaches limits table (Aside slot) Done k goes =
        beside-has (Within m) UpTo held (separation_at table slot).initiated k (λ here t. slot-at (separation_at table slot).initiated here t) (slot-ways nothing k) slot
        (slots_from table slot) s at
    leave-reaches limits table (Aside slot) (Failed cause bit) k goes = pass-reaches nothing (Leave (Failed cause bit)) k s at
    leave-reaches limits table InstanceFrame Done k goes = (omega arith, omega arith)
    leave-reaches limits table InstanceFrame (Failed cause bit) k goes = (omega arith, omega arith)
    leave-reaches limits table (Concluding statements start) Done k goes =
        let o : Outcome = behind_done limits table statements start s in
        pass-reaches nothing (Leave o.end) k o.state (concluded-at limits table statements start)
    leave-reaches limits table (Concluding statements start) (Failed cause bit) k goes =
        pass-reaches nothing (Leave (Failed cause bit)) k (reconsidered_from table start statements.first statements.count s)
        (again-at table start statements.first statements.count)
    leave-reaches limits table frame (Stopped cause quantity) k goes = (omega arith, omega arith)

-- a search, by where the text that it finds ends
module _ (m : ℕ) (held : Held) (s : State) (at : s.at ≤ 8 * m) where
  text-reaches : (last bits : ℕ) (sight : Held) (t : State) → sight.base ≤ last → s.at ≤ 8 * last → t.at ≤ 8 * last → (told : End) → (is : Bool)
      → let o : Outcome = cond is (ended Done t) (ended told s) in Reaches last sight (Leave o.end) o.state
  text-reaches last bits sight t base before behind told true = (base, behind)
  text-reaches last bits sight t base before behind told false = (base, before)

  found-reaches : (window place last : ℕ) (focus : Focus) (what : Sought) (sight : Held) (k : List Frame) (r : Reached Longest)
      → sight.base ≤ last → s.at ≤ 8 * last → AtText (aligned 8 s.at) last r
      → (is_cut r ≡ true → Reaches last sight focus s)
      → Reaches last sight (found_text window focus what place r k s).focus (found_text window focus what place r k s).state
  found-reaches window place last focus what sight k (Told (Text which bits)) base before ends waits =
      sought-comes (λ told t. Reaches last sight (Leave told) t) (λ t there. there) what (passed_text (cause_of what) place window (Told (Text which bits)) s)
      (text-reaches last bits sight (record s { at = aligned 8 s.at + bits }) base before ends (Failed (cause_of what) s.at) (nat_eq which place && nat_lt 0 bits))
  found-reaches window place last focus what sight k (Told NoText) base before ends waits =
      sought-comes (λ told t. Reaches last sight (Leave told) t) (λ t there. there) what (ended (Failed (cause_of what) s.at) s) (base, before)
  found-reaches window place last focus what sight k TooFar base before ends waits =
      sought-comes (λ told t. Reaches last sight (Leave told) t) (λ t there. there) what (ended (Stopped (Limit Window) window) s) (base, before)
  found-reaches window place last focus what sight k Missing base before ends waits = waits refl

  pub search-reaches : Anchored held (record s { at = aligned 8 s.at }) → (limits : Limits) (delimiters : List Delimiters) (what : Sought) (k : List Frame)
      → Within m (search limits delimiters held what k s)
  search-reaches stands limits delimiters what k =
      let sight : Held = from_byte held (anchor_at s (aligned 8 s.at)) in
      let lists : List Opened = among delimiters what s in
      let reading : Reading Longest = ask (seen_at sight) (sought_among lists s.at s.stop) nothing in
      let last : ℕ = max m reading.tally.far in
      let low = stands.low in
      found-reaches limits.window (place_of what s) last (Seek what) what sight k reading.reached (omega arith) (omega arith)
      (sought-lies (seen_at sight) last lists s.at s.stop (omega arith) (omega arith)) (λ cut. omega arith)

-- a question of a slot
told-reaches-by : (m : ℕ) (limits : Limits) (focus : Focus) (sight : Held) (cost : Tally) (moves : Bool → Move) (reached : Reached Bool) (k : List Frame) (s : State)
    → sight.base ≤ m → s.at ≤ 8 * m → ((answer : Bool) → Within m (moves answer)) → Reaches (max m cost.far) sight focus s
    → Within m (told_move limits focus sight cost moves reached k s)
told-reaches-by m limits focus sight cost moves (Told answer) k s base at each waits = each answer
told-reaches-by m limits focus sight cost moves TooFar k s base at each waits = (omega arith, omega arith)
told-reaches-by m limits focus sight cost moves Missing k s base at each waits = waits

module _ (m : ℕ) (held : Held) (s : State) (at : s.at ≤ 8 * m) (stands : Anchored held s) where
  abbrev seen_from : Held
  seen_from = from_byte held (anchor s)

  few : seen_from.base ≤ m
  few = let low = stands.low in omega arith

  occurs-reaches : (cost : Tally) (initiated : Bool) (slot : SlotPlace) (body : ℕ) (k : List Frame) (empty before : Bool) (here : Here)
      → Within m (pass cost seen_from (Enter body) (Content slot s.at empty ∷ k) (as_occurrence (is_tried slot.rule) (cond before s (opened_at initiated here s))))
  occurs-reaches cost initiated slot body k empty true here = pass-reaches m seen_from few cost (Enter body) (Content slot s.at empty ∷ k) (as_occurrence (is_tried slot.rule) s) at
  occurs-reaches cost initiated slot body k empty false here =
      pass-reaches m seen_from few cost (Enter body) (Content slot s.at empty ∷ k) (as_occurrence (is_tried slot.rule) (opened_at initiated here s))
      (slot-at m seen_from few initiated here s at)

  look_in-reaches : held.base ≤ m → (limits : Limits) (delimiters : List Delimiters) (initiated : Bool) (slot : SlotPlace) (slots : List Slot) (k : List Frame)
      → Within m (look_in limits delimiters held initiated slot slots k s)
  look_in-reaches base limits delimiters initiated slot [] k =
      unsought_end-has (Within m) (UpTo m held base) held initiated k (λ here t. slot-at m held base initiated here t) (slot-ways m held base nothing k) slot s at
      (λ here. closed-at m held base here s at) Done
  look_in-reaches base limits delimiters initiated slot (own ∷ slots) k =
      told-reaches-by m limits (LookIn slot) seen_from _ _
      (ask (seen_at seen_from) (is_empty_at (lists_of delimiters (markup s)) s.at s.stop) nothing).reached k s few at
      (λ empty. occurs-reaches (needs_from (anchor s) (ask (seen_at seen_from) (is_empty_at (lists_of delimiters (markup s)) s.at s.stop) nothing).tally)
      initiated slot own.body k empty (opens_before (here_of slot.progress slot.rule)) (here_of slot.progress slot.rule)) (omega arith)

  look_behind-reaches : held.base ≤ m → IsBefore s.marks s.at → (limits : Limits) (delimiters : List Delimiters) (initiated : Bool) (slot : SlotPlace) (bit : ℕ)
      (slots : List Slot) (k : List Frame) → Within m (look_behind limits delimiters held initiated slot bit slots k s)
  look_behind-reaches base less limits delimiters initiated slot bit [] k =
      unslotted_end-has (Within m) (UpTo m held base) held initiated k (λ here t. slot-at m held base initiated here t) (slot-ways m held base nothing k) slot s at
      (λ here. closed-at m held base here s at) Done
  look_behind-reaches base less limits delimiters initiated slot bit (own ∷ slots) k =
      told-reaches-by m limits (LookBehind slot bit) seen_from _ _
      (ask (seen_at seen_from) (separator_follows (lists_of delimiters (markup s)) (length (markup s) - 1) s.at s.stop) nothing).reached k s few at
      (λ found. settled-has (Within m) (UpTo m seen_from few) seen_from initiated k (λ here t. slot-at m seen_from few initiated here t) _
      (slot-ways m seen_from few _ k) slot bit own slots found Done s at (λ here. closed-at m seen_from few here s at)
      (λ here. closed-at m seen_from few here (back s) (back-at m seen_from few s at s.marks less))) (omega arith)

pub step-reaches : (m : ℕ) (held : Held) (s : State) → 0 < held.size → (limits : Limits) (table : Table) (focus : Focus) (k : List Frame) → Stands held focus s
    → NeedsFrom held.base focus k s → Reaches m held focus s → Within m (step limits table held focus k s)
step-reaches m held s some limits table (Enter id) k stands needs at =
    let low : held.base ≤ s.at / 8 = needs.0 in
    enter-reaches m held (omega arith) s at stands limits table id (slice_get table.rows id) k
step-reaches m held s some limits table (Pass to) k stands needs at = fill-reaches m held s at some limits to held.base k needs.1.1 stands.1
step-reaches m held s some limits table (PassRest bit outer) k stands needs at = rest-reaches m held s at some limits bit outer held.base k needs.1.1.1 stands.1.1
step-reaches m held s some limits table (Sized prim size) k stands needs at =
    let low : held.base ≤ s.at / 8 = needs.0 in
    told-reaches m held (omega arith) s at stands limits prim size table.delimiters (nil_values table.primitives s.instead) (slice_get table.primitives prim) k
step-reaches m held s some limits table (Seek what) k stands needs at = search-reaches m held s at stands limits table.delimiters what k
step-reaches m held s some limits table (LookIn slot) k stands needs at =
    let low : held.base ≤ s.at / 8 = needs.0 in
    look_in-reaches m held s at stands (omega arith) limits table.delimiters (separation_at table slot).initiated slot (slots_from table slot) k
step-reaches m held s some limits table (LookBehind slot bit) k stands needs at =
    let low : held.base ≤ s.at / 8 = needs.0 in
    look_behind-reaches m held s at stands (omega arith) (holds held.base (LookBehind slot bit) k s needs).1 limits table.delimiters (separation_at table slot).initiated slot bit
    (slots_from table slot) k
step-reaches m held s some limits table (Count slot question) k stands needs at =
    let low : held.base ≤ s.at / 8 = needs.0 in
    let base : held.base ≤ m = omega arith in
    count-has (Within m) (UpTo m held base) held (separation_at table slot).initiated k
    (λ here t. slot-at m held base (separation_at table slot).initiated here t) (slot-ways m held base one_row k) table slot question (slots_from table slot) s at
    (λ kept. at)
step-reaches m held s some limits table (Leave told) [] stands needs reaches = both (max m 0) held (Leave told) s (let low = reaches.0 in omega arith) (let at = reaches.1 in omega arith)
step-reaches m held s some limits table (Leave told) (frame ∷ k) stands needs reaches =
    leave-reaches m held reaches.0 s reaches.1 limits table frame told k (holds held.base (Leave told) (frame ∷ k) s needs)

-- further on
pub further : (m n : ℕ) (held : Held) (focus : Focus) (s : State) → m ≤ n → Reaches m held focus s → Reaches n held focus s
further m n held (Enter id) s less at = omega arith
further m n held (Pass to) s less at = omega arith
further m n held (PassRest bit outer) s less at = omega arith
further m n held (Sized prim size) s less at = omega arith
further m n held (Seek what) s less at = omega arith
further m n held (LookIn slot) s less at = omega arith
further m n held (LookBehind slot bit) s less at = omega arith
further m n held (Count slot question) s less at = omega arith
further m n held (Leave end) s less reaches = let low = reaches.0 in let at = reaches.1 in (omega arith, omega arith)

-- a step that waits leaves what is done next
pub waiting-reaches : (table : Table) (last : ℕ) (held after : Held) (s : State) (limits : Limits) (focus : Focus) (k : List Frame)
    → (step limits table held focus k s).waits ≡ true → Reaches last held focus s → Reaches last after focus s
waiting-reaches table last held after s limits (Enter id) k waits at = at
waiting-reaches table last held after s limits (Pass to) k waits at = at
waiting-reaches table last held after s limits (PassRest bit outer) k waits at = at
waiting-reaches table last held after s limits (Sized prim size) k waits at = at
waiting-reaches table last held after s limits (Seek what) k waits at = at
waiting-reaches table last held after s limits (LookIn slot) k waits at = at
waiting-reaches table last held after s limits (LookBehind slot bit) k waits at = at
waiting-reaches table last held after s limits (Count slot question) k waits at = at
waiting-reaches table last held after s limits (Leave told) [] waits reaches = absurd (cc)
waiting-reaches table last held after s limits (Leave told) (frame ∷ k) waits reaches = absurd (leave-on table held s limits frame told k waits)
