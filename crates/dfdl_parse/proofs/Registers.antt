-- A step names no lists but those of the tables.
use Rattle.std.proofs.Common.{◌≡◌, ℕ, zero, suc, ◌+◌, ◌-◌, ◌*◌, ◌/◌, ◌<◌, min, ◌&&◌, nat_eq, nat_le, nat_lt, refl, List, [], ◌∷◌, length, map, Bool, true, false, cond, Option, Some, None, All, sym, ◌∙◌, subst, arith, replicate}
use Rattle.std.specs.Prelude.{slice_get}
use Rattle.std.proofs.lemmas.List.Elements.{All-append, All-take}
use Rattle.std.proofs.lemmas.Option.{get_or_from_slice_get, slice_get_within}
use Rattle.dfdl_bits.specs.Window.{Held, end_of, from_byte, seen_at}
use Rattle.dfdl_bits.specs.declared.window.Seen.{Seen}
use Rattle.dfdl_bits.specs.declared.window.Seen.TheVariants.{Byte, End as DataEnded, NotYet, Over}
use Rattle.dfdl_report.specs.declared.cause.LimitCause.TheVariants.{Nodes, Text as TextLimit}
use Rattle.dfdl_report.specs.declared.cause.ParseCause.{ParseCause}
use Rattle.dfdl_report.specs.declared.cause.ParseCause.TheVariants.{LengthOutOfRange}
use Rattle.dfdl_value.specs.declared.value.Value.{Value}
use Rattle.dfdl_delims.specs.Registers.{Holds}
use Rattle.dfdl_delims.specs.Longest.{Longest, Text, NoText}
use Rattle.dfdl_terms.specs.declared.delimiters.Delimiters.{Delimiters}
use Rattle.dfdl_terms.specs.declared.row.Primitive.{Primitive}
use Rattle.dfdl_terms.specs.declared.row.Row.{Row}
use Rattle.dfdl_terms.specs.declared.row.Row.TheVariants.{Leaf, Elem, Group, Skip, Align, Initiator, Terminator, Separator, Scope, Boxed, PrefixedLeaf, PrefixedBox, MeasuredLeaf, MeasuredBox, Repeat, Counted, Optional, Choice, Dispatch, Statement, Concluded, Hidden, Spanned, Instance, Separated}
use Rattle.dfdl_terms.specs.declared.text.TextSize.{TextSize}
use Rattle.dfdl_terms.specs.Rows.{IsWithin, NamesWithin, Table, named_by}
use Rattle.dfdl_looks.specs.Asks.{Reached, Told, TooFar, Missing, ask}
use Rattle.dfdl_looks.specs.Tallies.{Tally, needs_from, nothing, one_row, saw_byte}
use Rattle.dfdl_grammar.specs.declared.end.End.{End}
use Rattle.dfdl_grammar.specs.declared.end.End.TheVariants.{Done, Failed, Stopped}
use Rattle.dfdl_grammar.specs.declared.end.Halt.TheVariants.{Limit}
use Rattle.dfdl_grammar.specs.declared.instead.Instead.{Instead}
use Rattle.dfdl_grammar.specs.declared.instead.Instead.TheVariants.{Nothing, Nil, Empty}
use Rattle.dfdl_grammar.specs.declared.limits.Limits.{Limits}
use Rattle.dfdl_grammar.specs.declared.mark.Mark.{Mark}
use Rattle.dfdl_grammar.specs.States.{State, anchor, anchor_at}
use Rattle.dfdl_grammar.specs.Outcomes.{Outcome, ended}
use Rattle.dfdl_grammar.specs.Marks.{back, back_among, closed, is_settled, marked, pointed, resolved, stays_at}
use Rattle.dfdl_grammar.specs.Occurrences.{as_normal, as_occurrence, as_tried, dropped}
use Rattle.dfdl_grammar.specs.Leaves.{Find, Fails, Finds, FindsOctets, FindsText, content_begins, has_room, nil_values, program, program_for, read_by, text_sought}
use Rattle.dfdl_grammar.specs.Framing.{aligned}
use Rattle.dfdl_grammar.specs.Delimiters.{passed_text, lists_of, markup, numbers_of, opened, sought_among, stands_in}
use Rattle.dfdl_grammar.specs.Boxes.{boxed_at, filled_from}
use Rattle.dfdl_grammar.specs.Elements.{begun, has_elements}
use Rattle.dfdl_grammar.specs.Prefixes.{bits_of_units, resized, size_of, units_told}
use Rattle.dfdl_parse.specs.declared.frame.Frame.{Frame}
use Rattle.dfdl_parse.specs.declared.frame.Frame.TheVariants.{Rest, Element, Box, Spanning, Scope as ScopeFrame, Trial, Branch, Occurrence, Times, Before, Content, Closing, Aside, Concluding, Instance as InstanceFrame}
use Rattle.dfdl_parse.specs.declared.frame.Outside.{Outside}
use Rattle.dfdl_parse.specs.declared.frame.Next.{Next}
use Rattle.dfdl_parse.specs.declared.frame.Next.TheVariants as next
use Rattle.dfdl_parse.specs.declared.frame.Parts.{Parts}
use Rattle.dfdl_parse.specs.declared.frame.Focus.{Focus}
use Rattle.dfdl_parse.specs.declared.frame.Focus.TheVariants.{Enter, Pass, PassRest, Sized, Seek, LookIn, LookBehind, Count, Leave}
use Rattle.dfdl_parse.specs.declared.frame.Behind.TheVariants as behind
use Rattle.dfdl_parse.specs.declared.parser.Parser.{Parser}
use Rattle.dfdl_parse.specs.Boxing.{back_outside, outside}
use Rattle.dfdl_parse.specs.declared.frame.Sought.{Sought}
use Rattle.dfdl_parse.specs.declared.frame.Sought.TheVariants as sought
use Rattle.dfdl_parse.specs.Moves.{Machine, Move, landed, pass, read_leaf, read_move}
use Rattle.dfdl_parse.specs.Prefixed.{at_end, behind_units, can_fit, landed_prefix, prefix_move, read_prefix, read_resized, read_sized, sized_begins, units_begin}
use Rattle.dfdl_parse.specs.Machines.{children_of, enter, enter_group, fill_move, go_on, leave, rest_move, seen_beyond, step}
use Rattle.dfdl_separators.specs.declared.verdict.Here.{Here}
use Rattle.dfdl_separators.specs.Groups.{here_of}
use Rattle.dfdl_terms.specs.declared.slots.Slot.{Slot}
use Rattle.dfdl_grammar.specs.Slots.{closed_slot, has_mark, is_empty_at, is_tried, opens_before, separator_follows}
use Rattle.dfdl_parse.specs.declared.frame.SlotPlace.{SlotPlace}
use Rattle.dfdl_parse.specs.Slots.{closing_ended, content_ended, look_behind, look_in, opened_at, separation_at, slots_from, told_move}
use Rattle.dfdl_parse.proofs.SlotComes.{Ways, beside-has, closing-has, content_ended-has, count-has, done-has, failed-has, separated-has, settled-has, unslotted_end-has, unsought_end-has}
use Rattle.dfdl_parse.specs.Registered.{IsRegistered, ListsWithin, SeeksWithin}
use Rattle.dfdl_parse.specs.Searches.{among, cause_of, found_text, place_of, put_behind}
use Rattle.dfdl_parse.specs.Shown.{HasSameLimits, limits_of, state_of}
use Rattle.dfdl_parse.specs.Steps.{Moved}
use Rattle.dfdl_parse.specs.Points.{try_branch, try_occurrence}
use Rattle.dfdl_parse.specs.Testing.{landed_test, read_test, verdict_in}
use Rattle.dfdl_parse.specs.Stating.{behind_done, make_statement, with_behind}
use Rattle.dfdl_terms.specs.declared.statement.Statement.{Statement as AnyStatement}
use Rattle.dfdl_terms.specs.declared.statement.Statement.TheVariants.{Pattern, Expression, Setting, Calculation, Question, Opening}
use Rattle.dfdl_terms.specs.declared.statement.Statements.{Statements}
use Rattle.dfdl_paths.specs.declared.place.Start.{Start}
use Rattle.dfdl_paths.specs.declared.place.Start.TheVariants.{At, Inside}
use Rattle.dfdl_grammar.specs.Statements.{reconsidered_from, stated}
use Rattle.dfdl_parse.proofs.Stated.{all-again, behind-comes, stated-comes}
use Rattle.dfdl_parse.proofs.Asked.{counted-has, dispatch-has, measured-has, times-have}
use Rattle.dfdl_parse.proofs.InstanceSteps.{instanced-has}
use Rattle.dfdl_parse.proofs.Resolved.{sought-comes, tested-comes}
use Rattle.dfdl_terms.specs.declared.statement.PatternTest.{PatternTest}
use Rattle.dfdl_report.specs.declared.cause.LimitCause.TheVariants.{Window}
use Rattle.dfdl_parse.specs.Trials.{attempt, parts_here, parts_of, refused, retry, trial_done, try_empty, try_nil, try_normal, two_rows}

-- the numbers of the row of a table are in the tables
named-at : (table : Table) → All (NamesWithin (named_by table)) table.rows → (id : ℕ) (r : Row) → slice_get table.rows id ≡ Some r → NamesWithin (named_by table) r
named-at table named id r is =
    subst (λ (x : Row). NamesWithin (named_by table) x) (get_or_from_slice_get table.rows id r r is) (named id r (slice_get_within table.rows id r is))

module _ (count : ℕ) where
  abbrev IsOne : ℕ → Type 0
  IsOne n = n < count

  -- the lists of a machine behind a step
  abbrev Names : Move → Type 0
  Names move = ListsWithin count move.machine

  left_at : (end : End) (k : List Frame) (s : State) → All IsOne s.lists → ListsWithin count (record { focus = Leave end; stack = k; state = s })
  left_at end k s lists = record { sought = tt; open_lists = lists }

  hold-names : (room : Bool) (k : List Frame) (s t : State) (most : ℕ) → All IsOne s.lists → All IsOne t.lists
      → (let o : Outcome = cond room (ended Done s) (ended (Stopped (Limit TextLimit) most) t) in
      ListsWithin count (record { focus = Leave o.end; stack = k; state = o.state }))
  hold-names true k s t most new lists = left_at Done k s new
  hold-names false k s t most new lists = left_at (Stopped (Limit TextLimit) most) k t lists

  landed-names : (limits : Limits) (focus : Focus) (first : ℕ) (reached : Reached Find) (k : List Frame) (s : State) → SeeksWithin count focus → All IsOne s.lists
      → ListsWithin count (landed limits focus first reached k s)
  landed-names limits focus first (Told (Fails cause)) k s seeks lists = left_at _ k s lists
  landed-names limits focus first (Told (Finds content span)) k s seeks lists = left_at Done k _ lists
  landed-names limits focus first (Told (FindsOctets bytes span)) k s seeks lists =
      hold-names (nat_le (length s.text + length bytes) limits.text) k _ s limits.text lists lists
  landed-names limits focus first (Told (FindsText bytes span)) k s seeks lists =
      hold-names (nat_le (length s.text + length bytes) limits.text) k _ s limits.text lists lists
  landed-names limits focus first TooFar k s seeks lists = left_at _ k s lists
  landed-names limits focus first Missing k s seeks lists = record { sought = seeks; open_lists = lists }

  leaf-names : (cost : Tally) (limits : Limits) (focus : Focus) (held : Held) (delimiters : List Delimiters) (nil : Option (List Value)) (primitive : Option Primitive) (k : List Frame) (s : State)
      → SeeksWithin count focus → All IsOne s.lists → Names (read_leaf cost limits focus held delimiters nil primitive k s)
  leaf-names cost limits focus held delimiters nil None k s seeks lists = left_at Done k s lists
  leaf-names cost limits focus held delimiters nil (Some primitive) k s seeks lists = by (has_room primitive s.at s.stop)
    where
      by : (room : Bool)
          → Names (cond room
          (read_move cost limits focus (content_begins primitive s.at) (from_byte held (anchor s))
          (ask (seen_at (from_byte held (anchor s))) (program_for nil (lists_of delimiters (markup s)) primitive s.at s.stop) nothing) k s)
          (pass cost held (Leave (Failed LengthOutOfRange s.at)) k s))
      by true =
          landed-names limits focus (content_begins primitive s.at)
          (ask (seen_at (from_byte held (anchor s))) (program_for nil (lists_of delimiters (markup s)) primitive s.at s.stop) nothing).reached k s seeks lists
      by false = left_at _ k s lists

  resized-names : (limits : Limits) (prim : ℕ) (size : TextSize) (held : Held) (delimiters : List Delimiters) (nil : Option (List Value)) (primitive : Option Primitive) (k : List Frame) (s : State)
      → All IsOne s.lists → Names (read_resized limits (Sized prim size) held delimiters nil primitive k s)
  resized-names limits prim size held delimiters nil None k s lists = left_at _ k s lists
  resized-names limits prim size held delimiters nil (Some primitive) k s lists = leaf-names nothing limits (Sized prim size) held delimiters nil (Some primitive) k s tt lists

  sized-names : (limits : Limits) (prim : ℕ) (size : TextSize) (held : Held) (delimiters : List Delimiters) (nil : Option (List Value)) (primitive : Option Primitive) (k : List Frame) (s : State)
      → All IsOne s.lists → Names (read_sized limits held delimiters prim size nil primitive k s)
  sized-names limits prim size held delimiters nil None k s lists = left_at _ k s lists
  sized-names limits prim size held delimiters nil (Some primitive) k s lists = resized-names limits prim size held delimiters nil (resized size primitive) k s lists

  -- what stands behind a prefix
  begun-names : (prim : ℕ) (size : TextSize) (primitive : Option Primitive) (k : List Frame) (s : State) → All IsOne s.lists
      → ListsWithin count (sized_begins primitive prim size k s)
  begun-names prim size None k s lists = left_at Done k s lists
  begun-names prim size (Some primitive) k s lists = by (can_fit size s.at s.stop)
    where
      by : (fits : Bool) → ListsWithin count (cond fits (record { focus = Sized prim size; stack = k; state = s }) (at_end (Failed LengthOutOfRange s.at) k s))
      by true = record { sought = tt; open_lists = lists }
      by false = left_at _ k s lists

  box-names : (bits body : ℕ) (k : List Frame) (s : State) → All IsOne s.lists → (inside : Bool)
      → ListsWithin count (cond inside
      (record { focus = Enter body; stack = Box (outside s) s.at ∷ k; state = boxed_at (s.at + bits) s })
      (at_end (Failed LengthOutOfRange s.at) k s))
  box-names bits body k s lists true = record { sought = tt; open_lists = lists }
  box-names bits body k s lists false = left_at _ k s lists

  module _ (limits : Limits) (delimiters : List Delimiters) (id own : ℕ) (next : ℕ → List Frame → State → Machine) (k : List Frame)
      (follows : (units : ℕ) (s : State) → All IsOne s.lists → ListsWithin count (next units k s)) where
    units-names : (end : ℕ) (units : Option ℕ) (s : State) → All IsOne s.lists → ListsWithin count (units_begin end next units k s)
    units-names end None s lists = left_at _ k s lists
    units-names end (Some units) s lists = follows units (record s { at = end }) lists

    prefix-landed-names : (first : ℕ) (reached : Reached Find) (s : State) → All IsOne s.lists
        → ListsWithin count (landed_prefix limits id own first next reached k s)
    prefix-landed-names first (Told (Fails cause)) s lists = left_at _ k s lists
    prefix-landed-names first (Told (Finds content span)) s lists = units-names span.end (units_told own content) s lists
    prefix-landed-names first (Told (FindsOctets bytes span)) s lists = left_at _ k s lists
    prefix-landed-names first (Told (FindsText bytes span)) s lists = left_at _ k s lists
    prefix-landed-names first TooFar s lists = left_at _ k s lists
    prefix-landed-names first Missing s lists = record { sought = tt; open_lists = lists }

    prefix-names : (held : Held) (primitive : Option Primitive) (s : State) → All IsOne s.lists → Names (read_prefix limits id held delimiters own next primitive k s)
    prefix-names held None s lists = left_at _ k s lists
    prefix-names held (Some primitive) s lists = by (has_room primitive s.at s.stop)
      where
        by : (room : Bool)
            → Names (cond room
            (prefix_move limits id own (content_begins primitive s.at) next (from_byte held (anchor s))
            (ask (seen_at (from_byte held (anchor s))) (program (lists_of delimiters (markup s)) primitive s.at s.stop) nothing) k s)
            (pass one_row held (Leave (Failed LengthOutOfRange s.at)) k s))
        by true =
            prefix-landed-names (content_begins primitive s.at) (ask (seen_at (from_byte held (anchor s))) (program (lists_of delimiters (markup s)) primitive s.at s.stop) nothing).reached s lists
        by false = left_at _ k s lists

  -- one representation of an element
  attempt-names : (cost : Tally) (most : ℕ) (held : Held) (id : ℕ) (parts : Parts) (instead : Instead) (k : List Frame) (s : State) → All IsOne s.lists → (room : Bool)
      → Names (cond room
      (pass cost held (Enter parts.body) (Element s.inside parts.complex ∷ k) (begun id instead s))
      (pass cost held (Leave (Stopped (Limit Nodes) most)) k s))
  attempt-names cost most held id parts instead k s lists true = record { sought = tt; open_lists = lists }
  attempt-names cost most held id parts instead k s lists false = left_at _ k s lists

  module _ (cost : Tally) (most : ℕ) (held : Held) (id : ℕ) (parts : Parts) (k : List Frame) (s : State) (lists : All IsOne s.lists) where
    normal-names : Names (try_normal cost most held id parts k s)
    normal-names = attempt-names cost most held id parts Nothing (Trial id parts.occurrence next.Nothing ∷ k) s lists (nat_lt (length s.nodes) most)

    empty-names : (empty : Option ℕ) → Names (try_empty cost most held id parts empty k s)
    empty-names None = normal-names
    empty-names (Some prim) = attempt-names cost most held id parts (Empty prim) (Trial id parts.occurrence next.Normal ∷ k) s lists (nat_lt (length s.nodes) most)

    nil-names : (nil : Option ℕ) → Names (try_nil cost most held id parts nil k s)
    nil-names None = empty-names parts.tried.empty
    nil-names (Some prim) = attempt-names cost most held id parts (Nil prim) (Trial id parts.occurrence next.Empty ∷ k) s lists (nat_lt (length s.nodes) most)

  element-names : (most : ℕ) (held : Held) (id : ℕ) (parts : Parts) (k : List Frame) (s : State) → All IsOne s.lists → (several : Bool)
      → Names (cond several (try_nil two_rows most held id parts parts.tried.nil k (marked s)) (attempt two_rows most held id parts Nothing k s))
  element-names most held id parts k s lists true = nil-names two_rows most held id parts k (marked s) lists parts.tried.nil
  element-names most held id parts k s lists false = attempt-names two_rows most held id parts Nothing k s lists (nat_lt (length s.nodes) most)

  -- going back to a mark leaves the lists
  back-lists : (marks : List Mark) (s : State) → All IsOne s.lists → All IsOne (back_among marks s).lists
  back-lists [] s lists = lists
  back-lists (mark ∷ outer) s lists = lists

  retry-names : (most : ℕ) (held : Held) (id : ℕ) (parts : Option Parts) (follows : Next) (end : End) (k : List Frame) (s : State) → All IsOne s.lists
      → Names (retry most held id parts follows end k s)
  retry-names most held id None follows end k s lists = left_at end k (closed s) lists
  retry-names most held id (Some parts) next.Empty end k s lists =
      empty-names one_row most held id parts k (back s) (back-lists s.marks s lists) parts.tried.empty
  retry-names most held id (Some parts) next.Normal end k s lists = normal-names one_row most held id parts k (back s) (back-lists s.marks s lists)
  retry-names most held id (Some parts) next.Nothing end k s lists = left_at end k (closed s) lists

  refused-names : (held : Held) (marks : List Mark) (k : List Frame) (s : State) → All IsOne s.lists → Names (refused marks held k s)
  refused-names held [] k s lists = left_at Done k s lists
  refused-names held (mark ∷ outer) k s lists = left_at _ k _ lists

  found-names : (held : Held) (refuses : Bool) (k : List Frame) (s : State) → All IsOne s.lists
      → Names (cond refuses (refused s.marks held k s) (pass nothing held (Leave Done) k (closed s)))
  found-names held true k s lists = refused-names held s.marks k s lists
  found-names held false k s lists = left_at Done k (closed s) lists

  done-names : (held : Held) (parts : Option Parts) (follows : Next) (k : List Frame) (s : State) → All IsOne s.lists → Names (trial_done held parts follows k s)
  done-names held None follows k s lists = left_at Done k (closed s) lists
  done-names held (Some parts) next.Empty k s lists = left_at Done k (closed s) lists
  done-names held (Some parts) next.Normal k s lists = found-names held parts.tried.refuses_empty k s lists
  done-names held (Some parts) next.Nothing k s lists = left_at Done k (closed s) lists

  -- a branch, and an occurrence that is tried
  branch-names : (cost : Tally) (held : Held) (id place : ℕ) (child : Option ℕ) (k : List Frame) (s : State) → All IsOne s.lists
      → Names (try_branch cost held id place child k s)
  branch-names cost held id place None k s lists = left_at _ k (closed s) lists
  branch-names cost held id place (Some child) k s lists = record { sought = tt; open_lists = lists }

  occurrence-names : (cost : Tally) (held : Held) (body : ℕ) (initiated : Bool) (left : ℕ) (k : List Frame) (s : State) → All IsOne s.lists → (none : Bool)
      → Names (cond none (pass cost held (Leave Done) k s) (pass cost held (Enter body) (Occurrence body initiated (left - 1) ∷ k) (as_tried (pointed initiated s))))
  occurrence-names cost held body initiated left k s lists true = left_at Done k s lists
  occurrence-names cost held body initiated left k s lists false = record { sought = tt; open_lists = lists }

  passed-names : (held : Held) (body : ℕ) (initiated : Bool) (left : ℕ) (k : List Frame) (s : State) → All IsOne s.lists → (stays : Bool)
      → Names (cond stays (pass nothing held (Leave Done) k (dropped s)) (try_occurrence nothing held body initiated left k (closed s)))
  passed-names held body initiated left k s lists true = left_at Done k (dropped s) (back-lists s.marks s lists)
  passed-names held body initiated left k s lists false = occurrence-names nothing held body initiated left k (closed s) lists (nat_eq left 0)

  -- fill, and the rest of a box
  begin-names : (held : Held) (to : ℕ) (k : List Frame) (s : State) → All IsOne s.lists → (over inside : Bool)
      → Names (cond over (pass one_row held (Leave Done) k s)
      (cond inside (pass one_row held (Pass to) k s) (pass one_row held (Leave (Failed LengthOutOfRange s.at)) k s)))
  begin-names held to k s lists true inside = left_at Done k s lists
  begin-names held to k s lists false true = record { sought = tt; open_lists = lists }
  begin-names held to k s lists false false = left_at _ k s lists

  filled-names : (window : ℕ) (sight : Held) (low to : ℕ) (v : Seen) (k : List Frame) (s : State) → All IsOne s.lists → Names (fill_move window sight low to v k s)
  filled-names window sight low to (Byte b) k s lists = left_at Done k _ lists
  filled-names window sight low to DataEnded k s lists = left_at _ k s lists
  filled-names window sight low to NotYet k s lists = record { sought = tt; open_lists = lists }
  filled-names window sight low to Over k s lists = left_at _ k s lists

  leave-box-names : (held : Held) (outer : Outside) (from : ℕ) (k : List Frame) (s : State) → All IsOne s.lists → (over : Bool)
      → Names (cond over (pass nothing held (Leave Done) k (back_outside outer (filled_from from s))) (pass nothing held (PassRest s.at outer) k (filled_from from s)))
  leave-box-names held outer from k s lists true = left_at Done k _ lists
  leave-box-names held outer from k s lists false = record { sought = tt; open_lists = lists }

  past-names : (sight : Held) (low byte : ℕ) (outer : Outside) (k : List Frame) (s : State) → All IsOne s.lists → (last : Bool)
      → Names (cond last (pass (needs_from low (saw_byte byte nothing)) sight (Leave Done) k (back_outside outer (record s { at = s.stop })))
      (pass (needs_from low (saw_byte byte nothing)) sight (PassRest (8 * (byte + 1)) outer) k s))
  past-names sight low byte outer k s lists true = left_at Done k _ lists
  past-names sight low byte outer k s lists false = record { sought = tt; open_lists = lists }

  rested-names : (window : ℕ) (sight : Held) (low bit : ℕ) (outer : Outside) (v : Seen) (k : List Frame) (s : State) → All IsOne s.lists
      → Names (rest_move window sight low bit outer v k s)
  rested-names window sight low bit outer (Byte b) k s lists = past-names sight low (bit / 8) outer k s lists (nat_le ((s.stop - 1) / 8) (bit / 8))
  rested-names window sight low bit outer DataEnded k s lists = left_at _ k _ lists
  rested-names window sight low bit outer NotYet k s lists = record { sought = tt; open_lists = lists }
  rested-names window sight low bit outer Over k s lists = left_at _ k s lists

  -- the lists that are put behind those that are open
  no-names : All IsOne []
  no-names i d few = absurd (omega arith)

  one-name : (list : ℕ) → list < count → All IsOne (list ∷ [])
  one-name list less zero d few = less
  one-name list less (suc i) d few = absurd (omega arith)

  both-names : (list : ℕ) (other : Option ℕ) → list < count → IsWithin count other → All IsOne (list ∷ numbers_of other)
  both-names list None less within = one-name list less
  both-names list (Some number) less within = All-append IsOne (list ∷ []) (number ∷ []) (one-name list less) (one-name number within)

  -- a delimiter
  delimiter-names : (held : Held) (what : Sought) (k : List Frame) (s : State) → All IsOne (put_behind what) → All IsOne s.lists → (does_stand : Bool)
      → Names (cond does_stand (pass one_row held (Seek what) k s) (pass one_row held (Leave Done) k s))
  delimiter-names held what k s less lists true = record { sought = less; open_lists = lists }
  delimiter-names held what k s less lists false = left_at Done k s lists

  one-text-names : (cause : ParseCause) (bits : ℕ) (k : List Frame) (s : State) → All IsOne s.lists → (is : Bool)
      → (let o : Outcome = cond is (ended Done (record s { at = aligned 8 s.at + bits })) (ended (Failed cause s.at) s) in
      ListsWithin count (record { focus = Leave o.end; stack = k; state = o.state }))
  one-text-names cause bits k s lists true = left_at Done k _ lists
  one-text-names cause bits k s lists false = left_at _ k s lists

  -- the lists behind an end
  abbrev Leaves : List Frame → End → State → Type 0
  Leaves k end s = ListsWithin count (record { focus = Leave end; stack = k; state = s })

  text-names : (window : ℕ) (what : Sought) (reached : Reached Longest) (k : List Frame) (s : State) → All IsOne (put_behind what) → All IsOne s.lists
      → ListsWithin count (found_text window (Seek what) what (place_of what s) reached k s)
  text-names window what (Told (Text which bits)) k s less lists =
      sought-comes (Leaves k) (λ t within. left_at Done k (resolved t) within.open_lists) what
      (passed_text (cause_of what) (place_of what s) window (Told (Text which bits)) s)
      (one-text-names (cause_of what) bits k s lists (nat_eq which (place_of what s) && nat_lt 0 bits))
  text-names window what (Told NoText) k s less lists =
      sought-comes (Leaves k) (λ t within. left_at Done k (resolved t) within.open_lists) what (ended (Failed (cause_of what) s.at) s) (left_at _ k s lists)
  text-names window what TooFar k s less lists =
      sought-comes (Leaves k) (λ t within. left_at Done k (resolved t) within.open_lists) what (ended (Stopped (Limit Window) window) s) (left_at _ k s lists)
  text-names window what Missing k s less lists = record { sought = less; open_lists = lists }

  -- a test
  verdict-names : (limits : Limits) (id number : ℕ) (test : PatternTest) (reached : Reached Bool) (k : List Frame) (s : State) → All IsOne s.lists
      → ListsWithin count (landed_test limits (Enter id) test number reached k s)
  verdict-names limits id number test (Told holds) k s lists =
      tested-comes (Leaves k) (λ t within. left_at Done k (resolved t) within.open_lists) test.discriminates number holds s (left_at Done k s lists) (left_at _ k s lists)
  verdict-names limits id number test TooFar k s lists = left_at _ k s lists
  verdict-names limits id number test Missing k s lists = record { sought = tt; open_lists = lists }

  test-names : (limits : Limits) (held : Held) (id number : ℕ) (test : PatternTest) (k : List Frame) (s : State) → All IsOne s.lists
      → Names (read_test one_row limits (Enter id) held number test k s)
  test-names limits held id number test k s lists =
      verdict-names limits id number test
      (verdict_in test.form (ask (seen_at (from_byte held (anchor s))) (text_sought test.form (aligned 8 s.at) s.stop) nothing).reached) k s lists

  -- a statement opens and closes no list
  stated-lists : (limits : Limits) (table : Table) (start : Start) (number : ℕ) (found : Option AnyStatement) (s : State) → All IsOne s.lists
      → All IsOne (stated limits table start number found s).state.lists
  stated-lists =
      stated-comes (λ end t. All IsOne t.lists) (λ t there. there) (λ t nodes text variables there. there) (λ t cause there. there) (λ t cause quantity there. there)

  concluded-lists : (limits : Limits) (table : Table) (statements : Statements) (start : Start) (s : State) → All IsOne s.lists
      → All IsOne (behind_done limits table statements start s).state.lists
  concluded-lists =
      behind-comes (λ end t. All IsOne t.lists) (λ t there. there) (λ t nodes text variables there. there) (λ t cause there. there) (λ t cause quantity there. there)
      (λ end t inside there. there)

  again-lists : (table : Table) (start : Start) (first most : ℕ) (s : State) → All IsOne s.lists → All IsOne (reconsidered_from table start first most s).lists
  again-lists = all-again (λ t. All IsOne t.lists) (λ t there. there) (λ t variables there. there)

  statement-names : (limits : Limits) (table : Table) (held : Held) (id number : ℕ) (found : Option AnyStatement) (k : List Frame) (s : State) → All IsOne s.lists
      → Names (make_statement one_row limits table (Enter id) held number found k s)
  statement-names limits table held id number None k s lists = left_at Done k s lists
  statement-names limits table held id number (Some (Pattern test)) k s lists = test-names limits held id number test k s lists
  statement-names limits table held id number (Some (Expression test)) k s lists =
      left_at _ k _ (stated-lists limits table (Inside s.inside) number (Some (Expression test)) s lists)
  statement-names limits table held id number (Some (Setting setting)) k s lists =
      left_at _ k _ (stated-lists limits table (Inside s.inside) number (Some (Setting setting)) s lists)
  statement-names limits table held id number (Some (Calculation calculation)) k s lists =
      left_at _ k _ (stated-lists limits table (At s.inside) number (Some (Calculation calculation)) s lists)
  statement-names limits table held id number (Some (Question question)) k s lists = left_at Done k s lists
  statement-names limits table held id number (Some (Opening opening)) k s lists = left_at Done k s lists

  -- what has failed at a point that is resolved, or not
  failed-names : (held : Held) (end : End) (k : List Frame) (s : State) (other : Move) → All IsOne s.lists → Names other → (settled : Bool)
      → Names (cond settled (pass nothing held (Leave end) k (closed s)) other)
  failed-names held end k s other lists names true = left_at end k (closed s) lists
  failed-names held end k s other lists names false = names

  group-names : (held : Held) (id : ℕ) (children : List ℕ) (k : List Frame) (s : State) → All IsOne s.lists → Names (enter_group held id children k s)
  group-names held id [] k s lists = left_at Done k s lists
  group-names held id (child ∷ rest) k s lists = record { sought = tt; open_lists = lists }

  go-names : (held : Held) (id next : ℕ) (child : Option ℕ) (k : List Frame) (s : State) → All IsOne s.lists → Names (go_on held id next child k s)
  go-names held id next None k s lists = left_at Done k s lists
  go-names held id next (Some child) k s lists = record { sought = tt; open_lists = lists }

  -- the steps of slots
  opened-lists : (initiated tried mark : Bool) (s : State) → All IsOne s.lists → All IsOne (cond tried (pointed initiated (cond mark (marked s) s)) s).lists
  opened-lists initiated true true s lists = lists
  opened-lists initiated true false s lists = lists
  opened-lists initiated false mark s lists = lists

  slot-lists : (initiated : Bool) (here : Here) (s : State) → All IsOne s.lists → All IsOne (opened_at initiated here s).lists
  slot-lists initiated here s lists = opened-lists initiated (is_tried here.rule) (has_mark here) s lists

  shut-lists : (tried mark : Bool) (s : State) → All IsOne s.lists → All IsOne (cond tried (cond mark (closed (closed s)) (closed s)) s).lists
  shut-lists true true s lists = lists
  shut-lists true false s lists = lists
  shut-lists false mark s lists = lists

  closed-lists : (s : State) → All IsOne s.lists → (here : Here) → All IsOne (closed_slot here s).lists
  closed-lists s lists here = shut-lists (is_tried here.rule) (has_mark here) s lists

  slot-ways : (cost : Tally) (held : Held) (k : List Frame) → Ways Names (λ s. All IsOne s.lists) cost held k
  slot-ways cost held k = record {
    leaves = λ end t lists. left_at end k t lists;
    looks = λ slot t lists. record { sought = tt; open_lists = lists };
    enters = λ slot body bit empty t lists. record { sought = tt; open_lists = lists };
    seeks = λ slot t lists. record { sought = no-names; open_lists = lists };
    counts = λ slot question t lists. record { sought = tt; open_lists = lists };
    besides = λ slot body t lists. record { sought = tt; open_lists = lists };
  }

  abbrev HasLists : State → Type 0
  HasLists s = All IsOne s.lists

  ended-names : (held : Held) (initiated : Bool) (k : List Frame) (slot : SlotPlace) (s : State) → All IsOne s.lists → (bit : ℕ) (empty : Bool) (slots : List Slot)
      (moved : Bool) (failure : Option ParseCause) (end : End) → Names (content_ended held initiated slot bit empty slots moved failure end k s)
  ended-names held initiated k slot s lists bit empty slots moved failure end =
      content_ended-has Names HasLists held initiated k (slot-lists initiated) (slot-ways nothing held k) slot s lists (closed-lists s lists)
      (closed-lists (back s) (back-lists s.marks s lists))
      (record {
        closes = λ slot bit t there. record { sought = no-names; open_lists = there };
        asks = λ slot bit t there. record { sought = tt; open_lists = there };
      }) bit (back-lists s.marks s lists) (closed-lists (record (back s) { at = bit }) (back-lists s.marks s lists)) empty slots moved failure end

  closing-names : (held : Held) (initiated : Bool) (k : List Frame) (slot : SlotPlace) (s : State) → All IsOne s.lists → (bit : ℕ) (slots : List Slot) (found : Bool)
      (end : End) → Names (closing_ended held initiated slot bit slots found end k s)
  closing-names held initiated k slot s lists bit slots found end =
      closing-has Names HasLists held initiated k (slot-lists initiated) (slot-ways nothing held k) slot s lists (closed-lists s lists)
      (closed-lists (back s) (back-lists s.marks s lists)) bit slots found end

  leave-names : (limits : Limits) (table : Table) (held : Held) (frame : Frame) (end : End) (k : List Frame) (s : State) → All IsOne s.lists
      → Names (leave limits table held frame end k s)
  leave-names limits table held (Rest id next) Done k s lists = go-names held id next (slice_get (children_of (slice_get table.rows id)) next) k s lists
  leave-names limits table held (Rest id next) (Failed cause bit) k s lists = left_at _ k s lists
  leave-names limits table held (Element outer complex) Done k s lists = left_at Done k _ lists
  leave-names limits table held (Element outer complex) (Failed cause bit) k s lists = left_at _ k s lists
  leave-names limits table held (Box outer from) Done k s lists = leave-box-names held outer from k s lists (nat_le s.stop s.at)
  leave-names limits table held (Box outer from) (Failed cause bit) k s lists = left_at _ k _ lists
  leave-names limits table held (Spanning from) Done k s lists = left_at Done k _ lists
  leave-names limits table held (Spanning from) (Failed cause bit) k s lists = left_at _ k s lists
  leave-names limits table held (ScopeFrame most) Done k s lists = left_at Done k _ (All-take IsOne most s.lists lists)
  leave-names limits table held (ScopeFrame most) (Failed cause bit) k s lists = left_at _ k _ (All-take IsOne most s.lists lists)
  leave-names limits table held (Trial id occurrence next) Done k s lists = done-names held (parts_of occurrence (slice_get table.rows id)) next k s lists
  leave-names limits table held (Trial id occurrence next) (Failed cause bit) k s lists =
      retry-names limits.nodes held id (parts_of occurrence (slice_get table.rows id)) next (Failed cause bit) k s lists
  leave-names limits table held (Branch id next) Done k s lists = left_at Done k (closed s) lists
  leave-names limits table held (Branch id next) (Failed cause bit) k s lists =
      failed-names held (Failed cause bit) k s _ lists
      (branch-names nothing held id next (slice_get (children_of (slice_get table.rows id)) next) k (back s) (back-lists s.marks s lists))
      (is_settled s.marks)
  leave-names limits table held (Occurrence body initiated left) Done k s lists = passed-names held body initiated left k (as_normal s) lists (stays_at s.marks s.at)
  leave-names limits table held (Occurrence body initiated left) (Failed cause bit) k s lists =
      failed-names held (Failed cause bit) k (as_normal s) _ lists (left_at Done k (dropped (as_normal s)) (back-lists s.marks (as_normal s) lists))
      (is_settled s.marks)
  leave-names limits table held (Times body left) Done k s lists =
      times-have (ListsWithin count) body k s (left_at Done k s lists) (λ more. record { sought = tt; open_lists = lists }) left
  leave-names limits table held (Times body left) (Failed cause bit) k s lists = left_at _ k s lists
  leave-names limits table held (Before slot) Done k s lists =
      done-has Names HasLists held false k (slot-lists false) (slot-ways nothing held k) slot s lists (closed-lists s lists) (slots_from table slot)
  leave-names limits table held (Before slot) (Failed cause bit) k s lists =
      failed-has Names HasLists held (separation_at table slot).initiated k (slot-lists (separation_at table slot).initiated) (slot-ways nothing held k) slot s lists
      (closed-lists s lists) (closed-lists (back s) (back-lists s.marks s lists)) (slots_from table slot) (Failed cause bit)
  leave-names limits table held (Content slot bit empty) Done k s lists =
      ended-names held (separation_at table slot).initiated k slot (as_normal s) lists bit empty (slots_from table slot) (nat_lt bit s.at) None Done
  leave-names limits table held (Content slot bit empty) (Failed cause at) k s lists =
      ended-names held (separation_at table slot).initiated k slot (as_normal s) lists bit empty (slots_from table slot) false (Some cause) (Failed cause at)
  leave-names limits table held (Closing slot bit) Done k s lists =
      closing-names held (separation_at table slot).initiated k slot s lists bit (slots_from table slot) true Done
  leave-names limits table held (Closing slot bit) (Failed cause at) k s lists =
      closing-names held (separation_at table slot).initiated k slot s lists bit (slots_from table slot) false (Failed cause at)
  leave-names limits table held (Aside slot) Done k s lists =
      beside-has Names HasLists held (separation_at table slot).initiated k (slot-lists (separation_at table slot).initiated) (slot-ways nothing held k) slot
      (slots_from table slot) s lists
  leave-names limits table held (Aside slot) (Failed cause bit) k s lists = left_at _ k s lists
  leave-names limits table held InstanceFrame Done k s lists = left_at Done k _ lists
  leave-names limits table held InstanceFrame (Failed cause bit) k s lists = left_at _ k _ lists
  leave-names limits table held (Concluding statements start) Done k s lists = left_at _ k _ (concluded-lists limits table statements start s lists)
  leave-names limits table held (Concluding statements start) (Failed cause bit) k s lists =
      left_at _ k _ (again-lists table start statements.first statements.count s lists)
  leave-names limits table held frame (Stopped cause quantity) k s lists = left_at _ k s lists

  -- a question of a slot
  told-names : (limits : Limits) (focus : Focus) (sight : Held) (cost : Tally) (moves : Bool → Move) (reached : Reached Bool) (k : List Frame) (s : State) → All IsOne s.lists
      → ((answer : Bool) → Names (moves answer)) → SeeksWithin count focus → Names (told_move limits focus sight cost moves reached k s)
  told-names limits focus sight cost moves (Told answer) k s lists each seeks = each answer
  told-names limits focus sight cost moves TooFar k s lists each seeks = left_at _ k s lists
  told-names limits focus sight cost moves Missing k s lists each seeks = record { sought = seeks; open_lists = lists }

  occurs-names : (cost : Tally) (sight : Held) (initiated : Bool) (slot : SlotPlace) (body : ℕ) (k : List Frame) (s : State) → All IsOne s.lists → (empty before : Bool) (here : Here)
      → Names (pass cost sight (Enter body) (Content slot s.at empty ∷ k) (as_occurrence (is_tried slot.rule) (cond before s (opened_at initiated here s))))
  occurs-names cost sight initiated slot body k s lists empty true here = record { sought = tt; open_lists = lists }
  occurs-names cost sight initiated slot body k s lists empty false here = record { sought = tt; open_lists = slot-lists initiated here s lists }

  look_in-names : (limits : Limits) (delimiters : List Delimiters) (held : Held) (initiated : Bool) (slot : SlotPlace) (slots : List Slot) (k : List Frame) (s : State) → All IsOne s.lists
      → Names (look_in limits delimiters held initiated slot slots k s)
  look_in-names limits delimiters held initiated slot [] k s lists =
      unsought_end-has Names HasLists held initiated k (slot-lists initiated) (slot-ways nothing held k) slot s lists (closed-lists s lists) Done
  look_in-names limits delimiters held initiated slot (own ∷ slots) k s lists =
      told-names limits (LookIn slot) (from_byte held (anchor s)) _ _
      (ask (seen_at (from_byte held (anchor s))) (is_empty_at (lists_of delimiters (markup s)) s.at s.stop) nothing).reached k s lists
      (λ empty. occurs-names
      (needs_from (anchor s) (ask (seen_at (from_byte held (anchor s))) (is_empty_at (lists_of delimiters (markup s)) s.at s.stop) nothing).tally)
      (from_byte held (anchor s)) initiated slot own.body k s lists empty (opens_before (here_of slot.progress slot.rule)) (here_of slot.progress slot.rule)) tt

  look_behind-names : (limits : Limits) (delimiters : List Delimiters) (held : Held) (initiated : Bool) (slot : SlotPlace) (bit : ℕ) (slots : List Slot) (k : List Frame) (s : State)
      → All IsOne s.lists → Names (look_behind limits delimiters held initiated slot bit slots k s)
  look_behind-names limits delimiters held initiated slot bit [] k s lists =
      unslotted_end-has Names HasLists held initiated k (slot-lists initiated) (slot-ways nothing held k) slot s lists (closed-lists s lists) Done
  look_behind-names limits delimiters held initiated slot bit (own ∷ slots) k s lists =
      told-names limits (LookBehind slot bit) (from_byte held (anchor s)) _ _
      (ask (seen_at (from_byte held (anchor s))) (separator_follows (lists_of delimiters (markup s)) (length (markup s) - 1) s.at s.stop) nothing).reached k s lists
      (λ found. settled-has Names HasLists (from_byte held (anchor s)) initiated k (slot-lists initiated) _ (slot-ways _ (from_byte held (anchor s)) k) slot bit own slots found Done s
      lists (closed-lists s lists) (closed-lists (back s) (back-lists s.marks s lists))) tt

module _ (limits : Limits) (table : Table) (held : Held) (named : All (NamesWithin (named_by table)) table.rows) where
  abbrev count : ℕ
  count = length table.delimiters

  enter-names : (id : ℕ) (r : Option Row) (k : List Frame) (s : State) → slice_get table.rows id ≡ r → All (IsOne count) s.lists
      → Names count (enter limits table held id r k s)
  enter-names id None k s is lists = left_at count Done k s lists
  enter-names id (Some (Leaf prim)) k s is lists =
      leaf-names count one_row limits (Enter id) held table.delimiters (nil_values table.primitives s.instead)
      (slice_get table.primitives (read_by table.primitives s.instead prim)) k s tt lists
  enter-names id (Some (Elem name simple tried statements body)) k s is lists =
      element-names count limits.nodes held id (parts_here s.instead (has_elements simple) tried body)
      (with_behind statements (At (length s.nodes)) k) s lists (parts_here s.instead (has_elements simple) tried body).tried.are_several
  enter-names id (Some (Group children)) k s is lists = group-names count held id children k s lists
  enter-names id (Some (Skip bits)) k s is lists = begin-names count held (s.at + bits) k s lists (nat_le (s.at + bits) s.at) (nat_le (s.at + bits) s.stop)
  enter-names id (Some (Align bits)) k s is lists =
      begin-names count held (aligned bits s.at) k s lists (nat_le (aligned bits s.at) s.at) (nat_le (aligned bits s.at) s.stop)
  enter-names id (Some (Initiator delimiter)) k s is lists =
      delimiter-names count held (sought.Initiator delimiter.list delimiter.resolves) k s (one-name count delimiter.list (named-at table named id (Initiator delimiter) is)) lists
      (stands_in s.instead delimiter)
  enter-names id (Some (Terminator delimiter separators)) k s is lists =
      let within = named-at table named id (Terminator delimiter separators) is in
      delimiter-names count held (sought.Terminator delimiter.list separators) k s (both-names count delimiter.list separators within.0 within.1) lists
      (stands_in s.instead delimiter)
  enter-names id (Some Separator) k s is lists = record { sought = no-names count; open_lists = lists }
  enter-names id (Some (Scope list body)) k s is lists = record {
    sought = tt;
    open_lists = All-append (IsOne count) s.lists (list ∷ []) lists (one-name count list (named-at table named id (Scope list body) is));
  }
  enter-names id (Some (Boxed bits body)) k s is lists = box-names count bits body k s lists (nat_le (s.at + bits) s.stop)
  enter-names id (Some (PrefixedLeaf prefix prim)) k s is lists =
      let by : ℕ = read_by table.primitives s.instead prim in
      prefix-names count limits table.delimiters id prefix.own (behind_units table.primitives prefix.unit (behind.Leaf by)) k
      (λ units after still. begun-names count by (size_of prefix.unit units) (slice_get table.primitives by) k after still)
      held (slice_get table.primitives prefix.prim) s lists
  enter-names id (Some (Repeat most body)) k s is lists = group-names count held id (replicate most body) k s lists
  enter-names id (Some (Optional most item initiated body)) k s is lists = occurrence-names count one_row held body initiated most k s lists (nat_eq most 0)
  enter-names id (Some (Choice rows initiated)) k s is lists = branch-names count one_row held id 0 (slice_get rows 0) k (pointed initiated s) lists
  enter-names id (Some (PrefixedBox prefix body)) k s is lists =
      prefix-names count limits table.delimiters id prefix.own (behind_units table.primitives prefix.unit (behind.Box body)) k
      (λ units after still. box-names count (bits_of_units prefix.unit units) body k after still (nat_le (after.at + bits_of_units prefix.unit units) after.stop))
      held (slice_get table.primitives prefix.prim) s lists
  enter-names id (Some (MeasuredLeaf measure prim)) k s is lists =
      let by : ℕ = read_by table.primitives s.instead prim in
      measured-has (ListsWithin count) table k s (λ variables why. left_at count _ k _ lists) measure (behind.Leaf by)
      (λ variables units. begun-names count by (size_of measure.unit units) (slice_get table.primitives by) k (record s { variables = variables }) lists)
  enter-names id (Some (MeasuredBox measure body)) k s is lists =
      measured-has (ListsWithin count) table k s (λ variables why. left_at count _ k _ lists) measure (behind.Box body)
      (λ variables units. box-names count (bits_of_units measure.unit units) body k (record s { variables = variables }) lists
      (nat_le (s.at + bits_of_units measure.unit units) s.stop))
  enter-names id (Some (Counted question body)) k s is lists =
      counted-has (ListsWithin count) table k s (λ variables why. left_at count _ k _ lists) question body (λ variables. left_at count Done k _ lists)
      (λ variables left. record { sought = tt; open_lists = lists })
  enter-names id (Some (Dispatch question keys)) k s is lists =
      dispatch-has (ListsWithin count) table k s (λ variables why. left_at count _ k _ lists) question keys
      (λ variables row. record { sought = tt; open_lists = lists })
  enter-names id (Some (Statement number)) k s is lists = statement-names count limits table held id number (slice_get table.statements number) k s lists
  enter-names id (Some (Concluded statements body)) k s is lists = record { sought = tt; open_lists = lists }
  enter-names id (Some (Hidden body)) k s is lists = record { sought = tt; open_lists = lists }
  enter-names id (Some (Spanned body)) k s is lists = record { sought = tt; open_lists = lists }
  enter-names id (Some (Instance statement body)) k s is lists =
      instanced-has (ListsWithin count) table body k s (λ variables why. left_at count _ k _ lists)
      (λ variables. record { sought = tt; open_lists = lists }) (λ variables. record { sought = tt; open_lists = lists }) statement
  enter-names id (Some (Separated policy position initiated slots)) k s is lists =
      separated-has (Names count) (HasLists count) held initiated k (slot-lists count initiated) (slot-ways count one_row held k) id policy position slots s lists

  pub step-names : (focus : Focus) (k : List Frame) (s : State) → ListsWithin count (record { focus = focus; stack = k; state = s })
      → ListsWithin count (step limits table held focus k s).machine
  step-names (Enter id) k s within = enter-names id (slice_get table.rows id) k s refl within.open_lists
  step-names (Pass to) k s within =
      let low : ℕ = anchor_at s (to - 1) in
      filled-names count limits.window (from_byte held (min low (end_of held))) low to (seen_beyond held low ((to - 1) / 8)) k s within.open_lists
  step-names (PassRest bit outer) k s within =
      let low : ℕ = anchor_at s (8 * (bit / 8)) in
      rested-names count limits.window (from_byte held (min low (end_of held))) low bit outer (seen_beyond held low (bit / 8)) k s within.open_lists
  step-names (Sized prim size) k s within =
      sized-names count limits prim size held table.delimiters (nil_values table.primitives s.instead) (slice_get table.primitives prim) k s within.open_lists
  step-names (Seek what) k s within =
      text-names count limits.window what
      (ask (seen_at (from_byte held (anchor_at s (aligned 8 s.at)))) (sought_among (among table.delimiters what s) s.at s.stop) nothing).reached k s
      within.sought within.open_lists
  step-names (LookIn slot) k s within =
      look_in-names count limits table.delimiters held (separation_at table slot).initiated slot (slots_from table slot) k s within.open_lists
  step-names (LookBehind slot bit) k s within =
      look_behind-names count limits table.delimiters held (separation_at table slot).initiated slot bit (slots_from table slot) k s within.open_lists
  step-names (Count slot question) k s within =
      count-has (Names count) (HasLists count) held (separation_at table slot).initiated k (slot-lists count (separation_at table slot).initiated)
      (slot-ways count one_row held k) table slot question (slots_from table slot) s within.open_lists (λ kept. within.open_lists)
  step-names (Leave end) [] s within = within
  step-names (Leave end) (frame ∷ k) s within = leave-names count limits table held frame end k s within.open_lists

-- a step leaves the register as it was, and names none of its lists but those of the tables
pub still_registered : (table : Table) → All (NamesWithin (named_by table)) table.rows → (old new : Parser) (before after : Held) (waited : Bool) (far looks : ℕ)
    → HasSameLimits old new → Moved (step (limits_of old before) table before old.focus old.stack (state_of old)) waited far new after looks
    → IsRegistered table old → IsRegistered table new
still_registered table named old new before after waited far looks most moved is = record {
  holds = subst (λ r. Holds r (map opened table.delimiters)) (sym most.1.1.0) is.holds;
  within = subst (λ (m : Machine). ListsWithin (length table.delimiters) m) (sym moved.machine)
      (step-names (limits_of old before) table before named old.focus old.stack (state_of old) is.within);
  marked = most.1.1.1 ∙ is.marked;
}
