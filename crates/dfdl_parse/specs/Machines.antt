-- One step of the machine.
use Rattle.std.specs.Prelude.{◌≡◌, ℕ, ◌+◌, ◌-◌, ◌*◌, ◌/◌, min, nat_le, nat_lt, Bool, true, false, List, [], ◌∷◌, length, Option, Some, None, slice_get, if◌then◌else◌, replicate}
use Rattle.dfdl_bits.specs.Window.{Held, end_of, from_byte, seen_at}
use Rattle.dfdl_bits.specs.declared.window.Seen.{Seen}
use Rattle.dfdl_bits.specs.declared.window.Seen.TheVariants.{Byte, End as DataEnded, NotYet, Over}
use Rattle.dfdl_report.specs.declared.cause.LimitCause.TheVariants.{Window}
use Rattle.dfdl_report.specs.declared.cause.ParseCause.TheVariants.{DataEnds, LengthOutOfRange}
use Rattle.dfdl_terms.specs.declared.row.Row.{Row}
use Rattle.dfdl_terms.specs.declared.row.Row.TheVariants.{Leaf, Elem, Group, Skip, Align, Initiator, Terminator, Separator, Scope, Boxed, PrefixedLeaf, PrefixedBox, MeasuredLeaf, MeasuredBox, Repeat, Counted, Optional, Choice, Dispatch, Statement, Concluded, Hidden, Spanned, Instance, Separated}
use Rattle.dfdl_paths.specs.declared.place.Start.TheVariants.{At, Inside}
use Rattle.dfdl_terms.specs.Rows.{Table}
use Rattle.dfdl_looks.specs.Tallies.{needs_from, nothing, one_row, saw_byte, saw_end, saw_none}
use Rattle.dfdl_grammar.specs.declared.end.End.{End}
use Rattle.dfdl_grammar.specs.declared.end.End.TheVariants.{Done, Failed, Stopped}
use Rattle.dfdl_grammar.specs.declared.end.Halt.TheVariants.{Limit}
use Rattle.dfdl_grammar.specs.declared.limits.Limits.{Limits}
use Rattle.dfdl_grammar.specs.States.{State, anchor_at}
use Rattle.dfdl_grammar.specs.Leaves.{nil_values, read_by}
use Rattle.dfdl_grammar.specs.Marks.{closed, pointed}
use Rattle.dfdl_grammar.specs.Framing.{aligned}
use Rattle.dfdl_grammar.specs.Delimiters.{closes_to, opens}
use Rattle.dfdl_grammar.specs.Elements.{has_elements, left}
use Rattle.dfdl_grammar.specs.Boxes.{filled_from}
use Rattle.dfdl_grammar.specs.Spans.{with_span}
use Rattle.dfdl_parse.specs.declared.frame.Frame.{Frame}
use Rattle.dfdl_parse.specs.declared.frame.Frame.TheVariants.{Rest, Element, Box, Spanning, Scope as ScopeFrame, Trial, Branch, Occurrence, Times, Before, Content, Closing, Aside, Concluding, Instance as InstanceFrame}
use Rattle.dfdl_grammar.specs.Instances.{instance_closed}
use Rattle.dfdl_grammar.specs.Occurrences.{as_normal}
use Rattle.dfdl_parse.specs.declared.frame.Outside.{Outside}
use Rattle.dfdl_parse.specs.declared.frame.Focus.{Focus}
use Rattle.dfdl_parse.specs.declared.frame.Focus.TheVariants.{Enter, Pass, PassRest, Sized, Seek, LookIn, LookBehind, Count, Leave}
use Rattle.dfdl_parse.specs.declared.frame.Behind.TheVariants as behind
use Rattle.dfdl_parse.specs.declared.frame.Sought.TheVariants as sought
use Rattle.dfdl_parse.specs.Moves.{Move, pass, read_leaf}
use Rattle.dfdl_parse.specs.Trials.{enter_element, parts_here, parts_of, retry, trial_done}
use Rattle.dfdl_parse.specs.Points.{branch_failed, occurrence_done, occurrence_failed, try_branch, try_occurrence}
use Rattle.dfdl_parse.specs.Asking.{begins, counted_begins, dispatch_begins, measured_begins, times_begin}
use Rattle.dfdl_parse.specs.Stating.{conclude, make_statement, reconsider, with_behind}
use Rattle.dfdl_parse.specs.Slots.{before_done, before_failed, cause_of, closing_ended, content_ended, count_slots, enter_separated, goes_beside, look_behind, look_in, separation_at, slots_from}
use Rattle.dfdl_parse.specs.Instances.{instanced_begins}
use Rattle.dfdl_parse.specs.Boxing.{back_outside, hides}
use Rattle.dfdl_parse.specs.Searches.{enter_delimiter, search}
use Rattle.dfdl_parse.specs.Prefixed.{behind_units, box_begins, read_prefix, read_sized}

-- the rows of a group, the row of a repetition so many times, or the branches of a choice
abbrev pub children_of : Option Row → List ℕ
children_of None = []
children_of (Some (Leaf prim)) = []
children_of (Some (Elem name simple tried statements body)) = []
children_of (Some (Group children)) = children
children_of (Some (Skip bits)) = []
children_of (Some (Align bits)) = []
children_of (Some (Initiator delimiter)) = []
children_of (Some (Terminator delimiter separators)) = []
children_of (Some Separator) = []
children_of (Some (Scope list body)) = []
children_of (Some (Boxed bits body)) = []
children_of (Some (PrefixedLeaf prefix prim)) = []
children_of (Some (PrefixedBox prefix body)) = []
children_of (Some (MeasuredLeaf measure prim)) = []
children_of (Some (MeasuredBox measure body)) = []
children_of (Some (Repeat count body)) = replicate count body
children_of (Some (Counted question body)) = []
children_of (Some (Optional most item initiated body)) = []
children_of (Some (Choice branches initiated)) = branches
children_of (Some (Dispatch question keys)) = []
children_of (Some (Statement number)) = []
children_of (Some (Concluded statements body)) = []
children_of (Some (Hidden body)) = []
children_of (Some (Spanned body)) = []
children_of (Some (Instance statement body)) = []
children_of (Some (Separated policy position initiated slots)) = []

-- fill up to a bit begins, where there is any; it can't pass the end of the box
abbrev pub enter_fill : Held → ℕ → List Frame → State → Move
enter_fill held to k s =
    if nat_le to s.at then pass one_row held (Leave Done) k s
    else if nat_le to s.stop then pass one_row held (Pass to) k s
    else pass one_row held (Leave (Failed LengthOutOfRange s.at)) k s

-- What a look at a byte sees behind which the bytes before the anchor were given up. Where the anchor hasn't come, the look is as far
-- behind the first byte that hasn't.
abbrev pub seen_beyond : Held → ℕ → ℕ → Seen
seen_beyond held anchor k = let near : ℕ = min anchor (end_of held) in seen_at (from_byte held near) (near + (k - anchor))

-- the step over fill up to a bit, by the first byte that is still needed and what the look at the last byte sees, with these bytes
-- held behind it
abbrev pub fill_move : ℕ → Held → ℕ → ℕ → Seen → List Frame → State → Move
fill_move window sight low to (Byte byte) k s =
    pass (needs_from low (saw_byte ((to - 1) / 8) nothing)) sight (Leave Done) k (record s { at = to })
fill_move window sight low to DataEnded k s =
    pass (needs_from low (saw_end ((to - 1) / 8) nothing)) sight (Leave (Failed DataEnds s.at)) k s
fill_move window sight low to Over k s = pass (needs_from low (saw_none nothing)) sight (Leave (Stopped (Limit Window) window)) k s
fill_move window sight low to NotYet k s = record {
  tally = needs_from low (saw_none nothing);
  machine = record { focus = Pass to; stack = k; state = s };
  held = sight;
  waits = true;
}

-- fill up to a bit, which gives up the bytes that are no longer needed at its last bit
abbrev pub fill : Limits → Held → ℕ → List Frame → State → Move
fill limits held to k s =
    let low : ℕ = anchor_at s (to - 1) in
    fill_move limits.window (from_byte held (min low (end_of held))) low to (seen_beyond held low ((to - 1) / 8)) k s

-- a box of so many bits begins; it can't pass the end of the one around it
abbrev pub enter_box : Held → ℕ → ℕ → List Frame → State → Move
enter_box held bits body k s = record { tally = one_row; machine = box_begins bits body k s; held = held; waits = false }

-- The content of the innermost box is done, which began at this bit: so does the box end here, or its rest begins.
abbrev pub leave_box : Held → Outside → ℕ → List Frame → State → Move
leave_box held outer from k s =
    if nat_le s.stop s.at
    then pass nothing held (Leave Done) k (back_outside outer (filled_from from s))
    else pass nothing held (PassRest s.at outer) k (filled_from from s)

-- a byte of the rest of a box was seen: it is the last one, or the next one follows
abbrev pub past_one : Held → ℕ → ℕ → Outside → List Frame → State → Move
past_one sight low byte outer k s =
    if nat_le ((s.stop - 1) / 8) byte
    then pass (needs_from low (saw_byte byte nothing)) sight (Leave Done) k (back_outside outer (record s { at = s.stop }))
    else pass (needs_from low (saw_byte byte nothing)) sight (PassRest (8 * (byte + 1)) outer) k s

-- the step over the byte of a bit in the rest of a box, by the first byte that is still needed and what the look sees, with these
-- bytes held behind it
abbrev pub rest_move : ℕ → Held → ℕ → ℕ → Outside → Seen → List Frame → State → Move
rest_move window sight low bit outer (Byte b) k s = past_one sight low (bit / 8) outer k s
rest_move window sight low bit outer DataEnded k s =
    pass (needs_from low (saw_end (bit / 8) nothing)) sight (Leave (Failed DataEnds s.at)) k (hides outer.hidden s)
rest_move window sight low bit outer Over k s = pass (needs_from low (saw_none nothing)) sight (Leave (Stopped (Limit Window) window)) k s
rest_move window sight low bit outer NotYet k s = record {
  tally = needs_from low (saw_none nothing);
  machine = record { focus = PassRest bit outer; stack = k; state = s };
  held = sight;
  waits = true;
}

-- the byte of a bit in the rest of a box, which gives up the bytes that are no longer needed there
abbrev pub pass_rest : Limits → Held → ℕ → Outside → List Frame → State → Move
pass_rest limits held bit outer k s =
    let low : ℕ = anchor_at s (8 * (bit / 8)) in
    rest_move limits.window (from_byte held (min low (end_of held))) low bit outer (seen_beyond held low (bit / 8)) k s

-- a group
abbrev pub enter_group : Held → ℕ → List ℕ → List Frame → State → Move
enter_group held id [] k s = pass one_row held (Leave Done) k s
enter_group held id (child ∷ rest) k s = pass one_row held (Enter child) (Rest id 1 ∷ k) s

-- a row begins
abbrev pub enter : Limits → Table → Held → ℕ → Option Row → List Frame → State → Move
enter limits table held id None k s = pass one_row held (Leave Done) k s
enter limits table held id (Some (Leaf prim)) k s =
    read_leaf one_row limits (Enter id) held table.delimiters (nil_values table.primitives s.instead)
    (slice_get table.primitives (read_by table.primitives s.instead prim)) k s
enter limits table held id (Some (Elem name simple tried statements body)) k s =
    enter_element limits.nodes held id (parts_here s.instead (has_elements simple) tried body) (with_behind statements (At (length s.nodes)) k) s
enter limits table held id (Some (Group children)) k s = enter_group held id children k s
enter limits table held id (Some (Skip bits)) k s = enter_fill held (s.at + bits) k s
enter limits table held id (Some (Align bits)) k s = enter_fill held (aligned bits s.at) k s
enter limits table held id (Some (Initiator delimiter)) k s = enter_delimiter held delimiter (sought.Initiator delimiter.list delimiter.resolves) k s
enter limits table held id (Some (Terminator delimiter separators)) k s = enter_delimiter held delimiter (sought.Terminator delimiter.list separators) k s
enter limits table held id (Some Separator) k s = pass one_row held (Seek sought.Separator) k s
enter limits table held id (Some (Scope list body)) k s = pass one_row held (Enter body) (ScopeFrame (length s.lists) ∷ k) (opens list s)
enter limits table held id (Some (Boxed bits body)) k s = enter_box held bits body k s
enter limits table held id (Some (PrefixedLeaf prefix prim)) k s =
    read_prefix limits id held table.delimiters prefix.own (behind_units table.primitives prefix.unit (behind.Leaf (read_by table.primitives s.instead prim)))
    (slice_get table.primitives prefix.prim) k s
enter limits table held id (Some (Repeat count body)) k s = enter_group held id (replicate count body) k s
enter limits table held id (Some (Optional most item initiated body)) k s = try_occurrence one_row held body initiated most k s
enter limits table held id (Some (Choice branches initiated)) k s = try_branch one_row held id 0 (slice_get branches 0) k (pointed initiated s)
enter limits table held id (Some (PrefixedBox prefix body)) k s =
    read_prefix limits id held table.delimiters prefix.own (behind_units table.primitives prefix.unit (behind.Box body)) (slice_get table.primitives prefix.prim) k s
enter limits table held id (Some (MeasuredLeaf measure prim)) k s =
    begins one_row held (measured_begins table measure (behind.Leaf (read_by table.primitives s.instead prim)) k s)
enter limits table held id (Some (MeasuredBox measure body)) k s = begins one_row held (measured_begins table measure (behind.Box body) k s)
enter limits table held id (Some (Counted question body)) k s = begins one_row held (counted_begins table question body k s)
enter limits table held id (Some (Dispatch question keys)) k s = begins one_row held (dispatch_begins table question keys k s)
enter limits table held id (Some (Statement number)) k s =
    make_statement one_row limits table (Enter id) held number (slice_get table.statements number) k s
enter limits table held id (Some (Concluded statements body)) k s =
    pass one_row held (Enter body) (with_behind statements (Inside s.inside) k) s
enter limits table held id (Some (Hidden body)) k s = pass one_row held (Enter body) k s
enter limits table held id (Some (Spanned body)) k s = pass one_row held (Enter body) (Spanning s.at ∷ k) s
enter limits table held id (Some (Instance statement body)) k s = begins one_row held (instanced_begins table statement body k s)
enter limits table held id (Some (Separated policy position initiated slots)) k s = enter_separated held id policy position initiated slots k s

-- a group goes on with its next child, or ends
abbrev pub go_on : Held → ℕ → ℕ → Option ℕ → List Frame → State → Move
go_on held id next None k s = pass nothing held (Leave Done) k s
go_on held id next (Some child) k s = pass nothing held (Enter child) (Rest id (next + 1) ∷ k) s

-- a row that is done, before what stands on the stack
abbrev pub leave_done : Limits → Table → Held → Frame → List Frame → State → Move
leave_done limits table held (Rest id next) k s = go_on held id next (slice_get (children_of (slice_get table.rows id)) next) k s
leave_done limits table held (Element outer complex) k s = pass nothing held (Leave Done) k (left outer complex s)
leave_done limits table held (Box outer from) k s = leave_box held outer from k s
leave_done limits table held (Spanning from) k s = pass nothing held (Leave Done) k (with_span (s.at - from) (s.at - from) s)
leave_done limits table held (ScopeFrame count) k s = pass nothing held (Leave Done) k (closes_to count s)
leave_done limits table held (Trial id occurrence next) k s = trial_done held (parts_of occurrence (slice_get table.rows id)) next k s
leave_done limits table held (Branch id next) k s = pass nothing held (Leave Done) k (closed s)
leave_done limits table held (Occurrence body initiated left) k s = occurrence_done held body initiated left k (as_normal s)
leave_done limits table held (Times body left) k s = begins nothing held (times_begin body left k s)
leave_done limits table held (Before slot) k s = before_done held slot (slots_from table slot) k s
leave_done limits table held (Content slot bit empty) k s =
    content_ended held (separation_at table slot).initiated slot bit empty (slots_from table slot) (nat_lt bit s.at) None Done k (as_normal s)
leave_done limits table held (Closing slot bit) k s = closing_ended held (separation_at table slot).initiated slot bit (slots_from table slot) true Done k s
leave_done limits table held (Aside slot) k s = goes_beside held (separation_at table slot).initiated slot (slots_from table slot) k s
leave_done limits table held (Concluding statements start) k s = conclude limits table held statements start k s
leave_done limits table held InstanceFrame k s = pass nothing held (Leave Done) k (instance_closed s)

-- a row that failed, at this end, before what stands on the stack
abbrev pub leave_failed : ℕ → Table → Held → Frame → End → List Frame → State → Move
leave_failed most table held (Rest id next) end k s = pass nothing held (Leave end) k s
leave_failed most table held (Element outer complex) end k s = pass nothing held (Leave end) k s
leave_failed most table held (Box outer from) end k s = pass nothing held (Leave end) k (hides outer.hidden s)
leave_failed most table held (Spanning from) end k s = pass nothing held (Leave end) k s
leave_failed most table held (ScopeFrame count) end k s = pass nothing held (Leave end) k (closes_to count s)
leave_failed most table held (Trial id occurrence next) end k s = retry most held id (parts_of occurrence (slice_get table.rows id)) next end k s
leave_failed most table held (Branch id next) end k s =
    branch_failed held id next (slice_get (children_of (slice_get table.rows id)) next) end k s
leave_failed most table held (Occurrence body initiated left) end k s = occurrence_failed held end k (as_normal s)
leave_failed most table held (Times body left) end k s = pass nothing held (Leave end) k s
leave_failed most table held (Before slot) end k s = before_failed held (separation_at table slot).initiated slot (slots_from table slot) end k s
leave_failed most table held (Content slot bit empty) end k s =
    content_ended held (separation_at table slot).initiated slot bit empty (slots_from table slot) false (cause_of end) end k (as_normal s)
leave_failed most table held (Closing slot bit) end k s =
    closing_ended held (separation_at table slot).initiated slot bit (slots_from table slot) false end k s
leave_failed most table held (Aside slot) end k s = pass nothing held (Leave end) k s
leave_failed most table held (Concluding statements start) end k s = reconsider table held statements start end k s
leave_failed most table held InstanceFrame end k s = pass nothing held (Leave end) k (instance_closed s)

-- what stands on the stack takes the end of the row before it
abbrev pub leave : Limits → Table → Held → Frame → End → List Frame → State → Move
leave limits table held frame Done k s = leave_done limits table held frame k s
leave limits table held frame (Failed cause bit) k s = leave_failed limits.nodes table held frame (Failed cause bit) k s
leave limits table held frame (Stopped cause quantity) k s = pass nothing held (Leave (Stopped cause quantity)) k s

-- one step
abbrev pub step : Limits → Table → Held → Focus → List Frame → State → Move
step limits table held (Enter id) k s = enter limits table held id (slice_get table.rows id) k s
step limits table held (Pass to) k s = fill limits held to k s
step limits table held (PassRest bit outer) k s = pass_rest limits held bit outer k s
step limits table held (Sized prim size) k s =
    read_sized limits held table.delimiters prim size (nil_values table.primitives s.instead) (slice_get table.primitives prim) k s
step limits table held (Seek what) k s = search limits table.delimiters held what k s
step limits table held (LookIn slot) k s =
    look_in limits table.delimiters held (separation_at table slot).initiated slot (slots_from table slot) k s
step limits table held (LookBehind slot bit) k s =
    look_behind limits table.delimiters held (separation_at table slot).initiated slot bit (slots_from table slot) k s
step limits table held (Count slot question) k s =
    count_slots table held (separation_at table slot).initiated slot question (slots_from table slot) k s
step limits table held (Leave end) [] s = pass nothing held (Leave end) [] s
step limits table held (Leave end) (frame ∷ k) s = leave limits table held frame end k s

-- nothing is left to be done
abbrev pub HasEnded : Focus → List Frame → Type 0
HasEnded (Enter id) k = ⊥
HasEnded (Pass to) k = ⊥
HasEnded (PassRest bit outer) k = ⊥
HasEnded (Sized prim size) k = ⊥
HasEnded (Seek what) k = ⊥
HasEnded (LookIn slot) k = ⊥
HasEnded (LookBehind slot bit) k = ⊥
HasEnded (Count slot question) k = ⊥
HasEnded (Leave end) k = k ≡ []

-- whether there are no frames
abbrev pub is_none : List Frame → Bool
is_none [] = true
is_none (frame ∷ k) = false
