-- What is ahead of a machine, behind a cost.
use Rattle.std.proofs.Common.{◌≡◌, ℕ, ◌-◌, ◌*◌, ◌/◌, ◌+◌, ◌<◌, ◌≤◌, nat_le, refl, List, [], ◌∷◌, length, drop, replicate, Bool, true, false, cond, Option, Some, None, ap, sym, ◌∙◌}
use Rattle.std.specs.Prelude.{slice_get}
use Rattle.dfdl_bits.specs.Window.{Held, end_of}
use Rattle.dfdl_report.specs.declared.cause.LimitCause.TheVariants.{Text as TextLimit}
use Rattle.dfdl_terms.specs.Rows.{Table}
use Rattle.dfdl_looks.specs.Looks.{Agrees}
use Rattle.dfdl_looks.specs.Asks.{Reached, Told, TooFar, Missing}
use Rattle.dfdl_looks.specs.Tallies.{Tally, nothing}
use Rattle.dfdl_grammar.specs.declared.end.End.{End}
use Rattle.dfdl_grammar.specs.declared.end.End.TheVariants.{Done, Failed, Stopped}
use Rattle.dfdl_grammar.specs.declared.end.Halt.TheVariants.{Limit}
use Rattle.dfdl_grammar.specs.declared.limits.Limits.{Limits}
use Rattle.dfdl_grammar.specs.declared.mark.Mark.{Mark}
use Rattle.dfdl_grammar.specs.Delimiters.{unscoped}
use Rattle.dfdl_grammar.specs.Framing.{aligned}
use Rattle.dfdl_grammar.specs.States.{Input, State, anchor, anchor_at}
use Rattle.dfdl_grammar.specs.Outcomes.{Outcome, ended, spend, then_do}
use Rattle.dfdl_grammar.specs.Leaves.{Find, Fails, Finds, FindsOctets, FindsText, land}
use Rattle.dfdl_grammar.specs.Boxes.{rest_from, unboxed}
use Rattle.dfdl_grammar.specs.Spans.{span_ends}
use Rattle.dfdl_grammar.specs.Marks.{back, closed, is_settled, stays_at}
use Rattle.dfdl_grammar.specs.Choices.{branches, or_branch}
use Rattle.dfdl_grammar.specs.Occurrences.{after_occurrence, dropped, occurrences, occurring, untried}
use Rattle.dfdl_grammar.specs.Representations.{after_empty, or_else, refuse, refused_among, the_last, then_empty, then_normal}
use Rattle.dfdl_grammar.specs.Rows.{below, group, meaning}
use Rattle.dfdl_grammar.proofs.Spending.{spend-nothing, spend-spend, follow-spend, close-spend}
use Rattle.dfdl_grammar.specs.Instances.{closed_behind}
use Rattle.dfdl_parse.specs.declared.frame.Frame.{Frame}
use Rattle.dfdl_parse.specs.declared.frame.Frame.TheVariants.{Rest, Element, Box, Spanning, Scope as ScopeFrame, Trial, Branch, Occurrence, Times, Before, Content, Closing, Aside, Concluding, Instance as InstanceFrame}
use Rattle.dfdl_terms.specs.declared.statement.Statements.{Statements}
use Rattle.dfdl_paths.specs.declared.place.Start.{Start}
use Rattle.dfdl_grammar.specs.Statements.{concluded_at}
use Rattle.dfdl_parse.specs.declared.frame.Next.{Next}
use Rattle.dfdl_parse.specs.declared.frame.Next.TheVariants as next
use Rattle.dfdl_parse.specs.declared.frame.Parts.{Parts}
use Rattle.dfdl_parse.specs.declared.frame.Focus.{Focus}
use Rattle.dfdl_parse.specs.declared.frame.Focus.TheVariants.{Enter, Pass, PassRest, Sized, Seek, LookIn, LookBehind, Count, Leave}
use Rattle.dfdl_parse.specs.Moves.{Move, is_missing}
use Rattle.dfdl_parse.specs.Machines.{children_of}
use Rattle.dfdl_parse.specs.Trials.{parts_of}
use Rattle.dfdl_grammar.specs.Slots.{in_slots}
use Rattle.dfdl_parse.specs.Slots.{slots_from}
use Rattle.dfdl_parse.specs.SlotsAhead.{content_slot, course_of, sequence_of}
use Rattle.dfdl_parse.specs.Ahead.{resume, retried, trial_of, finish, ahead}
use Rattle.dfdl_parse.proofs.SlotMoves.{before_slot-spend, closing_slot-spend, content_slot-spend}

-- the window holds the bytes that a row at this state needs
pub record Anchored (held : Held) (s : State) : Type 0 where
  pub base : held.base ≤ anchor s
  pub end : anchor s ≤ end_of held
  pub low : anchor s ≤ s.at / 8

-- the window holds the bytes that what is done next needs
abbrev pub Stands : Held → Focus → State → Type 0
Stands held (Enter id) s = Anchored held s
Stands held (Pass to) s = (held.base ≤ anchor_at s (to - 1)) × (anchor_at s (to - 1) ≤ (to - 1) / 8)
Stands held (PassRest bit outer) s = (held.base ≤ anchor_at s (8 * (bit / 8))) × ((bit < s.stop) × (anchor_at s (8 * (bit / 8)) ≤ bit / 8))
Stands held (Sized prim size) s = Anchored held s
Stands held (Seek what) s = Anchored held (record s { at = aligned 8 s.at })
Stands held (LookIn slot) s = Anchored held s
Stands held (LookBehind slot bit) s = Anchored held s
Stands held (Count slot question) s = Anchored held s
Stands held (Leave end) s = Unit {0}

-- the window shows the data at this state: it agrees with them, has the size of the limit, and holds the bytes that are needed
pub record Fits (held : Held) (input : Input) (focus : Focus) (s : State) : Type 0 where
  pub agrees : Agrees held input.bytes
  pub size : held.size ≡ input.limits.window
  pub stands : Stands held focus s

-- what is ahead, by the parts of a machine
abbrev pub from_here : Input → Table → Focus → List Frame → State → Outcome
from_here input table focus k s = ahead input table (record { focus = focus; stack = k; state = s })

-- a step does its part of what is ahead
abbrev pub Does : Input → Table → Outcome → Move → Type 0
Does input table o move = o ≡ spend move.tally (ahead input table move.machine)

pub found : (reached : Reached Find) → is_missing reached ≡ false → reached ≡ Missing → ⊥
found (Told f) is missing = absurd (cc)
found TooFar is missing = absurd (cc)
found Missing is missing = absurd (cc)

-- what a reading makes of the state costs nothing more
hold-nothing : (room : Bool) (s t : State) (most : ℕ) → (cond room (ended Done s) (ended (Stopped (Limit TextLimit) most) t)).tally ≡ nothing
hold-nothing true s t most = refl
hold-nothing false s t most = refl

pub land-nothing : (limits : Limits) (first : ℕ) (reached : Reached Find) (s : State) → (land limits first reached s).tally ≡ nothing
land-nothing limits first (Told (Fails cause)) s = refl
land-nothing limits first (Told (Finds content bits)) s = refl
land-nothing limits first (Told (FindsOctets bytes bits)) s = hold-nothing (nat_le (length s.text + length bytes) limits.text) _ s limits.text
land-nothing limits first (Told (FindsText bytes span)) s = hold-nothing (nat_le (length s.text + length bytes) limits.text) _ s limits.text
land-nothing limits first TooFar s = refl
land-nothing limits first Missing s = refl

-- what was spent in a box was spent before what follows it
pub unboxed-spend : (end : End) (t : Tally) (outer hidden : ℕ) (o : Outcome) → unboxed end outer hidden (spend t o) ≡ spend t (unboxed end outer hidden o)
unboxed-spend Done t outer hidden o = refl
unboxed-spend (Failed cause bit) t outer hidden o = refl
unboxed-spend (Stopped cause quantity) t outer hidden o = refl

-- and what was spent in a scope
unscoped-spend : (end : End) (t : Tally) (count : ℕ) (o : Outcome) → unscoped end count (spend t o) ≡ spend t (unscoped end count o)
unscoped-spend Done t count o = refl
unscoped-spend (Failed cause bit) t count o = refl
unscoped-spend (Stopped cause quantity) t count o = refl

-- what was spent in a representation was spent before what follows it
last-spend : (end : End) (t : Tally) (o : Outcome) → the_last end (spend t o) ≡ spend t (the_last end o)
last-spend Done t o = refl
last-spend (Failed cause bit) t o = refl
last-spend (Stopped cause quantity) t o = refl

else-spend : (end : End) (t : Tally) (o : Outcome) (next : State → Outcome) → or_else end (spend t o) next ≡ spend t (or_else end o next)
else-spend Done t o next = refl
else-spend (Failed cause bit) t o next = sym (spend-spend t o.tally (next (back o.state)))
else-spend (Stopped cause quantity) t o next = refl

-- and in a branch
settled-spend : (t : Tally) (o : Outcome) (next : State → Outcome) (settled : Bool)
    → cond settled (record (spend t o) { state = closed o.state }) (spend (spend t o).tally (next (back o.state)))
    ≡ spend t (cond settled (record o { state = closed o.state }) (spend o.tally (next (back o.state))))
settled-spend t o next true = refl
settled-spend t o next false = sym (spend-spend t o.tally (next (back o.state)))

branch-spend : (end : End) (t : Tally) (o : Outcome) (next : State → Outcome) → or_branch end (spend t o) next ≡ spend t (or_branch end o next)
branch-spend Done t o next = refl
branch-spend (Failed cause bit) t o next = settled-spend t o next (is_settled o.state.marks)
branch-spend (Stopped cause quantity) t o next = refl

-- and in an empty representation that is refused
refused-spend : (marks : List Mark) (t : Tally) (o : Outcome) → refused_among marks (spend t o) ≡ spend t (refused_among marks o)
refused-spend [] t o = refl
refused-spend (mark ∷ outer) t o = refl

refuse-spend : (end : End) (t : Tally) (o : Outcome) (next : State → Outcome) → refuse end (spend t o) next ≡ spend t (refuse end o next)
refuse-spend Done t o next = refused-spend o.state.marks t o
refuse-spend (Failed cause bit) t o next = else-spend (Failed cause bit) t o next
refuse-spend (Stopped cause quantity) t o next = refl

empty-spend : (refuses : Bool) (t : Tally) (o : Outcome) (next : State → Outcome) → after_empty refuses (spend t o) next ≡ spend t (after_empty refuses o next)
empty-spend true t o next = refuse-spend o.end t o next
empty-spend false t o next = else-spend o.end t o next

-- and in an occurrence
stayed-spend : (t : Tally) (o : Outcome) (next : State → Outcome) (stays : Bool)
    → cond stays (record (spend t o) { state = dropped o.state }) (spend (spend t o).tally (next (closed o.state)))
    ≡ spend t (cond stays (record o { state = dropped o.state }) (spend o.tally (next (closed o.state))))
stayed-spend t o next true = refl
stayed-spend t o next false = sym (spend-spend t o.tally (next (closed o.state)))

lost-spend : (t : Tally) (o : Outcome) (settled : Bool)
    → cond settled (record (spend t o) { state = closed o.state }) (record (spend t o) { end = Done; state = dropped o.state })
    ≡ spend t (cond settled (record o { state = closed o.state }) (record o { end = Done; state = dropped o.state }))
lost-spend t o true = refl
lost-spend t o false = refl

occurrence-spend : (end : End) (t : Tally) (o : Outcome) (next : State → Outcome) → after_occurrence end (spend t o) next ≡ spend t (after_occurrence end o next)
occurrence-spend Done t o next = stayed-spend t o next (stays_at o.state.marks o.state.at)
occurrence-spend (Failed cause bit) t o next = lost-spend t o (is_settled o.state.marks)
occurrence-spend (Stopped cause quantity) t o next = refl

-- and in a component with statements behind it
pub concluded-spend : (end : End) (limits : Limits) (table : Table) (start : Start) (statements : Statements) (t : Tally) (o : Outcome)
    → concluded_at end limits table start statements (spend t o) ≡ spend t (concluded_at end limits table start statements o)
concluded-spend Done limits table start statements t o = refl
concluded-spend (Failed cause bit) limits table start statements t o = refl
concluded-spend (Stopped cause quantity) limits table start statements t o = refl

-- and in an occurrence that is tried
pub untried-spend : (end : End) (t : Tally) (o : Outcome) → untried end (spend t o) ≡ spend t (untried end o)
untried-spend Done t o = refl
untried-spend (Failed cause bit) t o = refl
untried-spend (Stopped cause quantity) t o = refl

-- and in a component with an instance of a variable
pub closed-spend : (end : End) (t : Tally) (o : Outcome) → closed_behind end (spend t o) ≡ spend t (closed_behind end o)
closed-spend Done t o = refl
closed-spend (Failed cause bit) t o = refl
closed-spend (Stopped cause quantity) t o = refl

module _ (input : Input) (table : Table) where
  pub retried-spend : (id : ℕ) (parts : Option Parts) (follows : Next) (t : Tally) (o : Outcome)
      → retried input table id parts follows (spend t o) ≡ spend t (retried input table id parts follows o)
  retried-spend id None follows t o = last-spend o.end t o
  retried-spend id (Some parts) next.Empty t o = else-spend o.end t o (then_empty parts.tried.refuses_empty parts.tried.empty (trial_of input table id parts))
  retried-spend id (Some parts) next.Normal t o = empty-spend parts.tried.refuses_empty t o (then_normal (trial_of input table id parts))
  retried-spend id (Some parts) next.Nothing t o = last-spend o.end t o

  resume-spend : (frame : Frame) (t : Tally) (o : Outcome) → resume input table frame (spend t o) ≡ spend t (resume input table frame o)
  resume-spend (Rest id next) t o = follow-spend o.end t o (group (below input table id) (drop next (children_of (slice_get table.rows id))))
  resume-spend (Element outer complex) t o = close-spend o.end t outer complex o
  resume-spend (Box outer from) t o =
      ap (λ (p : Outcome). unboxed p.end outer.stop outer.hidden p) (follow-spend o.end t o (rest_from input from))
      ∙ unboxed-spend (then_do o (rest_from input from)).end t outer.stop outer.hidden (then_do o (rest_from input from))
  resume-spend (Spanning from) t o = follow-spend o.end t o (span_ends from)
  resume-spend (ScopeFrame count) t o = unscoped-spend o.end t count o
  resume-spend (Trial id occurrence next) t o = retried-spend id (parts_of occurrence (slice_get table.rows id)) next t o
  resume-spend (Branch id next) t o = branch-spend o.end t o (branches (below input table id) (drop next (children_of (slice_get table.rows id))))
  resume-spend (Occurrence body initiated left) t o =
      let p : Outcome = untried o.end o in
      let more : State → Outcome = occurrences (occurring true (meaning input table body)) initiated left in
      ap (λ (q : Outcome). after_occurrence q.end q more) (untried-spend o.end t o) ∙ occurrence-spend p.end t p more
  resume-spend (Times body left) t o = follow-spend o.end t o (group (meaning input table) (replicate left body))
  resume-spend (Before slot) t o = before_slot-spend (sequence_of input table slot.sequence) slot (slots_from table slot) t o
  resume-spend (Content slot bit empty) t o =
      ap (content_slot (sequence_of input table slot.sequence) slot bit empty (slots_from table slot)) (untried-spend o.end t o)
      ∙ content_slot-spend (sequence_of input table slot.sequence) slot bit empty (slots_from table slot) t (untried o.end o)
  resume-spend (Closing slot bit) t o = closing_slot-spend (sequence_of input table slot.sequence) slot bit (slots_from table slot) t o
  resume-spend (Aside slot) t o =
      follow-spend o.end t o (in_slots (sequence_of input table slot.sequence) (slots_from table slot) (course_of slot))
  resume-spend (Concluding statements start) t o = concluded-spend o.end input.limits table start statements t o
  resume-spend InstanceFrame t o = closed-spend o.end t o

  pub finish-spend : (k : List Frame) (t : Tally) (o : Outcome) → finish input table k (spend t o) ≡ spend t (finish input table k o)
  unfolding finish
  finish-spend [] t o = refl
  finish-spend (frame ∷ k) t o = ap (finish input table k) (resume-spend frame t o) ∙ finish-spend k t (resume input table frame o)

  -- behind a row, nothing was spent yet
  pub after_nothing : (k : List Frame) (o : Outcome) → finish input table k o ≡ spend nothing (finish input table k o)
  after_nothing k o = sym (spend-nothing (finish input table k o))
