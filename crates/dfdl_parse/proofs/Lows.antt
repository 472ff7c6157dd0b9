-- A step leaves the bytes that are needed behind it.
use Rattle.std.proofs.Common.{◌≡◌, ℕ, ap, sym, ◌∙◌, ◌+◌, ◌-◌, ◌*◌, ◌/◌, ◌<◌, ◌≤◌, min, nat_eq, nat_le, nat_lt, ◌&&◌, refl, List, [], ◌∷◌, length, map, Bool, true, false, cond, Option, Some, None, arith, replicate}
use Rattle.std.specs.Prelude.{slice_get}
use Rattle.std.proofs.lemmas.Bool.Decides.{nat_tests}
use Rattle.dfdl_bits.specs.Window.{Held, end_of, from_byte, seen_at}
use Rattle.dfdl_bits.specs.declared.window.Seen.{Seen}
use Rattle.dfdl_bits.specs.declared.window.Seen.TheVariants.{Byte, End as DataEnded, NotYet, Over}
use Rattle.dfdl_report.specs.declared.cause.ParseCause.{ParseCause}
use Rattle.dfdl_report.specs.declared.cause.ParseCause.TheVariants.{LengthOutOfRange}
use Rattle.dfdl_report.specs.declared.cause.LimitCause.TheVariants.{Nodes, Text as TextLimit, Window}
use Rattle.dfdl_value.specs.declared.value.Value.{Value}
use Rattle.dfdl_terms.specs.declared.delimiters.Delimiters.{Delimiters}
use Rattle.dfdl_terms.specs.declared.row.Primitive.{Primitive}
use Rattle.dfdl_delims.specs.Longest.{Longest, Text, NoText}
use Rattle.dfdl_terms.specs.declared.row.Row.{Row}
use Rattle.dfdl_terms.specs.declared.row.Row.TheVariants.{Leaf, Elem, Group, Skip, Align, Initiator, Terminator, Separator, Scope, Boxed, PrefixedLeaf, PrefixedBox, MeasuredLeaf, MeasuredBox, Repeat, Counted, Optional, Choice, Dispatch, Statement, Concluded, Hidden, Spanned, Instance, Separated}
use Rattle.dfdl_terms.specs.Rows.{Table}
use Rattle.dfdl_looks.specs.Asks.{Reached, Told, TooFar, Missing, ask}
use Rattle.dfdl_looks.specs.Tallies.{Tally, needs_from, nothing, one_row, saw_byte}
use Rattle.dfdl_grammar.specs.declared.end.End.{End}
use Rattle.dfdl_grammar.specs.declared.end.End.TheVariants.{Done, Failed, Stopped}
use Rattle.dfdl_grammar.specs.declared.end.Halt.TheVariants.{Limit}
use Rattle.dfdl_grammar.specs.declared.limits.Limits.{Limits}
use Rattle.dfdl_grammar.specs.Outcomes.{Outcome, ended}
use Rattle.dfdl_grammar.specs.States.{State, anchor, anchor_at}
use Rattle.dfdl_grammar.specs.Marks.{back, closed, is_settled, mark_at, marked, point_at, pointed, resolved, stays_at}
use Rattle.dfdl_grammar.specs.Occurrences.{as_normal, as_tried, dropped}
use Rattle.dfdl_grammar.specs.declared.mark.Mark.{Mark}
use Rattle.dfdl_grammar.specs.declared.instead.Instead.{Instead}
use Rattle.dfdl_grammar.specs.declared.instead.Instead.TheVariants.{Nothing, Nil, Empty}
use Rattle.dfdl_terms.specs.declared.text.TextSize.{TextSize}
use Rattle.dfdl_grammar.specs.Prefixes.{bits_of_units, resized, size_of, units_told}
use Rattle.dfdl_grammar.specs.Leaves.{Find, Fails, Finds, FindsOctets, FindsText, content_begins, has_room, nil_values, program, program_for, read_by, text_sought}
use Rattle.dfdl_grammar.specs.Framing.{aligned}
use Rattle.dfdl_grammar.specs.Boxes.{boxed_at, filled_from}
use Rattle.dfdl_grammar.specs.Delimiters.{lists_of, markup, opens, passed_text, sought_among, stands_in}
use Rattle.dfdl_grammar.specs.Elements.{begun, has_elements}
use Rattle.dfdl_parse.specs.declared.frame.Frame.{Frame}
use Rattle.dfdl_parse.specs.declared.frame.Frame.TheVariants.{Rest, Element, Box, Spanning, Scope as ScopeFrame, Trial, Branch, Occurrence, Times, Before, Content, Closing, Aside, Concluding, Instance as InstanceFrame}
use Rattle.dfdl_parse.specs.declared.frame.Outside.{Outside}
use Rattle.dfdl_parse.specs.declared.frame.Next.{Next}
use Rattle.dfdl_parse.specs.declared.frame.Next.TheVariants as next
use Rattle.dfdl_parse.specs.declared.frame.Parts.{Parts}
use Rattle.dfdl_parse.specs.declared.frame.Focus.{Focus}
use Rattle.dfdl_parse.specs.declared.frame.Focus.TheVariants.{Enter, Pass, PassRest, Sized, Seek, LookIn, LookBehind, Count, Leave}
use Rattle.dfdl_parse.specs.declared.frame.Behind.TheVariants as behind
use Rattle.dfdl_parse.specs.Boxing.{back_outside, outside}
use Rattle.dfdl_parse.specs.declared.frame.Sought.{Sought}
use Rattle.dfdl_parse.specs.declared.frame.Sought.TheVariants as sought
use Rattle.dfdl_parse.specs.Searches.{among, cause_of, found_text, place_of}
use Rattle.dfdl_parse.specs.Moves.{Machine, Move, landed, pass, read_leaf, read_move}
use Rattle.dfdl_parse.specs.Prefixed.{at_end, behind_units, can_fit, landed_prefix, prefix_move, read_prefix, read_resized, read_sized, sized_begins, units_begin}
use Rattle.dfdl_parse.specs.Machines.{children_of, enter, enter_group, fill, fill_move, go_on, leave, pass_rest, rest_move, seen_beyond, step}
use Rattle.dfdl_parse.specs.Opens.{AreOpen, IsHeld, NeedsBehind, NeedsFrom, points_of}
use Rattle.dfdl_parse.specs.Trials.{attempt, parts_here, parts_of, refused, retry, trial_done, try_empty, try_nil, try_normal, two_rows}
use Rattle.dfdl_parse.specs.Points.{try_branch, try_occurrence}
use Rattle.dfdl_parse.specs.Testing.{landed_test, read_test, verdict_in}
use Rattle.dfdl_parse.specs.Stating.{behind_done, make_statement, with_behind}
use Rattle.dfdl_terms.specs.declared.statement.Statement.{Statement as AnyStatement}
use Rattle.dfdl_terms.specs.declared.statement.Statement.TheVariants.{Pattern, Expression, Setting, Calculation, Question, Opening}
use Rattle.dfdl_terms.specs.declared.statement.Statements.{Statements}
use Rattle.dfdl_paths.specs.declared.place.Start.{Start}
use Rattle.dfdl_paths.specs.declared.place.Start.TheVariants.{At, Inside}
use Rattle.dfdl_region.specs.declared.node.Node.{Node}
use Rattle.dfdl_vars.specs.Kept.{Kept}
use Rattle.dfdl_grammar.specs.declared.end.Halt.{Halt}
use Rattle.dfdl_grammar.specs.Statements.{reconsidered_from, stated}
use Rattle.dfdl_parse.proofs.Stated.{all-again, behind-comes, stated-comes}
use Rattle.dfdl_parse.proofs.Asked.{counted-has, dispatch-has, measured-has, times-have}
use Rattle.dfdl_parse.proofs.InstanceSteps.{instanced-has}
use Rattle.dfdl_parse.proofs.Resolved.{sought-comes, tested-comes}
use Rattle.dfdl_terms.specs.declared.statement.PatternTest.{PatternTest}
use Rattle.dfdl_parse.proofs.Beyond.{beyond-byte}
use Rattle.dfdl_parse.proofs.Opens.{IsMarked, back-closed, back-open, closed-open, later, lower, mark-back-open, mark-open, resolved-open, risen, some-mark, stayed-closed}
use Rattle.dfdl_leaves.proofs.Texts.{EndsBehind, program_for-ends}
use Rattle.dfdl_parse.specs.Slots.{separation_at, slots_from}
use Rattle.dfdl_parse.proofs.SlotLows.{beside-low, count-low, separated-low}
use Rattle.dfdl_parse.proofs.SlotBacks.{content-low}
use Rattle.dfdl_parse.proofs.SlotCloses.{closing_done-low, closing_failed-low}
use Rattle.dfdl_parse.proofs.SlotBegins.{before_done-low, before_failed-low, look_behind-low, look_in-low}
use Rattle.dfdl_parse.proofs.Finishes.{Anchored, Stands}

-- no bit was passed over
not-moved : (bit at : ℕ) → nat_lt bit at ≡ false → at ≤ bit
not-moved bit at is = grind (arith, nat_tests)

-- the bytes that are needed behind a step are held
abbrev IsLow : Move → Type 0
IsLow move = NeedsFrom move.held.base move.machine.focus move.machine.stack move.machine.state

-- the same of a machine, from a byte on
abbrev IsLowFrom : ℕ → Machine → Type 0
IsLowFrom low m = NeedsFrom low m.focus m.stack m.state

held-low : (room : Bool) (low : ℕ) (k : List Frame) (s t : State) (most : ℕ) → low ≤ s.at / 8 → AreOpen low s.at k s.marks
    → NeedsFrom low (Leave (cond room (ended Done s) (ended (Stopped (Limit TextLimit) most) t)).end) k (cond room (ended Done s) (ended (Stopped (Limit TextLimit) most) t)).state
held-low true low k s t most is opens = (is, opens)
held-low false low k s t most is opens = tt

landed-low : (limits : Limits) (focus : Focus) (first low : ℕ) (reached : Reached Find) (k : List Frame) (s : State) → low ≤ s.at / 8 → AreOpen low s.at k s.marks
    → EndsBehind s.at reached → NeedsFrom low focus k s → IsLowFrom low (landed limits focus first reached k s)
landed-low limits focus first low (Told (Fails cause)) k s is opens ends stays = opens
landed-low limits focus first low (Told (Finds content span)) k s is opens ends stays = (omega arith, later low s.at span.end k s.marks ends opens)
landed-low limits focus first low (Told (FindsOctets bytes span)) k s is opens ends stays =
    held-low (nat_le (length s.text + length bytes) limits.text) low k _ s limits.text (omega arith) (later low s.at span.end k s.marks ends opens)
landed-low limits focus first low (Told (FindsText bytes span)) k s is opens ends stays =
    held-low (nat_le (length s.text + length bytes) limits.text) low k _ s limits.text (omega arith) (later low s.at span.end k s.marks ends opens)
landed-low limits focus first low TooFar k s is opens ends stays = tt
landed-low limits focus first low Missing k s is opens ends stays = stays

-- what stands behind a prefix
sized-low : (low prim : ℕ) (size : TextSize) (primitive : Option Primitive) (k : List Frame) (s : State) → low ≤ s.at / 8 → AreOpen low s.at k s.marks
    → IsLowFrom low (sized_begins primitive prim size k s)
sized-low low prim size None k s is opens = (is, opens)
sized-low low prim size (Some primitive) k s is opens = by (can_fit size s.at s.stop)
  where
    by : (fits : Bool) → IsLowFrom low (cond fits (record { focus = Sized prim size; stack = k; state = s }) (at_end (Failed LengthOutOfRange s.at) k s))
    by true = (is, opens)
    by false = opens

box-begun-low : (low bits body : ℕ) (k : List Frame) (s : State) → low ≤ s.at / 8 → AreOpen low s.at k s.marks → (inside : Bool)
    → IsLowFrom low (cond inside (record { focus = Enter body; stack = Box (outside s) s.at ∷ k; state = boxed_at (s.at + bits) s }) (at_end (Failed LengthOutOfRange s.at) k s))
box-begun-low low bits body k s is opens true = (is, opens)
box-begun-low low bits body k s is opens false = opens

module _ (limits : Limits) (id own : ℕ) (next : ℕ → List Frame → State → Machine) (k : List Frame) (low : ℕ)
    (follows : (units : ℕ) (s : State) → low ≤ s.at / 8 → AreOpen low s.at k s.marks → IsLowFrom low (next units k s)) where
  units-low : (end : ℕ) (units : Option ℕ) (s : State) → low ≤ s.at / 8 → AreOpen low s.at k s.marks → s.at ≤ end
      → IsLowFrom low (units_begin end next units k s)
  units-low end None s is opens behind = opens
  units-low end (Some units) s is opens behind = follows units (record s { at = end }) (omega arith) (later low s.at end k s.marks behind opens)

  prefix-landed-low : (first : ℕ) (reached : Reached Find) (s : State) → low ≤ s.at / 8 → AreOpen low s.at k s.marks → EndsBehind s.at reached
      → IsLowFrom low (landed_prefix limits id own first next reached k s)
  prefix-landed-low first (Told (Fails cause)) s is opens ends = opens
  prefix-landed-low first (Told (Finds content span)) s is opens ends = units-low span.end (units_told own content) s is opens ends
  prefix-landed-low first (Told (FindsOctets bytes span)) s is opens ends = opens
  prefix-landed-low first (Told (FindsText bytes span)) s is opens ends = opens
  prefix-landed-low first TooFar s is opens ends = tt
  prefix-landed-low first Missing s is opens ends = (is, opens)

filled-low : (window : ℕ) (sight : Held) (low to : ℕ) (v : Seen) (k : List Frame) (s : State) → sight.base ≤ (to - 1) / 8 → s.at < to
    → AreOpen sight.base s.at k s.marks → IsLow (fill_move window sight low to v k s)
filled-low window sight low to (Byte b) k s is less opens = (omega arith, later sight.base s.at to k s.marks (omega arith) opens)
filled-low window sight low to DataEnded k s is less opens = opens
filled-low window sight low to NotYet k s is less opens = (is, (less, opens))
filled-low window sight low to Over k s is less opens = tt

-- a byte of the rest of a box
past-low : (sight : Held) (low byte : ℕ) (outer : Outside) (k : List Frame) (s : State) → sight.base ≤ byte → 8 * byte < s.stop → s.at ≤ 8 * (byte + 1) → s.at ≤ s.stop
    → AreOpen sight.base s.at k s.marks → (last : Bool) → nat_le ((s.stop - 1) / 8) byte ≡ last
    → IsLow (cond last (pass (needs_from low (saw_byte byte nothing)) sight (Leave Done) k (back_outside outer (record s { at = s.stop })))
    (pass (needs_from low (saw_byte byte nothing)) sight (PassRest (8 * (byte + 1)) outer) k s))
past-low sight low byte outer k s base inside behind before_stop opens true is =
    (omega arith, later sight.base s.at s.stop k s.marks before_stop opens)
past-low sight low byte outer k s base inside behind before_stop opens false is =
    let less : byte < (s.stop - 1) / 8 = grind (arith, nat_tests) in
    (omega arith, (omega arith, (behind, opens)))

rested-low : (window : ℕ) (sight : Held) (low bit : ℕ) (outer : Outside) (v : Seen) (k : List Frame) (s : State) → sight.base ≤ bit / 8 → bit < s.stop → s.at ≤ bit
    → AreOpen sight.base s.at k s.marks → IsLow (rest_move window sight low bit outer v k s)
rested-low window sight low bit outer (Byte b) k s base inside behind opens =
    past-low sight low (bit / 8) outer k s base (omega arith) (omega arith) (omega arith) opens (nat_le ((s.stop - 1) / 8) (bit / 8)) refl
rested-low window sight low bit outer DataEnded k s base inside behind opens = opens
rested-low window sight low bit outer NotYet k s base inside behind opens = (base, (inside, (behind, opens)))
rested-low window sight low bit outer Over k s base inside behind opens = tt

-- a delimiter that is sought
one-text-low : (cause : ParseCause) (bits low : ℕ) (k : List Frame) (s : State) → low ≤ aligned 8 s.at / 8 → AreOpen low s.at k s.marks → (is : Bool)
    → (let o : Outcome = cond is (ended Done (record s { at = aligned 8 s.at + bits })) (ended (Failed cause s.at) s) in
    NeedsFrom low (Leave o.end) k o.state)
one-text-low cause bits low k s base opens true = (omega arith, later low s.at (aligned 8 s.at + bits) k s.marks (omega arith) opens)
one-text-low cause bits low k s base opens false = opens

-- the bytes that are needed behind an end, and where a point is resolved then
abbrev LowBehind : ℕ → List Frame → End → State → Type 0
LowBehind low k end s = NeedsBehind low end k s

resolved-low : (low : ℕ) (k : List Frame) (s : State) → LowBehind low k Done s → LowBehind low k Done (resolved s)
resolved-low low k s needs = (needs.0, resolved-open low s.at k s.marks needs.1)

text-low : (window : ℕ) (what : Sought) (low : ℕ) (reached : Reached Longest) (k : List Frame) (s : State) → low ≤ aligned 8 s.at / 8 → AreOpen low s.at k s.marks
    → IsLowFrom low (found_text window (Seek what) what (place_of what s) reached k s)
text-low window what low (Told (Text which bits)) k s base opens =
    sought-comes (LowBehind low k) (resolved-low low k) what (passed_text (cause_of what) (place_of what s) window (Told (Text which bits)) s)
    (one-text-low (cause_of what) bits low k s base opens (nat_eq which (place_of what s) && nat_lt 0 bits))
text-low window what low (Told NoText) k s base opens =
    sought-comes (LowBehind low k) (resolved-low low k) what (ended (Failed (cause_of what) s.at) s) opens
text-low window what low TooFar k s base opens = sought-comes (LowBehind low k) (resolved-low low k) what (ended (Stopped (Limit Window) window) s) tt
text-low window what low Missing k s base opens = (base, opens)

-- a test
verdict-low : (limits : Limits) (id number low : ℕ) (test : PatternTest) (reached : Reached Bool) (k : List Frame) (s : State) → low ≤ s.at / 8 → AreOpen low s.at k s.marks
    → IsLowFrom low (landed_test limits (Enter id) test number reached k s)
verdict-low limits id number low test (Told holds) k s is opens =
    tested-comes (LowBehind low k) (resolved-low low k) test.discriminates number holds s (is, opens) opens
verdict-low limits id number low test TooFar k s is opens = tt
verdict-low limits id number low test Missing k s is opens = (is, opens)

test-low : (limits : Limits) (held : Held) (id number : ℕ) (test : PatternTest) (k : List Frame) (s : State) → Anchored held s → held.base ≤ s.at / 8
    → AreOpen held.base s.at k s.marks → IsLow (read_test one_row limits (Enter id) held number test k s)
test-low limits held id number test k s stands low opens =
    verdict-low limits id number (anchor s) test
    (verdict_in test.form (ask (seen_at (from_byte held (anchor s))) (text_sought test.form (aligned 8 s.at) s.stop) nothing).reached) k s stands.low
    (risen held.base s.at s.at k s.marks opens)

-- a statement
module _ (low : ℕ) (k : List Frame) where
  still-low : (s : State) (nodes : List Node) (text : List ℕ) (variables : Kept) → LowBehind low k Done s
      → LowBehind low k Done (record s { nodes = nodes; text = text; variables = variables })
  still-low s nodes text variables needs = needs

  fails-low : (s : State) (cause : ParseCause) → LowBehind low k Done s → LowBehind low k (Failed cause s.at) s
  fails-low s cause needs = needs.1

  stops-low : (s : State) (cause : Halt) (quantity : ℕ) → LowBehind low k Done s → LowBehind low k (Stopped cause quantity) s
  stops-low s cause quantity needs = tt

  tells-low : (end : End) (s : State) (inside : ℕ) → LowBehind low k end s → LowBehind low k end (record s { inside = inside })
  tells-low Done s inside needs = needs
  tells-low (Failed cause bit) s inside needs = needs
  tells-low (Stopped cause quantity) s inside needs = tt

  stated-low : (limits : Limits) (table : Table) (start : Start) (number : ℕ) (found : Option AnyStatement) (s : State) → LowBehind low k Done s
      → let o : Outcome = stated limits table start number found s in LowBehind low k o.end o.state
  stated-low = stated-comes (LowBehind low k) (resolved-low low k) still-low fails-low stops-low

  concluded-low : (limits : Limits) (table : Table) (statements : Statements) (start : Start) (s : State) → LowBehind low k Done s
      → let o : Outcome = behind_done limits table statements start s in LowBehind low k o.end o.state
  concluded-low = behind-comes (LowBehind low k) (resolved-low low k) still-low fails-low stops-low tells-low

  again-low : (table : Table) (start : Start) (first count : ℕ) (s : State) → AreOpen low s.at k s.marks
      → let t : State = reconsidered_from table start first count s in AreOpen low t.at k t.marks
  again-low = all-again (λ t. AreOpen low t.at k t.marks) (λ t opens. resolved-open low t.at k t.marks opens) (λ t variables opens. opens)

statement-low : (limits : Limits) (table : Table) (held : Held) (id number : ℕ) (found : Option AnyStatement) (k : List Frame) (s : State) → Anchored held s
    → held.base ≤ s.at / 8 → AreOpen held.base s.at k s.marks → IsLow (make_statement one_row limits table (Enter id) held number found k s)
statement-low limits table held id number None k s stands low opens = (low, opens)
statement-low limits table held id number (Some (Pattern test)) k s stands low opens = test-low limits held id number test k s stands low opens
statement-low limits table held id number (Some (Expression test)) k s stands low opens =
    stated-low held.base k limits table (Inside s.inside) number (Some (Expression test)) s (low, opens)
statement-low limits table held id number (Some (Setting setting)) k s stands low opens =
    stated-low held.base k limits table (Inside s.inside) number (Some (Setting setting)) s (low, opens)
statement-low limits table held id number (Some (Calculation calculation)) k s stands low opens =
    stated-low held.base k limits table (At s.inside) number (Some (Calculation calculation)) s (low, opens)
statement-low limits table held id number (Some (Question question)) k s stands low opens =
    stated-low held.base k limits table (Inside s.inside) number (Some (Question question)) s (low, opens)
statement-low limits table held id number (Some (Opening opening)) k s stands low opens =
    stated-low held.base k limits table (Inside s.inside) number (Some (Opening opening)) s (low, opens)

-- the statements behind a component go back to no mark
behind-open : (base at : ℕ) (marks : List Mark) (statements : Statements) (start : Start) (k : List Frame) → AreOpen base at k marks
    → AreOpen base at (with_behind statements start k) marks
behind-open base at marks statements start k opens = by (nat_eq statements.count 0)
  where
    by : (none : Bool) → AreOpen base at (cond none k (Concluding statements start ∷ k)) marks
    by true = opens
    by false = opens

-- one representation of an element
attempt-low : (cost : Tally) (most : ℕ) (held : Held) (id : ℕ) (parts : Parts) (instead : Instead) (k : List Frame) (s : State)
    → held.base ≤ s.at / 8 → AreOpen held.base s.at k s.marks → (room : Bool)
    → IsLow (cond room
    (pass cost held (Enter parts.body) (Element s.inside parts.complex ∷ k) (begun id instead s))
    (pass cost held (Leave (Stopped (Limit Nodes) most)) k s))
attempt-low cost most held id parts instead k s low opens true = (low, opens)
attempt-low cost most held id parts instead k s low opens false = tt

-- the bytes from a mark on are held, for what is tried from it, where it is a point or none
abbrev IsTried : Bool → ℕ → List Frame → State → Type 0
IsTried point base k s = (base ≤ s.at / 8) × IsMarked point base s.at k s.marks

module _ (cost : Tally) (most : ℕ) (held : Held) (id : ℕ) (parts : Parts) (k : List Frame) (s : State) (opens : IsTried false held.base k s) where
  normal-low : IsLow (try_normal cost most held id parts k s)
  normal-low = attempt-low cost most held id parts Nothing (Trial id parts.occurrence next.Nothing ∷ k) s opens.0 opens.1 (nat_lt (length s.nodes) most)

  empty-low : (empty : Option ℕ) → IsLow (try_empty cost most held id parts empty k s)
  empty-low None = normal-low
  empty-low (Some prim) = attempt-low cost most held id parts (Empty prim) (Trial id parts.occurrence next.Normal ∷ k) s opens.0 opens.1 (nat_lt (length s.nodes) most)

  nil-low : (nil : Option ℕ) → IsLow (try_nil cost most held id parts nil k s)
  nil-low None = empty-low parts.tried.empty
  nil-low (Some prim) = attempt-low cost most held id parts (Nil prim) (Trial id parts.occurrence next.Empty ∷ k) s opens.0 opens.1 (nat_lt (length s.nodes) most)

-- a mark that is opened here
opened : (base : ℕ) (k : List Frame) (s : State) → base ≤ s.at / 8 → AreOpen base s.at k s.marks → IsTried false base k (marked s)
opened base k s low opens = (low, mark-open base k s (mark_at s) refl refl low opens)

-- a point that is opened here
point-opened : (base : ℕ) (initiated : Bool) (k : List Frame) (s : State) → base ≤ s.at / 8 → AreOpen base s.at k s.marks
    → IsTried true base k (pointed initiated s)
point-opened base initiated k s low opens = (low, mark-open base k s (point_at initiated s) refl refl low opens)

-- a branch of a choice
branch-low : (cost : Tally) (held : Held) (id place : ℕ) (child : Option ℕ) (k : List Frame) (s : State) → IsTried true held.base k s
    → IsLow (try_branch cost held id place child k s)
branch-low cost held id place None k s opens = closed-open true held.base s.at k s.marks opens.1
branch-low cost held id place (Some child) k s opens = opens

branch-failed-low : (held : Held) (id place : ℕ) (child : Option ℕ) (cause : ParseCause) (bit : ℕ) (k : List Frame) (s : State) → IsMarked true held.base s.at k s.marks
    → (settled : Bool) → is_settled s.marks ≡ settled
    → IsLow (cond settled (pass nothing held (Leave (Failed cause bit)) k (closed s)) (try_branch nothing held id place child k (back s)))
branch-failed-low held id place child cause bit k s opens true is = closed-open true held.base s.at k s.marks opens
branch-failed-low held id place child cause bit k s opens false is =
    branch-low nothing held id place child k (back s) (back-open true held.base k s opens is)

-- an occurrence
occurrence-low : (cost : Tally) (held : Held) (body : ℕ) (initiated : Bool) (left : ℕ) (k : List Frame) (s : State) → held.base ≤ s.at / 8 → AreOpen held.base s.at k s.marks → (none : Bool)
    → IsLow (cond none (pass cost held (Leave Done) k s) (pass cost held (Enter body) (Occurrence body initiated (left - 1) ∷ k) (as_tried (pointed initiated s))))
occurrence-low cost held body initiated left k s low opens true = (low, opens)
occurrence-low cost held body initiated left k s low opens false = point-opened held.base initiated k s low opens

passed-low : (held : Held) (body : ℕ) (initiated : Bool) (left : ℕ) (k : List Frame) (s : State) → held.base ≤ s.at / 8 → IsMarked true held.base s.at k s.marks → (stays : Bool)
    → stays_at s.marks s.at ≡ stays
    → IsLow (cond stays (pass nothing held (Leave Done) k (dropped s)) (try_occurrence nothing held body initiated left k (closed s)))
passed-low held body initiated left k s low opens true is = stayed-closed true held.base k s opens low is
passed-low held body initiated left k s low opens false is =
    occurrence-low nothing held body initiated left k (closed s) low (closed-open true held.base s.at k s.marks opens) (nat_eq left 0)

occurrence-failed-low : (held : Held) (cause : ParseCause) (bit : ℕ) (k : List Frame) (s : State) → IsMarked true held.base s.at k s.marks
    → (settled : Bool) → is_settled s.marks ≡ settled
    → IsLow (cond settled (pass nothing held (Leave (Failed cause bit)) k (closed s)) (pass nothing held (Leave Done) k (dropped s)))
occurrence-failed-low held cause bit k s opens true is = closed-open true held.base s.at k s.marks opens
occurrence-failed-low held cause bit k s opens false is = back-closed true held.base k s opens is

retry-low : (most : ℕ) (held : Held) (id : ℕ) (occurrence : Bool) (parts : Option Parts) (follows : Next) (cause : ParseCause) (bit : ℕ) (k : List Frame) (s : State)
    → AreOpen held.base s.at (Trial id occurrence follows ∷ k) s.marks → IsLow (retry most held id parts follows (Failed cause bit) k s)
retry-low most held id occurrence None follows cause bit k s opens = closed-open false held.base s.at k s.marks opens
retry-low most held id occurrence (Some parts) next.Empty cause bit k s opens =
    empty-low one_row most held id parts k (back s) (mark-back-open held.base k s opens) parts.tried.empty
retry-low most held id occurrence (Some parts) next.Normal cause bit k s opens =
    normal-low one_row most held id parts k (back s) (mark-back-open held.base k s opens)
retry-low most held id occurrence (Some parts) next.Nothing cause bit k s opens = closed-open false held.base s.at k s.marks opens

module _ (held : Held) (s : State) where
  read-low : (cost : Tally) (limits : Limits) (focus : Focus) (delimiters : List Delimiters) (nil : Option (List Value)) (primitive : Primitive) (k : List Frame) → Anchored held s → NeedsFrom (anchor s) focus k s
      → AreOpen held.base s.at k s.marks → (room : Bool)
      → IsLow (cond room
      (read_move cost limits focus (content_begins primitive s.at) (from_byte held (anchor s))
      (ask (seen_at (from_byte held (anchor s))) (program_for nil (lists_of delimiters (markup s)) primitive s.at s.stop) nothing) k s)
      (pass cost held (Leave (Failed LengthOutOfRange s.at)) k s))
  read-low cost limits focus delimiters nil primitive k stands stays opens true =
      landed-low limits focus (content_begins primitive s.at) (anchor s)
      (ask (seen_at (from_byte held (anchor s))) (program_for nil (lists_of delimiters (markup s)) primitive s.at s.stop) nothing).reached k s stands.low (risen held.base s.at s.at k s.marks opens)
      (program_for-ends (seen_at (from_byte held (anchor s))) nil (lists_of delimiters (markup s)) primitive s.at s.stop nothing) stays
  read-low cost limits focus delimiters nil primitive k stands stays opens false = opens

  leaf-low : (cost : Tally) (limits : Limits) (focus : Focus) (delimiters : List Delimiters) (nil : Option (List Value)) (primitive : Option Primitive) (k : List Frame) → Anchored held s → NeedsFrom (anchor s) focus k s
      → held.base ≤ s.at / 8 → AreOpen held.base s.at k s.marks → IsLow (read_leaf cost limits focus held delimiters nil primitive k s)
  leaf-low cost limits focus delimiters nil None k stands stays low opens = (low, opens)
  leaf-low cost limits focus delimiters nil (Some primitive) k stands stays low opens = read-low cost limits focus delimiters nil primitive k stands stays opens (has_room primitive s.at s.stop)

  resized-low : (limits : Limits) (prim : ℕ) (size : TextSize) (delimiters : List Delimiters) (nil : Option (List Value)) (primitive : Option Primitive) (k : List Frame) → Anchored held s → held.base ≤ s.at / 8
      → AreOpen held.base s.at k s.marks → IsLow (read_resized limits (Sized prim size) held delimiters nil primitive k s)
  resized-low limits prim size delimiters nil None k stands low opens = opens
  resized-low limits prim size delimiters nil (Some primitive) k stands low opens =
      leaf-low nothing limits (Sized prim size) delimiters nil (Some primitive) k stands (stands.low, risen held.base s.at s.at k s.marks opens) low opens

  told-low : (limits : Limits) (prim : ℕ) (size : TextSize) (delimiters : List Delimiters) (nil : Option (List Value)) (primitive : Option Primitive) (k : List Frame) → Anchored held s → held.base ≤ s.at / 8
      → AreOpen held.base s.at k s.marks → IsLow (read_sized limits held delimiters prim size nil primitive k s)
  told-low limits prim size delimiters nil None k stands low opens = (low, opens)
  told-low limits prim size delimiters nil (Some primitive) k stands low opens = resized-low limits prim size delimiters nil (resized size primitive) k stands low opens

  prefix-low : (limits : Limits) (delimiters : List Delimiters) (id own : ℕ) (next : ℕ → List Frame → State → Machine) (primitive : Option Primitive) (k : List Frame) → Anchored held s
      → AreOpen held.base s.at k s.marks
      → ((units : ℕ) (after : State) → anchor s ≤ after.at / 8 → AreOpen (anchor s) after.at k after.marks → IsLowFrom (anchor s) (next units k after))
      → IsLow (read_prefix limits id held delimiters own next primitive k s)
  prefix-low limits delimiters id own next None k stands opens follows = opens
  prefix-low limits delimiters id own next (Some primitive) k stands opens follows = by (has_room primitive s.at s.stop)
    where
      by : (room : Bool)
          → IsLow (cond room
          (prefix_move limits id own (content_begins primitive s.at) next (from_byte held (anchor s))
          (ask (seen_at (from_byte held (anchor s))) (program (lists_of delimiters (markup s)) primitive s.at s.stop) nothing) k s)
          (pass one_row held (Leave (Failed LengthOutOfRange s.at)) k s))
      by true =
          prefix-landed-low limits id own next k (anchor s) follows (content_begins primitive s.at)
          (ask (seen_at (from_byte held (anchor s))) (program (lists_of delimiters (markup s)) primitive s.at s.stop) nothing).reached s stands.low (risen held.base s.at s.at k s.marks opens)
          (program_for-ends (seen_at (from_byte held (anchor s))) None (lists_of delimiters (markup s)) primitive s.at s.stop nothing)
      by false = opens

  begin-low : (to : ℕ) (k : List Frame) → held.base ≤ s.at / 8 → AreOpen held.base s.at k s.marks → (over inside : Bool) → nat_le to s.at ≡ over
      → IsLow (cond over (pass one_row held (Leave Done) k s)
      (cond inside (pass one_row held (Pass to) k s) (pass one_row held (Leave (Failed LengthOutOfRange s.at)) k s)))
  begin-low to k low opens true inside is = (low, opens)
  begin-low to k low opens false true is = let less : s.at < to = grind (arith, nat_tests) in (omega arith, (less, opens))
  begin-low to k low opens false false is = opens

  element-low : (most id : ℕ) (parts : Parts) (k : List Frame) → held.base ≤ s.at / 8 → AreOpen held.base s.at k s.marks → (several : Bool)
      → IsLow (cond several (try_nil two_rows most held id parts parts.tried.nil k (marked s)) (attempt two_rows most held id parts Nothing k s))
  element-low most id parts k low opens true = nil-low two_rows most held id parts k (marked s) (opened held.base k s low opens) parts.tried.nil
  element-low most id parts k low opens false = attempt-low two_rows most held id parts Nothing k s low opens (nat_lt (length s.nodes) most)

  group-low : (id : ℕ) (children : List ℕ) (k : List Frame) → held.base ≤ s.at / 8 → AreOpen held.base s.at k s.marks → IsLow (enter_group held id children k s)
  group-low id [] k low opens = (low, opens)
  group-low id (child ∷ rest) k low opens = (low, opens)

  -- a representation that is done
  refused-low : (id : ℕ) (occurrence : Bool) (follows : Next) (marks : List Mark) (k : List Frame) → s.marks ≡ marks → AreOpen held.base s.at (Trial id occurrence follows ∷ k) s.marks
      → IsLow (refused marks held k s)
  refused-low id occurrence follows [] k is opens =
      some-mark false (points_of k) (ap (λ (ms : List Mark). map (λ mark. mark.is_point) ms) (sym is) ∙ opens.0.0)
  refused-low id occurrence follows (mark ∷ outer) k is opens = closed-open false held.base s.at k s.marks opens

  empty-found-low : (id : ℕ) (occurrence : Bool) (follows : Next) (refuses : Bool) (k : List Frame) → held.base ≤ s.at / 8 → AreOpen held.base s.at (Trial id occurrence follows ∷ k) s.marks
      → IsLow (cond refuses (refused s.marks held k s) (pass nothing held (Leave Done) k (closed s)))
  empty-found-low id occurrence follows true k low opens = refused-low id occurrence follows s.marks k refl opens
  empty-found-low id occurrence follows false k low opens = (low, closed-open false held.base s.at k s.marks opens)

  done-low : (id : ℕ) (occurrence : Bool) (parts : Option Parts) (follows : Next) (k : List Frame) → held.base ≤ s.at / 8 → AreOpen held.base s.at (Trial id occurrence follows ∷ k) s.marks
      → IsLow (trial_done held parts follows k s)
  done-low id occurrence None follows k low opens = (low, closed-open false held.base s.at k s.marks opens)
  done-low id occurrence (Some parts) next.Empty k low opens = (low, closed-open false held.base s.at k s.marks opens)
  done-low id occurrence (Some parts) next.Normal k low opens = empty-found-low id occurrence next.Normal parts.tried.refuses_empty k low opens
  done-low id occurrence (Some parts) next.Nothing k low opens = (low, closed-open false held.base s.at k s.marks opens)

  -- a delimiter begins
  delimiter-low : (what : Sought) (k : List Frame) → held.base ≤ s.at / 8 → AreOpen held.base s.at k s.marks → (does_stand : Bool)
      → IsLow (cond does_stand (pass one_row held (Seek what) k s) (pass one_row held (Leave Done) k s))
  delimiter-low what k low opens true = (omega arith, opens)
  delimiter-low what k low opens false = (low, opens)

  enter-low : (limits : Limits) (table : Table) (id : ℕ) (r : Option Row) (k : List Frame) → Anchored held s → held.base ≤ s.at / 8
      → AreOpen held.base s.at k s.marks → IsLow (enter limits table held id r k s)
  enter-low limits table id None k stands low opens = (low, opens)
  enter-low limits table id (Some (Leaf prim)) k stands low opens =
      leaf-low one_row limits (Enter id) table.delimiters (nil_values table.primitives s.instead)
      (slice_get table.primitives (read_by table.primitives s.instead prim)) k stands (stands.low, risen held.base s.at s.at k s.marks opens) low opens
  enter-low limits table id (Some (Elem name simple tried statements body)) k stands low opens =
      element-low limits.nodes id (parts_here s.instead (has_elements simple) tried body) (with_behind statements (At (length s.nodes)) k) low
      (behind-open held.base s.at s.marks statements (At (length s.nodes)) k opens) (parts_here s.instead (has_elements simple) tried body).tried.are_several
  enter-low limits table id (Some (Group children)) k stands low opens = group-low id children k low opens
  enter-low limits table id (Some (Skip bits)) k stands low opens =
      begin-low (s.at + bits) k low opens (nat_le (s.at + bits) s.at) (nat_le (s.at + bits) s.stop) refl
  enter-low limits table id (Some (Align bits)) k stands low opens =
      begin-low (aligned bits s.at) k low opens (nat_le (aligned bits s.at) s.at) (nat_le (aligned bits s.at) s.stop) refl
  enter-low limits table id (Some (Initiator delimiter)) k stands low opens = delimiter-low (sought.Initiator delimiter.list delimiter.resolves) k low opens (stands_in s.instead delimiter)
  enter-low limits table id (Some (Terminator delimiter separators)) k stands low opens = delimiter-low (sought.Terminator delimiter.list separators) k low opens (stands_in s.instead delimiter)
  enter-low limits table id (Some Separator) k stands low opens = (omega arith, opens)
  enter-low limits table id (Some (Scope list body)) k stands low opens = (low, opens)
  enter-low limits table id (Some (Boxed bits body)) k stands low opens = box-begun-low held.base bits body k s low opens (nat_le (s.at + bits) s.stop)
  enter-low limits table id (Some (PrefixedLeaf prefix prim)) k stands low opens =
      let by : ℕ = read_by table.primitives s.instead prim in
      prefix-low limits table.delimiters id prefix.own (behind_units table.primitives prefix.unit (behind.Leaf by)) (slice_get table.primitives prefix.prim) k stands opens
      (λ units after is still. sized-low (anchor s) by (size_of prefix.unit units) (slice_get table.primitives by) k after is still)
  enter-low limits table id (Some (Repeat count body)) k stands low opens = group-low id (replicate count body) k low opens
  enter-low limits table id (Some (Optional most item initiated body)) k stands low opens = occurrence-low one_row held body initiated most k s low opens (nat_eq most 0)
  enter-low limits table id (Some (Choice rows initiated)) k stands low opens =
      branch-low one_row held id 0 (slice_get rows 0) k (pointed initiated s) (point-opened held.base initiated k s low opens)
  enter-low limits table id (Some (PrefixedBox prefix body)) k stands low opens =
      prefix-low limits table.delimiters id prefix.own (behind_units table.primitives prefix.unit (behind.Box body)) (slice_get table.primitives prefix.prim) k stands opens
      (λ units after is still. box-begun-low (anchor s) (bits_of_units prefix.unit units) body k after is still (nat_le (after.at + bits_of_units prefix.unit units) after.stop))
  enter-low limits table id (Some (MeasuredLeaf measure prim)) k stands low opens =
      let by : ℕ = read_by table.primitives s.instead prim in
      measured-has (IsLowFrom held.base) table k s (λ variables why. opens) measure (behind.Leaf by)
      (λ variables units. sized-low held.base by (size_of measure.unit units) (slice_get table.primitives by) k (record s { variables = variables }) low opens)
  enter-low limits table id (Some (MeasuredBox measure body)) k stands low opens =
      measured-has (IsLowFrom held.base) table k s (λ variables why. opens) measure (behind.Box body)
      (λ variables units. box-begun-low held.base (bits_of_units measure.unit units) body k (record s { variables = variables }) low opens
      (nat_le (s.at + bits_of_units measure.unit units) s.stop))
  enter-low limits table id (Some (Counted question body)) k stands low opens =
      counted-has (IsLowFrom held.base) table k s (λ variables why. opens) question body (λ variables. (low, opens)) (λ variables left. (low, opens))
  enter-low limits table id (Some (Dispatch question keys)) k stands low opens =
      dispatch-has (IsLowFrom held.base) table k s (λ variables why. opens) question keys (λ variables row. (low, opens))
  enter-low limits table id (Some (Statement number)) k stands low opens =
      statement-low limits table held id number (slice_get table.statements number) k s stands low opens
  enter-low limits table id (Some (Concluded statements body)) k stands low opens =
      (low, behind-open held.base s.at s.marks statements (Inside s.inside) k opens)
  enter-low limits table id (Some (Hidden body)) k stands low opens = (low, opens)
  enter-low limits table id (Some (Spanned body)) k stands low opens = (low, opens)
  enter-low limits table id (Some (Instance statement body)) k stands low opens =
      instanced-has (IsLowFrom held.base) table body k s (λ variables why. opens) (λ variables. (low, opens)) (λ variables. (low, opens)) statement
  enter-low limits table id (Some (Separated policy position initiated slots)) k stands low opens =
      separated-low held initiated k s low opens id policy position slots

  go-low : (id next : ℕ) (child : Option ℕ) (k : List Frame) → held.base ≤ s.at / 8 → AreOpen held.base s.at k s.marks → IsLow (go_on held id next child k s)
  go-low id next None k low opens = (low, opens)
  go-low id next (Some child) k low opens = (low, opens)

  leave-box-low : (outer : Outside) (from : ℕ) (k : List Frame) → held.base ≤ s.at / 8 → AreOpen held.base s.at k s.marks → (over : Bool) → nat_le s.stop s.at ≡ over
      → IsLow (cond over (pass nothing held (Leave Done) k (back_outside outer (filled_from from s))) (pass nothing held (PassRest s.at outer) k (filled_from from s)))
  leave-box-low outer from k low opens true is = (low, opens)
  leave-box-low outer from k low opens false is = (low, (grind (arith, nat_tests), (omega arith, opens)))

  leave-low : (limits : Limits) (table : Table) (frame : Frame) (told : End) (k : List Frame) → NeedsBehind held.base told (frame ∷ k) s
      → IsLow (leave limits table held frame told k s)
  leave-low limits table (Rest id next) Done k needs = go-low id next (slice_get (children_of (slice_get table.rows id)) next) k needs.0 needs.1
  leave-low limits table (Rest id next) (Failed cause bit) k needs = needs
  leave-low limits table (Element outer complex) Done k needs = needs
  leave-low limits table (Element outer complex) (Failed cause bit) k needs = needs
  leave-low limits table (Box outer from) Done k needs = leave-box-low outer from k needs.0 needs.1 (nat_le s.stop s.at) refl
  leave-low limits table (Box outer from) (Failed cause bit) k needs = needs
  leave-low limits table (Spanning from) Done k needs = needs
  leave-low limits table (Spanning from) (Failed cause bit) k needs = needs
  leave-low limits table (ScopeFrame count) Done k needs = needs
  leave-low limits table (ScopeFrame count) (Failed cause bit) k needs = needs
  leave-low limits table (Trial id occurrence next) Done k needs = done-low id occurrence (parts_of occurrence (slice_get table.rows id)) next k needs.0 needs.1
  leave-low limits table (Trial id occurrence next) (Failed cause bit) k needs =
      retry-low limits.nodes held id occurrence (parts_of occurrence (slice_get table.rows id)) next cause bit k s needs
  leave-low limits table (Branch id next) Done k needs = (needs.0, closed-open true held.base s.at k s.marks needs.1)
  leave-low limits table (Branch id next) (Failed cause bit) k needs =
      branch-failed-low held id next (slice_get (children_of (slice_get table.rows id)) next) cause bit k s needs (is_settled s.marks) refl
  leave-low limits table (Occurrence body initiated left) Done k needs =
      passed-low held body initiated left k (as_normal s) needs.0 needs.1 (stays_at s.marks s.at) refl
  leave-low limits table (Occurrence body initiated left) (Failed cause bit) k needs =
      occurrence-failed-low held cause bit k (as_normal s) needs (is_settled s.marks) refl
  leave-low limits table (Times body left) Done k needs = times-have (IsLowFrom held.base) body k s needs (λ more. needs) left
  leave-low limits table (Times body left) (Failed cause bit) k needs = needs
  leave-low limits table (Before slot) Done k needs =
      before_done-low held slot k s (record { such = needs.1.0; lies = needs.1.1.1 }) needs.1.1.0.0 needs.0 (slots_from table slot)
  leave-low limits table (Before slot) (Failed cause bit) k needs =
      before_failed-low held slot k s (record { such = needs.0; lies = needs.1.1 }) (separation_at table slot).initiated needs.1.0.0 needs.1.0.1 cause bit
      (slots_from table slot)
  leave-low limits table (Content slot bit empty) Done k needs =
      content-low held (separation_at table slot).initiated slot bit empty k (as_normal s) needs.1.1.0 (record { such = needs.1.0; lies = needs.1.1.1 }) (nat_lt bit s.at) Done
      (λ none. needs.0) (λ none unmoved. not-moved bit s.at unmoved) (slots_from table slot)
  leave-low limits table (Content slot bit empty) (Failed cause at) k needs =
      content-low held (separation_at table slot).initiated slot bit empty k (as_normal s) needs.1.0 (record { such = needs.0; lies = needs.1.1 }) false (Failed cause at)
      (λ none. absurd (cc)) (λ none unmoved. absurd (cc)) (slots_from table slot)
  leave-low limits table (Closing slot bit) Done k needs =
      closing_done-low held (separation_at table slot).initiated slot bit k s needs.1.1.0 (record { such = needs.1.0; lies = needs.1.1.1 }) needs.0 (slots_from table slot)
  leave-low limits table (Closing slot bit) (Failed cause at) k needs =
      closing_failed-low held (separation_at table slot).initiated slot bit k s needs.1.0 (record { such = needs.0; lies = needs.1.1 }) cause at (slots_from table slot)
  leave-low limits table (Aside slot) Done k needs =
      beside-low held (separation_at table slot).initiated k s needs.0 needs.1 slot (slots_from table slot)
  leave-low limits table (Aside slot) (Failed cause bit) k needs = needs
  leave-low limits table InstanceFrame Done k needs = needs
  leave-low limits table InstanceFrame (Failed cause bit) k needs = needs
  leave-low limits table (Concluding statements start) Done k needs = concluded-low held.base k limits table statements start s needs
  leave-low limits table (Concluding statements start) (Failed cause bit) k needs =
      again-low held.base k table start statements.first statements.count s needs
  leave-low limits table frame (Stopped cause quantity) k needs = tt

  -- the bytes before the first one that is needed at a bit are given up, as far as they have come
  given-up : (bit : ℕ) (k : List Frame) → AreOpen held.base s.at k s.marks → AreOpen (min (anchor_at s bit) (end_of held)) s.at k s.marks
  given-up bit k opens = lower (min (anchor_at s bit) (end_of held)) (anchor_at s bit) s.at k s.marks (omega arith) (risen held.base s.at bit k s.marks opens)

  pub step-low : (limits : Limits) (table : Table) (focus : Focus) (k : List Frame) → Stands held focus s → NeedsFrom held.base focus k s
      → IsLow (step limits table held focus k s)
  step-low limits table (Enter id) k stands needs = enter-low limits table id (slice_get table.rows id) k stands needs.0 needs.1
  step-low limits table (PassRest bit outer) k stands needs =
      let low : ℕ = anchor_at s (8 * (bit / 8)) in
      let few : low ≤ bit / 8 = stands.1.1 in
      rested-low limits.window (from_byte held (min low (end_of held))) low bit outer (seen_beyond held low (bit / 8)) k s (omega arith) needs.1.0 needs.1.1.0
      (given-up (8 * (bit / 8)) k needs.1.1.1)
  step-low limits table (Pass to) k stands needs =
      let low : ℕ = anchor_at s (to - 1) in
      let few : low ≤ (to - 1) / 8 = stands.1 in
      filled-low limits.window (from_byte held (min low (end_of held))) low to (seen_beyond held low ((to - 1) / 8)) k s (omega arith) needs.1.0
      (given-up (to - 1) k needs.1.1)
  step-low limits table (Sized prim size) k stands needs = told-low limits prim size table.delimiters (nil_values table.primitives s.instead) (slice_get table.primitives prim) k stands needs.0 needs.1
  step-low limits table (Seek what) k stands needs =
      let low : ℕ = anchor_at s (aligned 8 s.at) in
      text-low limits.window what low
      (ask (seen_at (from_byte held low)) (sought_among (among table.delimiters what s) s.at s.stop) nothing).reached k s stands.low
      (risen held.base s.at (aligned 8 s.at) k s.marks needs.1)
  step-low limits table (LookIn slot) k stands needs =
      look_in-low held slot k s stands limits table.delimiters (separation_at table slot).initiated needs (slots_from table slot)
  step-low limits table (LookBehind slot bit) k stands needs =
      look_behind-low held slot k s stands limits table.delimiters (separation_at table slot).initiated bit needs (slots_from table slot)
  step-low limits table (Count slot question) k stands needs =
      count-low table held (separation_at table slot).initiated k s needs.0 needs.1 slot question (slots_from table slot)
  step-low limits table (Leave told) [] stands needs = needs
  step-low limits table (Leave told) (frame ∷ k) stands needs = leave-low limits table frame told k needs

-- fill that was passed over ends among the bytes that have come
filled-within : (window : ℕ) (sight : Held) (low to : ℕ) (v : Seen) (k : List Frame) (s : State) (end : ℕ) → s.at ≤ 8 * end
    → ((b : ℕ) → v ≡ Byte b → (to - 1) / 8 + 1 ≤ end) → (fill_move window sight low to v k s).machine.state.at ≤ 8 * end
filled-within window sight low to (Byte b) k s end at within = let there = within b refl in omega arith
filled-within window sight low to DataEnded k s end at within = at
filled-within window sight low to NotYet k s end at within = at
filled-within window sight low to Over k s end at within = at

pub fill-within : (limits : Limits) (held : Held) (to : ℕ) (k : List Frame) (s : State) → IsHeld held.base (to - 1) s → s.at ≤ 8 * end_of held
    → (fill limits held to k s).machine.state.at ≤ 8 * end_of held
fill-within limits held to k s base at =
    let low : ℕ = anchor_at s (to - 1) in
    filled-within limits.window (from_byte held (min low (end_of held))) low to (seen_beyond held low ((to - 1) / 8)) k s (end_of held) at
    (λ b is. beyond-byte held low ((to - 1) / 8) base.0 base.1 b is)

-- so does the rest of a box
past-within : (sight : Held) (low byte : ℕ) (outer : Outside) (k : List Frame) (s : State) (end : ℕ) → s.at ≤ 8 * end → byte + 1 ≤ end
    → (last : Bool) → nat_le ((s.stop - 1) / 8) byte ≡ last
    → (cond last (pass (needs_from low (saw_byte byte nothing)) sight (Leave Done) k (back_outside outer (record s { at = s.stop })))
    (pass (needs_from low (saw_byte byte nothing)) sight (PassRest (8 * (byte + 1)) outer) k s)).machine.state.at ≤ 8 * end
past-within sight low byte outer k s end at there true is =
    let most : (s.stop - 1) / 8 ≤ byte = grind (arith, nat_tests) in
    omega arith
past-within sight low byte outer k s end at there false is = at

rested-within : (window : ℕ) (sight : Held) (low bit : ℕ) (outer : Outside) (v : Seen) (k : List Frame) (s : State) (end : ℕ) → s.at ≤ 8 * end
    → ((b : ℕ) → v ≡ Byte b → bit / 8 + 1 ≤ end) → (rest_move window sight low bit outer v k s).machine.state.at ≤ 8 * end
rested-within window sight low bit outer (Byte b) k s end at within =
    past-within sight low (bit / 8) outer k s end at (within b refl) (nat_le ((s.stop - 1) / 8) (bit / 8)) refl
rested-within window sight low bit outer DataEnded k s end at within = at
rested-within window sight low bit outer NotYet k s end at within = at
rested-within window sight low bit outer Over k s end at within = at

pub rest-within : (limits : Limits) (held : Held) (bit : ℕ) (outer : Outside) (k : List Frame) (s : State) → IsHeld held.base (8 * (bit / 8)) s → s.at ≤ 8 * end_of held
    → (pass_rest limits held bit outer k s).machine.state.at ≤ 8 * end_of held
rest-within limits held bit outer k s base at =
    let low : ℕ = anchor_at s (8 * (bit / 8)) in
    let few = base.1 in
    rested-within limits.window (from_byte held (min low (end_of held))) low bit outer (seen_beyond held low (bit / 8)) k s (end_of held) at
    (λ b is. beyond-byte held low (bit / 8) base.0 (omega arith) b is)
