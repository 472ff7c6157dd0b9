-- The machine goes on, a step at a time.
use Rattle.std.proofs.Common.{◌≡◌, ℕ, ◌+◌, ◌-◌, ◌*◌, ◌/◌, ◌≤◌, max, min, nat_eq, nat_le, refl, List, [], ◌∷◌, length, Bool, true, false, cond, nat_lt, Option, Some, None, ap, sym, subst, ◌∙◌, arith, replicate}
use Rattle.std.specs.Prelude.{slice_get}
use Rattle.dfdl_bits.specs.Window.{Held, end_of, from_byte, seen_at}
use Rattle.dfdl_bits.specs.declared.window.Seen.{Seen}
use Rattle.dfdl_bits.specs.declared.window.Seen.TheVariants.{Byte, End as DataEnded, NotYet, Over}
use Rattle.dfdl_report.specs.declared.cause.LimitCause.TheVariants.{Nodes}
use Rattle.dfdl_report.specs.declared.cause.ParseCause.TheVariants.{LengthOutOfRange}
use Rattle.dfdl_value.specs.declared.value.Value.{Value}
use Rattle.dfdl_terms.specs.declared.row.Primitive.{Primitive}
use Rattle.dfdl_delims.specs.Lists.{Opened}
use Rattle.dfdl_terms.specs.declared.delimiters.Delimiters.{Delimiters}
use Rattle.dfdl_terms.specs.declared.row.Row.{Row}
use Rattle.dfdl_terms.specs.declared.row.Row.TheVariants.{Leaf, Elem, Group, Skip, Align, Initiator, Terminator, Separator, Scope, Boxed, PrefixedLeaf, PrefixedBox, MeasuredLeaf, MeasuredBox, Repeat, Counted, Optional, Choice, Dispatch, Statement, Concluded, Hidden, Spanned, Instance, Separated}
use Rattle.dfdl_terms.specs.Rows.{Table}
use Rattle.dfdl_looks.specs.Looks.{Agrees}
use Rattle.dfdl_looks.specs.Asks.{Ask, AsksFrom, Reached, Told, TooFar, Missing, ask}
use Rattle.dfdl_looks.specs.Tallies.{Tally, first_of, needs_from, nothing, one_row, plus, saw_byte}
use Rattle.dfdl_looks.proofs.Waiting.{kept}
use Rattle.dfdl_grammar.specs.Boxes.{filled_from}
use Rattle.dfdl_grammar.specs.declared.end.End.{End}
use Rattle.dfdl_grammar.specs.declared.end.End.TheVariants.{Done, Failed, Stopped}
use Rattle.dfdl_grammar.specs.declared.end.Halt.TheVariants.{Limit}
use Rattle.dfdl_grammar.specs.declared.limits.Limits.{Limits}
use Rattle.dfdl_grammar.specs.States.{State, anchor, anchor_at}
use Rattle.dfdl_grammar.specs.Marks.{back, closed, is_settled, marked, pointed, stays_at}
use Rattle.dfdl_grammar.specs.Occurrences.{as_normal, as_tried, dropped}
use Rattle.dfdl_grammar.specs.declared.mark.Mark.{Mark}
use Rattle.dfdl_grammar.specs.declared.instead.Instead.{Instead}
use Rattle.dfdl_grammar.specs.declared.instead.Instead.TheVariants.{Nothing, Nil, Empty}
use Rattle.dfdl_terms.specs.declared.text.TextSize.{TextSize}
use Rattle.dfdl_grammar.specs.Leaves.{content_begins, has_room, nil_values, program, program_for, read_by, text_sought}
use Rattle.dfdl_grammar.specs.Prefixes.{resized}
use Rattle.dfdl_grammar.specs.Framing.{aligned}
use Rattle.dfdl_grammar.specs.Delimiters.{lists_of, markup, sought_among, stands_in}
use Rattle.dfdl_grammar.specs.Elements.{begun, has_elements}
use Rattle.dfdl_parse.specs.declared.frame.Frame.{Frame}
use Rattle.dfdl_parse.specs.declared.frame.Frame.TheVariants.{Rest, Element, Box, Spanning, Scope as ScopeFrame, Trial, Branch, Occurrence, Times, Before, Content, Closing, Aside, Concluding, Instance as InstanceFrame}
use Rattle.dfdl_parse.specs.declared.frame.Outside.{Outside}
use Rattle.dfdl_parse.specs.declared.frame.Next.{Next}
use Rattle.dfdl_parse.specs.declared.frame.Next.TheVariants as next
use Rattle.dfdl_parse.specs.declared.frame.Parts.{Parts}
use Rattle.dfdl_parse.specs.declared.frame.Focus.{Focus}
use Rattle.dfdl_parse.specs.declared.frame.Focus.TheVariants.{Enter, Pass, PassRest, Sized, Seek, LookIn, LookBehind, Count, Leave}
use Rattle.dfdl_parse.specs.declared.frame.Behind.TheVariants as behind
use Rattle.dfdl_parse.specs.Boxing.{back_outside}
use Rattle.dfdl_parse.specs.declared.frame.Sought.{Sought}
use Rattle.dfdl_parse.specs.declared.frame.Sought.TheVariants as sought
use Rattle.dfdl_parse.specs.Searches.{among, search}
use Rattle.dfdl_parse.specs.Moves.{Machine, Move, pass, read_leaf, read_move}
use Rattle.dfdl_parse.specs.Prefixed.{behind_units, prefix_move, read_prefix, read_resized, read_sized}
use Rattle.dfdl_parse.specs.Machines.{children_of, enter, enter_group, fill, fill_move, go_on, leave, pass_rest, past_one, rest_move, seen_beyond, step}
use Rattle.dfdl_parse.specs.Trials.{attempt, parts_here, parts_of, refused, retry, trial_done, try_empty, try_nil, try_normal, two_rows}
use Rattle.dfdl_parse.specs.Points.{try_branch, try_occurrence}
use Rattle.dfdl_parse.specs.Testing.{read_test}
use Rattle.dfdl_parse.specs.Stating.{make_statement, with_behind}
use Rattle.dfdl_parse.specs.Asking.{begins}
use Rattle.dfdl_terms.specs.declared.statement.Statement.{Statement as AnyStatement}
use Rattle.dfdl_terms.specs.declared.statement.Statement.TheVariants.{Pattern, Expression, Setting, Calculation, Question, Opening}
use Rattle.dfdl_paths.specs.declared.place.Start.TheVariants.{At}
use Rattle.dfdl_terms.specs.declared.statement.PatternTest.{PatternTest}
use Rattle.dfdl_parse.proofs.TestSteps.{test-from}
use Rattle.dfdl_parse.specs.Running.{Slid}
use Rattle.dfdl_parse.proofs.Windows.{agrees_from, end_from}
use Rattle.dfdl_parse.proofs.Beyond.{beyond-byte, beyond-end}
use Rattle.dfdl_leaves.proofs.Programs.{program_for-from}
use Rattle.dfdl_parse.proofs.Seeks.{sought-from}
use Rattle.dfdl_report.specs.declared.cause.LimitCause.TheVariants.{Window}
use Rattle.dfdl_grammar.specs.Slots.{is_empty_at, separator_follows}
use Rattle.dfdl_terms.specs.declared.slots.Slot.{Slot}
use Rattle.dfdl_parse.specs.declared.frame.SlotPlace.{SlotPlace}
use Rattle.dfdl_parse.specs.Slots.{look_behind, look_in, separation_at, slots_from, told_move}
use Rattle.dfdl_parse.proofs.SlotAsks.{empty-from, question-agrees, question-kept, question-slid, separator-from}
use Rattle.dfdl_parse.proofs.SlotMoves.{Passes, beside-passes, closing-passes, count-passes, done-passes, ended-passes, failed-passes, occurs-passes, separated-passes, settled-passes}
use Rattle.dfdl_parse.proofs.Finishes.{Anchored, Stands}

-- the window behind a step, and what the step cost while the end of the data wasn't told
pub record Keeps (held : Held) (move : Move) : Type 0 where
  pub slid : Slid held move.held
  pub agrees : (whole : List ℕ) → Agrees held whole → Agrees move.held whole
  pub tail : held.ended ≡ false → move.tally.tail ≡ 0
  pub far : held.ended ≡ false → move.tally.far ≤ end_of held

pass-keeps : (t : Tally) (held : Held) (focus : Focus) (k : List Frame) (s : State) → t.tail ≡ 0 → t.far ≡ 0 → Keeps held (pass t held focus k s)
pass-keeps t held focus k s tail far = record {
  slid = record { size = refl; ended = refl; end = refl; base = omega arith };
  agrees = λ whole agrees. agrees;
  tail = λ on. tail;
  far = λ on. omega arith;
}

-- a step that looks at nothing besides its cost
passing-keeps : {held : Held} (cost : Tally) → cost.tail ≡ 0 → cost.far ≡ 0 → (move : Move) → Passes cost held move → Keeps held move
passing-keeps {held = held} cost no_tail no_far move passes = record {
  slid = subst (λ (h : Held). Slid held h) (sym passes.held_are) (record { size = refl; ended = refl; end = refl; base = omega arith });
  agrees = λ whole agrees. subst (λ (h : Held). Agrees h whole) (sym passes.held_are) agrees;
  tail = λ on. passes.tail ∙ no_tail;
  far = λ on. let far = passes.far in omega arith;
}

module _ (held : Held) (s : State) where
  -- a step that asks from the first byte on that is needed
  pub asked-keeps : {F : Type 0} → Anchored held s → (cost : Tally) → cost.tail ≡ 0 → cost.far ≡ 0 → (asks : Ask F) → AsksFrom (anchor s) asks → (machine : Machine) (waits : Bool)
      → let sight : Held = from_byte held (anchor s) in
      Keeps held (record { tally = plus cost (needs_from (anchor s) (ask (seen_at sight) asks nothing).tally); machine = machine; held = sight; waits = waits })
  asked-keeps stands cost no_tail no_far asks from machine waits =
      let sight : Held = from_byte held (anchor s) in
      let ends : end_of sight ≡ end_of held = end_from held (anchor s) stands.base stands.end in
      let here : Tally = (ask (seen_at sight) asks nothing).tally in
      record {
        slid = record { size = refl; ended = refl; end = ends; base = stands.base };
        agrees = λ whole agrees. agrees_from held whole (anchor s) stands.base stands.end agrees;
        tail = λ on. ap (λ (n : ℕ). first_of n here.tail) no_tail ∙ (kept sight on asks from nothing).0;
        far = λ on. let most = (kept sight on asks from nothing).1 in omega (arith, most, ends);
      }

  -- a step that looks at a leaf
  looked-keeps : Anchored held s → (cost : Tally) → cost.tail ≡ 0 → cost.far ≡ 0 → (delimiters : List Delimiters) (nil : Option (List Value)) (primitive : Primitive) (machine : Machine) (waits : Bool)
      → let sight : Held = from_byte held (anchor s) in
      Keeps held (record { tally = plus cost (needs_from (anchor s) (ask (seen_at sight) (program_for nil (lists_of delimiters (markup s)) primitive s.at s.stop) nothing).tally); machine = machine; held = sight; waits = waits })
  looked-keeps stands cost no_tail no_far delimiters nil primitive machine waits =
      asked-keeps stands cost no_tail no_far (program_for nil (lists_of delimiters (markup s)) primitive s.at s.stop)
      (program_for-from (anchor s) nil (lists_of delimiters (markup s)) primitive s.at s.stop stands.low) machine waits

  leaf-keeps : Anchored held s → (cost : Tally) → cost.tail ≡ 0 → cost.far ≡ 0 → (limits : Limits) (focus : Focus) (delimiters : List Delimiters) (nil : Option (List Value)) (primitive : Option Primitive) (k : List Frame)
      → Keeps held (read_leaf cost limits focus held delimiters nil primitive k s)
  leaf-keeps stands cost no_tail no_far limits focus delimiters nil None k = pass-keeps cost held (Leave Done) k s no_tail no_far
  leaf-keeps stands cost no_tail no_far limits focus delimiters nil (Some primitive) k = by (has_room primitive s.at s.stop)
    where
      by : (room : Bool)
          → Keeps held (cond room
          (read_move cost limits focus (content_begins primitive s.at) (from_byte held (anchor s))
          (ask (seen_at (from_byte held (anchor s))) (program_for nil (lists_of delimiters (markup s)) primitive s.at s.stop) nothing) k s)
          (pass cost held (Leave (Failed LengthOutOfRange s.at)) k s))
      by true = looked-keeps stands cost no_tail no_far delimiters nil primitive _ _
      by false = pass-keeps cost held _ k s no_tail no_far

  resized-keeps : Anchored held s → (limits : Limits) (focus : Focus) (delimiters : List Delimiters) (nil : Option (List Value)) (primitive : Option Primitive) (k : List Frame) → Keeps held (read_resized limits focus held delimiters nil primitive k s)
  resized-keeps stands limits focus delimiters nil None k = pass-keeps nothing held _ k s refl refl
  resized-keeps stands limits focus delimiters nil (Some primitive) k = leaf-keeps stands nothing refl refl limits focus delimiters nil (Some primitive) k

  sized-keeps : Anchored held s → (limits : Limits) (prim : ℕ) (size : TextSize) (delimiters : List Delimiters) (nil : Option (List Value)) (primitive : Option Primitive) (k : List Frame)
      → Keeps held (read_sized limits held delimiters prim size nil primitive k s)
  sized-keeps stands limits prim size delimiters nil None k = pass-keeps nothing held _ k s refl refl
  sized-keeps stands limits prim size delimiters nil (Some primitive) k = resized-keeps stands limits (Sized prim size) delimiters nil (resized size primitive) k

  prefix-keeps : Anchored held s → (limits : Limits) (delimiters : List Delimiters) (id own : ℕ) (next : ℕ → List Frame → State → Machine) (primitive : Option Primitive) (k : List Frame)
      → Keeps held (read_prefix limits id held delimiters own next primitive k s)
  prefix-keeps stands limits delimiters id own next None k = pass-keeps one_row held _ k s refl refl
  prefix-keeps stands limits delimiters id own next (Some primitive) k = by (has_room primitive s.at s.stop)
    where
      by : (room : Bool)
          → Keeps held (cond room
          (prefix_move limits id own (content_begins primitive s.at) next (from_byte held (anchor s))
          (ask (seen_at (from_byte held (anchor s))) (program (lists_of delimiters (markup s)) primitive s.at s.stop) nothing) k s)
          (pass one_row held (Leave (Failed LengthOutOfRange s.at)) k s))
      by true = looked-keeps stands one_row refl refl delimiters None primitive _ _
      by false = pass-keeps one_row held _ k s refl refl

  begin-keeps : (to : ℕ) (k : List Frame) (over inside : Bool)
      → Keeps held (cond over (pass one_row held (Leave Done) k s)
      (cond inside (pass one_row held (Pass to) k s) (pass one_row held (Leave (Failed LengthOutOfRange s.at)) k s)))
  begin-keeps to k true inside = pass-keeps one_row held _ _ _ refl refl
  begin-keeps to k false true = pass-keeps one_row held _ _ _ refl refl
  begin-keeps to k false false = pass-keeps one_row held _ _ _ refl refl

  leave-box-keeps : (outer : Outside) (from : ℕ) (k : List Frame) (over : Bool)
      → Keeps held (cond over (pass nothing held (Leave Done) k (back_outside outer (filled_from from s))) (pass nothing held (PassRest s.at outer) k (filled_from from s)))
  leave-box-keeps outer from k true = pass-keeps nothing held _ _ _ refl refl
  leave-box-keeps outer from k false = pass-keeps nothing held _ _ _ refl refl

  -- the cost of fill whose last byte is seen as this
  filled-tail : (window : ℕ) (sight : Held) (low to : ℕ) (v : Seen) (k : List Frame) → (v ≡ DataEnded → ⊥) → (fill_move window sight low to v k s).tally.tail ≡ 0
  filled-tail window sight low to (Byte b) k on = refl
  filled-tail window sight low to DataEnded k on = absurd (on refl)
  filled-tail window sight low to NotYet k on = refl
  filled-tail window sight low to Over k on = refl

  filled-far : (window : ℕ) (sight : Held) (low to : ℕ) (v : Seen) (k : List Frame) → (v ≡ DataEnded → ⊥) → ((b : ℕ) → v ≡ Byte b → (to - 1) / 8 + 1 ≤ end_of held)
      → (fill_move window sight low to v k s).tally.far ≤ end_of held
  filled-far window sight low to (Byte b) k on within = omega (arith, within b refl)
  filled-far window sight low to DataEnded k on within = absurd (on refl)
  filled-far window sight low to NotYet k on within = omega arith
  filled-far window sight low to Over k on within = omega arith

  filled-held : (window : ℕ) (sight : Held) (low to : ℕ) (v : Seen) (k : List Frame) → (fill_move window sight low to v k s).held ≡ sight
  filled-held window sight low to (Byte b) k = refl
  filled-held window sight low to DataEnded k = refl
  filled-held window sight low to NotYet k = refl
  filled-held window sight low to Over k = refl

  fill-keeps : (limits : Limits) (to : ℕ) (k : List Frame) → Stands held (Pass to) s → Keeps held (fill limits held to k s)
  fill-keeps limits to k stands =
      let last : ℕ = (to - 1) / 8 in
      let low : ℕ = anchor_at s (to - 1) in
      let base : held.base ≤ low = stands.0 in
      let near : ℕ = min low (end_of held) in
      let sight : Held = from_byte held near in
      let seen : Seen = seen_beyond held low last in
      let same : sight ≡ (fill limits held to k s).held = sym (filled-held limits.window sight low to seen k) in
      let slid : Slid held sight = record { size = refl; ended = refl; end = end_from held near (omega arith) (omega arith); base = omega arith } in
      record {
        slid = subst (λ (h : Held). Slid held h) same slid;
        agrees = λ whole agrees. subst (λ (h : Held). Agrees h whole) same (agrees_from held whole near (omega arith) (omega arith) agrees);
        tail = λ on. filled-tail limits.window sight low to seen k (beyond-end held low last base stands.1 on);
        far = λ on. filled-far limits.window sight low to seen k (beyond-end held low last base stands.1 on) (λ b is. beyond-byte held low last base stands.1 b is);
      }

  -- the cost of a byte of the rest of a box
  past-tail : (sight : Held) (low byte : ℕ) (outer : Outside) (k : List Frame) (last : Bool)
      → (cond last (pass (needs_from low (saw_byte byte nothing)) sight (Leave Done) k (back_outside outer (record s { at = s.stop })))
      (pass (needs_from low (saw_byte byte nothing)) sight (PassRest (8 * (byte + 1)) outer) k s)).tally ≡ needs_from low (saw_byte byte nothing)
  past-tail sight low byte outer k true = refl
  past-tail sight low byte outer k false = refl

  past-held : (sight : Held) (low byte : ℕ) (outer : Outside) (k : List Frame) (last : Bool)
      → (cond last (pass (needs_from low (saw_byte byte nothing)) sight (Leave Done) k (back_outside outer (record s { at = s.stop })))
      (pass (needs_from low (saw_byte byte nothing)) sight (PassRest (8 * (byte + 1)) outer) k s)).held ≡ sight
  past-held sight low byte outer k true = refl
  past-held sight low byte outer k false = refl

  past-cost : (sight : Held) (low byte : ℕ) (outer : Outside) (k : List Frame) → (past_one sight low byte outer k s).tally ≡ needs_from low (saw_byte byte nothing)
  past-cost sight low byte outer k = past-tail sight low byte outer k (nat_le ((s.stop - 1) / 8) byte)

  rested-tail : (window : ℕ) (sight : Held) (low bit : ℕ) (outer : Outside) (v : Seen) (k : List Frame) → (v ≡ DataEnded → ⊥)
      → (rest_move window sight low bit outer v k s).tally.tail ≡ 0
  rested-tail window sight low bit outer (Byte b) k on = ap (λ (t : Tally). t.tail) (past-cost sight low (bit / 8) outer k)
  rested-tail window sight low bit outer DataEnded k on = absurd (on refl)
  rested-tail window sight low bit outer NotYet k on = refl
  rested-tail window sight low bit outer Over k on = refl

  rested-far : (window : ℕ) (sight : Held) (low bit : ℕ) (outer : Outside) (v : Seen) (k : List Frame) → (v ≡ DataEnded → ⊥)
      → ((b : ℕ) → v ≡ Byte b → bit / 8 + 1 ≤ end_of held) → (rest_move window sight low bit outer v k s).tally.far ≤ end_of held
  rested-far window sight low bit outer (Byte b) k on within =
      let cost : (past_one sight low (bit / 8) outer k s).tally.far ≡ max 0 (bit / 8 + 1) = ap (λ (t : Tally). t.far) (past-cost sight low (bit / 8) outer k) in
      omega (arith, cost, within b refl)
  rested-far window sight low bit outer DataEnded k on within = absurd (on refl)
  rested-far window sight low bit outer NotYet k on within = omega arith
  rested-far window sight low bit outer Over k on within = omega arith

  rested-held : (window : ℕ) (sight : Held) (low bit : ℕ) (outer : Outside) (v : Seen) (k : List Frame) → (rest_move window sight low bit outer v k s).held ≡ sight
  rested-held window sight low bit outer (Byte b) k = past-held sight low (bit / 8) outer k (nat_le ((s.stop - 1) / 8) (bit / 8))
  rested-held window sight low bit outer DataEnded k = refl
  rested-held window sight low bit outer NotYet k = refl
  rested-held window sight low bit outer Over k = refl

  rest-keeps : (limits : Limits) (bit : ℕ) (outer : Outside) (k : List Frame) → Stands held (PassRest bit outer) s → Keeps held (pass_rest limits held bit outer k s)
  rest-keeps limits bit outer k stands =
      let byte : ℕ = bit / 8 in
      let low : ℕ = anchor_at s (8 * byte) in
      let base : held.base ≤ low = stands.0 in
      let near : ℕ = min low (end_of held) in
      let sight : Held = from_byte held near in
      let seen : Seen = seen_beyond held low byte in
      let same : sight ≡ (pass_rest limits held bit outer k s).held = sym (rested-held limits.window sight low bit outer seen k) in
      let slid : Slid held sight = record { size = refl; ended = refl; end = end_from held near (omega arith) (omega arith); base = omega arith } in
      record {
        slid = subst (λ (h : Held). Slid held h) same slid;
        agrees = λ whole agrees. subst (λ (h : Held). Agrees h whole) same (agrees_from held whole near (omega arith) (omega arith) agrees);
        tail = λ on. rested-tail limits.window sight low bit outer seen k (beyond-end held low byte base stands.1.1 on);
        far = λ on. rested-far limits.window sight low bit outer seen k (beyond-end held low byte base stands.1.1 on) (λ b is. beyond-byte held low byte base stands.1.1 b is);
      }

  attempt-keeps : (cost : Tally) → cost.tail ≡ 0 → cost.far ≡ 0 → (most id : ℕ) (parts : Parts) (instead : Instead) (k : List Frame) (t : State) (room : Bool)
      → Keeps held (cond room
      (pass cost held (Enter parts.body) (Element t.inside parts.complex ∷ k) (begun id instead t))
      (pass cost held (Leave (Stopped (Limit Nodes) most)) k t))
  attempt-keeps cost no_tail no_far most id parts instead k t true = pass-keeps cost held _ _ _ no_tail no_far
  attempt-keeps cost no_tail no_far most id parts instead k t false = pass-keeps cost held _ _ _ no_tail no_far

  module _ (cost : Tally) (no_tail : cost.tail ≡ 0) (no_far : cost.far ≡ 0) (most id : ℕ) (parts : Parts) (k : List Frame) (t : State) where
    normal-keeps : Keeps held (try_normal cost most held id parts k t)
    normal-keeps = attempt-keeps cost no_tail no_far most id parts Nothing (Trial id parts.occurrence next.Nothing ∷ k) t (nat_lt (length t.nodes) most)

    empty-keeps : (empty : Option ℕ) → Keeps held (try_empty cost most held id parts empty k t)
    empty-keeps None = normal-keeps
    empty-keeps (Some prim) = attempt-keeps cost no_tail no_far most id parts (Empty prim) (Trial id parts.occurrence next.Normal ∷ k) t (nat_lt (length t.nodes) most)

    nil-keeps : (nil : Option ℕ) → Keeps held (try_nil cost most held id parts nil k t)
    nil-keeps None = empty-keeps parts.tried.empty
    nil-keeps (Some prim) = attempt-keeps cost no_tail no_far most id parts (Nil prim) (Trial id parts.occurrence next.Empty ∷ k) t (nat_lt (length t.nodes) most)

  element-keeps : (most id : ℕ) (parts : Parts) (k : List Frame) (several : Bool)
      → Keeps held (cond several (try_nil two_rows most held id parts parts.tried.nil k (marked s)) (attempt two_rows most held id parts Nothing k s))
  element-keeps most id parts k true = nil-keeps two_rows refl refl most id parts k (marked s) parts.tried.nil
  element-keeps most id parts k false = attempt-keeps two_rows refl refl most id parts Nothing k s (nat_lt (length s.nodes) most)

  retry-keeps : (most id : ℕ) (parts : Option Parts) (follows : Next) (end_told : End) (k : List Frame) → Keeps held (retry most held id parts follows end_told k s)
  retry-keeps most id None follows end_told k = pass-keeps nothing held _ _ _ refl refl
  retry-keeps most id (Some parts) next.Empty end_told k = empty-keeps one_row refl refl most id parts k (back s) parts.tried.empty
  retry-keeps most id (Some parts) next.Normal end_told k = normal-keeps one_row refl refl most id parts k (back s)
  retry-keeps most id (Some parts) next.Nothing end_told k = pass-keeps nothing held _ _ _ refl refl

  refused-keeps : (marks : List Mark) (k : List Frame) → Keeps held (refused marks held k s)
  refused-keeps [] k = pass-keeps nothing held _ _ _ refl refl
  refused-keeps (mark ∷ outer) k = pass-keeps nothing held _ _ _ refl refl

  empty-found-keeps : (refuses : Bool) (k : List Frame) → Keeps held (cond refuses (refused s.marks held k s) (pass nothing held (Leave Done) k (closed s)))
  empty-found-keeps true k = refused-keeps s.marks k
  empty-found-keeps false k = pass-keeps nothing held _ _ _ refl refl

  done-keeps : (parts : Option Parts) (follows : Next) (k : List Frame) → Keeps held (trial_done held parts follows k s)
  done-keeps None follows k = pass-keeps nothing held _ _ _ refl refl
  done-keeps (Some parts) next.Empty k = pass-keeps nothing held _ _ _ refl refl
  done-keeps (Some parts) next.Normal k = empty-found-keeps parts.tried.refuses_empty k
  done-keeps (Some parts) next.Nothing k = pass-keeps nothing held _ _ _ refl refl

  branch-keeps : (cost : Tally) → cost.tail ≡ 0 → cost.far ≡ 0 → (id place : ℕ) (child : Option ℕ) (k : List Frame) (t : State)
      → Keeps held (try_branch cost held id place child k t)
  branch-keeps cost no_tail no_far id place None k t = pass-keeps cost held _ _ _ no_tail no_far
  branch-keeps cost no_tail no_far id place (Some child) k t = pass-keeps cost held _ _ _ no_tail no_far

  occurrence-keeps : (cost : Tally) → cost.tail ≡ 0 → cost.far ≡ 0 → (body : ℕ) (initiated : Bool) (left : ℕ) (k : List Frame) (t : State) (none : Bool)
      → Keeps held (cond none (pass cost held (Leave Done) k t) (pass cost held (Enter body) (Occurrence body initiated (left - 1) ∷ k) (as_tried (pointed initiated t))))
  occurrence-keeps cost no_tail no_far body initiated left k t true = pass-keeps cost held _ _ _ no_tail no_far
  occurrence-keeps cost no_tail no_far body initiated left k t false = pass-keeps cost held _ _ _ no_tail no_far

  -- what has failed at a point that is resolved, or not
  failed-keeps : (end_told : End) (k : List Frame) (t : State) (other : Move) → Keeps held other → (settled : Bool)
      → Keeps held (cond settled (pass nothing held (Leave end_told) k (closed t)) other)
  failed-keeps end_told k t other keeps true = pass-keeps nothing held _ _ _ refl refl
  failed-keeps end_told k t other keeps false = keeps

  -- a test
  test-keeps : Anchored held s → (limits : Limits) (id number : ℕ) (test : PatternTest) (k : List Frame)
      → Keeps held (read_test one_row limits (Enter id) held number test k s)
  test-keeps stands limits id number test k =
      asked-keeps stands one_row refl refl (text_sought test.form (aligned 8 s.at) s.stop) (test-from (anchor s) test.form s.at s.stop stands.low) _ _

  -- a statement
  statement-keeps : Anchored held s → (limits : Limits) (table : Table) (id number : ℕ) (found : Option AnyStatement) (k : List Frame)
      → Keeps held (make_statement one_row limits table (Enter id) held number found k s)
  statement-keeps stands limits table id number None k = pass-keeps one_row held _ _ _ refl refl
  statement-keeps stands limits table id number (Some (Pattern test)) k = test-keeps stands limits id number test k
  statement-keeps stands limits table id number (Some (Expression test)) k = pass-keeps one_row held _ _ _ refl refl
  statement-keeps stands limits table id number (Some (Setting setting)) k = pass-keeps one_row held _ _ _ refl refl
  statement-keeps stands limits table id number (Some (Calculation calculation)) k = pass-keeps one_row held _ _ _ refl refl
  statement-keeps stands limits table id number (Some (Question question)) k = pass-keeps one_row held _ _ _ refl refl
  statement-keeps stands limits table id number (Some (Opening opening)) k = pass-keeps one_row held _ _ _ refl refl

  -- a row that asks an expression
  begins-keeps : (cost : Tally) → cost.tail ≡ 0 → cost.far ≡ 0 → (m : Machine) → Keeps held (begins cost held m)
  begins-keeps cost no_tail no_far m = record {
    slid = record { size = refl; ended = refl; end = refl; base = omega arith };
    agrees = λ whole agrees. agrees;
    tail = λ on. no_tail;
    far = λ on. omega arith;
  }

  passed-keeps : (body : ℕ) (initiated : Bool) (left : ℕ) (k : List Frame) (t : State) (stays : Bool)
      → Keeps held (cond stays (pass nothing held (Leave Done) k (dropped t)) (try_occurrence nothing held body initiated left k (closed t)))
  passed-keeps body initiated left k t true = pass-keeps nothing held _ _ _ refl refl
  passed-keeps body initiated left k t false = occurrence-keeps nothing refl refl body initiated left k (closed t) (nat_eq left 0)

  delimiter-keeps : (what : Sought) (k : List Frame) (does_stand : Bool)
      → Keeps held (cond does_stand (pass one_row held (Seek what) k s) (pass one_row held (Leave Done) k s))
  delimiter-keeps what k true = pass-keeps one_row held _ _ _ refl refl
  delimiter-keeps what k false = pass-keeps one_row held _ _ _ refl refl

  seek-keeps : Anchored held (record s { at = aligned 8 s.at }) → (limits : Limits) (delimiters : List Delimiters) (what : Sought) (k : List Frame)
      → Keeps held (search limits delimiters held what k s)
  seek-keeps stands limits delimiters what k =
      let low : ℕ = anchor_at s (aligned 8 s.at) in
      let sight : Held = from_byte held low in
      let lists : List Opened = among delimiters what s in
      let ends : end_of sight ≡ end_of held = end_from held low stands.base stands.end in
      let from = sought-from lists low s.at s.stop stands.low in
      record {
        slid = record { size = refl; ended = refl; end = ends; base = stands.base };
        agrees = λ whole agrees. agrees_from held whole low stands.base stands.end agrees;
        tail = λ on. (kept sight on (sought_among lists s.at s.stop) from nothing).0;
        far = λ on. let most = (kept sight on (sought_among lists s.at s.stop) from nothing).1 in omega (arith, most, ends);
      }

  group-keeps : (id : ℕ) (children : List ℕ) (k : List Frame) → Keeps held (enter_group held id children k s)
  group-keeps id [] k = pass-keeps one_row held _ _ _ refl refl
  group-keeps id (child ∷ rest) k = pass-keeps one_row held _ _ _ refl refl

  enter-keeps : Anchored held s → (limits : Limits) (table : Table) (id : ℕ) (r : Option Row) (k : List Frame) → Keeps held (enter limits table held id r k s)
  enter-keeps stands limits table id None k = pass-keeps one_row held _ _ _ refl refl
  enter-keeps stands limits table id (Some (Leaf prim)) k =
      leaf-keeps stands one_row refl refl limits (Enter id) table.delimiters (nil_values table.primitives s.instead)
      (slice_get table.primitives (read_by table.primitives s.instead prim)) k
  enter-keeps stands limits table id (Some (Elem name simple tried statements body)) k =
      element-keeps limits.nodes id (parts_here s.instead (has_elements simple) tried body) (with_behind statements (At (length s.nodes)) k)
      (parts_here s.instead (has_elements simple) tried body).tried.are_several
  enter-keeps stands limits table id (Some (Group children)) k = group-keeps id children k
  enter-keeps stands limits table id (Some (Skip bits)) k = begin-keeps (s.at + bits) k (nat_le (s.at + bits) s.at) (nat_le (s.at + bits) s.stop)
  enter-keeps stands limits table id (Some (Align bits)) k =
      begin-keeps (aligned bits s.at) k (nat_le (aligned bits s.at) s.at) (nat_le (aligned bits s.at) s.stop)
  enter-keeps stands limits table id (Some (Initiator delimiter)) k = delimiter-keeps (sought.Initiator delimiter.list delimiter.resolves) k (stands_in s.instead delimiter)
  enter-keeps stands limits table id (Some (Terminator delimiter separators)) k = delimiter-keeps (sought.Terminator delimiter.list separators) k (stands_in s.instead delimiter)
  enter-keeps stands limits table id (Some Separator) k = pass-keeps one_row held _ _ _ refl refl
  enter-keeps stands limits table id (Some (Scope list body)) k = pass-keeps one_row held _ _ _ refl refl
  enter-keeps stands limits table id (Some (Boxed bits body)) k = begins-keeps one_row refl refl _
  enter-keeps stands limits table id (Some (PrefixedLeaf prefix prim)) k =
      prefix-keeps stands limits table.delimiters id prefix.own (behind_units table.primitives prefix.unit (behind.Leaf (read_by table.primitives s.instead prim))) (slice_get table.primitives prefix.prim) k
  enter-keeps stands limits table id (Some (Repeat count body)) k = group-keeps id (replicate count body) k
  enter-keeps stands limits table id (Some (Optional most item initiated body)) k = occurrence-keeps one_row refl refl body initiated most k s (nat_eq most 0)
  enter-keeps stands limits table id (Some (Choice rows initiated)) k = branch-keeps one_row refl refl id 0 (slice_get rows 0) k (pointed initiated s)
  enter-keeps stands limits table id (Some (PrefixedBox prefix body)) k =
      prefix-keeps stands limits table.delimiters id prefix.own (behind_units table.primitives prefix.unit (behind.Box body)) (slice_get table.primitives prefix.prim) k
  enter-keeps stands limits table id (Some (MeasuredLeaf measure prim)) k = begins-keeps one_row refl refl _
  enter-keeps stands limits table id (Some (MeasuredBox measure body)) k = begins-keeps one_row refl refl _
  enter-keeps stands limits table id (Some (Counted question body)) k = begins-keeps one_row refl refl _
  enter-keeps stands limits table id (Some (Dispatch question keys)) k = begins-keeps one_row refl refl _
  enter-keeps stands limits table id (Some (Statement number)) k = statement-keeps stands limits table id number (slice_get table.statements number) k
  enter-keeps stands limits table id (Some (Concluded statements body)) k = pass-keeps one_row held _ _ _ refl refl
  enter-keeps stands limits table id (Some (Hidden body)) k = pass-keeps one_row held _ _ _ refl refl
  enter-keeps stands limits table id (Some (Spanned body)) k = pass-keeps one_row held _ _ _ refl refl
  enter-keeps stands limits table id (Some (Instance statement body)) k = begins-keeps one_row refl refl _
  enter-keeps stands limits table id (Some (Separated policy position initiated slots)) k =
      passing-keeps one_row refl refl _ (separated-passes held initiated k id policy position slots s)

  go-keeps : (id next : ℕ) (child : Option ℕ) (k : List Frame) → Keeps held (go_on held id next child k s)
  go-keeps id next None k = pass-keeps nothing held _ _ _ refl refl
  go-keeps id next (Some child) k = pass-keeps nothing held _ _ _ refl refl

  leave-keeps : (limits : Limits) (table : Table) (frame : Frame) (end_told : End) (k : List Frame) → Keeps held (leave limits table held frame end_told k s)
  leave-keeps limits table (Rest id next) Done k = go-keeps id next (slice_get (children_of (slice_get table.rows id)) next) k
  leave-keeps limits table (Rest id next) (Failed cause bit) k = pass-keeps nothing held _ _ _ refl refl
  leave-keeps limits table (Element outer complex) Done k = pass-keeps nothing held _ _ _ refl refl
  leave-keeps limits table (Element outer complex) (Failed cause bit) k = pass-keeps nothing held _ _ _ refl refl
  leave-keeps limits table (Box outer from) Done k = leave-box-keeps outer from k (nat_le s.stop s.at)
  leave-keeps limits table (Box outer from) (Failed cause bit) k = pass-keeps nothing held _ _ _ refl refl
  leave-keeps limits table (Spanning from) Done k = pass-keeps nothing held _ _ _ refl refl
  leave-keeps limits table (Spanning from) (Failed cause bit) k = pass-keeps nothing held _ _ _ refl refl
  leave-keeps limits table (ScopeFrame count) Done k = pass-keeps nothing held _ _ _ refl refl
  leave-keeps limits table (ScopeFrame count) (Failed cause bit) k = pass-keeps nothing held _ _ _ refl refl
  leave-keeps limits table (Trial id occurrence next) Done k = done-keeps (parts_of occurrence (slice_get table.rows id)) next k
  leave-keeps limits table (Trial id occurrence next) (Failed cause bit) k =
      retry-keeps limits.nodes id (parts_of occurrence (slice_get table.rows id)) next (Failed cause bit) k
  leave-keeps limits table (Branch id next) Done k = pass-keeps nothing held _ _ _ refl refl
  leave-keeps limits table (Branch id next) (Failed cause bit) k =
      failed-keeps (Failed cause bit) k s _ (branch-keeps nothing refl refl id next (slice_get (children_of (slice_get table.rows id)) next) k (back s))
      (is_settled s.marks)
  leave-keeps limits table (Occurrence body initiated left) Done k = passed-keeps body initiated left k (as_normal s) (stays_at s.marks s.at)
  leave-keeps limits table (Occurrence body initiated left) (Failed cause bit) k =
      failed-keeps (Failed cause bit) k (as_normal s) _ (pass-keeps nothing held _ _ _ refl refl) (is_settled s.marks)
  leave-keeps limits table (Times body left) Done k = begins-keeps nothing refl refl _
  leave-keeps limits table (Times body left) (Failed cause bit) k = pass-keeps nothing held _ _ _ refl refl
  leave-keeps limits table (Before slot) Done k = passing-keeps nothing refl refl _ (done-passes held false k slot (slots_from table slot) s)
  leave-keeps limits table (Before slot) (Failed cause bit) k =
      passing-keeps nothing refl refl _ (failed-passes held (separation_at table slot).initiated k slot (slots_from table slot) (Failed cause bit) s)
  leave-keeps limits table (Content slot bit empty) Done k =
      passing-keeps nothing refl refl _
      (ended-passes held (separation_at table slot).initiated k slot bit empty (slots_from table slot) (nat_lt bit s.at) None Done (as_normal s))
  leave-keeps limits table (Content slot bit empty) (Failed cause at) k =
      passing-keeps nothing refl refl _
      (ended-passes held (separation_at table slot).initiated k slot bit empty (slots_from table slot) false (Some cause) (Failed cause at) (as_normal s))
  leave-keeps limits table (Closing slot bit) Done k =
      passing-keeps nothing refl refl _ (closing-passes held (separation_at table slot).initiated k slot bit (slots_from table slot) true Done s)
  leave-keeps limits table (Closing slot bit) (Failed cause at) k =
      passing-keeps nothing refl refl _ (closing-passes held (separation_at table slot).initiated k slot bit (slots_from table slot) false (Failed cause at) s)
  leave-keeps limits table (Aside slot) Done k =
      passing-keeps nothing refl refl _ (beside-passes held (separation_at table slot).initiated k slot (slots_from table slot) s)
  leave-keeps limits table (Aside slot) (Failed cause bit) k = pass-keeps nothing held _ _ _ refl refl
  leave-keeps limits table (Concluding statements start) Done k = pass-keeps nothing held _ _ _ refl refl
  leave-keeps limits table (Concluding statements start) (Failed cause bit) k = pass-keeps nothing held _ _ _ refl refl
  leave-keeps limits table InstanceFrame Done k = pass-keeps nothing held _ _ _ refl refl
  leave-keeps limits table InstanceFrame (Failed cause bit) k = pass-keeps nothing held _ _ _ refl refl
  leave-keeps limits table frame (Stopped cause quantity) k = pass-keeps nothing held _ _ _ refl refl

  -- a question of a slot
  answered-keeps : (stands : Anchored held s) (question : Ask Bool) (from : AsksFrom (anchor s) question) (move : Move)
      → Passes (needs_from (anchor s) (ask (seen_at (from_byte held (anchor s))) question nothing).tally) (from_byte held (anchor s)) move → Keeps held move
  answered-keeps stands question from move passes =
      let sight : Held = from_byte held (anchor s) in
      let held_are : move.held ≡ sight = passes.held_are in
      record {
        slid = subst (λ (h : Held). Slid held h) (sym held_are) (question-slid held s question stands from);
        agrees = λ all agrees. subst (λ (h : Held). Agrees h all) (sym held_are) (question-agrees held s question stands from all agrees);
        tail = λ on. passes.tail ∙ (question-kept held s question stands from on).0;
        far = λ on. let few = (question-kept held s question stands from on).1 in let far = passes.far in omega arith;
      }

  waiting-passes : (limits : Limits) (focus : Focus) (sight : Held) (cost : Tally) (moves : Bool → Move) (k : List Frame)
      → ((answer : Bool) → Passes cost sight (moves answer)) → (reached : Reached Bool)
      → (P : Move → Type 0) → ((move : Move) → Passes cost sight move → P move)
      → P (record { tally = cost; machine = record { focus = focus; stack = k; state = s }; held = sight; waits = true })
      → P (told_move limits focus sight cost moves reached k s)
  waiting-passes limits focus sight cost moves k each (Told answer) P keeps waits = keeps (moves answer) (each answer)
  waiting-passes limits focus sight cost moves k each TooFar P keeps waits =
      keeps (pass cost sight (Leave (Stopped (Limit Window) limits.window)) k s) (record { looks = refl; far = refl; tail = refl; held_are = refl; waits = refl })
  waiting-passes limits focus sight cost moves k each Missing P keeps waits = waits

  question-keeps : (stands : Anchored held s) (question : Ask Bool) (from : AsksFrom (anchor s) question) (limits : Limits) (focus : Focus) (moves : Bool → Move) (k : List Frame)
      → ((answer : Bool) → Passes (needs_from (anchor s) (ask (seen_at (from_byte held (anchor s))) question nothing).tally) (from_byte held (anchor s)) (moves answer))
      → Keeps held (told_move limits focus (from_byte held (anchor s)) (needs_from (anchor s) (ask (seen_at (from_byte held (anchor s))) question nothing).tally) moves
      (ask (seen_at (from_byte held (anchor s))) question nothing).reached k s)
  question-keeps stands question from limits focus moves k each =
      waiting-passes limits focus (from_byte held (anchor s)) _ moves k each (ask (seen_at (from_byte held (anchor s))) question nothing).reached (Keeps held)
      (answered-keeps stands question from)
      (record {
        slid = question-slid held s question stands from;
        agrees = question-agrees held s question stands from;
        tail = λ on. (question-kept held s question stands from on).0;
        far = λ on. (question-kept held s question stands from on).1;
      })

  look_in-keeps : Anchored held s → (limits : Limits) (delimiters : List Delimiters) (initiated : Bool) (slot : SlotPlace) (slots : List Slot) (k : List Frame)
      → Keeps held (look_in limits delimiters held initiated slot slots k s)
  look_in-keeps stands limits delimiters initiated slot [] k = pass-keeps nothing held _ _ _ refl refl
  look_in-keeps stands limits delimiters initiated slot (own ∷ slots) k =
      let lists : List Opened = lists_of delimiters (markup s) in
      question-keeps stands (is_empty_at lists s.at s.stop) (empty-from lists (anchor s) s.at s.stop stands.low) limits (LookIn slot) _ k
      (λ empty. occurs-passes (from_byte held (anchor s)) initiated k _ slot own.body s empty)

  look_behind-keeps : Anchored held s → (limits : Limits) (delimiters : List Delimiters) (initiated : Bool) (slot : SlotPlace) (bit : ℕ) (slots : List Slot) (k : List Frame)
      → Keeps held (look_behind limits delimiters held initiated slot bit slots k s)
  look_behind-keeps stands limits delimiters initiated slot bit [] k = pass-keeps nothing held _ _ _ refl refl
  look_behind-keeps stands limits delimiters initiated slot bit (own ∷ slots) k =
      let lists : List Opened = lists_of delimiters (markup s) in
      let place : ℕ = length (markup s) - 1 in
      question-keeps stands (separator_follows lists place s.at s.stop) (separator-from lists place (anchor s) s.at s.stop stands.low) limits (LookBehind slot bit) _ k
      (λ found. settled-passes (from_byte held (anchor s)) initiated k _ slot bit own slots found Done s)

  pub step-keeps : (limits : Limits) (table : Table) (focus : Focus) (k : List Frame) → Stands held focus s → Keeps held (step limits table held focus k s)
  step-keeps limits table (Enter id) k stands = enter-keeps stands limits table id (slice_get table.rows id) k
  step-keeps limits table (Pass to) k stands = fill-keeps limits to k stands
  step-keeps limits table (PassRest bit outer) k stands = rest-keeps limits bit outer k stands
  step-keeps limits table (Sized prim size) k stands = sized-keeps stands limits prim size table.delimiters (nil_values table.primitives s.instead) (slice_get table.primitives prim) k
  step-keeps limits table (Seek what) k stands = seek-keeps stands limits table.delimiters what k
  step-keeps limits table (LookIn slot) k stands =
      look_in-keeps stands limits table.delimiters (separation_at table slot).initiated slot (slots_from table slot) k
  step-keeps limits table (LookBehind slot bit) k stands =
      look_behind-keeps stands limits table.delimiters (separation_at table slot).initiated slot bit (slots_from table slot) k
  step-keeps limits table (Count slot question) k stands =
      passing-keeps one_row refl refl _ (count-passes held (separation_at table slot).initiated k table slot question (slots_from table slot) s)
  step-keeps limits table (Leave end_told) [] stands = pass-keeps nothing held _ _ _ refl refl
  step-keeps limits table (Leave end_told) (frame ∷ k) stands = leave-keeps limits table frame end_told k
