-- A step that waits.
use Rattle.std.proofs.Common.{◌≡◌, ℕ, zero, suc, ◌+◌, ◌-◌, ◌*◌, ◌/◌, ◌<◌, ◌≤◌, max, min, nat_le, refl, List, [], ◌∷◌, length, Bool, true, false, cond, nat_lt, Option, Some, None, ap, sym, subst, ◌∙◌, arith, replicate}
use Rattle.std.specs.Prelude.{slice_get}
use Rattle.dfdl_bits.specs.Window.{Held, end_of, room_of, from_byte, seen_at}
use Rattle.dfdl_bits.specs.declared.window.Seen.{Seen}
use Rattle.dfdl_bits.specs.declared.window.Seen.TheVariants.{Byte, End as DataEnded, NotYet, Over}
use Rattle.dfdl_report.specs.declared.cause.LimitCause.TheVariants.{Nodes}
use Rattle.dfdl_report.specs.declared.cause.ParseCause.TheVariants.{DataEnds, LengthOutOfRange}
use Rattle.dfdl_value.specs.declared.value.Value.{Value}
use Rattle.dfdl_terms.specs.declared.row.Primitive.{Primitive}
use Rattle.dfdl_delims.specs.Longest.{Longest}
use Rattle.dfdl_terms.specs.declared.row.Row.{Row}
use Rattle.dfdl_terms.specs.declared.row.Row.TheVariants.{Leaf, Elem, Group, Skip, Align, Initiator, Terminator, Separator, Scope, Boxed, PrefixedLeaf, PrefixedBox, MeasuredLeaf, MeasuredBox, Repeat, Counted, Optional, Choice, Dispatch, Statement, Concluded, Hidden, Spanned, Instance, Separated}
use Rattle.dfdl_terms.specs.Rows.{Table}
use Rattle.dfdl_looks.specs.Looks.{seen_in}
use Rattle.dfdl_looks.specs.Asks.{Ask, AsksFrom, Reached, Told, TooFar, Missing, Reading, ask}
use Rattle.dfdl_looks.specs.Tallies.{Tally, beside_first, first_of, needs_from, nothing, one_row, plus, saw_byte, saw_end}
use Rattle.dfdl_looks.proofs.Waiting.{missed, waits_while, counted}
use Rattle.dfdl_grammar.specs.declared.end.End.{End}
use Rattle.dfdl_grammar.specs.declared.end.End.TheVariants.{Done, Failed, Stopped}
use Rattle.dfdl_grammar.specs.declared.end.Halt.TheVariants.{Limit}
use Rattle.dfdl_grammar.specs.declared.limits.Limits.{Limits}
use Rattle.dfdl_grammar.specs.States.{Input, State, anchor, anchor_at}
use Rattle.dfdl_grammar.specs.Marks.{back, closed, marked, pointed}
use Rattle.dfdl_grammar.specs.declared.mark.Mark.{Mark}
use Rattle.dfdl_grammar.specs.declared.instead.Instead.{Instead}
use Rattle.dfdl_grammar.specs.declared.instead.Instead.TheVariants.{Nothing, Nil, Empty}
use Rattle.dfdl_grammar.specs.Outcomes.{Outcome, ended, spend}
use Rattle.dfdl_terms.specs.declared.text.TextSize.{TextSize}
use Rattle.dfdl_grammar.specs.Leaves.{Find, content_begins, has_room, land, leaf, nil_values, program, program_for, read_by}
use Rattle.dfdl_grammar.specs.Prefixes.{bits_of_units, land_prefix, leaf_of, prefixed, resized, size_of, sized_leaf}
use Rattle.dfdl_grammar.specs.Boxes.{boxed, filled_from}
use Rattle.dfdl_grammar.specs.Framing.{aligned, fill_to}
use Rattle.dfdl_grammar.specs.Delimiters.{lists_of, markup, sought_among, stands_in}
use Rattle.dfdl_grammar.specs.Elements.{begun, has_elements}
use Rattle.dfdl_grammar.specs.Rows.{below, meaning, row}
use Rattle.dfdl_grammar.proofs.Spending.{spend-spend, spend-nothing}
use Rattle.dfdl_grammar.specs.Occurrences.{as_normal}
use Rattle.dfdl_parse.specs.declared.frame.Frame.{Frame}
use Rattle.dfdl_parse.specs.declared.frame.Frame.TheVariants.{Rest, Element, Box, Spanning, Scope as ScopeFrame, Trial, Branch, Occurrence, Times, Before, Content, Closing, Aside, Concluding, Instance as InstanceFrame}
use Rattle.dfdl_parse.specs.declared.frame.Outside.{Outside}
use Rattle.dfdl_parse.specs.declared.frame.Next.{Next}
use Rattle.dfdl_parse.specs.declared.frame.Next.TheVariants as next
use Rattle.dfdl_parse.specs.declared.frame.Parts.{Parts}
use Rattle.dfdl_parse.specs.declared.frame.Focus.{Focus}
use Rattle.dfdl_parse.specs.declared.frame.Focus.TheVariants.{Enter, Pass, PassRest, Sized, Seek, LookIn, LookBehind, Count, Leave}
use Rattle.dfdl_parse.specs.declared.frame.Behind.TheVariants as behind
use Rattle.dfdl_parse.specs.Boxing.{back_outside, hides}
use Rattle.dfdl_parse.specs.declared.frame.Sought.{Sought}
use Rattle.dfdl_parse.specs.declared.frame.Sought.TheVariants as sought
use Rattle.dfdl_parse.specs.Searches.{among, found_text, place_of, search}
use Rattle.dfdl_parse.specs.Moves.{Machine, Move, is_missing, landed, pass, read_leaf, read_move}
use Rattle.dfdl_parse.specs.Prefixed.{behind_units, landed_prefix, prefix_move, read_prefix, read_resized, read_sized}
use Rattle.dfdl_parse.specs.Machines.{children_of, enter, enter_group, fill, fill_move, go_on, leave, pass_rest, rest_move, seen_beyond, step}
use Rattle.dfdl_parse.specs.Trials.{attempt, parts_here, parts_of, refused, retry, trial_done, try_empty, try_nil, try_normal, two_rows}
use Rattle.dfdl_parse.specs.Ahead.{finish}
use Rattle.dfdl_parse.proofs.Windows.{agrees_from, end_from}
use Rattle.dfdl_parse.proofs.Beyond.{beyond-missed, beyond-waits}
use Rattle.dfdl_leaves.proofs.Programs.{program_for-from}
use Rattle.dfdl_grammar.specs.Slots.{is_empty_at, peek, separator_follows, settled_by}
use Rattle.dfdl_terms.specs.declared.slots.Slot.{Slot}
use Rattle.dfdl_parse.specs.declared.frame.SlotPlace.{SlotPlace}
use Rattle.dfdl_parse.specs.Slots.{look_behind, look_in, separation_at, slots_from, told_move}
use Rattle.dfdl_parse.specs.SlotsAhead.{asked_behind, asked_in, course_of, occur_in, sequence_of, turn_of}
use Rattle.dfdl_parse.proofs.SlotAsks.{empty-from, peek-lost, separator-from}
use Rattle.dfdl_parse.proofs.SlotMoves.{beside-passes, closing-passes, count-passes, done-passes, ended-passes, failed-passes, separated-passes, settled-passes}
use Rattle.dfdl_parse.proofs.Finishes.{Anchored, Fits, finish-spend, from_here}
use Rattle.dfdl_parse.proofs.PointSteps.{branch-on, failed-branch-on, failed-occurrence-on, occurrence-done-on, occurrence-on}
use Rattle.dfdl_parse.proofs.SeekSteps.{is_lost as text_lost, seek-lost, seek-room}
use Rattle.dfdl_parse.proofs.LeafSteps.{Sees}
use Rattle.dfdl_parse.proofs.TestSteps.{test-from, unknown}
use Rattle.dfdl_parse.specs.Testing.{landed_test, read_test, verdict_in}
use Rattle.dfdl_parse.specs.Stating.{make_statement, with_behind}
use Rattle.dfdl_terms.specs.declared.statement.Statement.{Statement as AnyStatement}
use Rattle.dfdl_terms.specs.declared.statement.Statement.TheVariants.{Pattern, Expression, Setting, Calculation, Question, Opening}
use Rattle.dfdl_paths.specs.declared.place.Start.TheVariants.{At}
use Rattle.dfdl_grammar.specs.Statements.{statement_of}
use Rattle.dfdl_terms.specs.declared.statement.PatternTest.{PatternTest}
use Rattle.dfdl_texts.specs.Texts.{Text}
use Rattle.dfdl_grammar.specs.Leaves.{text_sought}
use Rattle.dfdl_grammar.specs.Tests.{land_test}
use Rattle.dfdl_parse.proofs.Ahead.{filled, rest-seen, rested}

-- a step that waits
pub record Waits (table : Table) (held : Held) (focus : Focus) (k : List Frame) (s : State) (move : Move) : Type 0 where
  pub machine : move.machine ≡ record { focus = focus; stack = k; state = s }
  pub on : held.ended ≡ false
  pub room : 0 < room_of move.held
  pub missed : (input : Input) → Fits held input focus s → length input.bytes ≡ end_of held
      → ((from_here input table focus k s).tally.tail ≡ move.tally.looks)
      × ((end_of held < (from_here input table focus k s).tally.far)
      × (length move.held.bytes ≡ end_of held - (from_here input table focus k s).tally.anchor))

-- a step doesn't wait
not-waiting : (waits : Bool) → waits ≡ false → waits ≡ true → ⊥
not-waiting true is waits = absurd (cc)
not-waiting false is waits = absurd (cc)

is_lost : (reached : Reached Find) → is_missing reached ≡ true → reached ≡ Missing
is_lost (Told f) is = absurd (cc)
is_lost TooFar is = absurd (cc)
is_lost Missing is = refl

-- the first of two costs that missed a byte
first_told : (n t : ℕ) → 0 < n → first_of n t ≡ n
first_told zero t some = absurd (omega arith)
first_told (suc n) t some = refl

-- and what is told beside the second one
beside_second : (n t a b c : ℕ) → n ≡ 0 → 0 < t → beside_first (first_of n t) (beside_first n a b) c ≡ b
beside_second zero zero a b c none some = absurd (omega arith)
beside_second zero (suc t) a b c none some = refl
beside_second (suc n) t a b c none some = absurd (omega arith)

module _ (table : Table) (held : Held) (s : State) where
  -- what a leaf reads over whole data
  abbrev whole_of : Input → Option (List Value) → Primitive → Reading Find
  whole_of input nil primitive = ask (seen_in input.bytes input.limits.window (anchor s)) (program_for nil (lists_of table.delimiters (markup s)) primitive s.at s.stop) nothing

  -- what is asked over whole data from the first byte on that is needed
  abbrev asked_whole : {F : Type 0} → Input → Ask F → Reading F
  asked_whole input asks = ask (seen_in input.bytes input.limits.window (anchor s)) asks nothing

  -- the outcome of a look that was in vain, behind a cost that missed nothing, whatever is made of it
  asked-lost : {F : Type 0} → (input : Input) (cost : Tally) → cost.tail ≡ 0 → (asks : Ask F) → AsksFrom (anchor s) asks → (k : List Frame) (o : Outcome) → Sees held input s
      → length input.bytes ≡ end_of held → (ask (seen_at (from_byte held (anchor s))) asks nothing).reached ≡ Missing → held.ended ≡ false
      → ((finish input table k (spend cost (spend (needs_from (anchor s) (asked_whole input asks).tally) o))).tally.tail
      ≡ (ask (seen_at (from_byte held (anchor s))) asks nothing).tally.looks)
      × ((end_of held < (finish input table k (spend cost (spend (needs_from (anchor s) (asked_whole input asks).tally) o))).tally.far)
      × (length (from_byte held (anchor s)).bytes
      ≡ end_of held - (finish input table k (spend cost (spend (needs_from (anchor s) (asked_whole input asks).tally) o))).tally.anchor))
  asked-lost {F} input cost no_tail asks from k o sees all missing on =
      let sight : Held = from_byte held (anchor s) in
      let here : Reading F = ask (seen_at sight) asks nothing in
      let whole : Reading F = asked_whole input asks in
      let ends : end_of sight ≡ end_of held = end_from held (anchor s) sees.stands.base sees.stands.end in
      let told = missed sight input.bytes (agrees_from held input.bytes (anchor s) sees.stands.base sees.stands.end sees.agrees) (all ∙ sym ends) on
      asks from nothing refl missing in
      let same : ask (seen_in input.bytes held.size (anchor s)) asks nothing ≡ whole =
      ap (λ (size : ℕ). ask (seen_in input.bytes size (anchor s)) asks nothing) sees.size in
      let tail : whole.tally.tail ≡ here.tally.looks = ap (λ (r : Reading F). r.tally.tail) (sym same) ∙ told.0 in
      let far : length input.bytes < whole.tally.far = subst (λ (r : Reading F). length input.bytes < r.tally.far) same told.1 in
      let some : 0 < here.tally.looks = counted (seen_at sight) asks nothing missing in
      let rest : Outcome = finish input table k o in
      let spent : Tally = needs_from (anchor s) whole.tally in
      let is : finish input table k (spend cost (spend spent o)) ≡ spend (plus cost spent) rest =
      ap (finish input table k) (spend-spend cost spent o)
      ∙ finish-spend input table k (plus cost spent) o in
      let is_tail : (finish input table k (spend cost (spend spent o))).tally.tail ≡ first_of (first_of cost.tail whole.tally.tail) rest.tally.tail =
      ap (λ (o : Outcome). o.tally.tail) is in
      let is_far : (finish input table k (spend cost (spend spent o))).tally.far ≡ max (max cost.far whole.tally.far) rest.tally.far =
      ap (λ (o : Outcome). o.tally.far) is in
      let told_some : 0 < whole.tally.tail = omega arith in
      let is_anchor : (finish input table k (spend cost (spend spent o))).tally.anchor ≡ anchor s =
      ap (λ (o : Outcome). o.tally.anchor) is
      ∙ beside_second cost.tail whole.tally.tail cost.anchor (anchor s) rest.tally.anchor no_tail told_some in
      let kept : anchor s + length sight.bytes ≡ end_of held = ends in (
        is_tail ∙ ap (λ (n : ℕ). first_of (first_of n whole.tally.tail) rest.tally.tail) no_tail
            ∙ first_told whole.tally.tail rest.tally.tail told_some ∙ tail,
        (omega arith, omega (arith, kept, is_anchor)),
      )

  -- a step whose look was in vain
  pub asked-waits : {F : Type 0} → (cost : Tally) → cost.tail ≡ 0 → cost.looks ≡ 0 → (focus : Focus) (asks : Ask F) → (Anchored held s → AsksFrom (anchor s) asks)
      → (k : List Frame) (machine : Machine) (waits : Bool) → machine ≡ record { focus = focus; stack = k; state = s }
      → ((input : Input) → Fits held input focus s → Sees held input s) → (made : Input → Outcome)
      → ((input : Input) → from_here input table focus k s ≡ finish input table k (spend cost (spend (needs_from (anchor s) (asked_whole input asks).tally) (made input))))
      → (ask (seen_at (from_byte held (anchor s))) asks nothing).reached ≡ Missing
      → Waits table held focus k s (record {
        tally = plus cost (needs_from (anchor s) (ask (seen_at (from_byte held (anchor s))) asks nothing).tally);
        machine = machine;
        held = from_byte held (anchor s);
        waits = waits;
      })
  asked-waits {F} cost no_tail no_looks focus asks from k machine waits stays sees made is missing =
      let sight : Held = from_byte held (anchor s) in
      let here : Reading F = ask (seen_at sight) asks nothing in
      let stands = waits_while sight asks nothing missing in
      let short : length sight.bytes < sight.size = stands.1 in
      record {
        machine = stays;
        on = stands.0;
        room = omega arith;
        missed = λ input fits all.
            let seen = sees input fits in
            let lost = asked-lost input cost no_tail asks (from seen.stands) k (made input) seen all missing stands.0 in
            let looks : here.tally.looks ≡ (plus cost here.tally).looks = omega arith in
            let same = sym (is input) in (
              ap (λ (o : Outcome). o.tally.tail) (is input) ∙ lost.0 ∙ looks,
              (
                subst (λ (o : Outcome). end_of held < o.tally.far) same lost.1.0,
                subst (λ (o : Outcome). length sight.bytes ≡ end_of held - o.tally.anchor) same lost.1.1,
              ),
            );
      }

  -- a step whose look at a leaf was in vain
  look-waits : (cost : Tally) → cost.tail ≡ 0 → cost.looks ≡ 0 → (focus : Focus) (nil : Option (List Value)) (primitive : Primitive) (k : List Frame) (machine : Machine) (waits : Bool)
      → machine ≡ record { focus = focus; stack = k; state = s }
      → ((input : Input) → Fits held input focus s → Sees held input s) → (made : Input → Outcome)
      → ((input : Input) → from_here input table focus k s ≡ finish input table k (spend cost (spend (needs_from (anchor s) (whole_of input nil primitive).tally) (made input))))
      → (ask (seen_at (from_byte held (anchor s))) (program_for nil (lists_of table.delimiters (markup s)) primitive s.at s.stop) nothing).reached ≡ Missing
      → Waits table held focus k s (record {
        tally = plus cost (needs_from (anchor s) (ask (seen_at (from_byte held (anchor s))) (program_for nil (lists_of table.delimiters (markup s)) primitive s.at s.stop) nothing).tally);
        machine = machine;
        held = from_byte held (anchor s);
        waits = waits;
      })
  look-waits cost no_tail no_looks focus nil primitive k machine waits stays sees made is missing =
      asked-waits cost no_tail no_looks focus (program_for nil (lists_of table.delimiters (markup s)) primitive s.at s.stop)
      (λ stands. program_for-from (anchor s) nil (lists_of table.delimiters (markup s)) primitive s.at s.stop stands.low) k machine waits stays sees made is missing

  -- a test that waits
  test-waits : (limits : Limits) (id number : ℕ) (test : PatternTest) (k : List Frame) → slice_get table.statements number ≡ Some (Pattern test)
      → slice_get table.rows id ≡ Some (Statement number) → (read_test one_row limits (Enter id) held number test k s).waits ≡ true
      → Waits table held (Enter id) k s (read_test one_row limits (Enter id) held number test k s)
  unfolding meaning
  test-waits limits id number test k is at waits =
      let asks : Ask Text = text_sought test.form (aligned 8 s.at) s.stop in
      let here : Reading Text = ask (seen_at (from_byte held (anchor s))) asks nothing in
      let missing : here.reached ≡ Missing = unknown test.form here.reached waits in
      asked-waits one_row refl refl (Enter id) asks (λ stands. test-from (anchor s) test.form s.at s.stop stands.low) k _ _
      (ap (λ (r : Reached Text). landed_test limits (Enter id) test number (verdict_in test.form r) k s) missing)
      (λ input fits. record { agrees = fits.agrees; size = fits.size; stands = fits.stands })
      (λ input. land_test input.limits test number (asked_whole input asks).reached s)
      (λ input. ap (λ (r : Option Row). finish input table k (spend one_row (row input table (below input table id) id r s))) at
      ∙ ap (λ (found : Option AnyStatement). finish input table k (spend one_row (statement_of input table number found s))) is)
      missing

  -- a statement that waits is such a test
  statement-waits : (limits : Limits) (id number : ℕ) (found : Option AnyStatement) (k : List Frame) → slice_get table.statements number ≡ found
      → slice_get table.rows id ≡ Some (Statement number) → (make_statement one_row limits table (Enter id) held number found k s).waits ≡ true
      → Waits table held (Enter id) k s (make_statement one_row limits table (Enter id) held number found k s)
  statement-waits limits id number None k is at waits = absurd (cc)
  statement-waits limits id number (Some (Pattern test)) k is at waits = test-waits limits id number test k is at waits
  statement-waits limits id number (Some (Expression test)) k is at waits = absurd (cc)
  statement-waits limits id number (Some (Setting setting)) k is at waits = absurd (cc)
  statement-waits limits id number (Some (Calculation calculation)) k is at waits = absurd (cc)
  statement-waits limits id number (Some (Question question)) k is at waits = absurd (cc)
  statement-waits limits id number (Some (Opening opening)) k is at waits = absurd (cc)

  -- the values that are nil, if a leaf has to have one of them
  abbrev nil : Option (List Value)
  nil = nil_values table.primitives s.instead

  -- what a leaf comes to that has room
  abbrev read_over : Input → Primitive → Outcome
  read_over input primitive = land input.limits (content_begins primitive s.at) (whole_of input nil primitive).reached s

  read-waits : (limits : Limits) (id prim : ℕ) (primitive : Primitive) (k : List Frame) → slice_get table.primitives (read_by table.primitives s.instead prim) ≡ Some primitive
      → slice_get table.rows id ≡ Some (Leaf prim) → (room : Bool) → has_room primitive s.at s.stop ≡ room
      → let sight : Held = from_byte held (anchor s) in
      let move : Move = cond room
      (read_move one_row limits (Enter id) (content_begins primitive s.at) sight (ask (seen_at sight) (program_for nil (lists_of table.delimiters (markup s)) primitive s.at s.stop) nothing) k s)
      (pass one_row held (Leave (Failed LengthOutOfRange s.at)) k s) in
      move.waits ≡ true → Waits table held (Enter id) k s move
  unfolding meaning
  read-waits limits id prim primitive k is at false has waits = absurd (cc)
  read-waits limits id prim primitive k is at true has waits =
      let here : Reading Find = ask (seen_at (from_byte held (anchor s))) (program_for nil (lists_of table.delimiters (markup s)) primitive s.at s.stop) nothing in
      let missing : here.reached ≡ Missing = is_lost here.reached waits in
      look-waits one_row refl refl (Enter id) nil primitive k _ _
      (ap (λ (r : Reached Find). landed limits (Enter id) (content_begins primitive s.at) r k s) missing)
      (λ input fits. record { agrees = fits.agrees; size = fits.size; stands = fits.stands }) (λ input. read_over input primitive)
      (λ input. ap (λ (r : Option Row). finish input table k (spend one_row (row input table (below input table id) id r s))) at
      ∙ ap (λ (p : Option Primitive). finish input table k (spend one_row (leaf input table.delimiters nil p s))) is
      ∙ ap (λ (b : Bool). finish input table k (spend one_row (cond b (spend (needs_from (anchor s) (whole_of input nil primitive).tally) (read_over input primitive))
      (ended (Failed LengthOutOfRange s.at) s)))) has)
      missing

  leaf-waits : (limits : Limits) (id prim : ℕ) (primitive : Option Primitive) (k : List Frame) → slice_get table.primitives (read_by table.primitives s.instead prim) ≡ primitive
      → slice_get table.rows id ≡ Some (Leaf prim) → (read_leaf one_row limits (Enter id) held table.delimiters nil primitive k s).waits ≡ true
      → Waits table held (Enter id) k s (read_leaf one_row limits (Enter id) held table.delimiters nil primitive k s)
  leaf-waits limits id prim None k is at waits = absurd (cc)
  leaf-waits limits id prim (Some primitive) k is at waits = read-waits limits id prim primitive k is at (has_room primitive s.at s.stop) refl waits

  -- a leaf whose size was told
  sized-room-waits : (limits : Limits) (prim : ℕ) (size : TextSize) (first primitive : Primitive) (k : List Frame) → slice_get table.primitives prim ≡ Some first
      → resized size first ≡ Some primitive → (room : Bool) → has_room primitive s.at s.stop ≡ room
      → let sight : Held = from_byte held (anchor s) in
      let move : Move = cond room
      (read_move nothing limits (Sized prim size) (content_begins primitive s.at) sight (ask (seen_at sight) (program_for nil (lists_of table.delimiters (markup s)) primitive s.at s.stop) nothing) k s)
      (pass nothing held (Leave (Failed LengthOutOfRange s.at)) k s) in
      move.waits ≡ true → Waits table held (Sized prim size) k s move
  sized-room-waits limits prim size first primitive k is sized false has waits = absurd (cc)
  sized-room-waits limits prim size first primitive k is sized true has waits =
      let here : Reading Find = ask (seen_at (from_byte held (anchor s))) (program_for nil (lists_of table.delimiters (markup s)) primitive s.at s.stop) nothing in
      let missing : here.reached ≡ Missing = is_lost here.reached waits in
      look-waits nothing refl refl (Sized prim size) nil primitive k _ _
      (ap (λ (r : Reached Find). landed limits (Sized prim size) (content_begins primitive s.at) r k s) missing)
      (λ input fits. record { agrees = fits.agrees; size = fits.size; stands = fits.stands }) (λ input. read_over input primitive)
      (λ input. ap (λ (p : Option Primitive). finish input table k (sized_leaf input table.delimiters nil p size s)) is
      ∙ ap (λ (p : Option Primitive). finish input table k (leaf_of input table.delimiters nil p s)) sized
      ∙ ap (λ (b : Bool). finish input table k (cond b (spend (needs_from (anchor s) (whole_of input nil primitive).tally) (read_over input primitive))
      (ended (Failed LengthOutOfRange s.at) s))) has
      ∙ ap (finish input table k) (sym (spend-nothing (spend (needs_from (anchor s) (whole_of input nil primitive).tally) (read_over input primitive)))))
      missing

  resized-waits : (limits : Limits) (prim : ℕ) (size : TextSize) (first : Primitive) (primitive : Option Primitive) (k : List Frame) → slice_get table.primitives prim ≡ Some first
      → resized size first ≡ primitive → (read_resized limits (Sized prim size) held table.delimiters nil primitive k s).waits ≡ true
      → Waits table held (Sized prim size) k s (read_resized limits (Sized prim size) held table.delimiters nil primitive k s)
  resized-waits limits prim size first None k is sized waits = absurd (cc)
  resized-waits limits prim size first (Some primitive) k is sized waits =
      sized-room-waits limits prim size first primitive k is sized (has_room primitive s.at s.stop) refl waits

  sized-waits : (limits : Limits) (prim : ℕ) (size : TextSize) (primitive : Option Primitive) (k : List Frame) → slice_get table.primitives prim ≡ primitive
      → (read_sized limits held table.delimiters prim size nil primitive k s).waits ≡ true
      → Waits table held (Sized prim size) k s (read_sized limits held table.delimiters prim size nil primitive k s)
  sized-waits limits prim size None k is waits = absurd (cc)
  sized-waits limits prim size (Some primitive) k is waits = resized-waits limits prim size primitive (resized size primitive) k is refl waits

  -- a prefix, where this is what its row means
  module _ (limits : Limits) (id own : ℕ) (follow : Input → ℕ → State → Outcome) (next : ℕ → List Frame → State → Machine) (k : List Frame) (by : Option Primitive)
      (means : (input : Input) → from_here input table (Enter id) k s ≡ finish input table k (spend one_row (prefixed input table.delimiters by own (follow input) s))) where
    prefix-room-waits : (primitive : Primitive) → by ≡ Some primitive → (room : Bool) → has_room primitive s.at s.stop ≡ room
        → let sight : Held = from_byte held (anchor s) in
        let move : Move = cond room
        (prefix_move limits id own (content_begins primitive s.at) next sight (ask (seen_at sight) (program (lists_of table.delimiters (markup s)) primitive s.at s.stop) nothing) k s)
        (pass one_row held (Leave (Failed LengthOutOfRange s.at)) k s) in
        move.waits ≡ true → Waits table held (Enter id) k s move
    prefix-room-waits primitive is false has waits = absurd (cc)
    prefix-room-waits primitive is true has waits =
        let here : Reading Find = ask (seen_at (from_byte held (anchor s))) (program (lists_of table.delimiters (markup s)) primitive s.at s.stop) nothing in
        let missing : here.reached ≡ Missing = is_lost here.reached waits in
        let first : ℕ = content_begins primitive s.at in
        look-waits one_row refl refl (Enter id) None primitive k _ _
        (ap (λ (r : Reached Find). landed_prefix limits id own first next r k s) missing)
        (λ input fits. record { agrees = fits.agrees; size = fits.size; stands = fits.stands })
        (λ input. land_prefix input.limits own first (follow input) (whole_of input None primitive).reached s)
        (λ input. means input
        ∙ ap (λ (p : Option Primitive). finish input table k (spend one_row (prefixed input table.delimiters p own (follow input) s))) is
        ∙ ap (λ (b : Bool). finish input table k (spend one_row (cond b
        (spend (needs_from (anchor s) (whole_of input None primitive).tally) (land_prefix input.limits own first (follow input) (whole_of input None primitive).reached s))
        (ended (Failed LengthOutOfRange s.at) s)))) has)
        missing

    prefix-waits : (primitive : Option Primitive) → by ≡ primitive → (read_prefix limits id held table.delimiters own next primitive k s).waits ≡ true
        → Waits table held (Enter id) k s (read_prefix limits id held table.delimiters own next primitive k s)
    prefix-waits None is waits = absurd (cc)
    prefix-waits (Some primitive) is waits = prefix-room-waits primitive is (has_room primitive s.at s.stop) refl waits

  begin-on : (to : ℕ) (k : List Frame) (over inside : Bool)
      → (cond over (pass one_row held (Leave Done) k s)
      (cond inside (pass one_row held (Pass to) k s) (pass one_row held (Leave (Failed LengthOutOfRange s.at)) k s))).waits ≡ true → ⊥
  begin-on to k true inside waits = absurd (cc)
  begin-on to k false true waits = absurd (cc)
  begin-on to k false false waits = absurd (cc)

  leave-box-on : (outer : Outside) (from : ℕ) (k : List Frame) (over : Bool)
      → (cond over (pass nothing held (Leave Done) k (back_outside outer (filled_from from s))) (pass nothing held (PassRest s.at outer) k (filled_from from s))).waits ≡ true → ⊥
  leave-box-on outer from k true waits = absurd (cc)
  leave-box-on outer from k false waits = absurd (cc)

  -- what is held from the first byte on that is needed, as far as it has come
  kept_from : (low : ℕ) → held.base ≤ low → (count anchor : ℕ) → count ≡ length (from_byte held (min low (end_of held))).bytes → anchor ≡ low
      → count ≡ end_of held - anchor
  kept_from low base count anchor is at =
      let ends : min low (end_of held) + length (from_byte held (min low (end_of held))).bytes ≡ end_of held =
      end_from held (min low (end_of held)) (omega arith) (omega arith) in
      omega (arith, ends, is, at)

  -- a look over fill that is in vain
  in_vain : (window : ℕ) (sight : Held) (low to : ℕ) (v : Seen) (k : List Frame) → (fill_move window sight low to v k s).waits ≡ true → v ≡ NotYet
  in_vain window sight low to (Byte b) k waits = absurd (cc)
  in_vain window sight low to DataEnded k waits = absurd (cc)
  in_vain window sight low to NotYet k waits = refl
  in_vain window sight low to Over k waits = absurd (cc)

  fill-waits : (limits : Limits) (to : ℕ) (k : List Frame) → (fill limits held to k s).waits ≡ true → Waits table held (Pass to) k s (fill limits held to k s)
  fill-waits limits to k waits =
      let last : ℕ = (to - 1) / 8 in
      let low : ℕ = anchor_at s (to - 1) in
      let sight : Held = from_byte held (min low (end_of held)) in
      let none : seen_beyond held low last ≡ NotYet = in_vain limits.window sight low to (seen_beyond held low last) k waits in
      let here = beyond-waits held low last none in
      let move_is : fill limits held to k s ≡ fill_move limits.window sight low to NotYet k s = ap (λ (v : Seen). fill_move limits.window sight low to v k s) none in
      record {
        machine = ap (λ (m : Move). m.machine) move_is;
        on = here.0;
        room = subst (λ (m : Move). 0 < room_of m.held) (sym move_is) here.1;
        missed = λ input fits all.
            let lost = beyond-missed held low last fits.stands.0 fits.stands.1 input.bytes fits.agrees all none in
            let past : end_of held ≤ last = lost.1 in
            let seen : seen_in input.bytes input.limits.window low last ≡ DataEnded =
            ap (λ (size : ℕ). seen_in input.bytes size low last) (sym fits.size) ∙ lost.0 in
            let rest : Outcome = finish input table k (ended (Failed DataEnds s.at) s) in
            let is : finish input table k (fill_to input to s) ≡ spend (needs_from low (saw_end last nothing)) rest =
            ap (λ (v : Seen). finish input table k (filled input table low to v s)) seen
            ∙ finish-spend input table k (needs_from low (saw_end last nothing)) (ended (Failed DataEnds s.at) s) in
            let looks : (fill limits held to k s).tally.looks ≡ 1 = ap (λ (m : Move). m.tally.looks) move_is in
            let is_tail : (finish input table k (fill_to input to s)).tally.tail ≡ 1 = ap (λ (o : Outcome). o.tally.tail) is in
            let is_far : (finish input table k (fill_to input to s)).tally.far ≡ max (max 0 (last + 1)) rest.tally.far = ap (λ (o : Outcome). o.tally.far) is in
            let is_anchor : (finish input table k (fill_to input to s)).tally.anchor ≡ low = ap (λ (o : Outcome). o.tally.anchor) is in
            let held_is : length (fill limits held to k s).held.bytes ≡ length sight.bytes = ap (λ (m : Move). length m.held.bytes) move_is in
            (is_tail ∙ sym looks, (omega arith, kept_from low fits.stands.0 _ _ held_is is_anchor));
      }

  -- a byte of the rest of a box that is looked at in vain
  past-on : (sight : Held) (low byte : ℕ) (outer : Outside) (k : List Frame) (last : Bool)
      → (cond last (pass (needs_from low (saw_byte byte nothing)) sight (Leave Done) k (back_outside outer (record s { at = s.stop })))
      (pass (needs_from low (saw_byte byte nothing)) sight (PassRest (8 * (byte + 1)) outer) k s)).waits ≡ true → ⊥
  past-on sight low byte outer k true waits = absurd (cc)
  past-on sight low byte outer k false waits = absurd (cc)

  rest-in_vain : (window : ℕ) (sight : Held) (low bit : ℕ) (outer : Outside) (v : Seen) (k : List Frame) → (rest_move window sight low bit outer v k s).waits ≡ true → v ≡ NotYet
  rest-in_vain window sight low bit outer (Byte b) k waits = absurd (past-on sight low (bit / 8) outer k (nat_le ((s.stop - 1) / 8) (bit / 8)) waits)
  rest-in_vain window sight low bit outer DataEnded k waits = absurd (cc)
  rest-in_vain window sight low bit outer NotYet k waits = refl
  rest-in_vain window sight low bit outer Over k waits = absurd (cc)

  rest-waits : (limits : Limits) (bit : ℕ) (outer : Outside) (k : List Frame) → (pass_rest limits held bit outer k s).waits ≡ true
      → Waits table held (PassRest bit outer) k s (pass_rest limits held bit outer k s)
  rest-waits limits bit outer k waits =
      let byte : ℕ = bit / 8 in
      let low : ℕ = anchor_at s (8 * byte) in
      let sight : Held = from_byte held (min low (end_of held)) in
      let none : seen_beyond held low byte ≡ NotYet = rest-in_vain limits.window sight low bit outer (seen_beyond held low byte) k waits in
      let here = beyond-waits held low byte none in
      let move_is : pass_rest limits held bit outer k s ≡ rest_move limits.window sight low bit outer NotYet k s =
      ap (λ (v : Seen). rest_move limits.window sight low bit outer v k s) none in
      record {
        machine = ap (λ (m : Move). m.machine) move_is;
        on = here.0;
        room = subst (λ (m : Move). 0 < room_of m.held) (sym move_is) here.1;
        missed = λ input fits all.
            let lost = beyond-missed held low byte fits.stands.0 fits.stands.1.1 input.bytes fits.agrees all none in
            let past : end_of held ≤ byte = lost.1 in
            let seen : seen_in input.bytes input.limits.window low byte ≡ DataEnded =
            ap (λ (size : ℕ). seen_in input.bytes size low byte) (sym fits.size) ∙ lost.0 in
            let rest : Outcome = finish input table k (ended (Failed DataEnds s.at) (hides outer.hidden s)) in
            let is : from_here input table (PassRest bit outer) k s ≡ spend (needs_from low (saw_end byte nothing)) rest =
            rest-seen input table bit outer k s fits.stands.1.0
            ∙ ap (λ (v : Seen). finish input table k (rested input table low byte outer v s)) seen
            ∙ finish-spend input table k (needs_from low (saw_end byte nothing)) (ended (Failed DataEnds s.at) (hides outer.hidden s)) in
            let looks : (pass_rest limits held bit outer k s).tally.looks ≡ 1 = ap (λ (m : Move). m.tally.looks) move_is in
            let is_tail : (from_here input table (PassRest bit outer) k s).tally.tail ≡ 1 = ap (λ (o : Outcome). o.tally.tail) is in
            let is_far : (from_here input table (PassRest bit outer) k s).tally.far ≡ max (max 0 (byte + 1)) rest.tally.far = ap (λ (o : Outcome). o.tally.far) is in
            let is_anchor : (from_here input table (PassRest bit outer) k s).tally.anchor ≡ low = ap (λ (o : Outcome). o.tally.anchor) is in
            let held_is : length (pass_rest limits held bit outer k s).held.bytes ≡ length sight.bytes = ap (λ (m : Move). length m.held.bytes) move_is in
            (is_tail ∙ sym looks, (omega arith, kept_from low fits.stands.0 _ _ held_is is_anchor));
      }

  attempt-on : (cost : Tally) (most id : ℕ) (parts : Parts) (instead : Instead) (k : List Frame) (t : State) (room : Bool)
      → (cond room
      (pass cost held (Enter parts.body) (Element t.inside parts.complex ∷ k) (begun id instead t))
      (pass cost held (Leave (Stopped (Limit Nodes) most)) k t)).waits ≡ true → ⊥
  attempt-on cost most id parts instead k t true waits = absurd (cc)
  attempt-on cost most id parts instead k t false waits = absurd (cc)

  module _ (cost : Tally) (most id : ℕ) (parts : Parts) (k : List Frame) (t : State) where
    normal-on : (try_normal cost most held id parts k t).waits ≡ true → ⊥
    normal-on waits = attempt-on cost most id parts Nothing (Trial id parts.occurrence next.Nothing ∷ k) t (nat_lt (length t.nodes) most) waits

    empty-on : (empty : Option ℕ) → (try_empty cost most held id parts empty k t).waits ≡ true → ⊥
    empty-on None waits = normal-on waits
    empty-on (Some prim) waits = attempt-on cost most id parts (Empty prim) (Trial id parts.occurrence next.Normal ∷ k) t (nat_lt (length t.nodes) most) waits

    nil-on : (nil : Option ℕ) → (try_nil cost most held id parts nil k t).waits ≡ true → ⊥
    nil-on None waits = empty-on parts.tried.empty waits
    nil-on (Some prim) waits = attempt-on cost most id parts (Nil prim) (Trial id parts.occurrence next.Empty ∷ k) t (nat_lt (length t.nodes) most) waits

  element-on : (most id : ℕ) (parts : Parts) (k : List Frame) (several : Bool)
      → (cond several (try_nil two_rows most held id parts parts.tried.nil k (marked s)) (attempt two_rows most held id parts Nothing k s)).waits ≡ true → ⊥
  element-on most id parts k true waits = nil-on two_rows most id parts k (marked s) parts.tried.nil waits
  element-on most id parts k false waits = attempt-on two_rows most id parts Nothing k s (nat_lt (length s.nodes) most) waits

  retry-on : (most id : ℕ) (parts : Option Parts) (follows : Next) (told : End) (k : List Frame) → (retry most held id parts follows told k s).waits ≡ true → ⊥
  retry-on most id None follows told k waits = absurd (cc)
  retry-on most id (Some parts) next.Empty told k waits = empty-on one_row most id parts k (back s) parts.tried.empty waits
  retry-on most id (Some parts) next.Normal told k waits = normal-on one_row most id parts k (back s) waits
  retry-on most id (Some parts) next.Nothing told k waits = absurd (cc)

  refused-on : (marks : List Mark) (k : List Frame) → (refused marks held k s).waits ≡ true → ⊥
  refused-on [] k waits = absurd (cc)
  refused-on (mark ∷ outer) k waits = absurd (cc)

  empty-found-on : (refuses : Bool) (k : List Frame)
      → (cond refuses (refused s.marks held k s) (pass nothing held (Leave Done) k (closed s))).waits ≡ true → ⊥
  empty-found-on true k waits = refused-on s.marks k waits
  empty-found-on false k waits = absurd (cc)

  done-on : (parts : Option Parts) (follows : Next) (k : List Frame) → (trial_done held parts follows k s).waits ≡ true → ⊥
  done-on None follows k waits = absurd (cc)
  done-on (Some parts) next.Empty k waits = absurd (cc)
  done-on (Some parts) next.Normal k waits = empty-found-on parts.tried.refuses_empty k waits
  done-on (Some parts) next.Nothing k waits = absurd (cc)

  delimiter-on : (what : Sought) (k : List Frame) (does_stand : Bool)
      → (cond does_stand (pass one_row held (Seek what) k s) (pass one_row held (Leave Done) k s)).waits ≡ true → ⊥
  delimiter-on what k true waits = absurd (cc)
  delimiter-on what k false waits = absurd (cc)

  -- a search that waits
  seek-waits : (limits : Limits) (what : Sought) (k : List Frame) → (search limits table.delimiters held what k s).waits ≡ true
      → Waits table held (Seek what) k s (search limits table.delimiters held what k s)
  seek-waits limits what k waits =
      let here : Reading Longest =
      ask (seen_at (from_byte held (anchor_at s (aligned 8 s.at)))) (sought_among (among table.delimiters what s) s.at s.stop) nothing in
      let missing : here.reached ≡ Missing = text_lost here.reached waits in
      let stands = seek-room table.delimiters held what s missing in
      record {
        machine = ap (λ (r : Reached Longest). found_text limits.window (Seek what) what (place_of what s) r k s) missing;
        on = stands.0;
        room = stands.1;
        missed = λ input fits all. seek-lost input table held what k s fits.agrees fits.size fits.stands all stands.0 missing;
      }

  group-on : (id : ℕ) (children : List ℕ) (k : List Frame) → (enter_group held id children k s).waits ≡ true → ⊥
  group-on id [] k waits = absurd (cc)
  group-on id (child ∷ rest) k waits = absurd (cc)

  enter-waits : (limits : Limits) (id : ℕ) (r : Option Row) (k : List Frame) → slice_get table.rows id ≡ r → (enter limits table held id r k s).waits ≡ true
      → Waits table held (Enter id) k s (enter limits table held id r k s)
  unfolding meaning
  enter-waits limits id None k at waits = absurd (cc)
  enter-waits limits id (Some (Leaf prim)) k at waits = leaf-waits limits id prim (slice_get table.primitives (read_by table.primitives s.instead prim)) k refl at waits
  enter-waits limits id (Some (Elem name simple tried statements body)) k at waits =
      absurd (element-on limits.nodes id (parts_here s.instead (has_elements simple) tried body) (with_behind statements (At (length s.nodes)) k)
      (parts_here s.instead (has_elements simple) tried body).tried.are_several waits)
  enter-waits limits id (Some (Skip bits)) k at waits =
      absurd (begin-on (s.at + bits) k (nat_le (s.at + bits) s.at) (nat_le (s.at + bits) s.stop) waits)
  enter-waits limits id (Some (Align bits)) k at waits =
      absurd (begin-on (aligned bits s.at) k (nat_le (aligned bits s.at) s.at) (nat_le (aligned bits s.at) s.stop) waits)
  enter-waits limits id (Some (Group children)) k at waits = absurd (group-on id children k waits)
  enter-waits limits id (Some (Initiator delimiter)) k at waits = absurd (delimiter-on (sought.Initiator delimiter.list delimiter.resolves) k (stands_in s.instead delimiter) waits)
  enter-waits limits id (Some (Terminator delimiter separators)) k at waits = absurd (delimiter-on (sought.Terminator delimiter.list separators) k (stands_in s.instead delimiter) waits)
  enter-waits limits id (Some Separator) k at waits = absurd (cc)
  enter-waits limits id (Some (Scope list body)) k at waits = absurd (cc)
  enter-waits limits id (Some (Boxed bits body)) k at waits = absurd (cc)
  enter-waits limits id (Some (PrefixedLeaf prefix prim)) k at waits =
      let by : Option Primitive = slice_get table.primitives prefix.prim in
      prefix-waits limits id prefix.own (λ input units after. sized_leaf input table.delimiters nil (slice_get table.primitives (read_by table.primitives s.instead prim)) (size_of prefix.unit units) after)
      (behind_units table.primitives prefix.unit (behind.Leaf (read_by table.primitives s.instead prim))) k by
      (λ input. ap (λ (r : Option Row). finish input table k (spend one_row (row input table (below input table id) id r s))) at)
      by refl waits
  enter-waits limits id (Some (Repeat count body)) k at waits = absurd (group-on id (replicate count body) k waits)
  enter-waits limits id (Some (Optional most item initiated body)) k at waits = absurd (occurrence-on held k one_row body initiated most s waits)
  enter-waits limits id (Some (Choice rows initiated)) k at waits = absurd (branch-on held k one_row id 0 (slice_get rows 0) (pointed initiated s) waits)
  enter-waits limits id (Some (PrefixedBox prefix body)) k at waits =
      let by : Option Primitive = slice_get table.primitives prefix.prim in
      prefix-waits limits id prefix.own (λ input units after. boxed input (bits_of_units prefix.unit units) (below input table id body) after)
      (behind_units table.primitives prefix.unit (behind.Box body)) k by
      (λ input. ap (λ (r : Option Row). finish input table k (spend one_row (row input table (below input table id) id r s))) at)
      by refl waits
  enter-waits limits id (Some (MeasuredLeaf measure prim)) k at waits = absurd (cc)
  enter-waits limits id (Some (MeasuredBox measure body)) k at waits = absurd (cc)
  enter-waits limits id (Some (Counted question body)) k at waits = absurd (cc)
  enter-waits limits id (Some (Dispatch question keys)) k at waits = absurd (cc)
  enter-waits limits id (Some (Statement number)) k at waits = statement-waits limits id number (slice_get table.statements number) k refl at waits
  enter-waits limits id (Some (Concluded statements body)) k at waits = absurd (cc)
  enter-waits limits id (Some (Hidden body)) k at waits = absurd (cc)
  enter-waits limits id (Some (Spanned body)) k at waits = absurd (cc)
  enter-waits limits id (Some (Instance statement body)) k at waits = absurd (cc)
  enter-waits limits id (Some (Separated policy position initiated slots)) k at waits =
      absurd (not-waiting _ (separated-passes held initiated k id policy position slots s).waits waits)

  go-on : (id next : ℕ) (child : Option ℕ) (k : List Frame) → (go_on held id next child k s).waits ≡ true → ⊥
  go-on id next None k waits = absurd (cc)
  go-on id next (Some child) k waits = absurd (cc)

  pub leave-on : (limits : Limits) (frame : Frame) (told : End) (k : List Frame) → (leave limits table held frame told k s).waits ≡ true → ⊥
  leave-on limits (Rest id next) Done k waits = go-on id next (slice_get (children_of (slice_get table.rows id)) next) k waits
  leave-on limits (Rest id next) (Failed cause bit) k waits = absurd (cc)
  leave-on limits (Element outer complex) Done k waits = absurd (cc)
  leave-on limits (Element outer complex) (Failed cause bit) k waits = absurd (cc)
  leave-on limits (Box outer from) Done k waits = leave-box-on outer from k (nat_le s.stop s.at) waits
  leave-on limits (Box outer from) (Failed cause bit) k waits = absurd (cc)
  leave-on limits (Spanning from) Done k waits = absurd (cc)
  leave-on limits (Spanning from) (Failed cause bit) k waits = absurd (cc)
  leave-on limits (ScopeFrame count) Done k waits = absurd (cc)
  leave-on limits (ScopeFrame count) (Failed cause bit) k waits = absurd (cc)
  leave-on limits (Trial id occurrence next) Done k waits = done-on (parts_of occurrence (slice_get table.rows id)) next k waits
  leave-on limits (Trial id occurrence next) (Failed cause bit) k waits = retry-on limits.nodes id (parts_of occurrence (slice_get table.rows id)) next (Failed cause bit) k waits
  leave-on limits (Branch id next) Done k waits = absurd (cc)
  leave-on limits (Branch id next) (Failed cause bit) k waits =
      failed-branch-on held k id next (slice_get (children_of (slice_get table.rows id)) next) (Failed cause bit) s waits
  leave-on limits (Occurrence body initiated left) Done k waits = occurrence-done-on held k body initiated left (as_normal s) waits
  leave-on limits (Occurrence body initiated left) (Failed cause bit) k waits = failed-occurrence-on held k (Failed cause bit) (as_normal s) waits
  leave-on limits (Times body left) Done k waits = absurd (cc)
  leave-on limits (Times body left) (Failed cause bit) k waits = absurd (cc)
  leave-on limits (Before slot) Done k waits = not-waiting _ (done-passes held false k slot (slots_from table slot) s).waits waits
  leave-on limits (Before slot) (Failed cause bit) k waits =
      not-waiting _ (failed-passes held (separation_at table slot).initiated k slot (slots_from table slot) (Failed cause bit) s).waits waits
  leave-on limits (Content slot bit empty) Done k waits =
      not-waiting _ (ended-passes held (separation_at table slot).initiated k slot bit empty (slots_from table slot) (nat_lt bit s.at) None Done (as_normal s)).waits waits
  leave-on limits (Content slot bit empty) (Failed cause at) k waits =
      not-waiting _ (ended-passes held (separation_at table slot).initiated k slot bit empty (slots_from table slot) false (Some cause) (Failed cause at) (as_normal s)).waits waits
  leave-on limits (Closing slot bit) Done k waits =
      not-waiting _ (closing-passes held (separation_at table slot).initiated k slot bit (slots_from table slot) true Done s).waits waits
  leave-on limits (Closing slot bit) (Failed cause at) k waits =
      not-waiting _ (closing-passes held (separation_at table slot).initiated k slot bit (slots_from table slot) false (Failed cause at) s).waits waits
  leave-on limits (Aside slot) Done k waits =
      not-waiting _ (beside-passes held (separation_at table slot).initiated k slot (slots_from table slot) s).waits waits
  leave-on limits (Aside slot) (Failed cause bit) k waits = absurd (cc)
  leave-on limits (Concluding statements start) Done k waits = absurd (cc)
  leave-on limits (Concluding statements start) (Failed cause bit) k waits = absurd (cc)
  leave-on limits InstanceFrame Done k waits = absurd (cc)
  leave-on limits InstanceFrame (Failed cause bit) k waits = absurd (cc)
  leave-on limits frame (Stopped cause quantity) k waits = absurd (cc)

  -- a question of a slot that waits
  in_vain-told : (limits : Limits) (focus : Focus) (sight : Held) (cost : Tally) (moves : Bool → Move) (reached : Reached Bool) (k : List Frame)
      → ((answer : Bool) → (moves answer).waits ≡ false) → (told_move limits focus sight cost moves reached k s).waits ≡ true → reached ≡ Missing
  in_vain-told limits focus sight cost moves (Told answer) k each waits = absurd (not-waiting _ (each answer) waits)
  in_vain-told limits focus sight cost moves TooFar k each waits = absurd (cc)
  in_vain-told limits focus sight cost moves Missing k each waits = refl

  question-waits : (limits : Limits) (focus : Focus) (question : Ask Bool) (moves : Bool → Move) (next : Input → Bool → State → Outcome) (k : List Frame)
      → ((input : Input) → from_here input table focus k s ≡ finish input table k (peek input question (next input) s))
      → ((input : Input) → Fits held input focus s → Anchored held s) → (Anchored held s → AsksFrom (anchor s) question)
      → ((answer : Bool) → (moves answer).waits ≡ false)
      → (told_move limits focus (from_byte held (anchor s)) (needs_from (anchor s) (ask (seen_at (from_byte held (anchor s))) question nothing).tally) moves
      (ask (seen_at (from_byte held (anchor s))) question nothing).reached k s).waits ≡ true
      → Waits table held focus k s
      (told_move limits focus (from_byte held (anchor s)) (needs_from (anchor s) (ask (seen_at (from_byte held (anchor s))) question nothing).tally) moves
      (ask (seen_at (from_byte held (anchor s))) question nothing).reached k s)
  question-waits limits focus question moves next k is stands from each waits =
      let sight : Held = from_byte held (anchor s) in
      let here : Reading Bool = ask (seen_at sight) question nothing in
      let cost : Tally = needs_from (anchor s) here.tally in
      let missing : here.reached ≡ Missing = in_vain-told limits focus sight cost moves here.reached k each waits in
      let waiting = waits_while sight question nothing missing in
      let short : length sight.bytes < sight.size = waiting.1 in
      subst (λ (r : Reached Bool). Waits table held focus k s (told_move limits focus sight cost moves r k s)) (sym missing) (record {
        machine = refl;
        on = waiting.0;
        room = omega arith;
        missed = λ input fits all.
            let anchored : Anchored held s = stands input fits in
            let lost = peek-lost held s question anchored (from anchored) input table fits.agrees fits.size (next input) k all waiting.0 missing in
            subst (λ (o : Outcome). (o.tally.tail ≡ here.tally.looks) × ((end_of held < o.tally.far) × (length sight.bytes ≡ end_of held - o.tally.anchor)))
            (sym (is input)) lost;
      })

  look_in-waits : (limits : Limits) (slot : SlotPlace) (slots : List Slot) (k : List Frame) → slots_from table slot ≡ slots
      → (look_in limits table.delimiters held (separation_at table slot).initiated slot slots k s).waits ≡ true
      → Waits table held (LookIn slot) k s (look_in limits table.delimiters held (separation_at table slot).initiated slot slots k s)
  look_in-waits limits slot [] k is waits = absurd (cc)
  look_in-waits limits slot (own ∷ slots) k is waits =
      question-waits limits (LookIn slot) (is_empty_at (lists_of table.delimiters (markup s)) s.at s.stop) _
      (λ input. occur_in (sequence_of input table slot.sequence) slot own slots) k
      (λ input. ap (λ (all : List Slot). finish input table k (asked_in (sequence_of input table slot.sequence) slot all s)) is)
      (λ input fits. fits.stands) (λ anchored. empty-from (lists_of table.delimiters (markup s)) (anchor s) s.at s.stop anchored.low) (λ empty. refl) waits

  look_behind-waits : (limits : Limits) (slot : SlotPlace) (bit : ℕ) (slots : List Slot) (k : List Frame) → slots_from table slot ≡ slots
      → (look_behind limits table.delimiters held (separation_at table slot).initiated slot bit slots k s).waits ≡ true
      → Waits table held (LookBehind slot bit) k s (look_behind limits table.delimiters held (separation_at table slot).initiated slot bit slots k s)
  look_behind-waits limits slot bit [] k is waits = absurd (cc)
  look_behind-waits limits slot bit (own ∷ slots) k is waits =
      question-waits limits (LookBehind slot bit) (separator_follows (lists_of table.delimiters (markup s)) (length (markup s) - 1) s.at s.stop) _
      (λ input found t. settled_by (turn_of (sequence_of input table slot.sequence) slot own slots) (course_of slot) bit found (ended Done t)) k
      (λ input. ap (λ (all : List Slot). finish input table k (asked_behind (sequence_of input table slot.sequence) slot bit all s)) is)
      (λ input fits. fits.stands)
      (λ anchored. separator-from (lists_of table.delimiters (markup s)) (length (markup s) - 1) (anchor s) s.at s.stop anchored.low)
      (λ found. (settled-passes (from_byte held (anchor s)) (separation_at table slot).initiated k _ slot bit own slots found Done s).waits) waits

  pub step-waits : (limits : Limits) (focus : Focus) (k : List Frame) → (step limits table held focus k s).waits ≡ true
      → Waits table held focus k s (step limits table held focus k s)
  step-waits limits (Enter id) k waits = enter-waits limits id (slice_get table.rows id) k refl waits
  step-waits limits (Pass to) k waits = fill-waits limits to k waits
  step-waits limits (PassRest bit outer) k waits = rest-waits limits bit outer k waits
  step-waits limits (Sized prim size) k waits = sized-waits limits prim size (slice_get table.primitives prim) k refl waits
  step-waits limits (Seek what) k waits = seek-waits limits what k waits
  step-waits limits (LookIn slot) k waits = look_in-waits limits slot (slots_from table slot) k refl waits
  step-waits limits (LookBehind slot bit) k waits = look_behind-waits limits slot bit (slots_from table slot) k refl waits
  step-waits limits (Count slot question) k waits =
      absurd (not-waiting _ (count-passes held (separation_at table slot).initiated k table slot question (slots_from table slot) s).waits waits)
  step-waits limits (Leave told) [] waits = absurd (cc)
  step-waits limits (Leave told) (frame ∷ k) waits = absurd (leave-on limits frame told k waits)
