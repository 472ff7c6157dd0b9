-- A step does a part of what is ahead.
use Rattle.std.proofs.Common.{◌≡◌, ℕ, suc, ◌+◌, ◌-◌, ◌*◌, ◌/◌, ◌<◌, min, nat_eq, nat_le, refl, List, [], ◌∷◌, length, drop, Bool, true, false, cond, nat_lt, Option, Some, None, All, ap, sym, subst, ◌∙◌, arith, replicate}
use Rattle.std.specs.Prelude.{IfSome, is_some, slice_get}
use Rattle.std.proofs.lemmas.Bool.Decides.{nat_tests}
use Rattle.std.proofs.lemmas.Option.{slice_get_within}
use Rattle.std.proofs.lemmas.List.Elements.{All-replicate}
use Rattle.dfdl_bits.specs.Window.{Held, end_of, from_byte}
use Rattle.dfdl_bits.specs.declared.window.Seen.{Seen}
use Rattle.dfdl_bits.specs.declared.window.Seen.TheVariants.{Byte, End as DataEnded, NotYet, Over}
use Rattle.dfdl_report.specs.declared.cause.LimitCause.TheVariants.{Nodes, Window}
use Rattle.dfdl_report.specs.declared.cause.ParseCause.{ParseCause}
use Rattle.dfdl_value.specs.declared.value.Value.{Value}
use Rattle.dfdl_terms.specs.declared.row.Primitive.{Primitive}
use Rattle.dfdl_grammar.specs.Leaves.{nil_values, read_by}
use Rattle.dfdl_terms.specs.declared.row.Row.{Row}
use Rattle.dfdl_terms.specs.declared.row.Row.TheVariants.{Leaf, Elem, Group, Skip, Align, Initiator, Terminator, Separator, Scope, Boxed, PrefixedLeaf, PrefixedBox, MeasuredLeaf, MeasuredBox, Repeat, Counted, Optional, Choice, Dispatch, Statement, Concluded, Hidden, Spanned, Instance, Separated}
use Rattle.dfdl_terms.specs.Rows.{Table, Nests}
use Rattle.dfdl_looks.specs.Looks.{seen_in}
use Rattle.dfdl_looks.specs.Asks.{Answer, Reading}
use Rattle.dfdl_looks.specs.Tallies.{Tally, needs_from, nothing, one_row, plus, saw_byte, saw_end, saw_none}
use Rattle.dfdl_looks.proofs.Resumed.{on_seen}
use Rattle.dfdl_grammar.specs.declared.end.End.{End}
use Rattle.dfdl_grammar.specs.declared.end.End.TheVariants.{Done, Failed, Stopped}
use Rattle.dfdl_grammar.specs.declared.end.Halt.{Halt}
use Rattle.dfdl_grammar.specs.declared.end.Halt.TheVariants.{Limit}
use Rattle.dfdl_grammar.specs.States.{Input, State, anchor_at}
use Rattle.dfdl_grammar.specs.Marks.{back, closed, is_settled, marked, pointed, stays_at}
use Rattle.dfdl_grammar.specs.declared.mark.Mark.{Mark}
use Rattle.dfdl_grammar.specs.Delimiters.{closes_to, stands_in}
use Rattle.dfdl_grammar.specs.declared.instead.Instead.{Instead}
use Rattle.dfdl_grammar.specs.declared.instead.Instead.TheVariants.{Nothing, Nil, Empty}
use Rattle.dfdl_grammar.specs.Representations.{after_empty, or_else, refused_among, then_empty, then_nil, then_normal}
use Rattle.dfdl_grammar.specs.Outcomes.{Outcome, ended, spend, then_do}
use Rattle.dfdl_report.specs.declared.cause.ParseCause.TheVariants.{DataEnds, LengthOutOfRange, RequiredEmpty}
use Rattle.dfdl_grammar.specs.Prefixes.{bits_of_units, size_of, sized_leaf}
use Rattle.dfdl_grammar.specs.Framing.{aligned, fill_to, passed}
use Rattle.dfdl_grammar.specs.Boxes.{boxed, bytes_up_to, pass_bytes, past_byte, rest, filled_from, rest_from, unboxed}
use Rattle.dfdl_grammar.specs.Spans.{span_ends, spanned}
use Rattle.dfdl_grammar.specs.Instances.{instance_closed}
use Rattle.dfdl_grammar.specs.Representations.{is_occurrence}
use Rattle.dfdl_grammar.specs.Occurrences.{as_normal}
use Rattle.dfdl_grammar.specs.Elements.{begun, close, element, has_elements, left}
use Rattle.dfdl_grammar.specs.Rows.{below, group, meaning, row}
use Rattle.dfdl_grammar.proofs.Spending.{spend-nothing, spend-spend}
use Rattle.dfdl_grammar.proofs.Towers.{below-meaning}
use Rattle.dfdl_parse.specs.declared.frame.Frame.{Frame}
use Rattle.dfdl_parse.specs.declared.frame.Frame.TheVariants.{Rest, Element, Box, Spanning, Scope as ScopeFrame, Trial, Branch, Occurrence, Times, Before, Content, Closing, Aside, Concluding, Instance as InstanceFrame}
use Rattle.dfdl_parse.specs.declared.frame.Outside.{Outside}
use Rattle.dfdl_parse.specs.declared.frame.Next.{Next}
use Rattle.dfdl_parse.specs.declared.frame.Next.TheVariants as next
use Rattle.dfdl_parse.specs.declared.frame.Parts.{Parts}
use Rattle.dfdl_parse.specs.declared.frame.Focus.{Focus}
use Rattle.dfdl_parse.specs.declared.frame.Focus.TheVariants.{Enter, Pass, PassRest, Sized, Seek, LookIn, LookBehind, Count, Leave}
use Rattle.dfdl_parse.specs.declared.frame.Behind.TheVariants as behind
use Rattle.dfdl_parse.specs.Boxing.{back_outside, hides}
use Rattle.dfdl_parse.specs.declared.frame.Sought.TheVariants as sought
use Rattle.dfdl_parse.specs.Moves.{pass}
use Rattle.dfdl_parse.specs.Prefixed.{behind_units}
use Rattle.dfdl_parse.specs.Machines.{children_of, enter, enter_group, fill, fill_move, go_on, leave, pass_rest, rest_move, seen_beyond, step}
use Rattle.dfdl_parse.specs.Trials.{attempt, parts_here, parts_of, refused, retry, trial_done, try_empty, try_nil, try_normal, two_rows}
use Rattle.dfdl_parse.specs.Ahead.{finish, focused, retried, trial_of}
use Rattle.dfdl_parse.proofs.Lists.{drop_some, drop_none, all_at}
use Rattle.dfdl_parse.proofs.Beyond.{beyond-same}
use Rattle.dfdl_parse.proofs.Finishes.{Anchored, Does, Fits, after_nothing, concluded-spend, finish-spend, from_here, retried-spend, unboxed-spend}
use Rattle.dfdl_parse.specs.Slots.{slots_from}
use Rattle.dfdl_parse.proofs.SlotRows.{all-below, slots-below}
use Rattle.dfdl_parse.proofs.SlotSteps.{before_done-ahead, before_failed-ahead, before_stopped-ahead, beside-ahead, closing_done-ahead, closing_failed-ahead, closing_stopped-ahead, content_done-ahead, content_failed-ahead, content_stopped-ahead, count-ahead, look_behind-ahead, look_in-ahead, separated-ahead}
use Rattle.dfdl_parse.proofs.PointSteps.{branch-ahead, failed-branch-ahead, failed-occurrence-ahead, first-ahead, passed-ahead}
use Rattle.dfdl_parse.proofs.AskSteps.{counted-ahead, dispatch-ahead, measured_box-ahead, measured_leaf-ahead, time-ahead}
use Rattle.dfdl_parse.proofs.InstanceSteps.{instanced-ahead}
use Rattle.dfdl_parse.proofs.SeekSteps.{delimiter-ahead, scope-ahead, seek-ahead, separator-ahead}
use Rattle.dfdl_parse.proofs.LeafSteps.{Sees, box-ahead, leaf-of, prefix-of, sized-begin, sized-of}
use Rattle.dfdl_parse.proofs.TestSteps.{test-ahead}
use Rattle.dfdl_parse.specs.Stating.{behind_done, comes_to, make_statement, with_behind}
use Rattle.dfdl_terms.specs.declared.statement.Statement.{Statement as AnyStatement}
use Rattle.dfdl_terms.specs.declared.statement.Statement.TheVariants.{Pattern, Expression, Setting, Calculation, Question, Opening}
use Rattle.dfdl_terms.specs.declared.statement.Statements.{Statements}
use Rattle.dfdl_paths.specs.declared.place.Start.{Start}
use Rattle.dfdl_paths.specs.declared.place.Start.TheVariants.{At, Inside}
use Rattle.dfdl_grammar.specs.Statements.{concluded, concluded_at, reconsidered_from, stated, statement_of}
use Rattle.dfdl_parse.proofs.Stated.{stated-nothing}

module _ (input : Input) (table : Table) where
  -- one representation of an element, where the costs before it are given
  attempt-ahead : (cost : Tally) (held : Held) (id : ℕ) (parts : Parts) (instead : Instead) (k : List Frame) (s : State) → parts.body < id → (room : Bool)
      → Does input table
      (finish input table k (spend cost (spend one_row (cond room
      (let o : Outcome = below input table id parts.body (begun id instead s) in close o.end s.inside parts.complex o)
      (ended (Stopped (Limit Nodes) input.limits.nodes) s)))))
      (cond room
      (pass (plus cost one_row) held (Enter parts.body) (Element s.inside parts.complex ∷ k) (begun id instead s))
      (pass (plus cost one_row) held (Leave (Stopped (Limit Nodes) input.limits.nodes)) k s))
  unfolding finish
  attempt-ahead cost held id parts instead k s less true =
      let o : Outcome = below input table id parts.body (begun id instead s) in
      ap (finish input table k) (spend-spend cost one_row (close o.end s.inside parts.complex o))
      ∙ finish-spend input table k (plus cost one_row) (close o.end s.inside parts.complex o)
      ∙ ap (λ (o : Outcome). spend (plus cost one_row) (finish input table k (close o.end s.inside parts.complex o)))
      (below-meaning input table id parts.body (begun id instead s) less)
  attempt-ahead cost held id parts instead k s less false =
      ap (finish input table k) (spend-spend cost one_row (ended (Stopped (Limit Nodes) input.limits.nodes) s))
      ∙ finish-spend input table k (plus cost one_row) (ended (Stopped (Limit Nodes) input.limits.nodes) s)

  -- one of several representations, by what follows it
  tried-ahead : (cost : Tally) (id : ℕ) (parts : Parts) (follows : Next) (o : Outcome) (k : List Frame)
      → parts_of parts.occurrence (slice_get table.rows id) ≡ Some parts
      → finish input table k (spend cost (retried input table id (Some parts) follows o)) ≡ finish input table (Trial id parts.occurrence follows ∷ k) (spend cost o)
  unfolding finish
  tried-ahead cost id parts follows o k is =
      ap (finish input table k) (sym (retried-spend input table id (Some parts) follows cost o))
      ∙ ap (λ (p : Option Parts). finish input table k (retried input table id p follows (spend cost o))) (sym is)

  module _ (cost : Tally) (held : Held) (id : ℕ) (parts : Parts) (k : List Frame) (s : State)
      (is : parts_of parts.occurrence (slice_get table.rows id) ≡ Some parts) (less : parts.body < id) where
    abbrev room : Bool
    room = nat_lt (length s.nodes) input.limits.nodes

    normal-ahead : Does input table (finish input table k (spend cost (then_normal (trial_of input table id parts) s)))
        (try_normal (plus cost one_row) input.limits.nodes held id parts k s)
    normal-ahead =
        tried-ahead cost id parts next.Nothing (trial_of input table id parts Nothing s) k is
        ∙ attempt-ahead cost held id parts Nothing (Trial id parts.occurrence next.Nothing ∷ k) s less room

    empty-ahead : (empty : Option ℕ) → Does input table (finish input table k (spend cost (then_empty parts.tried.refuses_empty empty (trial_of input table id parts) s)))
        (try_empty (plus cost one_row) input.limits.nodes held id parts empty k s)
    empty-ahead None = normal-ahead
    empty-ahead (Some prim) =
        tried-ahead cost id parts next.Normal (trial_of input table id parts (Empty prim) s) k is
        ∙ attempt-ahead cost held id parts (Empty prim) (Trial id parts.occurrence next.Normal ∷ k) s less room

    nil-ahead : (nil : Option ℕ) → Does input table (finish input table k (spend cost (then_nil parts.tried nil (trial_of input table id parts) s)))
        (try_nil (plus cost one_row) input.limits.nodes held id parts nil k s)
    nil-ahead None = empty-ahead parts.tried.empty
    nil-ahead (Some prim) =
        tried-ahead cost id parts next.Empty (trial_of input table id parts (Nil prim) s) k is
        ∙ attempt-ahead cost held id parts (Nil prim) (Trial id parts.occurrence next.Empty ∷ k) s less room

  element-ahead : (held : Held) (id : ℕ) (parts : Parts) (k : List Frame) (s : State)
      → parts_of parts.occurrence (slice_get table.rows id) ≡ Some parts → parts.body < id → (several : Bool)
      → Does input table
      (finish input table k (spend one_row (cond several
      (then_nil parts.tried parts.tried.nil (trial_of input table id parts) (marked s)) (trial_of input table id parts Nothing s))))
      (cond several (try_nil two_rows input.limits.nodes held id parts parts.tried.nil k (marked s)) (attempt two_rows input.limits.nodes held id parts Nothing k s))
  element-ahead held id parts k s is less true = nil-ahead one_row held id parts k (marked s) is less parts.tried.nil
  element-ahead held id parts k s is less false = attempt-ahead one_row held id parts Nothing k s less (nat_lt (length s.nodes) input.limits.nodes)

  -- the body of an element stands below it, and its row is asked as that of an occurrence that is tried, or not
  body-below : Nests table.rows → (id : ℕ) (occurrence : Bool) (parts : Parts) (r : Option Row) → slice_get table.rows id ≡ r
      → parts_of occurrence r ≡ Some parts → (parts.body < id) × (parts.occurrence ≡ occurrence)
  body-below nests id occurrence parts None is told = absurd (cc)
  body-below nests id occurrence parts (Some (Leaf prim)) is told = absurd (cc)
  body-below nests id occurrence parts (Some (Elem name simple tried statements body)) is told =
      let less : body < id = nests id (Elem name simple tried statements body) (slice_get_within table.rows id (Elem name simple tried statements body) is) is in
      subst (λ (p : Option Parts). IfSome p (λ q. (q.body < id) × (q.occurrence ≡ occurrence))) told (less, refl)
  body-below nests id occurrence parts (Some (Group children)) is told = absurd (cc)
  body-below nests id occurrence parts (Some (Skip bits)) is told = absurd (cc)
  body-below nests id occurrence parts (Some (Align bits)) is told = absurd (cc)
  body-below nests id occurrence parts (Some (Initiator delimiter)) is told = absurd (cc)
  body-below nests id occurrence parts (Some (Terminator delimiter separators)) is told = absurd (cc)
  body-below nests id occurrence parts (Some Separator) is told = absurd (cc)
  body-below nests id occurrence parts (Some (Scope list body)) is told = absurd (cc)
  body-below nests id occurrence parts (Some (Boxed bits body)) is told = absurd (cc)
  body-below nests id occurrence parts (Some (PrefixedLeaf prefix prim)) is told = absurd (cc)
  body-below nests id occurrence parts (Some (PrefixedBox prefix body)) is told = absurd (cc)
  body-below nests id occurrence parts (Some (MeasuredLeaf measure prim)) is told = absurd (cc)
  body-below nests id occurrence parts (Some (MeasuredBox measure body)) is told = absurd (cc)
  body-below nests id occurrence parts (Some (Repeat count body)) is told = absurd (cc)
  body-below nests id occurrence parts (Some (Counted question body)) is told = absurd (cc)
  body-below nests id occurrence parts (Some (Optional most item initiated body)) is told = absurd (cc)
  body-below nests id occurrence parts (Some (Choice rows initiated)) is told = absurd (cc)
  body-below nests id occurrence parts (Some (Dispatch question keys)) is told = absurd (cc)
  body-below nests id occurrence parts (Some (Statement number)) is told = absurd (cc)
  body-below nests id occurrence parts (Some (Concluded statements body)) is told = absurd (cc)
  body-below nests id occurrence parts (Some (Hidden body)) is told = absurd (cc)
  body-below nests id occurrence parts (Some (Spanned body)) is told = absurd (cc)
  body-below nests id occurrence parts (Some (Instance statement body)) is told = absurd (cc)
  body-below nests id occurrence parts (Some (Separated policy position initiated slots)) is told = absurd (cc)

  -- a representation that is done
  refused-trial : (held : Held) (marks : List Mark) (k : List Frame) (s : State)
      → Does input table (finish input table k (refused_among marks (ended Done s))) (refused marks held k s)
  refused-trial held [] k s = after_nothing input table k (ended Done s)
  refused-trial held (mark ∷ outer) k s =
      after_nothing input table k (ended (Failed RequiredEmpty mark.at) (closed (record s { inside = mark.nodes })))

  empty-trial : (held : Held) (next : State → Outcome) (refuses : Bool) (k : List Frame) (s : State)
      → Does input table (finish input table k (after_empty refuses (ended Done s) next))
      (cond refuses (refused s.marks held k s) (pass nothing held (Leave Done) k (closed s)))
  empty-trial held next true k s = refused-trial held s.marks k s
  empty-trial held next false k s = after_nothing input table k (ended Done (closed s))

  done-trial : (held : Held) (id : ℕ) (parts : Option Parts) (follows : Next) (k : List Frame) (s : State)
      → Does input table (finish input table k (retried input table id parts follows (ended Done s))) (trial_done held parts follows k s)
  done-trial held id None follows k s = after_nothing input table k (ended Done (closed s))
  done-trial held id (Some parts) next.Empty k s = after_nothing input table k (ended Done (closed s))
  done-trial held id (Some parts) next.Normal k s =
      empty-trial held (then_normal (trial_of input table id parts)) parts.tried.refuses_empty k s
  done-trial held id (Some parts) next.Nothing k s = after_nothing input table k (ended Done (closed s))

  -- and one that has come to a limit
  stopped-empty : (next : State → Outcome) (refuses : Bool) (cause : Halt) (quantity : ℕ) (s : State)
      → after_empty refuses (ended (Stopped cause quantity) s) next ≡ ended (Stopped cause quantity) s
  stopped-empty next true cause quantity s = refl
  stopped-empty next false cause quantity s = refl

  stopped-trial : (id : ℕ) (parts : Option Parts) (follows : Next) (cause : Halt) (quantity : ℕ) (s : State)
      → retried input table id parts follows (ended (Stopped cause quantity) s) ≡ ended (Stopped cause quantity) s
  stopped-trial id None follows cause quantity s = refl
  stopped-trial id (Some parts) next.Empty cause quantity s = refl
  stopped-trial id (Some parts) next.Normal cause quantity s = stopped-empty (then_normal (trial_of input table id parts)) parts.tried.refuses_empty cause quantity s
  stopped-trial id (Some parts) next.Nothing cause quantity s = refl

  -- and one that has failed
  failed-empty : (next : State → Outcome) (refuses : Bool) (cause : ParseCause) (bit : ℕ) (s : State)
      → after_empty refuses (ended (Failed cause bit) s) next ≡ or_else (Failed cause bit) (ended (Failed cause bit) s) next
  failed-empty next true cause bit s = refl
  failed-empty next false cause bit s = refl

  -- as what its row was asked
  asked-as : (id : ℕ) (occurrence : Bool) (parts : Parts) → parts.occurrence ≡ occurrence → parts_of occurrence (slice_get table.rows id) ≡ Some parts
      → parts_of parts.occurrence (slice_get table.rows id) ≡ Some parts
  asked-as id occurrence parts same is = subst (λ (b : Bool). parts_of b (slice_get table.rows id) ≡ Some parts) (sym same) is

  retry-ahead : Nests table.rows → (held : Held) (id : ℕ) (occurrence : Bool) (parts : Option Parts) (follows : Next) (cause : ParseCause) (bit : ℕ) (k : List Frame) (s : State)
      → parts_of occurrence (slice_get table.rows id) ≡ parts
      → Does input table (finish input table k (retried input table id parts follows (ended (Failed cause bit) s)))
      (retry input.limits.nodes held id parts follows (Failed cause bit) k s)
  retry-ahead nests held id occurrence None follows cause bit k s is = after_nothing input table k (ended (Failed cause bit) (closed s))
  retry-ahead nests held id occurrence (Some parts) next.Empty cause bit k s is =
      let there = body-below nests id occurrence parts (slice_get table.rows id) refl is in
      empty-ahead nothing held id parts k (back s) (asked-as id occurrence parts there.1 is) there.0 parts.tried.empty
  retry-ahead nests held id occurrence (Some parts) next.Normal cause bit k s is =
      let there = body-below nests id occurrence parts (slice_get table.rows id) refl is in
      ap (finish input table k) (failed-empty (then_normal (trial_of input table id parts)) parts.tried.refuses_empty cause bit s)
      ∙ normal-ahead nothing held id parts k (back s) (asked-as id occurrence parts there.1 is) there.0
  retry-ahead nests held id occurrence (Some parts) next.Nothing cause bit k s is = after_nothing input table k (ended (Failed cause bit) (closed s))

  -- fill begins
  enter-fill : (held : Held) (to : ℕ) (k : List Frame) (s : State) → (over inside : Bool)
      → Does input table
      (finish input table k (spend one_row (cond over (ended Done s) (cond inside (fill_to input to s) (ended (Failed LengthOutOfRange s.at) s)))))
      (cond over (pass one_row held (Leave Done) k s)
      (cond inside (pass one_row held (Pass to) k s) (pass one_row held (Leave (Failed LengthOutOfRange s.at)) k s)))
  enter-fill held to k s true inside = finish-spend input table k one_row (ended Done s)
  enter-fill held to k s false true = finish-spend input table k one_row (fill_to input to s)
  enter-fill held to k s false false = finish-spend input table k one_row (ended (Failed LengthOutOfRange s.at) s)

  -- the outcome of fill whose last byte is seen as this, where the first byte that is still needed is given
  abbrev pub filled : ℕ → ℕ → Seen → State → Outcome
  filled low to v s =
      let reading : Reading Bool = on_seen (seen_in input.bytes input.limits.window low) (λ byte. Answer (is_some byte)) ((to - 1) / 8) nothing v in
      spend (needs_from low reading.tally) (passed input.limits.window to reading.reached s)

  filled-ahead : (sight : Held) (low to : ℕ) (v : Seen) (k : List Frame) (s : State) → (fill_move input.limits.window sight low to v k s).waits ≡ false
      → Does input table (finish input table k (filled low to v s)) (fill_move input.limits.window sight low to v k s)
  filled-ahead sight low to (Byte b) k s going = finish-spend input table k (needs_from low (saw_byte ((to - 1) / 8) nothing)) (ended Done (record s { at = to }))
  filled-ahead sight low to DataEnded k s going = finish-spend input table k (needs_from low (saw_end ((to - 1) / 8) nothing)) (ended (Failed DataEnds s.at) s)
  filled-ahead sight low to NotYet k s going = absurd (cc)
  filled-ahead sight low to Over k s going = finish-spend input table k (needs_from low (saw_none nothing)) (ended (Stopped (Limit Window) input.limits.window) s)

  -- a look that isn't in vain
  came : (window : ℕ) (sight : Held) (low to : ℕ) (v : Seen) (k : List Frame) (s : State) → (fill_move window sight low to v k s).waits ≡ false → v ≡ NotYet → ⊥
  came window sight low to (Byte b) k s going is = absurd (cc)
  came window sight low to DataEnded k s going is = absurd (cc)
  came window sight low to NotYet k s going is = absurd (cc)
  came window sight low to Over k s going is = absurd (cc)

  fill-ahead : (held : Held) (to : ℕ) (k : List Frame) (s : State) → Fits held input (Pass to) s → (fill input.limits held to k s).waits ≡ false
      → Does input table (finish input table k (fill_to input to s)) (fill input.limits held to k s)
  fill-ahead held to k s fits going =
      let last : ℕ = (to - 1) / 8 in
      let low : ℕ = anchor_at s (to - 1) in
      let sight : Held = from_byte held (min low (end_of held)) in
      let seen : Seen = seen_beyond held low last in
      let same : seen ≡ seen_in input.bytes input.limits.window low last =
      beyond-same held low last fits.stands.0 fits.stands.1 input.bytes fits.agrees (came input.limits.window sight low to seen k s going)
      ∙ ap (λ (size : ℕ). seen_in input.bytes size low last) fits.size in
      ap (λ (v : Seen). finish input table k (filled low to v s)) (sym same)
      ∙ filled-ahead sight low to seen k s going

  -- what follows a byte of the rest of a box
  abbrev pub after_one : ℕ → Outside → State → Outcome
  after_one byte outer s = let o : Outcome = pass_bytes input (bytes_up_to s.stop (byte + 1)) (byte + 1) s in unboxed o.end outer.stop outer.hidden o

  past-ahead : (sight : Held) (low byte : ℕ) (outer : Outside) (k : List Frame) (s : State) (last : Bool) → nat_le ((s.stop - 1) / 8) byte ≡ last
      → Does input table (finish input table k (spend (needs_from low (saw_byte byte nothing)) (after_one byte outer s)))
      (cond last (pass (needs_from low (saw_byte byte nothing)) sight (Leave Done) k (back_outside outer (record s { at = s.stop })))
      (pass (needs_from low (saw_byte byte nothing)) sight (PassRest (8 * (byte + 1)) outer) k s))
  past-ahead sight low byte outer k s true is =
      let none : bytes_up_to s.stop (byte + 1) ≡ 0 = grind (arith, nat_tests) in
      finish-spend input table k (needs_from low (saw_byte byte nothing)) (after_one byte outer s)
      ∙ ap (λ (n : ℕ). spend (needs_from low (saw_byte byte nothing)) (finish input table k
      (unboxed (pass_bytes input n (byte + 1) s).end outer.stop outer.hidden (pass_bytes input n (byte + 1) s)))) none
  past-ahead sight low byte outer k s false is =
      let at : byte + 1 ≡ 8 * (byte + 1) / 8 = omega arith in
      finish-spend input table k (needs_from low (saw_byte byte nothing)) (after_one byte outer s)
      ∙ ap (λ (b : ℕ). spend (needs_from low (saw_byte byte nothing)) (finish input table k
      (unboxed (pass_bytes input (bytes_up_to s.stop b) b s).end outer.stop outer.hidden (pass_bytes input (bytes_up_to s.stop b) b s)))) at

  -- the outcome of the rest of a box from a byte on that is seen as this, where the first byte that is still needed is given
  abbrev pub rested : ℕ → ℕ → Outside → Seen → State → Outcome
  rested low byte outer v s =
      let reading : Reading Bool = on_seen (seen_in input.bytes input.limits.window low) (λ b. Answer (is_some b)) byte nothing v in
      let o : Outcome = spend (needs_from low reading.tally) (past_byte input.limits.window reading.reached (pass_bytes input (bytes_up_to s.stop (byte + 1)) (byte + 1)) s) in
      unboxed o.end outer.stop outer.hidden o

  rested-ahead : (sight : Held) (low bit : ℕ) (outer : Outside) (v : Seen) (k : List Frame) (s : State)
      → (rest_move input.limits.window sight low bit outer v k s).waits ≡ false
      → Does input table (finish input table k (rested low (bit / 8) outer v s)) (rest_move input.limits.window sight low bit outer v k s)
  rested-ahead sight low bit outer (Byte b) k s going =
      let byte : ℕ = bit / 8 in
      let o : Outcome = pass_bytes input (bytes_up_to s.stop (byte + 1)) (byte + 1) s in
      ap (finish input table k) (unboxed-spend o.end (needs_from low (saw_byte byte nothing)) outer.stop outer.hidden o)
      ∙ past-ahead sight low byte outer k s (nat_le ((s.stop - 1) / 8) byte) refl
  rested-ahead sight low bit outer DataEnded k s going = finish-spend input table k (needs_from low (saw_end (bit / 8) nothing)) (ended (Failed DataEnds s.at) (hides outer.hidden s))
  rested-ahead sight low bit outer NotYet k s going = absurd (cc)
  rested-ahead sight low bit outer Over k s going = finish-spend input table k (needs_from low (saw_none nothing)) (ended (Stopped (Limit Window) input.limits.window) s)

  -- a look at the rest that isn't in vain
  rest-came : (window : ℕ) (sight : Held) (low bit : ℕ) (outer : Outside) (v : Seen) (k : List Frame) (s : State)
      → (rest_move window sight low bit outer v k s).waits ≡ false → v ≡ NotYet → ⊥
  rest-came window sight low bit outer (Byte b) k s going is = absurd (cc)
  rest-came window sight low bit outer DataEnded k s going is = absurd (cc)
  rest-came window sight low bit outer NotYet k s going is = absurd (cc)
  rest-came window sight low bit outer Over k s going is = absurd (cc)

  -- the rest of a box has a byte
  pub rest-seen : (bit : ℕ) (outer : Outside) (k : List Frame) (s : State) → bit < s.stop
      → from_here input table (PassRest bit outer) k s
      ≡ finish input table k (rested (anchor_at s (8 * (bit / 8))) (bit / 8) outer
      (seen_in input.bytes input.limits.window (anchor_at s (8 * (bit / 8))) (bit / 8)) s)
  rest-seen bit outer k s inside =
      let byte : ℕ = bit / 8 in
      let some : bytes_up_to s.stop byte ≡ suc (bytes_up_to s.stop (byte + 1)) = omega arith in
      ap (λ (n : ℕ). finish input table k (unboxed (pass_bytes input n byte s).end outer.stop outer.hidden (pass_bytes input n byte s))) some

  rest-of : (held : Held) (bit : ℕ) (outer : Outside) (k : List Frame) (s : State) → Fits held input (PassRest bit outer) s
      → (pass_rest input.limits held bit outer k s).waits ≡ false
      → Does input table (from_here input table (PassRest bit outer) k s) (pass_rest input.limits held bit outer k s)
  rest-of held bit outer k s fits going =
      let byte : ℕ = bit / 8 in
      let low : ℕ = anchor_at s (8 * byte) in
      let sight : Held = from_byte held (min low (end_of held)) in
      let seen : Seen = seen_beyond held low byte in
      let same : seen ≡ seen_in input.bytes input.limits.window low byte =
      beyond-same held low byte fits.stands.0 fits.stands.1.1 input.bytes fits.agrees (rest-came input.limits.window sight low bit outer seen k s going)
      ∙ ap (λ (size : ℕ). seen_in input.bytes size low byte) fits.size in
      rest-seen bit outer k s fits.stands.1.0
      ∙ ap (λ (v : Seen). finish input table k (rested low byte outer v s)) (sym same)
      ∙ rested-ahead sight low bit outer seen k s going

  -- a box ends, or its rest begins
  leave-box : (held : Held) (outer : Outside) (from : ℕ) (k : List Frame) (s : State) (over : Bool) → nat_le s.stop s.at ≡ over
      → Does input table
      (finish input table k
      (let o : Outcome = cond over (ended Done (filled_from from s)) (pass_bytes input (bytes_up_to s.stop (s.at / 8)) (s.at / 8) (filled_from from s)) in
      unboxed o.end outer.stop outer.hidden o))
      (cond over (pass nothing held (Leave Done) k (back_outside outer (filled_from from s))) (pass nothing held (PassRest s.at outer) k (filled_from from s)))
  leave-box held outer from k s true is = after_nothing input table k (ended Done (back_outside outer (filled_from from s)))
  leave-box held outer from k s false is = after_nothing input table k (focused input table (PassRest s.at outer) (filled_from from s))

  group-ahead : (held : Held) (id : ℕ) (children : List ℕ) (k : List Frame) (s : State) → children_of (slice_get table.rows id) ≡ children
      → All (λ c. c < id) children
      → Does input table (finish input table k (spend one_row (group (below input table id) children s))) (enter_group held id children k s)
  unfolding finish
  group-ahead held id [] k s is all = finish-spend input table k one_row (ended Done s)
  group-ahead held id (child ∷ rest) k s is all =
      finish-spend input table k one_row (then_do (below input table id child s) (group (below input table id) rest))
      ∙ ap (λ (o : Outcome). spend one_row (finish input table k (then_do o (group (below input table id) rest)))) (below-meaning input table id child s (all 0 child (omega arith)))
      ∙ ap (λ (rows : List ℕ). spend one_row (finish input table k (then_do (meaning input table child s) (group (below input table id) rows))))
      (sym (ap (drop 1) is))

  -- what stands before a component with statements behind it
  behind-finish : (statements : Statements) (start : Start) (k : List Frame) (o : Outcome)
      → finish input table (with_behind statements start k) o ≡ finish input table k (concluded input.limits table start statements o)
  unfolding finish
  behind-finish statements start k o = by (nat_eq statements.count 0)
    where
      by : (none : Bool) → finish input table (cond none k (Concluding statements start ∷ k)) o
          ≡ finish input table k (cond none o (concluded_at o.end input.limits table start statements o))
      by true = refl
      by false = refl

  behind-spend : (statements : Statements) (start : Start) (t : Tally) (o : Outcome)
      → concluded input.limits table start statements (spend t o) ≡ spend t (concluded input.limits table start statements o)
  behind-spend statements start t o = by (nat_eq statements.count 0)
    where
      by : (none : Bool) → cond none (spend t o) (concluded_at o.end input.limits table start statements (spend t o))
          ≡ spend t (cond none o (concluded_at o.end input.limits table start statements o))
      by true = refl
      by false = concluded-spend o.end input.limits table start statements t o

  behind-ahead : (statements : Statements) (start : Start) (k : List Frame) (t : Tally) (o : Outcome)
      → finish input table k (spend t (concluded input.limits table start statements o)) ≡ finish input table (with_behind statements start k) (spend t o)
  behind-ahead statements start k t o =
      ap (finish input table k) (sym (behind-spend statements start t o)) ∙ sym (behind-finish statements start k (spend t o))

  -- a statement that doesn't look at the data
  stated-ahead : (held : Held) (start : Start) (number : ℕ) (found : Option AnyStatement) (k : List Frame) (s : State)
      → Does input table (finish input table k (spend one_row (stated input.limits table start number found s)))
      (comes_to one_row held (stated input.limits table start number found s) k)
  stated-ahead held start number found k s =
      let o : Outcome = stated input.limits table start number found s in
      finish-spend input table k one_row o
      ∙ ap (λ (t : Tally). spend one_row (finish input table k (record { end = o.end; state = o.state; tally = t })))
      (stated-nothing input.limits table start number found s)

  statement-ahead : (held : Held) (id number : ℕ) (found : Option AnyStatement) (k : List Frame) (s : State) → Sees held input s
      → (make_statement one_row input.limits table (Enter id) held number found k s).waits ≡ false
      → Does input table (finish input table k (spend one_row (statement_of input table number found s)))
      (make_statement one_row input.limits table (Enter id) held number found k s)
  statement-ahead held id number None k s sees going = stated-ahead held (Inside s.inside) number None k s
  statement-ahead held id number (Some (Pattern test)) k s sees going = test-ahead input table (Enter id) held number test k s sees going
  statement-ahead held id number (Some (Expression test)) k s sees going = stated-ahead held (Inside s.inside) number (Some (Expression test)) k s
  statement-ahead held id number (Some (Setting setting)) k s sees going = stated-ahead held (Inside s.inside) number (Some (Setting setting)) k s
  statement-ahead held id number (Some (Calculation calculation)) k s sees going =
      stated-ahead held (At s.inside) number (Some (Calculation calculation)) k s
  statement-ahead held id number (Some (Question question)) k s sees going = stated-ahead held (Inside s.inside) number (Some (Question question)) k s
  statement-ahead held id number (Some (Opening opening)) k s sees going = stated-ahead held (Inside s.inside) number (Some (Opening opening)) k s

  -- the window shows the data at a leaf
  sees : {focus : Focus} (held : Held) (s : State) → Anchored held s → Fits held input focus s → Sees held input s
  sees held s stands fits = record { agrees = fits.agrees; size = fits.size; stands = stands }

  -- the children of a row stand below it
  children-below : Nests table.rows → (id : ℕ) (r : Option Row) → slice_get table.rows id ≡ r → All (λ c. c < id) (children_of r)
  children-below nests id None is = λ i row less. absurd (omega arith)
  children-below nests id (Some (Leaf prim)) is = λ i row less. absurd (omega arith)
  children-below nests id (Some (Elem name simple tried statements body)) is = λ i row less. absurd (omega arith)
  children-below nests id (Some (Group children)) is = nests id (Group children) (slice_get_within table.rows id (Group children) is) is
  children-below nests id (Some (Skip bits)) is = λ i row less. absurd (omega arith)
  children-below nests id (Some (Align bits)) is = λ i row less. absurd (omega arith)
  children-below nests id (Some (Initiator delimiter)) is = λ i row less. absurd (omega arith)
  children-below nests id (Some (Terminator delimiter separators)) is = λ i row less. absurd (omega arith)
  children-below nests id (Some Separator) is = λ i row less. absurd (omega arith)
  children-below nests id (Some (Scope list body)) is = λ i row less. absurd (omega arith)
  children-below nests id (Some (Boxed bits body)) is = λ i row less. absurd (omega arith)
  children-below nests id (Some (PrefixedLeaf prefix prim)) is = λ i row less. absurd (omega arith)
  children-below nests id (Some (PrefixedBox prefix body)) is = λ i row less. absurd (omega arith)
  children-below nests id (Some (MeasuredLeaf measure prim)) is = λ i row less. absurd (omega arith)
  children-below nests id (Some (MeasuredBox measure body)) is = λ i row less. absurd (omega arith)
  children-below nests id (Some (Repeat count body)) is =
      All-replicate (λ c. c < id) count body (nests id (Repeat count body) (slice_get_within table.rows id (Repeat count body) is) is)
  children-below nests id (Some (Counted question body)) is = λ i row less. absurd (omega arith)
  children-below nests id (Some (Optional most item initiated body)) is = λ i row less. absurd (omega arith)
  children-below nests id (Some (Choice rows initiated)) is = nests id (Choice rows initiated) (slice_get_within table.rows id (Choice rows initiated) is) is
  children-below nests id (Some (Dispatch question keys)) is = λ i row less. absurd (omega arith)
  children-below nests id (Some (Statement number)) is = λ i row less. absurd (omega arith)
  children-below nests id (Some (Concluded statements body)) is = λ i row less. absurd (omega arith)
  children-below nests id (Some (Hidden body)) is = λ i row less. absurd (omega arith)
  children-below nests id (Some (Spanned body)) is = λ i row less. absurd (omega arith)
  children-below nests id (Some (Instance statement body)) is = λ i row less. absurd (omega arith)
  children-below nests id (Some (Separated policy position initiated slots)) is = λ i row less. absurd (omega arith)

  span-ahead : (held : Held) (id body : ℕ) (k : List Frame) (s : State) → body < id
      → Does input table (finish input table k (spend one_row (spanned (below input table id body) s))) (pass one_row held (Enter body) (Spanning s.at ∷ k) s)
  unfolding finish
  span-ahead held id body k s less =
      finish-spend input table k one_row (spanned (below input table id body) s)
      ∙ ap (λ (o : Outcome). spend one_row (finish input table k (then_do o (span_ends s.at)))) (below-meaning input table id body s less)

  enter-ahead : Nests table.rows → (held : Held) (id : ℕ) (r : Option Row) (k : List Frame) (s : State) → slice_get table.rows id ≡ r → Fits held input (Enter id) s
      → (enter input.limits table held id r k s).waits ≡ false
      → Does input table (finish input table k (spend one_row (row input table (below input table id) id r s))) (enter input.limits table held id r k s)
  enter-ahead nests held id None k s is fits going = finish-spend input table k one_row (ended Done s)
  enter-ahead nests held id (Some (Leaf prim)) k s is fits going =
      leaf-of input table one_row (Enter id) held (nil_values table.primitives s.instead)
      (slice_get table.primitives (read_by table.primitives s.instead prim)) k s (sees held s fits.stands fits) going
  enter-ahead nests held id (Some (Elem name simple tried statements body)) k s is fits going =
      let less : body < id = nests id (Elem name simple tried statements body) (slice_get_within table.rows id (Elem name simple tried statements body) is) is in
      let start : Start = At (length s.nodes) in
      behind-ahead statements start k one_row (element input id (has_elements simple) tried (below input table id body) s)
      ∙ element-ahead held id (parts_here s.instead (has_elements simple) tried body) (with_behind statements start k) s
      (ap (parts_of (is_occurrence s.instead)) is) less
      (parts_here s.instead (has_elements simple) tried body).tried.are_several
  enter-ahead nests held id (Some (Group children)) k s is fits going =
      group-ahead held id children k s (ap children_of is) (nests id (Group children) (slice_get_within table.rows id (Group children) is) is)
  enter-ahead nests held id (Some (Skip bits)) k s is fits going = enter-fill held (s.at + bits) k s (nat_le (s.at + bits) s.at) (nat_le (s.at + bits) s.stop)
  enter-ahead nests held id (Some (Align bits)) k s is fits going =
      enter-fill held (aligned bits s.at) k s (nat_le (aligned bits s.at) s.at) (nat_le (aligned bits s.at) s.stop)
  enter-ahead nests held id (Some (Initiator delimiter)) k s is fits going = delimiter-ahead input table held (sought.Initiator delimiter.list delimiter.resolves) k s (stands_in s.instead delimiter)
  enter-ahead nests held id (Some (Terminator delimiter separators)) k s is fits going =
      delimiter-ahead input table held (sought.Terminator delimiter.list separators) k s (stands_in s.instead delimiter)
  enter-ahead nests held id (Some Separator) k s is fits going = separator-ahead input table held k s
  enter-ahead nests held id (Some (Scope list body)) k s is fits going =
      let less : body < id = nests id (Scope list body) (slice_get_within table.rows id (Scope list body) is) is in
      scope-ahead input table held id list body k s less
  enter-ahead nests held id (Some (Boxed bits body)) k s is fits going =
      let less : body < id = nests id (Boxed bits body) (slice_get_within table.rows id (Boxed bits body) is) is in
      finish-spend input table k one_row (boxed input bits (below input table id body) s)
      ∙ ap (spend one_row) (box-ahead input table id bits body k s less (nat_le (s.at + bits) s.stop))
  enter-ahead nests held id (Some (PrefixedLeaf prefix prim)) k s is fits going =
      let by : ℕ = read_by table.primitives s.instead prim in
      let nil : Option (List Value) = nil_values table.primitives s.instead in
      let primitive : Option Primitive = slice_get table.primitives by in
      prefix-of input table id prefix.own (λ units after. sized_leaf input table.delimiters nil primitive (size_of prefix.unit units) after)
      (behind_units table.primitives prefix.unit (behind.Leaf by)) k s
      (λ units at. sized-begin input table by (size_of prefix.unit units) primitive k (record s { at = at }) refl)
      held (slice_get table.primitives prefix.prim) (sees held s fits.stands fits) going
  enter-ahead nests held id (Some (Repeat count body)) k s is fits going =
      group-ahead held id (replicate count body) k s (ap children_of is) (children-below nests id (Some (Repeat count body)) is)
  enter-ahead nests held id (Some (Optional most item initiated body)) k s is fits going =
      let less : body < id = nests id (Optional most item initiated body) (slice_get_within table.rows id (Optional most item initiated body) is) is in
      first-ahead input table held id body initiated most k s less
  enter-ahead nests held id (Some (Choice rows initiated)) k s is fits going =
      branch-ahead input table one_row held id 0 rows (slice_get rows 0) k (pointed initiated s) (ap children_of is) (children-below nests id (Some (Choice rows initiated)) is) refl
  enter-ahead nests held id (Some (PrefixedBox prefix body)) k s is fits going =
      let less : body < id = nests id (PrefixedBox prefix body) (slice_get_within table.rows id (PrefixedBox prefix body) is) is in
      prefix-of input table id prefix.own (λ units after. boxed input (bits_of_units prefix.unit units) (below input table id body) after)
      (behind_units table.primitives prefix.unit (behind.Box body)) k s
      (λ units at. box-ahead input table id (bits_of_units prefix.unit units) body k (record s { at = at }) less
      (nat_le (at + bits_of_units prefix.unit units) s.stop))
      held (slice_get table.primitives prefix.prim) (sees held s fits.stands fits) going
  enter-ahead nests held id (Some (MeasuredLeaf measure prim)) k s is fits going =
      measured_leaf-ahead input table held measure (read_by table.primitives s.instead prim) k s
  enter-ahead nests held id (Some (MeasuredBox measure body)) k s is fits going =
      let less : body < id = nests id (MeasuredBox measure body) (slice_get_within table.rows id (MeasuredBox measure body) is) is in
      measured_box-ahead input table held id measure body k s less
  enter-ahead nests held id (Some (Counted question body)) k s is fits going =
      let less : body < id = nests id (Counted question body) (slice_get_within table.rows id (Counted question body) is) is in
      counted-ahead input table held id question body k s less
  enter-ahead nests held id (Some (Dispatch question keys)) k s is fits going =
      dispatch-ahead input table held id question keys k s (nests id (Dispatch question keys) (slice_get_within table.rows id (Dispatch question keys) is) is)
  enter-ahead nests held id (Some (Statement number)) k s is fits going =
      statement-ahead held id number (slice_get table.statements number) k s (sees held s fits.stands fits) going
  enter-ahead nests held id (Some (Concluded statements body)) k s is fits going =
      let less : body < id = nests id (Concluded statements body) (slice_get_within table.rows id (Concluded statements body) is) is in
      let start : Start = Inside s.inside in
      behind-ahead statements start k one_row (below input table id body s)
      ∙ finish-spend input table (with_behind statements start k) one_row (below input table id body s)
      ∙ ap (λ (o : Outcome). spend one_row (finish input table (with_behind statements start k) o)) (below-meaning input table id body s less)
  enter-ahead nests held id (Some (Hidden body)) k s is fits going =
      let less : body < id = nests id (Hidden body) (slice_get_within table.rows id (Hidden body) is) is in
      finish-spend input table k one_row (below input table id body s)
      ∙ ap (λ (o : Outcome). spend one_row (finish input table k o)) (below-meaning input table id body s less)
  enter-ahead nests held id (Some (Spanned body)) k s is fits going =
      let less : body < id = nests id (Spanned body) (slice_get_within table.rows id (Spanned body) is) is in
      span-ahead held id body k s less
  enter-ahead nests held id (Some (Instance statement body)) k s is fits going =
      let less : body < id = nests id (Instance statement body) (slice_get_within table.rows id (Instance statement body) is) is in
      instanced-ahead input table held id statement body k s less
  enter-ahead nests held id (Some (Separated policy position initiated slots)) k s is fits going =
      separated-ahead input table held id policy position initiated slots k s is
      (all-below id slots (nests id (Separated policy position initiated slots) (slice_get_within table.rows id (Separated policy position initiated slots) is) is))

  rest-ahead : Nests table.rows → (held : Held) (id next : ℕ) (child : Option ℕ) (k : List Frame) (s : State)
      → slice_get (children_of (slice_get table.rows id)) next ≡ child
      → Does input table (finish input table (Rest id next ∷ k) (ended Done s)) (go_on held id next child k s)
  unfolding finish
  rest-ahead nests held id next None k s is =
      ap (λ (rows : List ℕ). finish input table k (then_do (ended Done s) (group (below input table id) rows))) (drop_none _ next is)
      ∙ ap (finish input table k) (spend-nothing (ended Done s)) ∙ after_nothing input table k (ended Done s)
  rest-ahead nests held id next (Some child) k s is =
      let rows : List ℕ = children_of (slice_get table.rows id) in
      let less : child < id = all_at id rows next child (children-below nests id (slice_get table.rows id) refl) is in
      let last : State → Outcome = group (below input table id) (drop (next + 1) rows) in
      ap (λ (left : List ℕ). finish input table k (then_do (ended Done s) (group (below input table id) left))) (drop_some rows next child is)
      ∙ ap (finish input table k) (spend-nothing (then_do (below input table id child s) last))
      ∙ ap (λ (o : Outcome). finish input table k (then_do o last)) (below-meaning input table id child s less)
      ∙ after_nothing input table k (then_do (meaning input table child s) last)

  leave-ahead : Nests table.rows → (held : Held) (frame : Frame) (end : End) (k : List Frame) (s : State)
      → Does input table (finish input table (frame ∷ k) (ended end s)) (leave input.limits table held frame end k s)
  unfolding finish
  leave-ahead nests held (Rest id next) Done k s = rest-ahead nests held id next (slice_get (children_of (slice_get table.rows id)) next) k s refl
  leave-ahead nests held (Rest id next) (Failed cause bit) k s = after_nothing input table k (ended (Failed cause bit) s)
  leave-ahead nests held (Rest id next) (Stopped cause quantity) k s = after_nothing input table k (ended (Stopped cause quantity) s)
  leave-ahead nests held (Element outer complex) Done k s = after_nothing input table k (ended Done (left outer complex s))
  leave-ahead nests held (Element outer complex) (Failed cause bit) k s = after_nothing input table k (ended (Failed cause bit) s)
  leave-ahead nests held (Element outer complex) (Stopped cause quantity) k s = after_nothing input table k (ended (Stopped cause quantity) s)
  leave-ahead nests held (Box outer from) Done k s =
      ap (λ (o : Outcome). finish input table k (unboxed o.end outer.stop outer.hidden o)) (spend-nothing (rest_from input from s))
      ∙ leave-box held outer from k s (nat_le s.stop s.at) refl
  leave-ahead nests held (Box outer from) (Failed cause bit) k s = after_nothing input table k (ended (Failed cause bit) (hides outer.hidden s))
  leave-ahead nests held (Box outer from) (Stopped cause quantity) k s = after_nothing input table k (ended (Stopped cause quantity) s)
  leave-ahead nests held (Spanning from) Done k s =
      ap (finish input table k) (spend-nothing (span_ends from s)) ∙ after_nothing input table k (span_ends from s)
  leave-ahead nests held (Spanning from) (Failed cause bit) k s = after_nothing input table k (ended (Failed cause bit) s)
  leave-ahead nests held (Spanning from) (Stopped cause quantity) k s = after_nothing input table k (ended (Stopped cause quantity) s)
  leave-ahead nests held (ScopeFrame count) Done k s = after_nothing input table k (ended Done (closes_to count s))
  leave-ahead nests held (ScopeFrame count) (Failed cause bit) k s = after_nothing input table k (ended (Failed cause bit) (closes_to count s))
  leave-ahead nests held (ScopeFrame count) (Stopped cause quantity) k s = after_nothing input table k (ended (Stopped cause quantity) s)
  leave-ahead nests held (Trial id occurrence next) Done k s = done-trial held id (parts_of occurrence (slice_get table.rows id)) next k s
  leave-ahead nests held (Trial id occurrence next) (Failed cause bit) k s =
      retry-ahead nests held id occurrence (parts_of occurrence (slice_get table.rows id)) next cause bit k s refl
  leave-ahead nests held (Trial id occurrence next) (Stopped cause quantity) k s =
      ap (finish input table k) (stopped-trial id (parts_of occurrence (slice_get table.rows id)) next cause quantity s)
      ∙ after_nothing input table k (ended (Stopped cause quantity) s)
  leave-ahead nests held (Branch id next) Done k s = after_nothing input table k (ended Done (closed s))
  leave-ahead nests held (Branch id next) (Failed cause bit) k s =
      let rows : List ℕ = children_of (slice_get table.rows id) in
      failed-branch-ahead input table held id next rows (slice_get rows next) cause bit k s refl (children-below nests id (slice_get table.rows id) refl) refl
      (is_settled s.marks)
  leave-ahead nests held (Branch id next) (Stopped cause quantity) k s = after_nothing input table k (ended (Stopped cause quantity) s)
  leave-ahead nests held (Occurrence body initiated left) Done k s = passed-ahead input table held body initiated left k (as_normal s) (stays_at s.marks s.at)
  leave-ahead nests held (Occurrence body initiated left) (Failed cause bit) k s = failed-occurrence-ahead input table held cause bit k (as_normal s) (is_settled s.marks)
  leave-ahead nests held (Occurrence body initiated left) (Stopped cause quantity) k s = after_nothing input table k (ended (Stopped cause quantity) s)
  leave-ahead nests held (Times body left) Done k s = time-ahead input table held body left k s
  leave-ahead nests held (Times body left) (Failed cause bit) k s = after_nothing input table k (ended (Failed cause bit) s)
  leave-ahead nests held (Times body left) (Stopped cause quantity) k s = after_nothing input table k (ended (Stopped cause quantity) s)
  leave-ahead nests held (Before slot) Done k s = before_done-ahead input table held slot k s (slots_from table slot) refl (slots-below table nests slot)
  leave-ahead nests held (Before slot) (Failed cause bit) k s =
      before_failed-ahead input table held slot k s cause bit (slots_from table slot) refl (slots-below table nests slot)
  leave-ahead nests held (Before slot) (Stopped cause quantity) k s =
      before_stopped-ahead input table held slot k s cause quantity
  leave-ahead nests held (Content slot bit empty) Done k s =
      content_done-ahead input table held slot k (as_normal s) bit empty (slots_from table slot) refl (slots-below table nests slot)
  leave-ahead nests held (Content slot bit empty) (Failed cause at) k s =
      content_failed-ahead input table held slot k (as_normal s) bit empty cause at (slots_from table slot) refl (slots-below table nests slot)
  leave-ahead nests held (Content slot bit empty) (Stopped cause quantity) k s =
      content_stopped-ahead input table held slot k s bit empty cause quantity
  leave-ahead nests held (Closing slot bit) Done k s =
      closing_done-ahead input table held slot k s bit (slots_from table slot) refl (slots-below table nests slot)
  leave-ahead nests held (Closing slot bit) (Failed cause at) k s =
      closing_failed-ahead input table held slot k s bit cause at (slots_from table slot) refl (slots-below table nests slot)
  leave-ahead nests held (Closing slot bit) (Stopped cause quantity) k s =
      closing_stopped-ahead input table held slot k s bit cause quantity
  leave-ahead nests held (Aside slot) Done k s = beside-ahead input table held slot k s (slots-below table nests slot)
  leave-ahead nests held (Aside slot) (Failed cause bit) k s = after_nothing input table k (ended (Failed cause bit) s)
  leave-ahead nests held (Aside slot) (Stopped cause quantity) k s = after_nothing input table k (ended (Stopped cause quantity) s)
  leave-ahead nests held (Concluding statements start) Done k s = after_nothing input table k (behind_done input.limits table statements start s)
  leave-ahead nests held (Concluding statements start) (Failed cause bit) k s =
      after_nothing input table k (ended (Failed cause bit) (reconsidered_from table start statements.first statements.count s))
  leave-ahead nests held (Concluding statements start) (Stopped cause quantity) k s = after_nothing input table k (ended (Stopped cause quantity) s)
  leave-ahead nests held InstanceFrame Done k s = after_nothing input table k (ended Done (instance_closed s))
  leave-ahead nests held InstanceFrame (Failed cause bit) k s = after_nothing input table k (ended (Failed cause bit) (instance_closed s))
  leave-ahead nests held InstanceFrame (Stopped cause quantity) k s = after_nothing input table k (ended (Stopped cause quantity) s)

  pub step-ahead : Nests table.rows → (held : Held) (focus : Focus) (k : List Frame) (s : State) → Fits held input focus s
      → (step input.limits table held focus k s).waits ≡ false
      → Does input table (from_here input table focus k s) (step input.limits table held focus k s)
  unfolding meaning
  step-ahead nests held (Enter id) k s fits going = enter-ahead nests held id (slice_get table.rows id) k s refl fits going
  step-ahead nests held (Pass to) k s fits going = fill-ahead held to k s fits going
  step-ahead nests held (PassRest bit outer) k s fits going = rest-of held bit outer k s fits going
  step-ahead nests held (Sized prim size) k s fits going =
      sized-of input table held prim size (nil_values table.primitives s.instead) (slice_get table.primitives prim) k s (sees held s fits.stands fits) going
  step-ahead nests held (Seek what) k s fits going =
      seek-ahead input table held what k s fits.agrees fits.size fits.stands going
  step-ahead nests held (LookIn slot) k s fits going =
      look_in-ahead input table held slot k s fits.agrees fits.size fits.stands (slots_from table slot) refl (slots-below table nests slot) going
  step-ahead nests held (LookBehind slot bit) k s fits going =
      look_behind-ahead input table held slot k s fits.agrees fits.size fits.stands bit (slots_from table slot) refl (slots-below table nests slot) going
  step-ahead nests held (Count slot question) k s fits going =
      count-ahead input table held slot question k s (slots_from table slot) refl (slots-below table nests slot)
  step-ahead nests held (Leave end) [] s fits going = after_nothing input table [] (ended end s)
  step-ahead nests held (Leave end) (frame ∷ k) s fits going = leave-ahead nests held frame end k s
