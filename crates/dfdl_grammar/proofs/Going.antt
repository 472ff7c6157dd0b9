-- What rows do is added to what was there, but for the content of the open element. So going back to a mark gives what was there.
use Rattle.std.proofs.Common.{◌≡◌, inl, inr, ℕ, zero, suc, ◌+◌, ◌-◌, ◌*◌, ◌/◌, refl, List, [], ◌∷◌, ◌++◌, length, take, Bool, true, false, cond, nat_eq, nat_le, nat_lt, Option, Some, None, ap, sym, subst, ◌∙◌, arith, append-nil, replicate}
use Rattle.std.proofs.Math.Seq.{take-append_seam}
use Rattle.std.specs.Prelude.{slice_get}
use Rattle.dfdl_report.specs.declared.cause.LimitCause.TheVariants.{Nodes, Text as TextLimit}
use Rattle.dfdl_report.specs.declared.cause.ParseCause.{ParseCause}
use Rattle.dfdl_report.specs.declared.cause.ParseCause.TheVariants.{LengthOutOfRange, NegativeCount, RequiredEmpty}
use Rattle.dfdl_terms.specs.declared.keys.Key.{Key}
use Rattle.dfdl_terms.specs.declared.delimiters.Delimiters.{Delimiters}
use Rattle.dfdl_terms.specs.declared.representations.Representations.{Representations}
use Rattle.dfdl_value.specs.declared.value.Value.{Value}
use Rattle.dfdl_terms.specs.declared.row.Primitive.{Primitive}
use Rattle.dfdl_terms.specs.declared.row.Row.{Row}
use Rattle.dfdl_terms.specs.declared.row.Row.TheVariants.{Leaf, Elem, Group, Skip, Align, Initiator, Terminator, Separator, Scope, Boxed, PrefixedLeaf, PrefixedBox, MeasuredLeaf, MeasuredBox, Repeat, Counted, Optional, Choice as ChoiceRow, Dispatch, Statement, Concluded, Hidden, Spanned, Instance, Separated}
use Rattle.dfdl_separators.specs.declared.policy.SeparatorSuppressionPolicy.{SeparatorSuppressionPolicy}
use Rattle.dfdl_terms.specs.declared.slots.Slot.{Slot}
use Rattle.dfdl_terms.specs.declared.statement.Statements.{Statements}
use Rattle.dfdl_terms.specs.declared.text.TextSize.{TextSize}
use Rattle.dfdl_terms.specs.Rows.{Table}
use Rattle.dfdl_paths.specs.declared.place.Start.{Start}
use Rattle.dfdl_paths.specs.declared.place.Start.TheVariants.{At, Inside}
use Rattle.dfdl_expressions.specs.declared.node.Node.{Node as ExpressionNode}
use Rattle.dfdl_vars.specs.Kept.{Kept, entered}
use Rattle.dfdl_region.specs.declared.node.Node.{Node}
use Rattle.dfdl_region.specs.declared.node.Content.{Content}
use Rattle.dfdl_region.specs.declared.node.Content.TheVariants.{Begun, Complex, Text, Octets}
use Rattle.dfdl_region.specs.declared.node.Lengths.{Lengths}
use Rattle.dfdl_region.specs.Nodes.{with_content}
use Rattle.dfdl_looks.specs.Asks.{Reached, Told, TooFar, Missing, ask}
use Rattle.dfdl_looks.specs.Looks.{seen_in}
use Rattle.dfdl_looks.specs.Tallies.{needs_from, nothing}
use Rattle.dfdl_grammar.specs.declared.end.End.{End}
use Rattle.dfdl_grammar.specs.declared.end.End.TheVariants.{Done, Failed, Stopped}
use Rattle.dfdl_grammar.specs.declared.end.Halt.TheVariants.{Limit}
use Rattle.dfdl_grammar.specs.declared.instead.Instead.{Instead}
use Rattle.dfdl_grammar.specs.declared.instead.Instead.TheVariants.{Nothing, Nil, Empty}
use Rattle.dfdl_grammar.specs.declared.mark.Mark.{Mark}
use Rattle.dfdl_grammar.specs.States.{Input, State, anchor, anchor_at}
use Rattle.dfdl_grammar.specs.Outcomes.{Outcome, ended, follow, spend, then_do}
use Rattle.dfdl_grammar.specs.Marks.{closed, mark_at, marked}
use Rattle.dfdl_grammar.specs.Leaves.{Find, Fails, Finds, FindsOctets, FindsText, content_begins, default_find, has_room, land, leaf, nil_values, program_for, read_by, taken_as}
use Rattle.dfdl_grammar.specs.Framing.{aligned, fill_to, has_byte, passed}
use Rattle.dfdl_grammar.specs.Delimiters.{closes_to, lists_of, markup, opens, scoped, unscoped}
use Rattle.dfdl_grammar.specs.Boxes.{boxed, boxed_at, bytes_up_to, pass_bytes, past_byte, rest as rest_of, rest_from, unboxed}
use Rattle.dfdl_grammar.specs.Spans.{span_ends, spanned, with_span}
use Rattle.dfdl_grammar.specs.Marks.{with_known}
use Rattle.dfdl_grammar.specs.declared.span.Span.{Span}
use Rattle.dfdl_grammar.specs.Choices.{choice}
use Rattle.dfdl_grammar.specs.Occurrences.{as_occurrence, instead_in, occurrences, occurring, untried}
use Rattle.dfdl_grammar.specs.Slots.{Sequence, separated}
use Rattle.dfdl_grammar.specs.Elements.{attempted, begun, close, element, has_elements, left}
use Rattle.dfdl_grammar.specs.Statements.{concluded, told_at}
use Rattle.dfdl_grammar.specs.Prefixes.{bits_of_units, leaf_of, prefixed, resized, size_of, sized_leaf}
use Rattle.dfdl_grammar.specs.Questions.{asked_count, asked_key, question_at}
use Rattle.dfdl_grammar.specs.Rows.{below, group, meaning, row, row_at}
use Rattle.dfdl_grammar.specs.Instances.{closed_behind, instance_closed, instanced, opening_of, with_instance}
use Rattle.dfdl_grammar.proofs.Asked.{count-comes, key-comes}
use Rattle.dfdl_grammar.proofs.Entered.{entered_goes, through_goes}
use Rattle.dfdl_grammar.proofs.Opened.{opened-comes}
use Rattle.dfdl_grammar.proofs.Prefixed.{prefixed-comes}
use Rattle.dfdl_grammar.proofs.Pointed.{choice-carried, occurrences-carried}
use Rattle.dfdl_grammar.proofs.Represented.{AreMarked, GoesBack, again_at, any_ok, marked_by, refused, represented-comes}
use Rattle.dfdl_grammar.proofs.Resolved.{outer_same}
use Rattle.dfdl_grammar.proofs.Gone.{EndsBy, GoneBy, going, going-carried}
use Rattle.dfdl_grammar.proofs.Stated.{Restates, Tells, concluded-comes, statement-comes}
use Rattle.dfdl_grammar.proofs.Ways.{GoesOn, IsBack, IsWay, back_goes, goes_same, goes_twice}
use Rattle.dfdl_grammar.proofs.Slotted.{separated-carried}
use Rattle.dfdl_grammar.proofs.Sought.{initiator-comes, separator-comes, terminator-comes}
use Rattle.dfdl_grammar.proofs.Lengthened.{lengths-length}
use Rattle.dfdl_grammar.proofs.Grown.{any_one, begun-longer, behind, content-length, content_twice, lengths_twice, failed_returns, front_same, grown, grown_twice, is_nothing, kept_at, moved, moved_as, other_same, still, twice, unmarked_went, went_as, went_kept, Ends, Goes, Grown, Went}

module _ (input : Input) where
  put : (s : State) (at : ℕ) (bytes : List ℕ) (content : Content)
      → Went s.inside s Done (record s { at = at; text = s.text ++ bytes; nodes = with_content s.nodes s.inside content })
  put s at bytes content =
      let size = content-length s.nodes s.inside content in
      record {
        grown = record {
          longer = omega arith;
          kept = λ other lengths i few. ap (λ (ns : List Node). slice_get ns i) (content_twice s.nodes s.inside content other lengths);
          more = bytes;
          text = refl;
          ways = goes_same s.variables;
        };
        ends = record { marks = refl; inside = refl; instead = inl refl; lists = refl; hidden = refl };
      }

  put_alone : (s : State) (at : ℕ) (content : Content) → Went s.inside s Done (record s { at = at; nodes = with_content s.nodes s.inside content })
  put_alone s at content =
      let size = content-length s.nodes s.inside content in
      record {
        grown = record {
          longer = omega arith;
          kept = λ other lengths i few. ap (λ (ns : List Node). slice_get ns i) (content_twice s.nodes s.inside content other lengths);
          more = [];
          text = sym (append-nil s.text);
          ways = goes_same s.variables;
        };
        ends = record { marks = refl; inside = refl; instead = inl refl; lists = refl; hidden = refl };
      }

  -- the lengths of the open element
  spans : (content value : ℕ) (s : State) → Went s.inside s Done (with_span content value s)
  spans content value s =
      let lengths : Option Lengths = Some (record { content = content; value = value }) in
      let size = lengths-length s.nodes s.inside lengths in
      record {
        grown = record {
          longer = omega arith;
          kept = λ other last i few. ap (λ (ns : List Node). slice_get ns i) (lengths_twice s.nodes s.inside lengths last other);
          more = [];
          text = sym (append-nil s.text);
          ways = goes_same s.variables;
        };
        ends = record { marks = refl; inside = refl; instead = inl refl; lists = refl; hidden = refl };
      }

  hold-goes : (made : ℕ → ℕ → Content) (bytes : List ℕ) (span : Span) (s : State) (room : Bool)
      → (let o : Outcome = cond room (ended Done (record (taken_as (made (length s.text) (length bytes)) span s) { text = s.text ++ bytes }))
      (ended (Stopped (Limit TextLimit) input.limits.text) s) in Went s.inside s o.end o.state)
  hold-goes made bytes span s true =
      let content : Content = made (length s.text) (length bytes) in
      let t : State = record s { at = span.end; text = s.text ++ bytes; nodes = with_content s.nodes s.inside content } in
      behind s t (with_span (span.end - s.at) span.value t) Done (put s span.end bytes content) (spans (span.end - s.at) span.value t)
  hold-goes made bytes span s false = still s.inside (Stopped (Limit TextLimit) input.limits.text) s

  land-goes : (first : ℕ) (reached : Reached Find) → Goes (land input.limits first reached)
  land-goes first (Told (Fails cause)) s = still s.inside (land input.limits first (Told (Fails cause)) s).end s
  land-goes first (Told (Finds content span)) s =
      let t : State = record s { at = span.end; nodes = with_content s.nodes s.inside content } in
      behind s t (with_span (span.end - s.at) span.value t) Done (put_alone s span.end content) (spans (span.end - s.at) span.value t)
  land-goes first (Told (FindsOctets bytes span)) s = hold-goes Octets bytes span s (nat_le (length s.text + length bytes) input.limits.text)
  land-goes first (Told (FindsText bytes span)) s = hold-goes Text bytes span s (nat_le (length s.text + length bytes) input.limits.text)
  land-goes first TooFar s = still s.inside (land input.limits first TooFar s).end s
  land-goes first Missing s = still s.inside Done s

  room-goes : (delimiters : List Delimiters) (nil : Option (List Value)) (primitive : Primitive) (s : State) (room : Bool)
      → (let o : Outcome = cond room
      (let reading = ask (seen_in input.bytes input.limits.window (anchor s)) (program_for nil (lists_of delimiters (markup s)) primitive s.at s.stop) nothing in
      spend (needs_from (anchor s) reading.tally) (land input.limits (content_begins primitive s.at) reading.reached s))
      (ended (Failed LengthOutOfRange s.at) s) in Went s.inside s o.end o.state)
  room-goes delimiters nil primitive s true =
      land-goes (content_begins primitive s.at) (ask (seen_in input.bytes input.limits.window (anchor s)) (program_for nil (lists_of delimiters (markup s)) primitive s.at s.stop) nothing).reached s
  room-goes delimiters nil primitive s false = still s.inside (Failed LengthOutOfRange s.at) s

  leaf-goes : (delimiters : List Delimiters) (nil : Option (List Value)) (primitive : Option Primitive) → Goes (leaf input delimiters nil primitive)
  leaf-goes delimiters nil None s = still s.inside Done s
  leaf-goes delimiters nil (Some primitive) s = room-goes delimiters nil primitive s (has_room primitive s.at s.stop)

  -- a leaf of another size
  of-goes : (delimiters : List Delimiters) (nil : Option (List Value)) (primitive : Option Primitive) → Goes (leaf_of input delimiters nil primitive)
  of-goes delimiters nil None s = still s.inside (Failed LengthOutOfRange s.at) s
  of-goes delimiters nil (Some primitive) s = leaf-goes delimiters nil (Some primitive) s

  sized-goes : (delimiters : List Delimiters) (nil : Option (List Value)) (primitive : Option Primitive) (size : TextSize) → Goes (sized_leaf input delimiters nil primitive size)
  sized-goes delimiters nil None size s = still s.inside Done s
  sized-goes delimiters nil (Some primitive) size s = of-goes delimiters nil (resized size primitive) s

  -- a prefix, and what it tells the size of
  prefixed-goes : (delimiters : List Delimiters) (by : Option Primitive) (own : ℕ) (next : ℕ → State → Outcome) → ((units : ℕ) → Goes (next units)) → Goes (prefixed input delimiters by own next)
  prefixed-goes delimiters by own next goes s =
      prefixed-comes (λ (e : End) (t : State). Went s.inside s e t) s (λ cause bit. still s.inside (Failed cause bit) s)
      (λ cause quantity. still s.inside (Stopped cause quantity) s) next
      (λ units at.
      let after : State = record s { at = at } in
      twice s.inside s after (next units after).state (next units after).end (moved s.inside s at s.stop) (goes units after))
      input delimiters by own

  -- a question, and what goes on by what it tells
  read-goes : (s : State) (kept : Kept) (e : End) (t : State) → GoesOn s.variables kept → Went s.inside (record s { variables = kept }) e t
      → Went s.inside s e t
  read-goes s kept e t ways went = went_as s.inside s t s.marks kept e refl ways went

  asked-goes : (table : Table) (start : Start) (cause : ParseCause) (next : ℕ → State → Outcome) → ((count : ℕ) → Goes (next count))
      → (found : Option (List ExpressionNode)) → Goes (asked_count table start cause next found)
  asked-goes table start cause next goes found s =
      count-comes (λ (e : End) (t : State). Went s.inside s e t) s
      (λ cause kept ways.
      let after : State = record s { variables = kept } in
      read-goes s kept (Failed cause s.at) after ways (still s.inside (Failed cause s.at) after)) table start cause next
      (λ count kept ways.
      let o : Outcome = next count (record s { variables = kept }) in
      read-goes s kept o.end o.state ways (goes count (record s { variables = kept }))) found

  key-goes : (table : Table) (start : Start) (child : ℕ → State → Outcome) → ((id : ℕ) → Goes (child id)) → (keys : List Key)
      → (found : Option (List ExpressionNode)) → Goes (asked_key table start child keys found)
  key-goes table start child goes keys found s =
      key-comes (λ (e : End) (t : State). Went s.inside s e t) s
      (λ cause kept ways.
      let after : State = record s { variables = kept } in
      read-goes s kept (Failed cause s.at) after ways (still s.inside (Failed cause s.at) after)) table start child keys
      (λ id kept ways.
      let o : Outcome = child id (record s { variables = kept }) in
      read-goes s kept o.end o.state ways (goes id (record s { variables = kept }))) found

  passed-goes : (to : ℕ) (reached : Reached Bool) → Goes (passed input.limits.window to reached)
  passed-goes to (Told true) s = moved s.inside s to s.stop
  passed-goes to (Told false) s = still s.inside (passed input.limits.window to (Told false) s).end s
  passed-goes to TooFar s = still s.inside (passed input.limits.window to TooFar s).end s
  passed-goes to Missing s = still s.inside Done s

  pass-goes : (to : ℕ) (s : State) (over room : Bool)
      → (let o : Outcome = cond over (ended Done s) (cond room (fill_to input to s) (ended (Failed LengthOutOfRange s.at) s)) in Went s.inside s o.end o.state)
  pass-goes to s true room = still s.inside Done s
  pass-goes to s false false = still s.inside (Failed LengthOutOfRange s.at) s
  pass-goes to s false true =
      passed-goes to (ask (seen_in input.bytes input.limits.window (anchor_at s (to - 1))) (has_byte ((to - 1) / 8)) nothing).reached s

  byte-goes : (reached : Reached Bool) (next : State → Outcome) → Goes next → Goes (past_byte input.limits.window reached next)
  byte-goes (Told true) next goes s = goes s
  byte-goes (Told false) next goes s = still s.inside (past_byte input.limits.window (Told false) next s).end s
  byte-goes TooFar next goes s = still s.inside (past_byte input.limits.window TooFar next s).end s
  byte-goes Missing next goes s = still s.inside Done s

  bytes-go : (left k : ℕ) → Goes (pass_bytes input left k)
  bytes-go zero k s = moved s.inside s s.stop s.stop
  bytes-go (suc left) k s =
      byte-goes (ask (seen_in input.bytes input.limits.window (anchor_at s (8 * k))) (has_byte k) nothing).reached
      (pass_bytes input left (k + 1)) (bytes-go left (k + 1)) s

  left-goes : (s : State) (over : Bool)
      → (let o : Outcome = cond over (ended Done s) (pass_bytes input (bytes_up_to s.stop (s.at / 8)) (s.at / 8) s) in Went s.inside s o.end o.state)
  left-goes s true = still s.inside Done s
  left-goes s false = bytes-go (bytes_up_to s.stop (s.at / 8)) (s.at / 8) s

  rest-goes : Goes (rest_of input)
  rest-goes s = left-goes s (nat_le s.stop s.at)

  -- what is done after what another one comes to
  follow-goes : (s : State) (e : End) (o : Outcome) (next : State → Outcome) → e ≡ o.end → Went s.inside s o.end o.state → Goes next
      → Went s.inside s (follow e o next).end (follow e o next).state
  follow-goes s Done o next same went goes =
      behind s o.state (next o.state).state (next o.state).end (subst (λ (e : End). Went s.inside s e o.state) (sym same) went) (goes o.state)
  follow-goes s (Failed cause bit) o next same went goes = went
  follow-goes s (Stopped cause quantity) o next same went goes = went

  -- the lengths of a content that is done, and then the rest of its box
  rest-from-goes : (from : ℕ) → Goes (rest_from input from)
  rest-from-goes from s =
      let t : State = with_span (s.stop - from) (s.at - from) s in
      behind s t (rest_of input t).state (rest_of input t).end (spans (s.stop - from) (s.at - from) s) (rest-goes t)

  span-ends-goes : (from : ℕ) → Goes (span_ends from)
  span-ends-goes from s = spans (s.at - from) (s.at - from) s

  spanned-goes : (body : State → Outcome) → Goes body → Goes (spanned body)
  spanned-goes body goes s = follow-goes s (body s).end (body s) (span_ends s.at) refl (goes s) (span-ends-goes s.at)

  -- the same elements and bytes of values, where all else is another
  grown_alike : (one : ℕ) (s t from to : State) → Grown one from to → s.nodes ≡ from.nodes → s.text ≡ from.text → t.nodes ≡ to.nodes → t.text ≡ to.text
      → s.variables ≡ from.variables → t.variables ≡ to.variables → Grown one s t
  grown_alike one s t from to grown nodes text new_nodes new_text variables new_variables =
      let sizes = ap (λ (ns : List Node). length ns) nodes in
      let new_sizes = ap (λ (ns : List Node). length ns) new_nodes in
      let longer = grown.longer in
      record {
        longer = omega arith;
        kept = λ content lengths at few.
            let of : List Node → Option Node = λ ns. slice_get (with_known ns one content lengths) at in
            ap of new_nodes ∙ (grown.kept content lengths at (omega arith) ∙ ap of (sym nodes));
        more = grown.more;
        text = new_text ∙ (grown.text ∙ ap (λ (bytes : List ℕ). bytes ++ grown.more) (sym text));
        ways = λ base way. subst (λ (k : Kept). IsWay base k) (sym new_variables)
            (grown.ways base (subst (λ (k : Kept). IsWay base k) variables way));
      }

  -- behind a box that ends at another bit
  unboxed-goes : (s : State) (stop : ℕ) (e : End) (o : Outcome) → e ≡ o.end → Went s.inside (boxed_at stop s) o.end o.state
      → Went s.inside s (unboxed e s.stop s.hidden o).end (unboxed e s.stop s.hidden o).state
  unboxed-goes s stop Done o same went =
      let out : State = record o.state { stop = s.stop; hidden = s.hidden } in
      let over : Ends Done (boxed_at stop s) o.state = subst (λ (e : End). Ends e (boxed_at stop s) o.state) (sym same) went.ends in
      subst (λ (e : End). Went s.inside s e out) same (record {
        grown = grown_alike s.inside s out (boxed_at stop s) o.state went.grown refl refl refl refl refl refl;
        ends = record { marks = over.marks; inside = over.inside; instead = over.instead; lists = over.lists; hidden = refl };
      })
  unboxed-goes s stop (Failed cause bit) o same went =
      let out : State = record o.state { hidden = s.hidden } in
      let over : Ends (Failed cause bit) (boxed_at stop s) o.state = subst (λ (e : End). Ends e (boxed_at stop s) o.state) (sym same) went.ends in
      subst (λ (e : End). Went s.inside s e out) same (record {
        grown = grown_alike s.inside s out (boxed_at stop s) o.state went.grown refl refl refl refl refl refl;
        ends = record { marks = over.marks; instead = over.instead; lists = over.lists; hidden = refl };
      })
  unboxed-goes s stop (Stopped cause quantity) o same went =
      subst (λ (e : End). Went s.inside s e o.state) same
      (record { grown = grown_alike s.inside s o.state (boxed_at stop s) o.state went.grown refl refl refl refl refl refl; ends = tt })

  -- the lists that are open behind what was done where one more was
  closed_lists : (list : ℕ) (s t : State) → t.lists ≡ (opens list s).lists → take (length s.lists) t.lists ≡ s.lists
  closed_lists list s t lists = ap (λ (ls : List ℕ). take (length s.lists) ls) lists ∙ take-append_seam s.lists (list ∷ [])

  unscoped-goes : (list : ℕ) (s : State) (e : End) (o : Outcome) → e ≡ o.end → Went s.inside (opens list s) o.end o.state
      → Went s.inside s (unscoped e (length s.lists) o).end (unscoped e (length s.lists) o).state
  unscoped-goes list s Done o same went =
      let out : State = closes_to (length s.lists) o.state in
      let over : Ends Done (opens list s) o.state = subst (λ (e : End). Ends e (opens list s) o.state) (sym same) went.ends in
      subst (λ (e : End). Went s.inside s e out) same (record {
        grown = grown_alike s.inside s out (opens list s) o.state went.grown refl refl refl refl refl refl;
        ends = record {
          marks = over.marks;
          inside = over.inside;
          instead = over.instead;
          lists = closed_lists list s o.state over.lists;
          hidden = over.hidden;
        };
      })
  unscoped-goes list s (Failed cause bit) o same went =
      let out : State = closes_to (length s.lists) o.state in
      let over : Ends (Failed cause bit) (opens list s) o.state = subst (λ (e : End). Ends e (opens list s) o.state) (sym same) went.ends in
      subst (λ (e : End). Went s.inside s e out) same (record {
        grown = grown_alike s.inside s out (opens list s) o.state went.grown refl refl refl refl refl refl;
        ends = record { marks = over.marks; instead = over.instead; lists = closed_lists list s o.state over.lists; hidden = over.hidden };
      })
  unscoped-goes list s (Stopped cause quantity) o same went =
      subst (λ (e : End). Went s.inside s e o.state) same
      (record { grown = grown_alike s.inside s o.state (opens list s) o.state went.grown refl refl refl refl refl refl; ends = tt })

  scoped-goes : (list : ℕ) (body : State → Outcome) → Goes body → Goes (scoped list body)
  scoped-goes list body goes s =
      let o : Outcome = body (opens list s) in unscoped-goes list s o.end o refl (goes (opens list s))

  boxed-goes : (bits : ℕ) (body : State → Outcome) → Goes body → (s : State) (room : Bool)
      → (let out : Outcome = cond room
      (let o : Outcome = then_do (body (boxed_at (s.at + bits) s)) (rest_from input s.at) in unboxed o.end s.stop s.hidden o)
      (ended (Failed LengthOutOfRange s.at) s) in Went s.inside s out.end out.state)
  boxed-goes bits body goes s true =
      let inside : State = boxed_at (s.at + bits) s in
      let inner : Outcome = body inside in
      let o : Outcome = then_do inner (rest_from input s.at) in
      unboxed-goes s (s.at + bits) o.end o refl (follow-goes inside inner.end inner (rest_from input s.at) refl (goes inside) (rest-from-goes s.at))
  boxed-goes bits body goes s false = still s.inside (Failed LengthOutOfRange s.at) s

  group-goes : (child : ℕ → State → Outcome) → ((id : ℕ) → Goes (child id)) → (children : List ℕ) → Goes (group child children)
  group-goes child goes [] s = still s.inside Done s
  group-goes child goes (id ∷ rest) s =
      follow-goes s (child id s).end (child id s) (group child rest) refl (goes id s) (group-goes child goes rest)

  -- what is in an element is behind all that had begun
  begun-goes : (id : ℕ) (instead : Instead) (s t : State) → Grown (length s.nodes) (begun id instead s) t → Grown (length s.nodes) s t
  begun-goes id instead s t grown =
      let last : Node = record { element = id; parent = s.inside; content = Begun; lengths = None } in
      let size = begun-longer id instead s in
      let longer = grown.longer in
      record {
        longer = omega arith;
        kept = λ content lengths at few.
            let apart : at ≡ length s.nodes → ⊥ = λ same. omega arith in
            grown.kept content lengths at (omega arith)
            ∙ other_same (s.nodes ++ last ∷ []) (length s.nodes) at content lengths apart
            ∙ front_same s.nodes last at few
            ∙ sym (other_same s.nodes (length s.nodes) at content lengths apart);
        more = grown.more;
        text = grown.text;
        ways = grown.ways;
      }

  left-grows : (one outer : ℕ) (complex : Bool) (t : State) → t.inside ≡ one → Grown one t (left outer complex t)
  left-grows one outer true t same =
      let size = content-length t.nodes t.inside Complex in
      record {
        longer = omega arith;
        kept = λ content lengths at few.
            ap (λ (i : ℕ). slice_get (with_known (with_content t.nodes i Complex) one content lengths) at) same
            ∙ ap (λ (ns : List Node). slice_get ns at) (content_twice t.nodes one Complex content lengths);
        more = [];
        text = sym (append-nil t.text);
        ways = goes_same t.variables;
      }
  left-grows one outer false t same =
      let here = grown one t in record { longer = here.longer; kept = here.kept; more = here.more; text = here.text; ways = here.ways }

  -- what content was read by in place of its own primitive, as it is told behind a representation
  abbrev tried_by : End → Instead → Instead
  tried_by Done instead = Nothing
  tried_by (Failed cause bit) instead = instead
  tried_by (Stopped cause quantity) instead = instead

  -- where a representation comes to that is read by this
  abbrev Tries : ℕ → State → Instead → End → State → Type 0
  Tries one s instead e t = Went one (record s { instead = tried_by e instead }) e t

  close-goes : (id : ℕ) (instead : Instead) (complex : Bool) (s : State) (e : End) (o : Outcome) → e ≡ o.end
      → Went (length s.nodes) (begun id instead s) o.end o.state
      → Tries (length s.nodes) s instead (close e s.inside complex o).end (close e s.inside complex o).state
  close-goes id instead complex s Done o same went =
      let from : State = record s { instead = Nothing } in
      let out : State = left s.inside complex o.state in
      let over : Went (length s.nodes) (begun id instead s) Done o.state =
      subst (λ (e : End). Went (length s.nodes) (begun id instead s) e o.state) (sym same) went in
      let done : Went (length s.nodes) from Done out = record {
        grown = grown_twice (length s.nodes) from o.state out (begun-goes id instead from o.state over.grown)
            (left-grows (length s.nodes) s.inside complex o.state over.ends.inside);
        ends = record { marks = over.ends.marks; inside = refl; instead = inr refl; lists = over.ends.lists; hidden = over.ends.hidden };
      } in
      subst (λ (e : End). Tries (length s.nodes) s instead e out) same done
  close-goes id instead complex s (Failed cause bit) o same went =
      let from : State = record s { instead = instead } in
      let over : Went (length s.nodes) (begun id instead s) (Failed cause bit) o.state =
      subst (λ (e : End). Went (length s.nodes) (begun id instead s) e o.state) (sym same) went in
      let failed : Went (length s.nodes) from (Failed cause bit) o.state =
      record {
        grown = begun-goes id instead from o.state over.grown;
        ends = record { marks = over.ends.marks; instead = over.ends.instead; lists = over.ends.lists; hidden = over.ends.hidden };
      } in
      subst (λ (e : End). Tries (length s.nodes) s instead e o.state) same failed
  close-goes id instead complex s (Stopped cause quantity) o same went =
      let from : State = record s { instead = instead } in
      let stopped : Went (length s.nodes) from (Stopped cause quantity) o.state =
      record { grown = begun-goes id instead from o.state went.grown; ends = tt } in
      subst (λ (e : End). Tries (length s.nodes) s instead e o.state) same stopped

  room-tried : (id : ℕ) (complex : Bool) (body : State → Outcome) → Goes body → (instead : Instead) (s : State) (room : Bool)
      → (let out : Outcome = cond room (let o : Outcome = body (begun id instead s) in close o.end s.inside complex o)
      (ended (Stopped (Limit Nodes) input.limits.nodes) s) in Tries (length s.nodes) s instead out.end out.state)
  room-tried id complex body goes instead s true =
      let o : Outcome = body (begun id instead s) in close-goes id instead complex s o.end o refl (goes (begun id instead s))
  room-tried id complex body goes instead s false =
      let here = grown (length s.nodes) s in
      record { grown = record { longer = here.longer; kept = here.kept; more = here.more; text = here.text; ways = here.ways }; ends = tt }

  -- one representation of an element
  tried-goes : (id : ℕ) (complex : Bool) (body : State → Outcome) → Goes body → (instead : Instead) (s : State)
      → (let o : Outcome = attempted input id complex body instead s in Tries (length s.nodes) s instead o.end o.state)
  tried-goes id complex body goes instead s =
      room-tried id complex body goes instead s (nat_lt (length s.nodes) input.limits.nodes)

  -- the same of any element that is open
  any_tried : (s t : State) (instead : Instead) (e : End) → Tries (length s.nodes) s instead e t → Tries s.inside s instead e t
  any_tried s t instead e went = any_one s.inside (record s { instead = tried_by e instead }) t e went

  -- what is tried alone
  alone_goes : (s t : State) (e : End) → Tries s.inside s Nothing e t → Went s.inside s e t
  alone_goes s t Done went = record {
    grown = record { longer = went.grown.longer; kept = went.grown.kept; more = went.grown.more; text = went.grown.text; ways = went.grown.ways };
    ends = record {
      marks = went.ends.marks;
      inside = went.ends.inside;
      instead = inr (is_nothing t.instead went.ends.instead);
      lists = went.ends.lists;
      hidden = went.ends.hidden;
    };
  }
  alone_goes s t (Failed cause bit) went = record {
    grown = record { longer = went.grown.longer; kept = went.grown.kept; more = went.grown.more; text = went.grown.text; ways = went.grown.ways };
    ends = record {
      marks = went.ends.marks;
      instead = inr (is_nothing t.instead went.ends.instead);
      lists = went.ends.lists;
      hidden = went.ends.hidden;
    };
  }
  alone_goes s t (Stopped cause quantity) went = record {
    grown = record { longer = went.grown.longer; kept = went.grown.kept; more = went.grown.more; text = went.grown.text; ways = went.grown.ways };
    ends = tt;
  }

  -- one from the mark of an element again
  again_tried : (id : ℕ) (complex : Bool) (body : State → Outcome) → Goes body → (s : State) (instead before : Instead) (marks : List Mark) (kept : Kept)
      → AreMarked s marks → IsBack s.variables kept
      → (let o : Outcome = attempted input id complex body instead (again_at s before marks kept) in Tries s.inside (marked s) instead o.end o.state)
  again_tried id complex body goes s instead before marks kept same is_back =
      let from : State = again_at s before marks kept in
      let o : Outcome = attempted input id complex body instead from in
      went_as s.inside (record (marked s) { instead = tried_by o.end instead }) o.state marks kept o.end same (back_goes s.variables kept is_back)
      (any_tried from o.state instead o.end (tried-goes id complex body goes instead from))

  -- where it fails, what is gone back to is the state at the mark
  pub tried-returns : (id : ℕ) (complex : Bool) (body : State → Outcome) → Goes body → (s : State) (instead before : Instead) (marks : List Mark) (kept : Kept)
      → AreMarked s marks → IsBack s.variables kept → (cause : ParseCause) (bit : ℕ)
      → (attempted input id complex body instead (again_at s before marks kept)).end ≡ Failed cause bit
      → GoesBack s (attempted input id complex body instead (again_at s before marks kept)).state
  tried-returns id complex body goes s instead before marks kept same is_back cause bit is =
      let o : Outcome = attempted input id complex body instead (again_at s before marks kept) in
      let went : Tries s.inside (marked s) instead (Failed cause bit) o.state =
      subst (λ (e : End). Tries s.inside (marked s) instead e o.state) is (again_tried id complex body goes s instead before marks kept same is_back) in
      record {
        kept = kept_at s o.state;
        there = failed_returns false false s o.state instead cause bit went;
        marks = went.ends.marks;
        is = went_kept false false s o.state instead (Failed cause bit) went;
      }

  -- where one is done, the marks are those from before
  pub tried-stays : (id : ℕ) (complex : Bool) (body : State → Outcome) → Goes body → (s : State) (instead before : Instead) (marks : List Mark) (kept : Kept)
      → AreMarked s marks → IsBack s.variables kept → (attempted input id complex body instead (again_at s before marks kept)).end ≡ Done
      → AreMarked s (attempted input id complex body instead (again_at s before marks kept)).state.marks
  tried-stays id complex body goes s instead before marks kept same is_back is =
      let o : Outcome = attempted input id complex body instead (again_at s before marks kept) in
      let went : Tries s.inside (marked s) instead Done o.state =
      subst (λ (e : End). Tries s.inside (marked s) instead e o.state) is (again_tried id complex body goes s instead before marks kept same is_back) in
      went.ends.marks

  refused_went : (s t : State) (instead : Instead) (cause : ParseCause) (bit : ℕ) → Tries s.inside (marked s) instead Done t
      → Went s.inside s (Failed cause bit) (refused s t)
  refused_went s t instead cause bit went = record {
    grown = grown_alike s.inside s (refused s t) (marked_by s Nothing) t went.grown refl refl refl refl refl refl;
    ends = record {
      marks = outer_same t.marks (marked s).marks went.ends.marks;
      instead = inr (is_nothing t.instead went.ends.instead);
      lists = went.ends.lists;
      hidden = went.ends.hidden;
    };
  }

  element-goes : (id : ℕ) (complex : Bool) (tried : Representations) (body : State → Outcome) → Goes body → Goes (element input id complex tried body)
  element-goes id complex tried body goes s =
      represented-comes (λ (e : End) (t : State). Went s.inside s e t) (λ (instead : Instead) (e : End) (t : State). Tries s.inside (marked s) instead e t) s
      (attempted input id complex body) (λ (instead : Instead). Unit {0}) tt
      (let o : Outcome = attempted input id complex body Nothing s in
      alone_goes s o.state o.end (any_tried s o.state Nothing o.end (tried-goes id complex body goes Nothing s)))
      (λ instead before marks kept same is_back one. again_tried id complex body goes s instead before marks kept same is_back)
      (λ instead t went. alone_goes s (closed t) Done (unmarked_went s.inside (mark_at s) (record s { instead = Nothing }) Done t went))
      (λ cause bit t went. alone_goes s (closed t) (Failed cause bit)
      (unmarked_went s.inside (mark_at s) (record s { instead = Nothing }) (Failed cause bit) t went))
      (λ instead cause quantity t went. record {
        grown = record { longer = went.grown.longer; kept = went.grown.kept; more = went.grown.more; text = went.grown.text; ways = went.grown.ways };
        ends = tt;
      })
      (λ instead t went. refused_went s t instead RequiredEmpty s.at went) (tried-stays id complex body goes s) (tried-returns id complex body goes s)
      tried (any_ok Nil tried.nil) (any_ok Empty tried.empty) (any_ok Empty tried.where_tried.empty)

  -- a choice, each of whose branches begins at the point
  choice-goes : (child : ℕ → State → Outcome) → ((id : ℕ) → Goes (child id)) → (initiated : Bool) (ids : List ℕ) → Goes (choice child initiated ids)
  choice-goes child goes initiated ids s =
      choice-carried (GoneBy s) (EndsBy s) (going s) child goes (λ id. going-carried s (child id) (goes id)) initiated ids s.marks s
      (still s.inside Done s)

  -- an occurrence, which is tried or not
  untried-goes : (s : State) (instead : Instead) (e : End) (o : Outcome) → e ≡ o.end → Went s.inside (record s { instead = instead }) o.end o.state
      → Went s.inside s (untried e o).end (untried e o).state
  untried-goes s instead Done o same went =
      let inside : State = record s { instead = instead } in
      let out : State = record o.state { instead = Nothing } in
      let over : Ends Done inside o.state = subst (λ (e : End). Ends e inside o.state) (sym same) went.ends in
      subst (λ (e : End). Went s.inside s e out) same (record {
        grown = grown_alike s.inside s out inside o.state went.grown refl refl refl refl refl refl;
        ends = record { marks = over.marks; inside = over.inside; instead = inr refl; lists = over.lists; hidden = over.hidden };
      })
  untried-goes s instead (Failed cause bit) o same went =
      let inside : State = record s { instead = instead } in
      let out : State = record o.state { instead = Nothing } in
      let over : Ends (Failed cause bit) inside o.state = subst (λ (e : End). Ends e inside o.state) (sym same) went.ends in
      subst (λ (e : End). Went s.inside s e out) same (record {
        grown = grown_alike s.inside s out inside o.state went.grown refl refl refl refl refl refl;
        ends = record { marks = over.marks; instead = inr refl; lists = over.lists; hidden = over.hidden };
      })
  untried-goes s instead (Stopped cause quantity) o same went =
      let inside : State = record s { instead = instead } in
      subst (λ (e : End). Went s.inside s e o.state) same
      (record { grown = grown_alike s.inside s o.state inside o.state went.grown refl refl refl refl refl refl; ends = tt })

  pub once-goes : (tried : Bool) (body : State → Outcome) → Goes body → Goes (occurring tried body)
  once-goes tried body goes s =
      let o : Outcome = body (as_occurrence tried s) in untried-goes s (instead_in tried s.instead) o.end o refl (goes (as_occurrence tried s))

  -- times that are tried
  occurrences-go : (body : State → Outcome) → Goes body → (initiated : Bool) (left : ℕ) → Goes (occurrences body initiated left)
  occurrences-go body goes initiated left s =
      occurrences-carried (GoneBy s) (EndsBy s) (going s) body goes (going-carried s body goes) initiated left s.marks s (still s.inside Done s)

  -- the slots of a sequence with separators
  separated-goes : (sequence : Sequence) → ((id : ℕ) → Goes (sequence.child id)) → (policy : SeparatorSuppressionPolicy) (slots : List Slot)
      → Goes (separated sequence policy slots)
  separated-goes sequence goes policy slots s =
      let once : (id : ℕ) (tried : Bool) → Goes (occurring tried (sequence.child id)) = λ id tried. once-goes tried (sequence.child id) (goes id) in
      separated-carried (GoneBy s) (EndsBy s) (going s) sequence once (λ id tried. going-carried s (occurring tried (sequence.child id)) (once id tried))
      (λ id. going-carried s (sequence.child id) (goes id)) policy slots s.marks s
      (still s.inside Done s)

  -- statements
  going-tells : (s : State) → Tells input.limits (λ (t : State). Went s.inside s Done t) (λ (e : End) (t : State). Went s.inside s e t)
  going-tells s = record {
    again = λ t marks kept went same goes. (going s).again s.marks marks t t.instead kept went (inl refl) same goes;
    lands = λ t v went written.
        let o : Outcome = land input.limits t.at (Told (default_find t.at v)) t in
        behind s t o.state o.end went (land-goes t.at (Told (default_find t.at v)) t);
    done = λ t went. went;
    ends = λ e t went. (going s).ends s.marks e t went;
  }

  told-goes : (start : Start) (s : State) (e : End) (t : State) → Went s.inside s e t → Went s.inside s e (told_at e start t)
  told-goes start s Done t went = went
  told-goes start s (Failed cause bit) t went = record {
    grown = record { longer = went.grown.longer; kept = went.grown.kept; more = went.grown.more; text = went.grown.text; ways = went.grown.ways };
    ends = record { marks = went.ends.marks; instead = went.ends.instead; lists = went.ends.lists; hidden = went.ends.hidden };
  }
  told-goes start s (Stopped cause quantity) t went = record {
    grown = record { longer = went.grown.longer; kept = went.grown.kept; more = went.grown.more; text = went.grown.text; ways = went.grown.ways };
    ends = tt;
  }

  again-goes : (s : State) (cause : ParseCause) (bit : ℕ) → Restates (λ (t : State). Went s.inside s (Failed cause bit) t)
  again-goes s cause bit t marks kept went same goes = record {
    grown = record {
      longer = went.grown.longer;
      kept = went.grown.kept;
      more = went.grown.more;
      text = went.grown.text;
      ways = goes_twice s.variables t.variables kept went.grown.ways goes;
    };
    ends = record { marks = same ∙ went.ends.marks; instead = went.ends.instead; lists = went.ends.lists; hidden = went.ends.hidden };
  }

  concluded-goes : (table : Table) (start : Start) (behind : Statements) (s : State) (o : Outcome) → Went s.inside s o.end o.state
      → (let out : Outcome = concluded input.limits table start behind o in Went s.inside s out.end out.state)
  concluded-goes table start behind s o went =
      concluded-comes input.limits (λ (t : State). Went s.inside s Done t) (λ (e : End) (t : State). Went s.inside s e t) (going-tells s) table
      (λ (e : End) (t : State). Went s.inside s e t) (λ t there. there) start (told-goes start s) (again-goes s) behind o went

  -- instances of variables
  closed-grows : (number : ℕ) (start : Option Value) (s t : State) → Grown s.inside (record s { variables = entered s.variables number start }) t
      → Grown s.inside s (instance_closed t)
  closed-grows number start s t grown = record {
    longer = grown.longer;
    kept = grown.kept;
    more = grown.more;
    text = grown.text;
    ways = through_goes s.variables t.variables number start grown.ways;
  }

  closed-goes : (number : ℕ) (start : Option Value) (s : State) (e : End) (o : Outcome) → e ≡ o.end
      → Went s.inside (record s { variables = entered s.variables number start }) o.end o.state
      → Went s.inside s (closed_behind e o).end (closed_behind e o).state
  closed-goes number start s Done o same went =
      let inside : State = record s { variables = entered s.variables number start } in
      let out : State = instance_closed o.state in
      let over : Ends Done inside o.state = subst (λ (e : End). Ends e inside o.state) (sym same) went.ends in
      subst (λ (e : End). Went s.inside s e out) same (record {
        grown = closed-grows number start s o.state went.grown;
        ends = record { marks = over.marks; inside = over.inside; instead = over.instead; lists = over.lists; hidden = over.hidden };
      })
  closed-goes number start s (Failed cause bit) o same went =
      let inside : State = record s { variables = entered s.variables number start } in
      let out : State = instance_closed o.state in
      let over : Ends (Failed cause bit) inside o.state = subst (λ (e : End). Ends e inside o.state) (sym same) went.ends in
      subst (λ (e : End). Went s.inside s e out) same (record {
        grown = closed-grows number start s o.state went.grown;
        ends = record { marks = over.marks; instead = over.instead; lists = over.lists; hidden = over.hidden };
      })
  closed-goes number start s (Stopped cause quantity) o same went =
      let kept : Kept = entered s.variables number start in
      subst (λ (e : End). Went s.inside s e o.state) same (record {
        grown = record {
          longer = went.grown.longer;
          kept = went.grown.kept;
          more = went.grown.more;
          text = went.grown.text;
          ways = goes_twice s.variables kept o.state.variables (entered_goes s.variables number start) went.grown.ways;
        };
        ends = tt;
      })

  instance-goes : (body : State → Outcome) → Goes body → (number : ℕ) (start : Option Value) → Goes (with_instance number start body)
  instance-goes body goes number start s =
      let inside : State = record s { variables = entered s.variables number start } in
      let o : Outcome = body inside in closed-goes number start s o.end o refl (goes inside)

  instanced-goes : (table : Table) (number : ℕ) (body : State → Outcome) → Goes body → Goes (instanced table number body)
  instanced-goes table number body goes s =
      opened-comes (λ (e : End) (t : State). Went s.inside s e t) s
      (λ cause kept ways.
      let after : State = record s { variables = kept } in
      read-goes s kept (Failed cause s.at) after ways (still s.inside (Failed cause s.at) after)) body
      (λ kept ways.
      let o : Outcome = body (record s { variables = kept }) in
      read-goes s kept o.end o.state ways (goes (record s { variables = kept })))
      (λ number start kept ways.
      let after : State = record s { variables = kept } in
      let o : Outcome = with_instance number start body after in
      read-goes s kept o.end o.state ways (instance-goes body goes number start after)) table (opening_of (slice_get table.statements number))

  module _ (table : Table) where
    row-goes : (child : ℕ → State → Outcome) → ((id : ℕ) → Goes (child id)) → (id : ℕ) (r : Option Row) → Goes (row input table child id r)
    row-goes child goes id None s = still s.inside Done s
    row-goes child goes id (Some (Leaf prim)) s =
        leaf-goes table.delimiters (nil_values table.primitives s.instead) (slice_get table.primitives (read_by table.primitives s.instead prim)) s
    row-goes child goes id (Some (Elem name simple tried behind body)) s =
        concluded-goes table (At (length s.nodes)) behind s (element input id (has_elements simple) tried (child body) s)
        (element-goes id (has_elements simple) tried (child body) (goes body) s)
    row-goes child goes id (Some (Group children)) s = group-goes child goes children s
    row-goes child goes id (Some (Skip bits)) s = pass-goes (s.at + bits) s (nat_le (s.at + bits) s.at) (nat_le (s.at + bits) s.stop)
    row-goes child goes id (Some (Align bits)) s = pass-goes (aligned bits s.at) s (nat_le (aligned bits s.at) s.at) (nat_le (aligned bits s.at) s.stop)
    row-goes child goes id (Some (Initiator delimiter)) s =
        initiator-comes (λ (e : End) (t : State). Went s.inside s e t) s (moved_as s.inside s)
        (λ cause. still s.inside (Failed cause s.at) s) (λ cause quantity. still s.inside (Stopped cause quantity) s) input table.delimiters delimiter
    row-goes child goes id (Some (Terminator delimiter separators)) s =
        terminator-comes (λ (e : End) (t : State). Went s.inside s e t) s (moved_as s.inside s)
        (λ cause. still s.inside (Failed cause s.at) s) (λ cause quantity. still s.inside (Stopped cause quantity) s) input table.delimiters delimiter separators
    row-goes child goes id (Some Separator) s =
        separator-comes (λ (e : End) (t : State). Went s.inside s e t) s (moved_as s.inside s)
        (λ cause. still s.inside (Failed cause s.at) s) (λ cause quantity. still s.inside (Stopped cause quantity) s) input table.delimiters
    row-goes child goes id (Some (Scope list body)) s = scoped-goes list (child body) (goes body) s
    row-goes child goes id (Some (Boxed bits body)) s = boxed-goes bits (child body) (goes body) s (nat_le (s.at + bits) s.stop)
    row-goes child goes id (Some (PrefixedLeaf prefix prim)) s =
        let nil : Option (List Value) = nil_values table.primitives s.instead in
        let primitive : Option Primitive = slice_get table.primitives (read_by table.primitives s.instead prim) in
        prefixed-goes table.delimiters (slice_get table.primitives prefix.prim) prefix.own (λ units after. sized_leaf input table.delimiters nil primitive (size_of prefix.unit units) after)
        (λ units. sized-goes table.delimiters nil primitive (size_of prefix.unit units)) s
    row-goes child goes id (Some (MeasuredLeaf measure prim)) s =
        let nil : Option (List Value) = nil_values table.primitives s.instead in
        let primitive : Option Primitive = slice_get table.primitives (read_by table.primitives s.instead prim) in
        asked-goes table (At s.inside) LengthOutOfRange (λ units after. sized_leaf input table.delimiters nil primitive (size_of measure.unit units) after)
        (λ units. sized-goes table.delimiters nil primitive (size_of measure.unit units)) (question_at table measure.question) s
    row-goes child goes id (Some (MeasuredBox measure body)) s =
        asked-goes table (At s.inside) LengthOutOfRange (λ units after. boxed input (bits_of_units measure.unit units) (child body) after)
        (λ units after. boxed-goes (bits_of_units measure.unit units) (child body) (goes body) after (nat_le (after.at + bits_of_units measure.unit units) after.stop))
        (question_at table measure.question) s
    row-goes child goes id (Some (Repeat count body)) s = group-goes child goes (replicate count body) s
    row-goes child goes id (Some (Counted question body)) s =
        asked-goes table (Inside s.inside) NegativeCount (λ count after. group child (replicate count body) after)
        (λ count. group-goes child goes (replicate count body)) (question_at table question) s
    row-goes child goes id (Some (Optional most item initiated body)) s =
        occurrences-go (occurring true (child body)) (once-goes true (child body) (goes body)) initiated most s
    row-goes child goes id (Some (ChoiceRow branches initiated)) s = choice-goes child goes initiated branches s
    row-goes child goes id (Some (Dispatch question keys)) s =
        key-goes table (Inside s.inside) child goes keys (question_at table question) s
    row-goes child goes id (Some (Statement number)) s =
        statement-comes input (λ (t : State). Went s.inside s Done t) (λ (e : End) (t : State). Went s.inside s e t) (going-tells s) table number s
        (still s.inside Done s)
    row-goes child goes id (Some (Concluded behind body)) s = concluded-goes table (Inside s.inside) behind s (child body s) (goes body s)
    row-goes child goes id (Some (Hidden body)) s = goes body s
    row-goes child goes id (Some (Spanned body)) s = spanned-goes (child body) (goes body) s
    row-goes child goes id (Some (Instance statement body)) s = instanced-goes table statement (child body) (goes body) s
    row-goes child goes id (Some (Separated policy position initiated slots)) s =
        let sequence : Sequence =
        record { input = input; table = table; child = child; position = position; initiated = initiated } in
        separated-goes sequence goes policy slots s
    row-goes child goes id (Some (PrefixedBox prefix body)) s =
        prefixed-goes table.delimiters (slice_get table.primitives prefix.prim) prefix.own (λ units after. boxed input (bits_of_units prefix.unit units) (child body) after)
        (λ units after. boxed-goes (bits_of_units prefix.unit units) (child body) (goes body) after (nat_le (after.at + bits_of_units prefix.unit units) after.stop)) s

    below-choice : (n id : ℕ) → ((i : ℕ) → Goes (below input table n i)) → (s : State) (test : Bool)
        → (let o : Outcome = cond test (row_at input table (below input table n) n s) (below input table n id s) in Went s.inside s o.end o.state)
    below-choice n id goes s true = row-goes (below input table n) goes n (slice_get table.rows n) s
    below-choice n id goes s false = goes id s

    pub below-goes : (n id : ℕ) → Goes (below input table n id)
    unfolding below
    below-goes zero id s = still s.inside Done s
    below-goes (suc n) id s = below-choice n id (below-goes n) s (nat_eq id n)

    pub meaning-goes : (id : ℕ) → Goes (meaning input table id)
    unfolding meaning
    meaning-goes id s = row-goes (below input table id) (below-goes id) id (slice_get table.rows id) s
