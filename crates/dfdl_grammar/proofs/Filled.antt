-- Where a row is done, the elements that began in it are read.
use Rattle.std.proofs.Common.{◌≡◌, ℕ, zero, suc, ◌+◌, ◌*◌, ◌/◌, ◌<◌, ◌≤◌, ◌⊎◌, inl, inr, refl, List, [], ◌∷◌, ◌++◌, length, take, Bool, true, false, cond, ◌-◌, nat_eq, nat_lt, Option, Some, None, Result, Ok, Err, All, nat_le, ap, sym, subst, ◌∙◌, arith, replicate}
use Rattle.std.specs.Prelude.{slice_get}
use Rattle.std.proofs.lemmas.Option.{get_or_from_slice_get, slice_get_within}
use Rattle.dfdl_bits.specs.declared.window.Seen.{Seen}
use Rattle.dfdl_report.specs.declared.cause.ParseCause.{ParseCause}
use Rattle.dfdl_report.specs.declared.cause.ParseCause.TheVariants.{ExpressionFault, LengthOutOfRange, NegativeCount}
use Rattle.dfdl_report.specs.declared.cause.LimitCause.TheVariants.{Nodes, Text as TextLimit}
use Rattle.dfdl_forms.specs.declared.simple.Simple.{Simple}
use Rattle.dfdl_terms.specs.declared.delimiters.Delimiters.{Delimiters}
use Rattle.dfdl_terms.specs.declared.keys.Key.{Key}
use Rattle.dfdl_terms.specs.declared.representations.Representations.{Representations}
use Rattle.dfdl_value.specs.declared.value.Value.{Value}
use Rattle.dfdl_value.specs.declared.value.Value.TheVariants as value
use Rattle.dfdl_expressions.specs.declared.node.Node.{Node as ExpressionNode}
use Rattle.dfdl_paths.specs.declared.place.Start.{Start}
use Rattle.dfdl_paths.specs.declared.place.Start.TheVariants.{At, Inside}
use Rattle.dfdl_surroundings.specs.Taking.{taken}
use Rattle.dfdl_terms.specs.declared.row.Primitive.{Primitive}
use Rattle.dfdl_terms.specs.declared.row.Row.{Row}
use Rattle.dfdl_terms.specs.declared.row.Row.TheVariants.{Leaf, Elem, Group, Skip, Align, Initiator, Terminator, Separator, Scope, Boxed, PrefixedLeaf, PrefixedBox, MeasuredLeaf, MeasuredBox, Repeat, Counted, Optional, Choice as ChoiceRow, Dispatch, Statement, Concluded, Hidden, Spanned, Instance, Separated}
use Rattle.dfdl_terms.specs.Leaves.{ReadsBy, leaf as by_leaf, prefixed as by_prefix, measured as by_measure, grouped, scoped as scoped_reads, calculated as calculated_reads}
use Rattle.dfdl_terms.specs.Rows.{AreWithin, IsWithin, NamesWithin, Nests, Table, named_by}
use Rattle.dfdl_region.specs.declared.node.Content.{Content}
use Rattle.dfdl_region.specs.declared.node.Content.TheVariants.{Begun, Complex}
use Rattle.dfdl_region.specs.declared.node.Content.TheVariants as content
use Rattle.dfdl_separators.specs.declared.policy.SeparatorSuppressionPolicy.{SeparatorSuppressionPolicy}
use Rattle.dfdl_terms.specs.declared.slots.Slot.{Slot}
use Rattle.dfdl_terms.specs.declared.statement.Statement.{Statement as AnyStatement}
use Rattle.dfdl_terms.specs.declared.statement.Statement.TheVariants.{Calculation}
use Rattle.dfdl_terms.specs.declared.statement.Statements.{Statements}
use Rattle.dfdl_terms.specs.declared.text.TextSize.{TextSize}
use Rattle.dfdl_region.specs.Nodes.{with_content}
use Rattle.dfdl_looks.specs.Asks.{Ask, Reached, Told, TooFar, Missing, ask}
use Rattle.dfdl_looks.specs.Looks.{seen_in}
use Rattle.dfdl_looks.specs.Tallies.{needs_from, nothing, one_row}
use Rattle.dfdl_grammar.specs.declared.end.End.{End}
use Rattle.dfdl_grammar.specs.declared.end.End.TheVariants.{Done, Failed, Stopped}
use Rattle.dfdl_grammar.specs.declared.end.Halt.TheVariants.{Limit}
use Rattle.dfdl_grammar.specs.declared.instead.Instead.{Instead}
use Rattle.dfdl_grammar.specs.declared.mark.Mark.{Mark}
use Rattle.dfdl_grammar.specs.declared.instead.Instead.TheVariants.{Nothing, Nil, Empty, Tried}
use Rattle.dfdl_grammar.specs.States.{Input, State, anchor, anchor_at}
use Rattle.dfdl_grammar.specs.Documents.{front_at}
use Rattle.dfdl_grammar.specs.Outcomes.{Outcome, ended, follow, spend, then_do}
use Rattle.dfdl_grammar.specs.Leaves.{Find, Fails, Finds, FindsOctets, FindsText, content_begins, default_find, has_room, land, leaf, nil_values, program_for, read_by, reading_prim, taken_as, values_in}
use Rattle.dfdl_grammar.specs.Framing.{aligned, fill_to, has_byte, passed}
use Rattle.dfdl_grammar.specs.Delimiters.{closes_to, lists_of, markup, opens, scoped, unscoped}
use Rattle.dfdl_grammar.specs.Boxes.{boxed, boxed_at, bytes_up_to, pass_bytes, past_byte, rest as rest_of, rest_from, unboxed}
use Rattle.dfdl_grammar.specs.Spans.{span_ends, spanned, vacant, with_span}
use Rattle.dfdl_grammar.specs.declared.span.Span.{Span}
use Rattle.dfdl_grammar.specs.Choices.{choice}
use Rattle.dfdl_grammar.specs.Occurrences.{as_occurrence, occurrences, occurring, untried}
use Rattle.dfdl_grammar.specs.Slots.{Sequence, separated}
use Rattle.dfdl_grammar.specs.Elements.{attempted, begun, close, element, left}
use Rattle.dfdl_grammar.specs.Statements.{calculated, concluded, evaluated, is_written, start_of, statement_of, told_at, with_reads}
use Rattle.dfdl_grammar.specs.Prefixes.{bits_of_units, leaf_of, prefixed, prefixed_leaf, resized, size_of, sized_leaf}
use Rattle.dfdl_grammar.specs.Questions.{asked_count, asked_key, measured_leaf, question_at}
use Rattle.dfdl_grammar.specs.Rows.{below, group, meaning, row, row_at}
use Rattle.dfdl_grammar.specs.Trees.{AreRead, HasLeaves, IsCalculation, IsInTables}
use Rattle.dfdl_grammar.proofs.Fine.{Fills, Fine, IsRead, Reads, aside, both, closed_fine, element-ends, fine, moved, put_read, spans, take_read, as_told, read_before, read_behind, same_or, unmarked, as_marked}
use Rattle.dfdl_grammar.proofs.Towers.{below-meaning}
use Rattle.dfdl_grammar.proofs.Found.{value-for, whole-told}
use Rattle.dfdl_grammar.proofs.Going.{below-goes, tried-returns, tried-stays, once-goes}
use Rattle.dfdl_grammar.proofs.Grown.{Ends, Goes, Stays}
use Rattle.dfdl_vars.specs.Kept.{entered, without_innermost}
use Rattle.dfdl_grammar.specs.Instances.{closed_behind, instanced, opening_of}
use Rattle.dfdl_grammar.proofs.Asked.{count-comes, key-comes}
use Rattle.dfdl_grammar.proofs.Opened.{opened-comes}
use Rattle.dfdl_grammar.proofs.Prefixed.{prefixed-comes}
use Rattle.dfdl_grammar.proofs.Carried.{Carried, Carries}
use Rattle.dfdl_grammar.proofs.Pointed.{choice-carried, occurrences-carried}
use Rattle.dfdl_grammar.proofs.Slotted.{separated-carried}
use Rattle.dfdl_grammar.proofs.Stated.{Tells, concluded-comes, statement-comes}
use Rattle.dfdl_grammar.proofs.Represented.{IsOk, again_at, represented-comes}
use Rattle.dfdl_grammar.proofs.Sought.{initiator-comes, separator-comes, terminator-comes}

-- a primitive of so many
there_is : (primitives : List Primitive) (prim : ℕ) → prim < length primitives → (primitive : Primitive) × (slice_get primitives prim ≡ Some primitive)
there_is [] prim less = absurd (omega arith)
there_is (primitive ∷ rest) zero less = (primitive, refl)
there_is (primitive ∷ rest) (suc prim) less = there_is rest prim (omega arith)

module _ (input : Input) (table : Table) (leaves : HasLeaves table) where
  -- the primitive that is read by in place of a leaf's own is in the tables, if there is one
  abbrev IsKnown : Instead → Type 0
  IsKnown Nothing = Unit {0}
  IsKnown (Nil prim) = IsInTables table prim
  IsKnown (Empty prim) = IsInTables table prim
  IsKnown Tried = Unit {0}

  nil_within : (nil : Option ℕ) → IsWithin (length table.primitives) nil → IsOk IsKnown Nil nil
  nil_within None within = tt
  nil_within (Some prim) within = there_is table.primitives prim within

  empty_within : (empty : Option ℕ) → IsWithin (length table.primitives) empty → IsOk IsKnown Empty empty
  empty_within None within = tt
  empty_within (Some prim) within = there_is table.primitives prim within

  -- so is the one that is read by
  by_values : (values : Option (List Value)) (other prim : ℕ) → IsInTables table other → IsInTables table prim
      → IsInTables table (reading_prim values other prim)
  by_values None other prim known is = known
  by_values (Some values) other prim known is = is

  used_is : (instead : Instead) (prim : ℕ) → IsKnown instead → IsInTables table prim → IsInTables table (read_by table.primitives instead prim)
  used_is Nothing prim known is = is
  used_is (Nil other) prim known is = by_values (values_in (slice_get table.primitives other)) other prim known is
  used_is (Empty other) prim known is = known
  used_is Tried prim known is = is

  known_behind : (s t : State) → Stays s t → IsKnown s.instead → IsKnown t.instead
  known_behind s t stays known = elim stays.instead [
    | inl same ↦ subst IsKnown (sym same) known
    | inr none ↦ subst IsKnown (sym none) tt
  ]

  -- what a row does that reads a value by such a primitive, where it is done
  abbrev ReadsKnown : (State → Outcome) → Type 0
  ReadsKnown f = (s : State) → IsKnown s.instead → (f s).end ≡ Done → IsRead s (f s).state

  hold-reads : (made : ℕ → ℕ → Content) (bytes : List ℕ) (span : Span) (s : State) → ((from len : ℕ) → made from len ≡ Begun → ⊥) → (room : Bool)
      → (cond room (ended Done (record (taken_as (made (length s.text) (length bytes)) span s) { text = s.text ++ bytes }))
      (ended (Stopped (Limit TextLimit) input.limits.text) s)).end ≡ Done
      → IsRead s (cond room (ended Done (record (taken_as (made (length s.text) (length bytes)) span s) { text = s.text ++ bytes }))
      (ended (Stopped (Limit TextLimit) input.limits.text) s)).state
  hold-reads made bytes span s read true done =
      take_read s span.end (s.text ++ bytes) (made (length s.text) (length bytes)) (span.end - s.at) span.value
      (read (length s.text) (length bytes))
  hold-reads made bytes span s read false done = absurd (cc)

  land-reads : (first : ℕ) (reached : Reached Find) (s : State) → ((content : Content) (span : Span) → reached ≡ Told (Finds content span) → content ≡ Begun → ⊥)
      → (reached ≡ Missing → ⊥) → (land input.limits first reached s).end ≡ Done → IsRead s (land input.limits first reached s).state
  land-reads first (Told (Fails cause)) s read here done = absurd (cc)
  land-reads first (Told (Finds content span)) s read here done =
      take_read s span.end s.text content (span.end - s.at) span.value (read content span refl)
  land-reads first (Told (FindsOctets bytes span)) s read here done =
      hold-reads content.Octets bytes span s (λ from len same. absurd (cc)) (nat_le (length s.text + length bytes) input.limits.text) done
  land-reads first (Told (FindsText bytes span)) s read here done =
      hold-reads content.Text bytes span s (λ from len same. absurd (cc)) (nat_le (length s.text + length bytes) input.limits.text) done
  land-reads first TooFar s read here done = absurd (cc)
  land-reads first Missing s read here done = absurd (here refl)

  room-reads : (delimiters : List Delimiters) (nil : Option (List Value)) (primitive : Primitive) (s : State) (room : Bool)
      → (cond room
      (let reading = ask (seen_in input.bytes input.limits.window (anchor s)) (program_for nil (lists_of delimiters (markup s)) primitive s.at s.stop) nothing in
      spend (needs_from (anchor s) reading.tally) (land input.limits (content_begins primitive s.at) reading.reached s))
      (ended (Failed LengthOutOfRange s.at) s)).end ≡ Done
      → IsRead s (cond room
      (let reading = ask (seen_in input.bytes input.limits.window (anchor s)) (program_for nil (lists_of delimiters (markup s)) primitive s.at s.stop) nothing in
      spend (needs_from (anchor s) reading.tally) (land input.limits (content_begins primitive s.at) reading.reached s))
      (ended (Failed LengthOutOfRange s.at) s)).state
  room-reads delimiters nil primitive s true done =
      let a : Ask Find = program_for nil (lists_of delimiters (markup s)) primitive s.at s.stop in
      let look : ℕ → Seen = seen_in input.bytes input.limits.window (anchor s) in
      land-reads (content_begins primitive s.at) (ask look a nothing).reached s
      (λ content span is. value-for look nil (lists_of delimiters (markup s)) primitive s.at s.stop content span is)
      (λ missing. whole-told input.bytes input.limits.window (anchor s) a nothing missing) done
  room-reads delimiters nil primitive s false done = absurd (cc)

  leaf-reads : (delimiters : List Delimiters) (nil : Option (List Value)) (primitive : Primitive) → Reads (leaf input delimiters nil (Some primitive))
  leaf-reads delimiters nil primitive s done = room-reads delimiters nil primitive s (has_room primitive s.at s.stop) done

  leaf-fills : (delimiters : List Delimiters) (nil : Option (List Value)) (primitive : Option Primitive) → Fills (leaf input delimiters nil primitive)
  leaf-fills delimiters nil None s done = fine s
  leaf-fills delimiters nil (Some primitive) s done = (leaf-reads delimiters nil primitive s done).fine

  -- a leaf of another size
  of-reads : (delimiters : List Delimiters) (nil : Option (List Value)) (primitive : Option Primitive) → Reads (leaf_of input delimiters nil primitive)
  of-reads delimiters nil None s done = absurd (cc)
  of-reads delimiters nil (Some primitive) s done = leaf-reads delimiters nil primitive s done

  sized-reads : (delimiters : List Delimiters) (nil : Option (List Value)) (primitive : Primitive) (size : TextSize) → Reads (sized_leaf input delimiters nil (Some primitive) size)
  sized-reads delimiters nil primitive size s done = of-reads delimiters nil (resized size primitive) s done

  sized-fills : (delimiters : List Delimiters) (nil : Option (List Value)) (primitive : Option Primitive) (size : TextSize) → Fills (sized_leaf input delimiters nil primitive size)
  sized-fills delimiters nil None size s done = fine s
  sized-fills delimiters nil (Some primitive) size s done = (sized-reads delimiters nil primitive size s done).fine

  -- a prefix, and what it tells the size of
  prefixed-fills : (delimiters : List Delimiters) (by : Option Primitive) (own : ℕ) (next : ℕ → State → Outcome) → ((units : ℕ) → Fills (next units)) → Fills (prefixed input delimiters by own next)
  prefixed-fills delimiters by own next fills s =
      prefixed-comes (λ (e : End) (t : State). e ≡ Done → Fine s t) s (λ cause bit done. absurd (cc)) (λ cause quantity done. absurd (cc)) next
      (λ units at done.
      let after : State = record s { at = at } in
      both s after (next units after).state (moved s at s.stop) (fills units after done))
      input delimiters by own

  prefixed-reads : (delimiters : List Delimiters) (by : Option Primitive) (own : ℕ) (next : ℕ → State → Outcome) → ((units : ℕ) → Reads (next units)) → Reads (prefixed input delimiters by own next)
  prefixed-reads delimiters by own next reads s =
      prefixed-comes (λ (e : End) (t : State). e ≡ Done → IsRead s t) s (λ cause bit done. absurd (cc)) (λ cause quantity done. absurd (cc)) next
      (λ units at done.
      let after : State = record s { at = at } in
      read_behind s after (next units after).state (moved s at s.stop) (reads units after done))
      input delimiters by own

  -- a question, and what goes on by what it tells
  asked-fills : (start : Start) (cause : ParseCause) (next : ℕ → State → Outcome) → ((count : ℕ) → Fills (next count))
      → (found : Option (List ExpressionNode)) → Fills (asked_count table start cause next found)
  asked-fills start cause next fills found s =
      count-comes (λ (e : End) (t : State). e ≡ Done → Fine s t) s (λ cause kept ways done. absurd (cc)) table start cause next
      (λ count kept ways done.
      let after : State = record s { variables = kept } in
      both s after (next count after).state (as_told s s s.instead s.marks kept (fine s)) (fills count after done)) found

  asked-reads : (start : Start) (cause : ParseCause) (next : ℕ → State → Outcome) → ((count : ℕ) → Reads (next count))
      → (found : Option (List ExpressionNode)) → Reads (asked_count table start cause next found)
  asked-reads start cause next reads found s =
      count-comes (λ (e : End) (t : State). e ≡ Done → IsRead s t) s (λ cause kept ways done. absurd (cc)) table start cause next
      (λ count kept ways done.
      let after : State = record s { variables = kept } in
      read_behind s after (next count after).state (as_told s s s.instead s.marks kept (fine s)) (reads count after done)) found

  key-fills : (start : Start) (child : ℕ → State → Outcome) → ((id : ℕ) → Fills (child id)) → (keys : List Key)
      → (found : Option (List ExpressionNode)) → Fills (asked_key table start child keys found)
  key-fills start child fills keys found s =
      key-comes (λ (e : End) (t : State). e ≡ Done → Fine s t) s (λ cause kept ways done. absurd (cc)) table start child keys
      (λ id kept ways done.
      let after : State = record s { variables = kept } in
      both s after (child id after).state (as_told s s s.instead s.marks kept (fine s)) (fills id after done)) found

  passed-fills : (to : ℕ) (reached : Reached Bool) (s : State) → (passed input.limits.window to reached s).end ≡ Done
      → Fine s (passed input.limits.window to reached s).state
  passed-fills to (Told true) s done = moved s to s.stop
  passed-fills to (Told false) s done = absurd (cc)
  passed-fills to TooFar s done = absurd (cc)
  passed-fills to Missing s done = fine s

  pass-fills : (to : ℕ) (s : State) (over room : Bool)
      → (cond over (ended Done s) (cond room (fill_to input to s) (ended (Failed LengthOutOfRange s.at) s))).end ≡ Done
      → Fine s (cond over (ended Done s) (cond room (fill_to input to s) (ended (Failed LengthOutOfRange s.at) s))).state
  pass-fills to s true room done = fine s
  pass-fills to s false true done =
      passed-fills to (ask (seen_in input.bytes input.limits.window (anchor_at s (to - 1))) (has_byte ((to - 1) / 8)) nothing).reached s done
  pass-fills to s false false done = absurd (cc)

  byte-fills : (reached : Reached Bool) (next : State → Outcome) → Fills next → Fills (past_byte input.limits.window reached next)
  byte-fills (Told true) next fills s done = fills s done
  byte-fills (Told false) next fills s done = absurd (cc)
  byte-fills TooFar next fills s done = absurd (cc)
  byte-fills Missing next fills s done = fine s

  bytes-fill : (left k : ℕ) → Fills (pass_bytes input left k)
  bytes-fill zero k s done = moved s s.stop s.stop
  bytes-fill (suc left) k s done =
      byte-fills (ask (seen_in input.bytes input.limits.window (anchor_at s (8 * k))) (has_byte k) nothing).reached
      (pass_bytes input left (k + 1)) (bytes-fill left (k + 1)) s done

  rest-fills : (s : State) (over : Bool)
      → (cond over (ended Done s) (pass_bytes input (bytes_up_to s.stop (s.at / 8)) (s.at / 8) s)).end ≡ Done
      → Fine s (cond over (ended Done s) (pass_bytes input (bytes_up_to s.stop (s.at / 8)) (s.at / 8) s)).state
  rest-fills s true done = fine s
  rest-fills s false done = bytes-fill (bytes_up_to s.stop (s.at / 8)) (s.at / 8) s done

  close-done : (end : End) (outer : ℕ) (complex : Bool) (o : Outcome) → end ≡ o.end → (close end outer complex o).end ≡ Done → end ≡ Done
  close-done Done outer complex o is done = refl
  close-done (Failed cause bit) outer complex o is done = absurd (cc)
  close-done (Stopped cause quantity) outer complex o is done = absurd (cc)

  follow-done : (end : End) (o : Outcome) (next : State → Outcome) → end ≡ o.end → (follow end o next).end ≡ Done → (end ≡ Done) × ((next o.state).end ≡ Done)
  follow-done Done o next is done = (refl, done)
  follow-done (Failed cause bit) o next is done = absurd (cc)
  follow-done (Stopped cause quantity) o next is done = absurd (cc)

  room-complex : (id : ℕ) (body : State → Outcome) → Fills body → (instead : Instead) (s : State) (room : Bool)
      → (cond room (let o : Outcome = body (begun id instead s) in close o.end s.inside true o) (ended (Stopped (Limit Nodes) input.limits.nodes) s)).end ≡ Done
      → Fine s (cond room (let o : Outcome = body (begun id instead s) in close o.end s.inside true o) (ended (Stopped (Limit Nodes) input.limits.nodes) s)).state
  room-complex id body fills instead s true done =
      let first : State = begun id instead s in
      let o : Outcome = body first in
      let over : o.end ≡ Done = close-done o.end s.inside true o refl done in
      let full : State = record o.state { at = o.state.at; text = o.state.text; nodes = with_content o.state.nodes o.state.inside Complex } in
      let inner : IsRead first full =
      read_behind first o.state full (fills first over) (put_read o.state o.state.at o.state.text Complex (λ same. absurd (cc))) in
      let ends : (close o.end s.inside true o).state ≡ left s.inside true o.state = ap (λ (e : End). (close e s.inside true o).state) over in
      subst (λ (t : State). Fine s t) (sym ends) (element-ends id instead s full (left s.inside true o.state) inner refl refl)
  room-complex id body fills instead s false done = absurd (cc)

  room-simple : (id : ℕ) (body : State → Outcome) → ReadsKnown body → (instead : Instead) → IsKnown instead → (s : State) (room : Bool)
      → (cond room (let o : Outcome = body (begun id instead s) in close o.end s.inside false o) (ended (Stopped (Limit Nodes) input.limits.nodes) s)).end ≡ Done
      → Fine s (cond room (let o : Outcome = body (begun id instead s) in close o.end s.inside false o) (ended (Stopped (Limit Nodes) input.limits.nodes) s)).state
  room-simple id body reads instead known s true done =
      let first : State = begun id instead s in
      let o : Outcome = body first in
      let over : o.end ≡ Done = close-done o.end s.inside false o refl done in
      let ends : (close o.end s.inside false o).state ≡ left s.inside false o.state = ap (λ (e : End). (close e s.inside false o).state) over in
      subst (λ (t : State). Fine s t) (sym ends) (element-ends id instead s o.state (left s.inside false o.state) (reads first known over) refl refl)
  room-simple id body reads instead known s false done = absurd (cc)

  -- a value that stands for the open element's
  default-reads : (v : Value) (t : State) → (land input.limits t.at (Told (default_find t.at v)) t).end ≡ Done
      → IsRead t (land input.limits t.at (Told (default_find t.at v)) t).state
  default-reads (value.Int z) t done = take_read t t.at t.text (content.Signed z) (t.at - t.at) 0 (λ same. absurd (cc))
  default-reads (value.Uns n) t done = take_read t t.at t.text (content.Unsigned n) (t.at - t.at) 0 (λ same. absurd (cc))
  default-reads (value.Dec d) t done = take_read t t.at t.text (content.Decimal d) (t.at - t.at) 0 (λ same. absurd (cc))
  default-reads (value.Text text) t done =
      hold-reads content.Text text (vacant t.at) t (λ from len same. absurd (cc)) (nat_le (length t.text + length text) input.limits.text) done
  default-reads (value.Truth truth) t done = take_read t t.at t.text (content.Truth truth) (t.at - t.at) 0 (λ same. absurd (cc))
  default-reads (value.Bytes bytes) t done =
      hold-reads content.Octets bytes (vacant t.at) t (λ from len same. absurd (cc)) (nat_le (length t.text + length bytes) input.limits.text) done

  written-reads : (v : Value) (t : State) (written : Bool)
      → (cond written (land input.limits t.at (Told (default_find t.at v)) t) (ended (Failed (ExpressionFault 6) t.at) t)).end ≡ Done
      → IsRead t (cond written (land input.limits t.at (Told (default_find t.at v)) t) (ended (Failed (ExpressionFault 6) t.at) t)).state
  written-reads v t true done = default-reads v t done
  written-reads v t false done = absurd (cc)

  calculated-reads : (told : Result Value ℕ) → Reads (calculated input.limits told)
  calculated-reads (Ok v) t done = written-reads v t (is_written v) done
  calculated-reads (Err cause) t done = absurd (cc)

  -- an instance of a variable
  closed-fills : (s : State) (e : End) (o : Outcome) → (o.end ≡ Done → Fine s o.state) → (closed_behind e o).end ≡ Done → Fine s (closed_behind e o).state
  closed-fills s Done o first done = as_told s o.state o.state.instead o.state.marks (without_innermost o.state.variables) (first done)
  closed-fills s (Failed cause bit) o first done = as_told s o.state o.state.instead o.state.marks (without_innermost o.state.variables) (first done)
  closed-fills s (Stopped cause quantity) o first done = first done

  instanced-fills : (number : ℕ) (body : State → Outcome) → Fills body → Fills (instanced table number body)
  instanced-fills number body fills s =
      opened-comes (λ (e : End) (t : State). e ≡ Done → Fine s t) s (λ cause kept ways done. absurd (cc)) body
      (λ kept ways done.
      let after : State = record s { variables = kept } in
      both s after (body after).state (as_told s s s.instead s.marks kept (fine s)) (fills after done))
      (λ number start kept ways.
      let inside : State = record s { variables = entered kept number start } in
      closed-fills s (body inside).end (body inside)
      (λ over. both s inside (body inside).state (as_told s s s.instead s.marks (entered kept number start) (fine s)) (fills inside over)))
      table (opening_of (slice_get table.statements number))

  -- statements
  filling-tells : (s : State) → Tells input.limits (λ (t : State). Fine s t) (λ (e : End) (t : State). e ≡ Done → Fine s t)
  filling-tells s = record {
    again = λ t marks kept first same goes. as_told s t t.instead marks kept first;
    lands = λ t v first written done.
        both s t (land input.limits t.at (Told (default_find t.at v)) t).state first (default-reads v t done).fine;
    done = λ t first. first refl;
    ends = λ e t first over. first;
  }

  told-fills : (start : Start) (s : State) (e : End) (t : State) → (e ≡ Done → Fine s t) → e ≡ Done → Fine s (told_at e start t)
  told-fills start s Done t first over = first over
  told-fills start s (Failed cause bit) t first over = absurd (cc)
  told-fills start s (Stopped cause quantity) t first over = absurd (cc)

  concluded-fills : (start : Start) (behind : Statements) (s : State) (o : Outcome) → (o.end ≡ Done → Fine s o.state)
      → (concluded input.limits table start behind o).end ≡ Done → Fine s (concluded input.limits table start behind o).state
  concluded-fills start behind s o first =
      concluded-comes input.limits (λ (t : State). Fine s t) (λ (e : End) (t : State). e ≡ Done → Fine s t) (filling-tells s) table
      (λ (e : End) (t : State). e ≡ Done → Fine s t) (λ t there. there refl) start (told-fills start s)
      (λ cause bit t marks kept there same goes over. absurd (cc)) behind o first

  -- an element, where each of its representations fills what begins in it
  element-fills : (id : ℕ) (complex : Bool) (tried : Representations) (body : State → Outcome) → Goes body
      → ((instead : Instead) → IsKnown instead → Fills (attempted input id complex body instead)) → IsOk IsKnown Nil tried.nil → IsOk IsKnown Empty tried.empty
      → IsOk IsKnown Empty tried.where_tried.empty
      → Fills (element input id complex tried body)
  element-fills id complex tried body goes fills nil_is empty_is tried_is s =
      represented-comes (λ (e : End) (t : State). e ≡ Done → Fine s t) (λ (instead : Instead) (e : End) (t : State). e ≡ Done → Fine s t) s
      (attempted input id complex body) IsKnown tt (fills Nothing tt s)
      (λ instead before marks kept same is known done.
      unmarked s (attempted input id complex body instead (again_at s before marks kept)).state before marks kept
      (fills instead known (again_at s before marks kept) done))
      (λ instead t over done. closed_fine s t (over done)) (λ cause bit t over done. absurd (cc)) (λ instead cause quantity t over. over)
      (λ instead t over failed. absurd (cc)) (tried-stays input id complex body goes s) (tried-returns input id complex body goes s) tried nil_is empty_is tried_is

  -- what was done from a state on, whatever marks are open
  module _ (s : State) where
    abbrev FineBy : List Mark → State → Type 0
    FineBy marks t = Fine s t

    abbrev EndsBy : List Mark → End → State → Type 0
    EndsBy marks e t = e ≡ Done → Fine s t

    filling : Carries FineBy EndsBy
    filling = record {
      moves = λ marks t at first. both s t (record t { at = at }) first (moved t at t.stop);
      again = λ marks others t instead kept first is same goes. as_told s t instead others kept first;
      opens = λ marks t mark first. as_marked s t (mark ∷ t.marks) first;
      closes = λ marks t mark first. closed_fine s t first;
      ends = λ marks e t first done. first;
      done = λ marks t first. first refl;
      closes_end = λ marks e t mark first done. closed_fine s t (first done);
      stays = λ marks cause quantity t mark first. first;
    }

    filling-carried : (f : State → Outcome) → Fills f → Carried FineBy EndsBy f
    filling-carried f fills marks t first done = both s t (f t).state first (fills t done)

  choice-fills : (child : ℕ → State → Outcome) → ((id : ℕ) → Fills (child id)) → ((id : ℕ) → Goes (child id)) → (initiated : Bool) (ids : List ℕ)
      → Fills (choice child initiated ids)
  choice-fills child fills goes initiated ids s =
      choice-carried (FineBy s) (EndsBy s) (filling s) child goes (λ id. filling-carried s (child id) (fills id)) initiated ids s.marks s (fine s)

  untried-fills : (s : State) (e : End) (o : Outcome) → (o.end ≡ Done → Fine s o.state) → (untried e o).end ≡ Done → Fine s (untried e o).state
  untried-fills s Done o first done = as_told s o.state Nothing o.state.marks o.state.variables (first done)
  untried-fills s (Failed cause bit) o first done = as_told s o.state Nothing o.state.marks o.state.variables (first done)
  untried-fills s (Stopped cause quantity) o first done = first done

  once-fills : (tried : Bool) (body : State → Outcome) → Fills body → Fills (occurring tried body)
  once-fills tried body fills s =
      let inside : State = as_occurrence tried s in
      untried-fills s (body inside).end (body inside)
      (λ over. both s inside (body inside).state (as_told s s inside.instead s.marks s.variables (fine s)) (fills inside over))

  occurrences-fill : (body : State → Outcome) → Fills body → Goes body → (initiated : Bool) (left : ℕ) → Fills (occurrences body initiated left)
  occurrences-fill body fills goes initiated left s =
      occurrences-carried (FineBy s) (EndsBy s) (filling s) body goes (filling-carried s body fills) initiated left s.marks s (fine s)

  separated-fills : (sequence : Sequence) → ((id : ℕ) → Fills (sequence.child id)) → ((id : ℕ) → Goes (sequence.child id))
      → (policy : SeparatorSuppressionPolicy) (slots : List Slot) → Fills (separated sequence policy slots)
  separated-fills sequence fills goes policy slots s =
      separated-carried (FineBy s) (EndsBy s) (filling s) sequence (λ id tried. once-goes input tried (sequence.child id) (goes id))
      (λ id tried. filling-carried s (occurring tried (sequence.child id)) (once-fills tried (sequence.child id) (fills id)))
      (λ id. filling-carried s (sequence.child id) (fills id)) policy slots s.marks s
      (fine s)

  group-fills : (child : ℕ → State → Outcome) → ((id : ℕ) → Fills (child id)) → (children : List ℕ) → Fills (group child children)
  group-fills child fills [] s done = fine s
  group-fills child fills (id ∷ rest) s done =
      let parts = follow-done (child id s).end (child id s) (group child rest) refl done in
      let after : (then_do (child id s) (group child rest)).state ≡ (group child rest (child id s).state).state =
      ap (λ (e : End). (follow e (child id s) (group child rest)).state) parts.0 in
      subst (λ (t : State). Fine s t) (sym after)
      (both s (child id s).state (group child rest (child id s).state).state (fills id s parts.0) (group-fills child fills rest (child id s).state parts.1))

  group-reads : (child : ℕ → State → Outcome) → ((id : ℕ) → Fills (child id)) → ((id : ℕ) → Goes (child id)) → (children : List ℕ) (at id : ℕ)
      → slice_get children at ≡ Some id → ReadsKnown (child id) → ReadsKnown (group child children)
  group-reads child fills goes [] at id is reads s known done = absurd (cc)
  group-reads child fills goes (first ∷ rest) zero id is reads s known done =
      let same : first ≡ id = cc in
      let parts = follow-done (child first s).end (child first s) (group child rest) refl done in
      let after : (then_do (child first s) (group child rest)).state ≡ (group child rest (child first s).state).state =
      ap (λ (e : End). (follow e (child first s) (group child rest)).state) parts.0 in
      subst (λ (t : State). IsRead s t) (sym after)
      (read_before s (child first s).state (group child rest (child first s).state).state
      (subst (λ (i : ℕ). ReadsKnown (child i)) (sym same) reads s known parts.0) (group-fills child fills rest (child first s).state parts.1))
  group-reads child fills goes (first ∷ rest) (suc at) id is reads s known done =
      let parts = follow-done (child first s).end (child first s) (group child rest) refl done in
      let after : (then_do (child first s) (group child rest)).state ≡ (group child rest (child first s).state).state =
      ap (λ (e : End). (follow e (child first s) (group child rest)).state) parts.0 in
      let stays : Stays s (child first s).state = subst (λ (e : End). Ends e s (child first s).state) parts.0 (goes first s).ends in
      subst (λ (t : State). IsRead s t) (sym after)
      (read_behind s (child first s).state (group child rest (child first s).state).state (fills first s parts.0)
      (group-reads child fills goes rest at id is reads (child first s).state (known_behind s (child first s).state stays known) parts.1))

  -- the lengths of a content that is done, and then the rest of its box
  rest-from-fills : (from : ℕ) → Fills (rest_from input from)
  rest-from-fills from s done =
      let t : State = with_span (s.stop - from) (s.at - from) s in
      both s t (rest_of input t).state (spans (s.stop - from) (s.at - from) s) (rest-fills t (nat_le t.stop t.at) done)

  spanned-fills : (body : State → Outcome) → Fills body → Fills (spanned body)
  spanned-fills body fills s done =
      let parts = follow-done (body s).end (body s) (span_ends s.at) refl done in
      let t : State = (body s).state in
      let after : (spanned body s).state ≡ (span_ends s.at t).state = ap (λ (e : End). (follow e (body s) (span_ends s.at)).state) parts.0 in
      subst (λ (u : State). Fine s u) (sym after) (both s t (span_ends s.at t).state (fills s parts.0) (spans (t.at - s.at) (t.at - s.at) t))

  unboxed-done : (end : End) (outer hidden : ℕ) (o : Outcome) → end ≡ o.end → (unboxed end outer hidden o).end ≡ Done → end ≡ Done
  unboxed-done Done outer hidden o is done = refl
  unboxed-done (Failed cause bit) outer hidden o is done = absurd (cc)
  unboxed-done (Stopped cause quantity) outer hidden o is done = absurd (cc)

  unscoped-done : (end : End) (count : ℕ) (o : Outcome) → end ≡ o.end → (unscoped end count o).end ≡ Done → end ≡ Done
  unscoped-done Done count o is done = refl
  unscoped-done (Failed cause bit) count o is done = absurd (cc)
  unscoped-done (Stopped cause quantity) count o is done = absurd (cc)

  -- a state with one list more
  open_fine : (list : ℕ) (s : State) → Fine s (opens list s)
  open_fine list s = aside s s.at s.stop s.hidden (s.lists ++ list ∷ [])

  -- a state with so many lists
  closes_fine : (count : ℕ) (s : State) → Fine s (closes_to count s)
  closes_fine count s = aside s s.at s.stop s.hidden (take count s.lists)

  scoped-fills : (list : ℕ) (body : State → Outcome) → Fills body → Fills (scoped list body)
  scoped-fills list body fills s done =
      let inside : State = opens list s in
      let o : Outcome = body inside in
      let over : o.end ≡ Done = unscoped-done o.end (length s.lists) o refl done in
      let closed : (unscoped o.end (length s.lists) o).state ≡ closes_to (length s.lists) o.state =
      ap (λ (e : End). (unscoped e (length s.lists) o).state) over in
      subst (λ (t : State). Fine s t) (sym closed)
      (both s inside (closes_to (length s.lists) o.state) (open_fine list s)
      (both inside o.state (closes_to (length s.lists) o.state) (fills inside over) (closes_fine (length s.lists) o.state)))

  scoped-reads : (list : ℕ) (body : State → Outcome) → ReadsKnown body → ReadsKnown (scoped list body)
  scoped-reads list body reads s known done =
      let inside : State = opens list s in
      let o : Outcome = body inside in
      let over : o.end ≡ Done = unscoped-done o.end (length s.lists) o refl done in
      let closed : (unscoped o.end (length s.lists) o).state ≡ closes_to (length s.lists) o.state =
      ap (λ (e : End). (unscoped e (length s.lists) o).state) over in
      subst (λ (t : State). IsRead s t) (sym closed)
      (read_behind s inside (closes_to (length s.lists) o.state) (open_fine list s)
      (read_before inside o.state (closes_to (length s.lists) o.state) (reads inside known over) (closes_fine (length s.lists) o.state)))

  boxed-fills : (bits : ℕ) (body : State → Outcome) → Fills body → (s : State) (room : Bool)
      → (cond room
      (let o : Outcome = then_do (body (boxed_at (s.at + bits) s)) (rest_from input s.at) in unboxed o.end s.stop s.hidden o)
      (ended (Failed LengthOutOfRange s.at) s)).end ≡ Done
      → Fine s (cond room
      (let o : Outcome = then_do (body (boxed_at (s.at + bits) s)) (rest_from input s.at) in unboxed o.end s.stop s.hidden o)
      (ended (Failed LengthOutOfRange s.at) s)).state
  boxed-fills bits body fills s true done =
      let inside : State = boxed_at (s.at + bits) s in
      let inner : Outcome = body inside in
      let o : Outcome = then_do inner (rest_from input s.at) in
      let over : o.end ≡ Done = unboxed-done o.end s.stop s.hidden o refl done in
      let parts = follow-done inner.end inner (rest_from input s.at) refl over in
      let after : o.state ≡ (rest_from input s.at inner.state).state = ap (λ (e : End). (follow e inner (rest_from input s.at)).state) parts.0 in
      let last : State = record o.state { stop = s.stop; hidden = s.hidden } in
      let closed : (unboxed o.end s.stop s.hidden o).state ≡ last = ap (λ (e : End). (unboxed e s.stop s.hidden o).state) over in
      let whole : Fine inside o.state = subst (λ (t : State). Fine inside t) (sym after)
      (both inside inner.state (rest_from input s.at inner.state).state (fills inside parts.0) (rest-from-fills s.at inner.state parts.1)) in
      subst (λ (t : State). Fine s t) (sym closed)
      (both s inside last (aside s s.at (s.at + bits) (length s.lists) s.lists)
      (both inside o.state last whole (aside o.state o.state.at s.stop s.hidden o.state.lists)))
  boxed-fills bits body fills s false done = absurd (cc)

  module _ (nests : Nests table.rows) (named : All (NamesWithin (named_by table)) table.rows) where
    -- the rows below each of the first so many rows
    abbrev FillBelow : ℕ → Type 0
    FillBelow most = (n : ℕ) → n ≤ most → (id : ℕ) → Fills (below input table n id)

    row-below : (n id : ℕ) (r : Option Row) → id < n → slice_get table.rows id ≡ r → (s : State)
        → below input table n id s ≡ spend one_row (row input table (below input table id) id r s)
    unfolding meaning
    row-below n id r less is s =
        below-meaning input table n id s less ∙ ap (λ (r : Option Row). spend one_row (row input table (below input table id) id r s)) is

    -- a row that reads a value
    reads-below : (n : ℕ) → FillBelow n → (id : ℕ) → id < n → ReadsBy table.rows (IsInTables table) (IsCalculation table) id
        → ReadsKnown (below input table n id)
    reads-below n fills _ less (by_leaf id prim row_is prim_is) s known done =
        let nil : Option (List Value) = nil_values table.primitives s.instead in
        let there = used_is s.instead prim known prim_is in
        let same : below input table n id s ≡ spend one_row (leaf input table.delimiters nil (Some there.0) s) =
        row-below n id (Some (Leaf prim)) less row_is s ∙ ap (λ (p : Option Primitive). spend one_row (leaf input table.delimiters nil p s)) there.1 in
        subst (λ (o : Outcome). IsRead s o.state) (sym same) (leaf-reads table.delimiters nil there.0 s (ap (λ (o : Outcome). o.end) (sym same) ∙ done))
    reads-below n fills _ less (by_prefix id prim prefix row_is prim_is) s known done =
        let by : Option Primitive = slice_get table.primitives prefix.prim in
        let nil : Option (List Value) = nil_values table.primitives s.instead in
        let there = used_is s.instead prim known prim_is in
        let same : below input table n id s ≡ spend one_row (prefixed_leaf input table.delimiters by prefix nil (Some there.0) s) =
        row-below n id (Some (PrefixedLeaf prefix prim)) less row_is s ∙ ap (λ (p : Option Primitive). spend one_row (prefixed_leaf input table.delimiters by prefix nil p s)) there.1 in
        subst (λ (o : Outcome). IsRead s o.state) (sym same)
        (prefixed-reads table.delimiters by prefix.own (λ units after. sized_leaf input table.delimiters nil (Some there.0) (size_of prefix.unit units) after)
        (λ units. sized-reads table.delimiters nil there.0 (size_of prefix.unit units)) s (ap (λ (o : Outcome). o.end) (sym same) ∙ done))
    reads-below n fills _ less (by_measure id prim measure row_is prim_is) s known done =
        let nil : Option (List Value) = nil_values table.primitives s.instead in
        let there = used_is s.instead prim known prim_is in
        let same : below input table n id s ≡ spend one_row (measured_leaf input table measure nil (Some there.0) s) =
        row-below n id (Some (MeasuredLeaf measure prim)) less row_is s ∙ ap (λ (p : Option Primitive). spend one_row (measured_leaf input table measure nil p s)) there.1 in
        subst (λ (o : Outcome). IsRead s o.state) (sym same)
        (asked-reads (At s.inside) LengthOutOfRange (λ units after. sized_leaf input table.delimiters nil (Some there.0) (size_of measure.unit units) after)
        (λ units. sized-reads table.delimiters nil there.0 (size_of measure.unit units)) (question_at table measure.question) s
        (ap (λ (o : Outcome). o.end) (sym same) ∙ done))
    reads-below n fills _ less (grouped id at child children row_is at_is inner) s known done =
        let same : below input table n id s ≡ spend one_row (group (below input table id) children s) = row-below n id (Some (Group children)) less row_is s in
        let all : All (λ c. c < id) children = nests id (Group children) (slice_get_within table.rows id (Group children) row_is) row_is in
        let lower : child < id = subst (λ (c : ℕ). c < id) (get_or_from_slice_get children at child child at_is) (all at child (slice_get_within children at child at_is)) in
        let few : FillBelow id = λ m most. fills m (omega arith) in
        subst (λ (o : Outcome). IsRead s o.state) (sym same)
        (group-reads (below input table id) (λ i. fills id (omega arith) i) (below-goes input table id) children at child at_is
        (reads-below id few child lower inner) s known (ap (λ (o : Outcome). o.end) (sym same) ∙ done))
    reads-below n fills _ less (scoped_reads id list body row_is inner) s known done =
        let same : below input table n id s ≡ spend one_row (scoped list (below input table id body) s) = row-below n id (Some (Scope list body)) less row_is s in
        let lower : body < id = nests id (Scope list body) (slice_get_within table.rows id (Scope list body) row_is) row_is in
        let few : FillBelow id = λ m most. fills m (omega arith) in
        subst (λ (o : Outcome). IsRead s o.state) (sym same)
        (scoped-reads list (below input table id body) (reads-below id few body lower inner) s known (ap (λ (o : Outcome). o.end) (sym same) ∙ done))
    reads-below n fills _ less (calculated_reads id number row_is calculation) s known done =
        let expression : List ExpressionNode = calculation.0.expression in
        let start : Start = start_of (Some (Calculation calculation.0)) s in
        let first : State = with_reads table start expression s in
        let told : Result Value ℕ = taken calculation.0.kind (evaluated table start expression s) in
        let same : below input table n id s ≡ spend one_row (calculated input.limits told first) =
        row-below n id (Some (Statement number)) less row_is s
        ∙ ap (λ (found : Option AnyStatement). spend one_row (statement_of input table number found s)) calculation.1
        ∙ ap (λ (output : Bool). spend one_row (cond output (ended Done s) (calculated input.limits told first))) calculation.2 in
        subst (λ (o : Outcome). IsRead s o.state) (sym same)
        (read_behind s first (calculated input.limits told first).state (as_told s s s.instead s.marks first.variables (fine s))
        (calculated-reads told first (ap (λ (o : Outcome). o.end) (sym same) ∙ done)))

    -- the representations of an element are read by primitives of the tables
    tried-within : (id : ℕ) (name : List ℕ) (simple : Option Simple) (tried : Representations) (behind : Statements) (body : ℕ)
        → slice_get table.rows id ≡ Some (Elem name simple tried behind body) → AreWithin (length table.primitives) tried
    tried-within id name simple tried behind body is =
        let this : Row = Elem name simple tried behind body in
        (subst (λ (r : Row). NamesWithin (named_by table) r) (get_or_from_slice_get table.rows id this this is)
        (named id this (slice_get_within table.rows id this is))).0

    row-fills : (id : ℕ) → FillBelow id → (r : Option Row) → slice_get table.rows id ≡ r → Fills (row input table (below input table id) id r)
    row-fills id fills None is s done = fine s
    row-fills id fills (Some (Leaf prim)) is s done =
        leaf-fills table.delimiters (nil_values table.primitives s.instead) (slice_get table.primitives (read_by table.primitives s.instead prim)) s done
    row-fills id fills (Some (Elem name None tried behind body)) is s done =
        let within : AreWithin (length table.primitives) tried = tried-within id name None tried behind body is in
        let o : Outcome = element input id true tried (below input table id body) s in
        concluded-fills (At (length s.nodes)) behind s o
        (element-fills id true tried (below input table id body) (below-goes input table id body)
        (λ instead known t over. room-complex id (below input table id body) (fills id (omega arith) body) instead t
        (nat_lt (length t.nodes) input.limits.nodes) over)
        (nil_within tried.nil within.0) (empty_within tried.empty within.1) (empty_within tried.where_tried.empty within.2) s) done
    row-fills id fills (Some (Elem name (Some simple) tried behind body)) is s done =
        let this : Row = Elem name (Some simple) tried behind body in
        let less : body < id = nests id this (slice_get_within table.rows id this is) is in
        let within : AreWithin (length table.primitives) tried = tried-within id name (Some simple) tried behind body is in
        let o : Outcome = element input id false tried (below input table id body) s in
        concluded-fills (At (length s.nodes)) behind s o
        (element-fills id false tried (below input table id body) (below-goes input table id body)
        (λ instead known t over. room-simple id (below input table id body) (reads-below id fills body less (leaves id name simple tried behind body is))
        instead known t (nat_lt (length t.nodes) input.limits.nodes) over)
        (nil_within tried.nil within.0) (empty_within tried.empty within.1) (empty_within tried.where_tried.empty within.2) s) done
    row-fills id fills (Some (Group children)) is s done = group-fills (below input table id) (λ i. fills id (omega arith) i) children s done
    row-fills id fills (Some (Skip bits)) is s done = pass-fills (s.at + bits) s (nat_le (s.at + bits) s.at) (nat_le (s.at + bits) s.stop) done
    row-fills id fills (Some (Align bits)) is s done = pass-fills (aligned bits s.at) s (nat_le (aligned bits s.at) s.at) (nat_le (aligned bits s.at) s.stop) done
    row-fills id fills (Some (Initiator delimiter)) is s done =
        initiator-comes (λ (e : End) (t : State). e ≡ Done → Fine s t) s
        (λ at marks same over. as_marked s (record s { at = at }) marks (moved s at s.stop))
        (λ cause over. absurd (cc))
        (λ cause quantity over. absurd (cc)) input table.delimiters delimiter done
    row-fills id fills (Some (Terminator delimiter separators)) is s done =
        terminator-comes (λ (e : End) (t : State). e ≡ Done → Fine s t) s
        (λ at marks same over. as_marked s (record s { at = at }) marks (moved s at s.stop))
        (λ cause over. absurd (cc))
        (λ cause quantity over. absurd (cc)) input table.delimiters delimiter separators done
    row-fills id fills (Some Separator) is s done =
        separator-comes (λ (e : End) (t : State). e ≡ Done → Fine s t) s
        (λ at marks same over. as_marked s (record s { at = at }) marks (moved s at s.stop))
        (λ cause over. absurd (cc))
        (λ cause quantity over. absurd (cc)) input table.delimiters done
    row-fills id fills (Some (Scope list body)) is s done = scoped-fills list (below input table id body) (fills id (omega arith) body) s done
    row-fills id fills (Some (Boxed bits body)) is s done =
        boxed-fills bits (below input table id body) (fills id (omega arith) body) s (nat_le (s.at + bits) s.stop) done
    row-fills id fills (Some (PrefixedLeaf prefix prim)) is s done =
        let nil : Option (List Value) = nil_values table.primitives s.instead in
        let primitive : Option Primitive = slice_get table.primitives (read_by table.primitives s.instead prim) in
        prefixed-fills table.delimiters (slice_get table.primitives prefix.prim) prefix.own
        (λ units after. sized_leaf input table.delimiters nil primitive (size_of prefix.unit units) after)
        (λ units. sized-fills table.delimiters nil primitive (size_of prefix.unit units)) s done
    row-fills id fills (Some (MeasuredLeaf measure prim)) is s done =
        let nil : Option (List Value) = nil_values table.primitives s.instead in
        let primitive : Option Primitive = slice_get table.primitives (read_by table.primitives s.instead prim) in
        asked-fills (At s.inside) LengthOutOfRange
        (λ units after. sized_leaf input table.delimiters nil primitive (size_of measure.unit units) after)
        (λ units. sized-fills table.delimiters nil primitive (size_of measure.unit units)) (question_at table measure.question) s done
    row-fills id fills (Some (MeasuredBox measure body)) is s done =
        let inner : State → Outcome = below input table id body in
        asked-fills (At s.inside) LengthOutOfRange
        (λ units after. boxed input (bits_of_units measure.unit units) inner after)
        (λ units after. boxed-fills (bits_of_units measure.unit units) inner (fills id (omega arith) body) after
        (nat_le (after.at + bits_of_units measure.unit units) after.stop)) (question_at table measure.question) s done
    row-fills id fills (Some (Repeat count body)) is s done = group-fills (below input table id) (λ i. fills id (omega arith) i) (replicate count body) s done
    row-fills id fills (Some (Counted question body)) is s done =
        let child : ℕ → State → Outcome = below input table id in
        asked-fills (Inside s.inside) NegativeCount (λ count after. group child (replicate count body) after)
        (λ count. group-fills child (λ i. fills id (omega arith) i) (replicate count body)) (question_at table question) s done
    row-fills id fills (Some (Optional most item initiated body)) is s done =
        let inner : State → Outcome = below input table id body in
        occurrences-fill (occurring true inner) (once-fills true inner (fills id (omega arith) body)) (once-goes input true inner (below-goes input table id body)) initiated most
        s done
    row-fills id fills (Some (ChoiceRow branches initiated)) is s done =
        choice-fills (below input table id) (λ i. fills id (omega arith) i) (below-goes input table id) initiated branches s done
    row-fills id fills (Some (Dispatch question keys)) is s done =
        key-fills (Inside s.inside) (below input table id) (λ i. fills id (omega arith) i) keys (question_at table question) s done
    row-fills id fills (Some (Statement number)) is s done =
        statement-comes input (λ (t : State). Fine s t) (λ (e : End) (t : State). e ≡ Done → Fine s t) (filling-tells s) table number s (fine s) done
    row-fills id fills (Some (Concluded behind body)) is s done =
        concluded-fills (Inside s.inside) behind s (below input table id body s) (fills id (omega arith) body s) done
    row-fills id fills (Some (Hidden body)) is s done = fills id (omega arith) body s done
    row-fills id fills (Some (Spanned body)) is s done = spanned-fills (below input table id body) (fills id (omega arith) body) s done
    row-fills id fills (Some (Instance statement body)) is s done =
        instanced-fills statement (below input table id body) (fills id (omega arith) body) s done
    row-fills id fills (Some (Separated policy position initiated slots)) is s done =
        let sequence : Sequence =
        record { input = input; table = table; child = below input table id; position = position; initiated = initiated } in
        separated-fills sequence
        (λ i. fills id (omega arith) i) (below-goes input table id) policy slots s done
    row-fills id fills (Some (PrefixedBox prefix body)) is s done =
        let inner : State → Outcome = below input table id body in
        prefixed-fills table.delimiters (slice_get table.primitives prefix.prim) prefix.own
        (λ units after. boxed input (bits_of_units prefix.unit units) inner after)
        (λ units after. boxed-fills (bits_of_units prefix.unit units) inner (fills id (omega arith) body) after
        (nat_le (after.at + bits_of_units prefix.unit units) after.stop)) s done

    below-fills : (n id : ℕ) → FillBelow n → (s : State) (test : Bool)
        → (cond test (row_at input table (below input table n) n s) (below input table n id s)).end ≡ Done
        → Fine s (cond test (row_at input table (below input table n) n s) (below input table n id s)).state
    below-fills n id fills s true done = row-fills n fills (slice_get table.rows n) refl s done
    below-fills n id fills s false done = fills n (omega arith) id s done

    one-more : (most : ℕ) → FillBelow most → (id : ℕ) → Fills (below input table (suc most) id)
    unfolding below
    one-more most fills id s done = below-fills most id fills s (nat_eq id most) done

    more-fill : (most n id : ℕ) → n ≤ suc most → FillBelow most → (n ≡ suc most) ⊎ (n ≡ suc most → ⊥) → Fills (below input table n id)
    more-fill most n id few fills (inl same) = subst (λ (m : ℕ). Fills (below input table m id)) (sym same) (one-more most fills id)
    more-fill most n id few fills (inr apart) = fills n (omega arith) id

    all-fill : (most : ℕ) → FillBelow most
    unfolding below
    all-fill zero zero few id s done = fine s
    all-fill zero (suc n) few id s done = absurd (omega arith)
    all-fill (suc most) n few id s done = more-fill most n id few (all-fill most) (same_or n (suc most)) s done

    pub all-read : (id start : ℕ) → (meaning input table id (front_at table start)).end ≡ Done
        → AreRead (meaning input table id (front_at table start)).state.nodes
    unfolding meaning
    all-read id start done at node is =
        (row-fills id (all-fill id) (slice_get table.rows id) refl (front_at table start) done).fresh at node (omega arith) is
