-- The elements stay a tree whatever the rows do.
use Rattle.std.proofs.Common.{◌≡◌, ℕ, zero, suc, ◌+◌, ◌-◌, ◌*◌, ◌/◌, ◌<◌, ◌≤◌, refl, List, [], ◌∷◌, ◌++◌, length, Bool, true, false, cond, nat_eq, nat_le, nat_lt, Option, Some, None, ap, sym, subst, arith, zero-add, replicate}
use Rattle.std.specs.Prelude.{slice_get}
use Rattle.dfdl_report.specs.declared.cause.LimitCause.TheVariants.{Nodes, Text as TextLimit}
use Rattle.dfdl_report.specs.declared.cause.ParseCause.{ParseCause}
use Rattle.dfdl_report.specs.declared.cause.ParseCause.TheVariants.{LengthOutOfRange, NegativeCount}
use Rattle.dfdl_terms.specs.declared.keys.Key.{Key}
use Rattle.dfdl_terms.specs.declared.delimiters.Delimiters.{Delimiters}
use Rattle.dfdl_terms.specs.declared.representations.Representations.{Representations}
use Rattle.dfdl_value.specs.declared.value.Value.{Value}
use Rattle.dfdl_terms.specs.declared.row.Primitive.{Primitive}
use Rattle.dfdl_terms.specs.declared.row.Row.{Row}
use Rattle.dfdl_terms.specs.declared.row.Row.TheVariants.{Leaf, Elem, Group, Skip, Align, Initiator, Terminator, Separator, Scope, Boxed, PrefixedLeaf, PrefixedBox, MeasuredLeaf, MeasuredBox, Repeat, Counted, Optional, Choice as ChoiceRow, Dispatch, Statement, Concluded, Hidden, Spanned, Instance, Separated}
use Rattle.dfdl_separators.specs.declared.policy.SeparatorSuppressionPolicy.{SeparatorSuppressionPolicy}
use Rattle.dfdl_terms.specs.declared.slots.Slot.{Slot}
use Rattle.dfdl_terms.specs.declared.statement.Statements.{Statements}
use Rattle.dfdl_terms.specs.declared.text.TextSize.{TextSize}
use Rattle.dfdl_terms.specs.Rows.{IsElementRow, Table}
use Rattle.dfdl_paths.specs.declared.place.Start.{Start}
use Rattle.dfdl_paths.specs.declared.place.Start.TheVariants.{At, Inside}
use Rattle.dfdl_expressions.specs.declared.node.Node.{Node as ExpressionNode}
use Rattle.dfdl_surroundings.specs.Answers.{element_of}
use Rattle.dfdl_vars.specs.Kept.{Kept, entered, without_innermost}
use Rattle.dfdl_region.specs.declared.node.Node.{Node}
use Rattle.dfdl_region.specs.declared.node.Content.{Content}
use Rattle.dfdl_region.specs.declared.node.Content.TheVariants.{Begun, Complex, Text, Octets}
use Rattle.dfdl_region.specs.declared.node.Lengths.{Lengths}
use Rattle.dfdl_region.specs.Nodes.{with_content, with_lengths}
use Rattle.dfdl_looks.specs.Asks.{Reached, Told, TooFar, Missing, ask}
use Rattle.dfdl_looks.specs.Looks.{seen_in}
use Rattle.dfdl_looks.specs.Tallies.{needs_from, nothing}
use Rattle.dfdl_grammar.specs.declared.end.End.{End}
use Rattle.dfdl_grammar.specs.declared.end.End.TheVariants.{Done, Failed, Stopped}
use Rattle.dfdl_grammar.specs.declared.end.Halt.TheVariants.{Limit}
use Rattle.dfdl_grammar.specs.declared.instead.Instead.{Instead}
use Rattle.dfdl_grammar.specs.declared.mark.Mark.{Mark}
use Rattle.dfdl_grammar.specs.declared.instead.Instead.TheVariants.{Nothing, Nil, Empty}
use Rattle.dfdl_grammar.specs.States.{Input, State, anchor, anchor_at}
use Rattle.dfdl_grammar.specs.Documents.{front_at}
use Rattle.dfdl_grammar.specs.Outcomes.{Outcome, ended, follow, spend, then_do}
use Rattle.dfdl_grammar.specs.Leaves.{Find, Fails, Finds, FindsOctets, FindsText, content_begins, default_find, has_room, land, leaf, nil_values, program_for, read_by, taken_as}
use Rattle.dfdl_grammar.specs.Framing.{aligned, fill_to, has_byte, passed}
use Rattle.dfdl_grammar.specs.Delimiters.{closes_to, lists_of, markup, opens, scoped, unscoped}
use Rattle.dfdl_grammar.specs.Boxes.{boxed, boxed_at, bytes_up_to, pass_bytes, past_byte, rest_from, unboxed}
use Rattle.dfdl_grammar.specs.Spans.{span_ends, spanned, with_span}
use Rattle.dfdl_grammar.specs.declared.span.Span.{Span}
use Rattle.dfdl_grammar.proofs.Lengthened.{lengths-length, lengths-same}
use Rattle.dfdl_grammar.specs.Elements.{attempted, begun, close, element, has_elements, left}
use Rattle.dfdl_grammar.specs.Marks.{closed}
use Rattle.dfdl_grammar.specs.Choices.{choice}
use Rattle.dfdl_grammar.specs.Occurrences.{as_occurrence, occurrences, occurring, untried}
use Rattle.dfdl_grammar.specs.Slots.{Sequence, separated}
use Rattle.dfdl_grammar.specs.Statements.{concluded, told_at}
use Rattle.dfdl_grammar.specs.Prefixes.{bits_of_units, leaf_of, prefixed, resized, size_of, sized_leaf}
use Rattle.dfdl_grammar.specs.Questions.{asked_count, asked_key, question_at}
use Rattle.dfdl_grammar.specs.Rows.{below, group, meaning, row, row_at}
use Rattle.dfdl_grammar.specs.Trees.{IsNode, IsTree}
use Rattle.dfdl_grammar.proofs.Going.{below-goes, tried-returns, tried-stays, once-goes}
use Rattle.dfdl_grammar.proofs.Grown.{Goes, begun-longer, content-length}
use Rattle.dfdl_grammar.specs.Instances.{closed_behind, instanced, opening_of, with_instance}
use Rattle.dfdl_grammar.proofs.Asked.{count-comes, key-comes}
use Rattle.dfdl_grammar.proofs.Opened.{opened-comes}
use Rattle.dfdl_grammar.proofs.Prefixed.{prefixed-comes}
use Rattle.dfdl_grammar.proofs.Carried.{Carried, Carries}
use Rattle.dfdl_grammar.proofs.Pointed.{choice-carried, occurrences-carried}
use Rattle.dfdl_grammar.proofs.Slotted.{separated-carried}
use Rattle.dfdl_grammar.proofs.Stated.{Restates, Tells, concluded-comes, statement-comes}
use Rattle.dfdl_grammar.proofs.Represented.{again_at, any_ok, refused, represented-comes}
use Rattle.dfdl_grammar.proofs.Sought.{initiator-comes, separator-comes, terminator-comes}

-- the elements are a tree, and the innermost open one is among them, where there are any
record Grows (table : Table) (s : State) : Type 0 where
  tree : IsTree table s.nodes
  few : s.inside ≤ length s.nodes
  open_one : 0 < length s.nodes → s.inside < length s.nodes

-- A state behind others, where statements stand in the element that has them: as many elements are among these, and it is one, where there
-- are any.
record Stands (table : Table) (start : Start) (s t : State) : Type 0 where
  grows : Grows table t
  longer : length s.nodes ≤ length t.nodes
  few : element_of start ≤ length t.nodes
  open_one : 0 < length t.nodes → element_of start < length t.nodes

-- an element that is among some is among more
among_more : (number few many : ℕ) → number ≤ few → (0 < few → number < few) → few ≤ many → 0 < many → number < many
among_more number zero many within among more some = omega arith
among_more number (suc few) many within among more some = let less = among (omega arith) in omega arith

-- a node of which only the content may have changed
record IsLike (nodes : List Node) (at : ℕ) (node : Node) : Type 0 where
  like : Node
  there : slice_get nodes at ≡ Some like
  parent : like.parent ≡ node.parent
  element : like.element ≡ node.element

content-like : (nodes : List Node) (number at : ℕ) (content : Content) (node : Node) → slice_get (with_content nodes number content) at ≡ Some node → IsLike nodes at node
content-like [] number at content node is = absurd (cc)
content-like (first ∷ rest) zero zero content node is =
    let same : ◌≡◌ {A = Node} (record first { content = content }) node = cc in
    record { like = first; there = refl; parent = ap (λ (n : Node). n.parent) same; element = ap (λ (n : Node). n.element) same }
content-like (first ∷ rest) zero (suc at) content node is = record { like = node; there = is; parent = refl; element = refl }
content-like (first ∷ rest) (suc number) zero content node is = record { like = node; there = is; parent = refl; element = refl }
content-like (first ∷ rest) (suc number) (suc at) content node is =
    let more = content-like rest number at content node is in
    record { like = more.like; there = more.there; parent = more.parent; element = more.element }

content-tree : (table : Table) (nodes : List Node) (number : ℕ) (content : Content) → IsTree table nodes → IsTree table (with_content nodes number content)
content-tree table nodes number content tree at node is =
    let one = content-like nodes number at content node is in
    let good = tree at one.like one.there in
    let parent = good.parent in
    let same = one.parent in
    record {
      parent = omega arith;
      earlier = λ some. let less = good.earlier some in omega arith;
      element = subst (λ (id : ℕ). IsElementRow (slice_get table.rows id)) one.element good.element;
    }

lengths-tree : (table : Table) (nodes : List Node) (number : ℕ) (lengths : Option Lengths) → IsTree table nodes → IsTree table (with_lengths nodes number lengths)
lengths-tree table nodes number lengths tree at node is =
    let one = lengths-same nodes number at lengths node is in
    let good = tree at one.old one.there in
    let parent = good.parent in
    let same = one.parent in
    record {
      parent = omega arith;
      earlier = λ some. let less = good.earlier some in omega arith;
      element = subst (λ (id : ℕ). IsElementRow (slice_get table.rows id)) one.element good.element;
    }

last-tree : (table : Table) (nodes : List Node) (last : Node) → (all : ℕ) → ((number : ℕ) (node : Node) → slice_get nodes number ≡ Some node → IsNode table (all + number) node)
    → IsNode table (all + length nodes) last
    → (number : ℕ) (node : Node) → slice_get (nodes ++ last ∷ []) number ≡ Some node → IsNode table (all + number) node
last-tree table [] last all tree one zero node is =
    let same : last ≡ node = cc in subst (λ (n : Node). IsNode table (all + 0) n) same one
last-tree table [] last all tree one (suc number) node is = absurd (cc)
last-tree table (first ∷ rest) last all tree one zero node is = tree zero node is
last-tree table (first ∷ rest) last all tree one (suc number) node is =
    subst (λ (n : ℕ). IsNode table n node) (place number)
    (last-tree table rest last (all + 1) (λ i n at. subst (λ (j : ℕ). IsNode table j n) (sym (place i)) (tree (suc i) n at))
    (subst (λ (j : ℕ). IsNode table j last) (sym (place (length rest))) one) number node is)
  where
    place : (i : ℕ) → all + 1 + i ≡ all + suc i
    place i = omega arith

module _ (input : Input) (table : Table) where
  -- a state that follows another: its elements are a tree, and no fewer
  abbrev Follows : State → State → Type 0
  Follows s t = Grows table t × (length s.nodes ≤ length t.nodes)

  -- what is done keeps the tree, wherever it begins
  abbrev Keeps : (State → Outcome) → Type 0
  Keeps f = (s : State) → Grows table s → Follows s (f s).state

  same_length : (n : ℕ) → n ≤ n
  same_length n = omega arith

  content-grows : (s : State) (number at inside : ℕ) (content : Content) → Grows table s → inside ≤ length s.nodes → (0 < length s.nodes → inside < length s.nodes)
      → Follows s (record s { at = at; nodes = with_content s.nodes number content; inside = inside })
  content-grows s number at inside content good few open_one =
      let size = content-length s.nodes number content in (
        record {
          tree = content-tree table s.nodes number content good.tree;
          few = omega arith;
          open_one = λ some. let less = open_one (omega arith) in omega arith;
        },
        omega arith,
      )

  -- lengths of the open element leave the tree as it is
  spans : (content value : ℕ) (s : State) → Grows table s → Follows s (with_span content value s)
  spans content value s good =
      let lengths : Option Lengths = Some (record { content = content; value = value }) in
      let size = lengths-length s.nodes s.inside lengths in
      let few = good.few in (
        record {
          tree = lengths-tree table s.nodes s.inside lengths good.tree;
          few = omega arith;
          open_one = λ some. let less = good.open_one (omega arith) in omega arith;
        },
        omega arith,
      )

  -- one after another
  both : (s t u : State) → Follows s t → Follows t u → Follows s u
  both s t u first second =
      let a = first.1 in
      let b = second.1 in
      (second.0, omega arith)

  -- a state with the elements of another one, of which the same is open
  alike : (s t : State) → Grows table s → t.nodes ≡ s.nodes → t.inside ≡ s.inside → Grows table t
  alike s t good nodes inside =
      let few = good.few in
      let size : length t.nodes ≡ length s.nodes = ap (λ (ns : List Node). length ns) nodes in
      record {
        tree = subst (λ (ns : List Node). IsTree table ns) (sym nodes) good.tree;
        few = omega arith;
        open_one = λ some. let less = good.open_one (omega arith) in omega arith;
      }

  -- a content that is put into the open element, and how long it is
  taken-keeps : (content : Content) (span : Span) (s : State) → Grows table s → Follows s (taken_as content span s)
  taken-keeps content span s good =
      let grown = content-grows s s.inside span.end s.inside content good good.few good.open_one in
      let t : State = record s { at = span.end; nodes = with_content s.nodes s.inside content } in
      both s t (taken_as content span s) grown (spans (span.end - s.at) span.value t grown.0)

  hold-keeps : (content : ℕ → ℕ → Content) (bytes : List ℕ) (span : Span) (s : State) → Grows table s → (room : Bool)
      → Follows s (cond room (ended Done (record (taken_as (content (length s.text) (length bytes)) span s) { text = s.text ++ bytes }))
      (ended (Stopped (Limit TextLimit) input.limits.text) s)).state
  hold-keeps content bytes span s good true =
      let made : State = taken_as (content (length s.text) (length bytes)) span s in
      let grown = taken-keeps (content (length s.text) (length bytes)) span s good in
      (alike made (record made { text = s.text ++ bytes }) grown.0 refl refl, grown.1)
  hold-keeps content bytes span s good false = (good, same_length (length s.nodes))

  land-keeps : (first : ℕ) (reached : Reached Find) → Keeps (land input.limits first reached)
  land-keeps first (Told (Fails cause)) s good = (good, same_length (length s.nodes))
  land-keeps first (Told (Finds content span)) s good = taken-keeps content span s good
  land-keeps first (Told (FindsOctets bytes span)) s good = hold-keeps Octets bytes span s good (nat_le (length s.text + length bytes) input.limits.text)
  land-keeps first (Told (FindsText bytes span)) s good = hold-keeps Text bytes span s good (nat_le (length s.text + length bytes) input.limits.text)
  land-keeps first TooFar s good = (good, same_length (length s.nodes))
  land-keeps first Missing s good = (good, same_length (length s.nodes))

  room-keeps : (delimiters : List Delimiters) (nil : Option (List Value)) (primitive : Primitive) (s : State) → Grows table s → (room : Bool)
      → Follows s (cond room
      (let reading = ask (seen_in input.bytes input.limits.window (anchor s)) (program_for nil (lists_of delimiters (markup s)) primitive s.at s.stop) nothing in
      spend (needs_from (anchor s) reading.tally) (land input.limits (content_begins primitive s.at) reading.reached s))
      (ended (Failed LengthOutOfRange s.at) s)).state
  room-keeps delimiters nil primitive s good true =
      land-keeps (content_begins primitive s.at) (ask (seen_in input.bytes input.limits.window (anchor s)) (program_for nil (lists_of delimiters (markup s)) primitive s.at s.stop) nothing).reached s good
  room-keeps delimiters nil primitive s good false = (good, same_length (length s.nodes))

  leaf-keeps : (delimiters : List Delimiters) (nil : Option (List Value)) (primitive : Option Primitive) → Keeps (leaf input delimiters nil primitive)
  leaf-keeps delimiters nil None s good = (good, same_length (length s.nodes))
  leaf-keeps delimiters nil (Some primitive) s good = room-keeps delimiters nil primitive s good (has_room primitive s.at s.stop)

  -- a leaf of another size
  of-keeps : (delimiters : List Delimiters) (nil : Option (List Value)) (primitive : Option Primitive) → Keeps (leaf_of input delimiters nil primitive)
  of-keeps delimiters nil None s good = (good, same_length (length s.nodes))
  of-keeps delimiters nil (Some primitive) s good = leaf-keeps delimiters nil (Some primitive) s good

  sized-keeps : (delimiters : List Delimiters) (nil : Option (List Value)) (primitive : Option Primitive) (size : TextSize) → Keeps (sized_leaf input delimiters nil primitive size)
  sized-keeps delimiters nil None size s good = (good, same_length (length s.nodes))
  sized-keeps delimiters nil (Some primitive) size s good = of-keeps delimiters nil (resized size primitive) s good

  -- a prefix, and what it tells the size of
  prefixed-keeps : (delimiters : List Delimiters) (by : Option Primitive) (own : ℕ) (next : ℕ → State → Outcome) → ((units : ℕ) → Keeps (next units)) → Keeps (prefixed input delimiters by own next)
  prefixed-keeps delimiters by own next keeps s good =
      let same : Follows s s = (good, same_length (length s.nodes)) in
      prefixed-comes (λ (e : End) (t : State). Follows s t) s (λ cause bit. same) (λ cause quantity. same) next
      (λ units at. keeps units (record s { at = at }) (alike s (record s { at = at }) good refl refl)) input delimiters by own

  passed-keeps : (to : ℕ) (reached : Reached Bool) → Keeps (passed input.limits.window to reached)
  passed-keeps to (Told true) s good = (record { tree = good.tree; few = good.few; open_one = good.open_one }, same_length (length s.nodes))
  passed-keeps to (Told false) s good = (good, same_length (length s.nodes))
  passed-keeps to TooFar s good = (good, same_length (length s.nodes))
  passed-keeps to Missing s good = (good, same_length (length s.nodes))

  pass-keeps : (to : ℕ) (s : State) → Grows table s → (over room : Bool)
      → Follows s (cond over (ended Done s) (cond room (fill_to input to s) (ended (Failed LengthOutOfRange s.at) s))).state
  pass-keeps to s good true room = (good, same_length (length s.nodes))
  pass-keeps to s good false false = (good, same_length (length s.nodes))
  pass-keeps to s good false true =
      passed-keeps to (ask (seen_in input.bytes input.limits.window (anchor_at s (to - 1))) (has_byte ((to - 1) / 8)) nothing).reached s good

  begun-grows : (id : ℕ) (instead : Instead) (s : State) → IsElementRow (slice_get table.rows id) → Grows table s → Grows table (begun id instead s)
  begun-grows id instead s elem good =
      let node : Node = record { element = id; parent = s.inside; content = Begun; lengths = None } in
      let size = begun-longer id instead s in
      let few = good.few in
      let one : IsNode table (0 + length s.nodes) node = subst (λ (n : ℕ). IsNode table n node) (sym (zero-add (length s.nodes)))
      (record { parent = few; earlier = good.open_one; element = elem }) in
      record {
        tree = λ number n is. subst (λ (i : ℕ). IsNode table i n) (zero-add number)
            (last-tree table s.nodes node 0 (λ i m at. subst (λ (j : ℕ). IsNode table j m) (sym (zero-add i)) (good.tree i m at)) one number n is);
        few = omega arith;
        open_one = λ some. omega arith;
      }

  left-follows : (outer : ℕ) (complex : Bool) (s : State) → Grows table s → outer < length s.nodes → Follows s (left outer complex s)
  left-follows outer true s good less =
      let ended_here : State = record s { nodes = with_content s.nodes s.inside Complex; inside = outer } in
      let grown = content-grows s s.inside s.at outer Complex good (omega arith) (λ some. less) in
      (alike ended_here (left outer true s) grown.0 refl refl, grown.1)
  left-follows outer false s good less = (record { tree = good.tree; few = omega arith; open_one = λ some. less }, same_length (length s.nodes))

  close-follows : (end : End) (outer : ℕ) (complex : Bool) (o : Outcome) → Grows table o.state → outer < length o.state.nodes
      → Follows o.state (close end outer complex o).state
  close-follows Done outer complex o good less = left-follows outer complex o.state good less
  close-follows (Failed cause bit) outer complex o good less = (good, same_length (length o.state.nodes))
  close-follows (Stopped cause quantity) outer complex o good less = (good, same_length (length o.state.nodes))

  -- what is done of an element has begun it
  abbrev Began : State → End → State → Type 0
  Began s e t = Follows s t × (e ≡ Done → length s.nodes < length t.nodes)

  room-tried : (id : ℕ) (complex : Bool) (body : State → Outcome) → IsElementRow (slice_get table.rows id) → Keeps body
      → (instead : Instead) (s : State) → Grows table s → (room : Bool)
      → (let out : Outcome = cond room (let o : Outcome = body (begun id instead s) in close o.end s.inside complex o) (ended (Stopped (Limit Nodes) input.limits.nodes) s) in
      Began s out.end out.state)
  room-tried id complex body elem keeps instead s good true =
      let first : State = begun id instead s in
      let inner = keeps first (begun-grows id instead s elem good) in
      let size = begun-longer id instead s in
      let few = good.few in
      let longer : length first.nodes ≤ length (body first).state.nodes = inner.1 in
      let over = close-follows (body first).end s.inside complex (body first) inner.0 (omega arith) in
      let more = over.1 in
      ((over.0, omega arith), λ done. omega arith)
  room-tried id complex body elem keeps instead s good false = ((good, same_length (length s.nodes)), λ done. absurd (cc))

  -- where one fails whose empty representation is found, it is open again
  refused-follows : (s t : State) → Began s Done t → Follows s (refused s t)
  refused-follows s t began =
      let grown = began.0.0 in
      let more = began.1 refl in
      (record { tree = grown.tree; few = omega arith; open_one = λ some. omega arith }, omega arith)

  element-begins : (id : ℕ) (complex : Bool) (tried : Representations) (body : State → Outcome) → IsElementRow (slice_get table.rows id) → Keeps body
      → Goes body → (s : State) → Grows table s → (let o : Outcome = element input id complex tried body s in Began s o.end o.state)
  element-begins id complex tried body elem keeps goes s good =
      let attempt-keeps : (instead : Instead) (t : State) → Grows table t
      → Began t (attempted input id complex body instead t).end (attempted input id complex body instead t).state =
      λ instead t grows. room-tried id complex body elem keeps instead t grows (nat_lt (length t.nodes) input.limits.nodes) in
      represented-comes (λ (e : End) (t : State). Began s e t) (λ (instead : Instead) (e : End) (t : State). Began s e t) s
      (attempted input id complex body) (λ (instead : Instead). Unit {0}) tt
      (attempt-keeps Nothing s good)
      (λ instead before marks kept same is one. attempt-keeps instead (again_at s before marks kept) (alike s (again_at s before marks kept) good refl refl))
      (λ instead t began. ((alike t (closed t) began.0.0 refl refl, began.0.1), λ done. began.1 refl))
      (λ cause bit t began. ((alike t (closed t) began.0.0 refl refl, began.0.1), λ done. absurd (cc)))
      (λ instead cause quantity t began. began)
      (λ instead t began. (refused-follows s t began, λ done. absurd (cc))) (tried-stays input id complex body goes s)
      (tried-returns input id complex body goes s) tried (any_ok Nil tried.nil) (any_ok Empty tried.empty) (any_ok Empty tried.where_tried.empty)

  follow-keeps : (end : End) (o : Outcome) (next : State → Outcome) → Keeps next → Grows table o.state → Follows o.state (follow end o next).state
  follow-keeps Done o next keeps good = keeps o.state good
  follow-keeps (Failed cause bit) o next keeps good = (good, same_length (length o.state.nodes))
  follow-keeps (Stopped cause quantity) o next keeps good = (good, same_length (length o.state.nodes))

  byte-keeps : (reached : Reached Bool) (next : State → Outcome) → Keeps next → Keeps (past_byte input.limits.window reached next)
  byte-keeps (Told true) next keeps s good = keeps s good
  byte-keeps (Told false) next keeps s good = (good, same_length (length s.nodes))
  byte-keeps TooFar next keeps s good = (good, same_length (length s.nodes))
  byte-keeps Missing next keeps s good = (good, same_length (length s.nodes))

  bytes-keep : (left k : ℕ) → Keeps (pass_bytes input left k)
  bytes-keep zero k s good = (alike s (record s { at = s.stop }) good refl refl, same_length (length s.nodes))
  bytes-keep (suc left) k s good =
      byte-keeps (ask (seen_in input.bytes input.limits.window (anchor_at s (8 * k))) (has_byte k) nothing).reached
      (pass_bytes input left (k + 1)) (bytes-keep left (k + 1)) s good

  rest-keeps : (s : State) → Grows table s → (over : Bool)
      → Follows s (cond over (ended Done s) (pass_bytes input (bytes_up_to s.stop (s.at / 8)) (s.at / 8) s)).state
  rest-keeps s good true = (good, same_length (length s.nodes))
  rest-keeps s good false = bytes-keep (bytes_up_to s.stop (s.at / 8)) (s.at / 8) s good

  unboxed-keeps : (end : End) (outer hidden : ℕ) (o : Outcome) → Grows table o.state → Follows o.state (unboxed end outer hidden o).state
  unboxed-keeps Done outer hidden o good =
      (alike o.state (record o.state { stop = outer; hidden = hidden }) good refl refl, same_length (length o.state.nodes))
  unboxed-keeps (Failed cause bit) outer hidden o good = (alike o.state (record o.state { hidden = hidden }) good refl refl, same_length (length o.state.nodes))
  unboxed-keeps (Stopped cause quantity) outer hidden o good = (good, same_length (length o.state.nodes))

  unscoped-keeps : (end : End) (count : ℕ) (o : Outcome) → Grows table o.state → Follows o.state (unscoped end count o).state
  unscoped-keeps Done count o good = (alike o.state (closes_to count o.state) good refl refl, same_length (length o.state.nodes))
  unscoped-keeps (Failed cause bit) count o good = (alike o.state (closes_to count o.state) good refl refl, same_length (length o.state.nodes))
  unscoped-keeps (Stopped cause quantity) count o good = (good, same_length (length o.state.nodes))

  scoped-keeps : (list : ℕ) (body : State → Outcome) → Keeps body → Keeps (scoped list body)
  scoped-keeps list body keeps s good =
      let inside : State = opens list s in
      let first = keeps inside (alike s inside good refl refl) in
      let last = unscoped-keeps (body inside).end (length s.lists) (body inside) first.0 in
      let a = first.1 in
      let b = last.1 in
      (last.0, omega arith)

  -- the lengths of a content that is done, and then the rest of its box
  rest-from-keeps : (from : ℕ) → Keeps (rest_from input from)
  rest-from-keeps from s good =
      let t : State = with_span (s.stop - from) (s.at - from) s in
      let first = spans (s.stop - from) (s.at - from) s good in
      both s t (rest_from input from s).state first (rest-keeps t first.0 (nat_le t.stop t.at))

  spanned-keeps : (body : State → Outcome) → Keeps body → Keeps (spanned body)
  spanned-keeps body keeps s good =
      let first = keeps s good in
      both s (body s).state (spanned body s).state first
      (follow-keeps (body s).end (body s) (span_ends s.at) (λ t grown. spans (t.at - s.at) (t.at - s.at) t grown) first.0)

  boxed-keeps : (bits : ℕ) (body : State → Outcome) → Keeps body → (s : State) → Grows table s → (room : Bool)
      → Follows s (cond room
      (let o : Outcome = then_do (body (boxed_at (s.at + bits) s)) (rest_from input s.at) in unboxed o.end s.stop s.hidden o)
      (ended (Failed LengthOutOfRange s.at) s)).state
  boxed-keeps bits body keeps s good true =
      let inside : State = boxed_at (s.at + bits) s in
      let first = keeps inside (alike s inside good refl refl) in
      let o : Outcome = then_do (body inside) (rest_from input s.at) in
      let last = follow-keeps (body inside).end (body inside) (rest_from input s.at) (rest-from-keeps s.at) first.0 in
      let closed = unboxed-keeps o.end s.stop s.hidden o last.0 in
      let a = first.1 in
      let b = last.1 in
      let c = closed.1 in
      (closed.0, omega arith)
  boxed-keeps bits body keeps s good false = (good, same_length (length s.nodes))

  -- what was done from a state on
  module _ (s : State) where
    abbrev FollowsBy : List Mark → State → Type 0
    FollowsBy marks t = Follows s t

    abbrev EndsBy : List Mark → End → State → Type 0
    EndsBy marks e t = Follows s t

    follows-as : (t u : State) → Follows s t → u.nodes ≡ t.nodes → u.inside ≡ t.inside → Follows s u
    follows-as t u grown nodes inside =
        (alike t u grown.0 nodes inside, subst (λ (ns : List Node). length s.nodes ≤ length ns) (sym nodes) grown.1)

    growing : Carries FollowsBy EndsBy
    growing = record {
      moves = λ marks t at grown. follows-as t (record t { at = at }) grown refl refl;
      again = λ marks others t instead kept grown is same goes. follows-as t (record t { instead = instead; marks = others; variables = kept }) grown refl refl;
      opens = λ marks t mark grown. follows-as t (record t { marks = mark ∷ t.marks }) grown refl refl;
      closes = λ marks t mark grown. follows-as t (closed t) grown refl refl;
      ends = λ marks e t grown. grown;
      done = λ marks t grown. grown;
      closes_end = λ marks e t mark grown. follows-as t (closed t) grown refl refl;
      stays = λ marks cause quantity t mark grown. grown;
    }

    growing-carried : (f : State → Outcome) → Keeps f → Carried FollowsBy EndsBy f
    growing-carried f keeps marks t grown =
        let last = keeps t grown.0 in
        let a = grown.1 in
        let b = last.1 in
        (last.0, omega arith)

  choice-keeps : (child : ℕ → State → Outcome) → ((id : ℕ) → Keeps (child id)) → ((id : ℕ) → Goes (child id)) → (initiated : Bool) (ids : List ℕ)
      → Keeps (choice child initiated ids)
  choice-keeps child keeps goes initiated ids s good =
      choice-carried (FollowsBy s) (EndsBy s) (growing s) child goes (λ id. growing-carried s (child id) (keeps id)) initiated ids s.marks s
      (good, same_length (length s.nodes))

  untried-keeps : (e : End) (o : Outcome) → Grows table o.state → Follows o.state (untried e o).state
  untried-keeps Done o good = (alike o.state (record o.state { instead = Nothing }) good refl refl, same_length (length o.state.nodes))
  untried-keeps (Failed cause bit) o good = (alike o.state (record o.state { instead = Nothing }) good refl refl, same_length (length o.state.nodes))
  untried-keeps (Stopped cause quantity) o good = (good, same_length (length o.state.nodes))

  once-keeps : (tried : Bool) (body : State → Outcome) → Keeps body → Keeps (occurring tried body)
  once-keeps tried body keeps s good =
      let inside : State = as_occurrence tried s in
      let first = keeps inside (alike s inside good refl refl) in
      let last = untried-keeps (body inside).end (body inside) first.0 in
      let a = first.1 in
      let b = last.1 in
      (last.0, omega arith)

  occurrences-keep : (body : State → Outcome) → Keeps body → Goes body → (initiated : Bool) (left : ℕ) → Keeps (occurrences body initiated left)
  occurrences-keep body keeps goes initiated left s good =
      occurrences-carried (FollowsBy s) (EndsBy s) (growing s) body goes (growing-carried s body keeps) initiated left s.marks s
      (good, same_length (length s.nodes))

  separated-keeps : (sequence : Sequence) → ((id : ℕ) → Keeps (sequence.child id)) → ((id : ℕ) → Goes (sequence.child id))
      → (policy : SeparatorSuppressionPolicy) (slots : List Slot) → Keeps (separated sequence policy slots)
  separated-keeps sequence keeps goes policy slots s good =
      separated-carried (FollowsBy s) (EndsBy s) (growing s) sequence (λ id tried. once-goes input tried (sequence.child id) (goes id))
      (λ id tried. growing-carried s (occurring tried (sequence.child id)) (once-keeps tried (sequence.child id) (keeps id)))
      (λ id. growing-carried s (sequence.child id) (keeps id)) policy slots s.marks s
      (good, same_length (length s.nodes))

  group-keeps : (child : ℕ → State → Outcome) → ((id : ℕ) → Keeps (child id)) → (children : List ℕ) → Keeps (group child children)
  group-keeps child keeps [] s good = (good, same_length (length s.nodes))
  group-keeps child keeps (id ∷ rest) s good =
      let first = keeps id s good in
      let last = follow-keeps (child id s).end (child id s) (group child rest) (group-keeps child keeps rest) first.0 in
      let a = first.1 in
      let b = last.1 in
      (last.0, omega arith)

  -- a question, and what goes on by what it tells
  read-follows : (s : State) (kept : Kept) → Grows table s → Follows s (record s { variables = kept })
  read-follows s kept good = (alike s (record s { variables = kept }) good refl refl, same_length (length s.nodes))

  asked-keeps : (start : Start) (cause : ParseCause) (next : ℕ → State → Outcome) → ((count : ℕ) → Keeps (next count))
      → (found : Option (List ExpressionNode)) → Keeps (asked_count table start cause next found)
  asked-keeps start cause next keeps found s good =
      count-comes (λ (e : End) (t : State). Follows s t) s (λ cause kept ways. read-follows s kept good) table start cause next
      (λ count kept ways. keeps count (record s { variables = kept }) (read-follows s kept good).0) found

  key-keeps : (start : Start) (child : ℕ → State → Outcome) → ((id : ℕ) → Keeps (child id)) → (keys : List Key)
      → (found : Option (List ExpressionNode)) → Keeps (asked_key table start child keys found)
  key-keeps start child keeps keys found s good =
      key-comes (λ (e : End) (t : State). Follows s t) s (λ cause kept ways. read-follows s kept good) table start child keys
      (λ id kept ways. keeps id (record s { variables = kept }) (read-follows s kept good).0) found

  -- an instance of a variable
  closed-keeps : (e : End) (o : Outcome) → Grows table o.state → Follows o.state (closed_behind e o).state
  closed-keeps Done o good = read-follows o.state (without_innermost o.state.variables) good
  closed-keeps (Failed cause bit) o good = read-follows o.state (without_innermost o.state.variables) good
  closed-keeps (Stopped cause quantity) o good = (good, same_length (length o.state.nodes))

  instance-keeps : (body : State → Outcome) → Keeps body → (number : ℕ) (start : Option Value) → Keeps (with_instance number start body)
  instance-keeps body keeps number start s good =
      let inside : State = record s { variables = entered s.variables number start } in
      let first = keeps inside (read-follows s (entered s.variables number start) good).0 in
      let last = closed-keeps (body inside).end (body inside) first.0 in
      let a = first.1 in
      let b = last.1 in
      (last.0, omega arith)

  instanced-keeps : (number : ℕ) (body : State → Outcome) → Keeps body → Keeps (instanced table number body)
  instanced-keeps number body keeps s good =
      opened-comes (λ (e : End) (t : State). Follows s t) s (λ cause kept ways. read-follows s kept good) body
      (λ kept ways. keeps (record s { variables = kept }) (read-follows s kept good).0)
      (λ number start kept ways. instance-keeps body keeps number start (record s { variables = kept }) (read-follows s kept good).0) table
      (opening_of (slice_get table.statements number))

  -- statements
  tree-tells : (start : Start) (s : State) → Tells input.limits (λ (t : State). Stands table start s t) (λ (e : End) (t : State). Stands table start s t)
  tree-tells start s = record {
    again = λ t marks kept stands same goes. record {
      grows = alike t (record t { marks = marks; variables = kept }) stands.grows refl refl;
      longer = stands.longer;
      few = stands.few;
      open_one = stands.open_one;
    };
    lands = λ t v stands written.
        let u : State = (land input.limits t.at (Told (default_find t.at v)) t).state in
        let last : Follows t u = land-keeps t.at (Told (default_find t.at v)) t stands.grows in
        let a = stands.longer in
        let b = last.1 in
        let c = stands.few in
        record {
          grows = last.0;
          longer = omega arith;
          few = omega arith;
          open_one = among_more (element_of start) (length t.nodes) (length u.nodes) stands.few stands.open_one last.1;
        };
    done = λ t stands. stands;
    ends = λ e t stands. stands;
  }

  -- behind a component, which is in the element where its statements stand
  abbrev Concludes : Start → State → End → State → Type 0
  Concludes start s e t = Follows s t × (e ≡ Done → Stands table start s t)

  told-keeps : (start : Start) (s : State) (e : End) (t : State) → Stands table start s t → Concludes start s e (told_at e start t)
  told-keeps start s Done t stands = ((stands.grows, stands.longer), λ done. stands)
  told-keeps start s (Failed cause bit) t stands =
      ((record { tree = stands.grows.tree; few = stands.few; open_one = stands.open_one }, stands.longer), λ done. absurd (cc))
  told-keeps start s (Stopped cause quantity) t stands =
      ((record { tree = stands.grows.tree; few = stands.few; open_one = stands.open_one }, stands.longer), λ done. absurd (cc))

  again-keeps : (start : Start) (s : State) (cause : ParseCause) (bit : ℕ) → Restates (λ (t : State). Concludes start s (Failed cause bit) t)
  again-keeps start s cause bit t marks kept holds same goes =
      ((alike t (record t { marks = marks; variables = kept }) holds.0.0 refl refl, holds.0.1), λ done. absurd (cc))

  concluded-keeps : (start : Start) (behind : Statements) (s : State) (o : Outcome) → Concludes start s o.end o.state
      → Follows s (concluded input.limits table start behind o).state
  concluded-keeps start behind s o holds =
      (concluded-comes input.limits (λ (t : State). Stands table start s t) (λ (e : End) (t : State). Stands table start s t) (tree-tells start s) table
      (λ (e : End) (t : State). Concludes start s e t) (λ t there. there.1 refl) start (told-keeps start s) (again-keeps start s) behind o holds).0

  -- an element stands behind those that there were, and a group in the one that was open
  element-stands : (s : State) (e : End) (t : State) → Began s e t → Concludes (At (length s.nodes)) s e t
  element-stands s e t began = (
    began.0,
    λ done.
        let more = began.1 done in
        record { grows = began.0.0; longer = began.0.1; few = began.0.1; open_one = λ some. more },
  )

  group-stands : (s : State) (e : End) (t : State) → Grows table s → Follows s t → Concludes (Inside s.inside) s e t
  group-stands s e t good follows = (
    follows,
    λ done.
        let a = good.few in
        let b = follows.1 in
        record {
          grows = follows.0;
          longer = follows.1;
          few = omega arith;
          open_one = among_more s.inside (length s.nodes) (length t.nodes) good.few good.open_one follows.1;
        },
  )

  row-keeps : (child : ℕ → State → Outcome) → ((id : ℕ) → Keeps (child id)) → ((id : ℕ) → Goes (child id)) → (id : ℕ) (r : Option Row)
      → slice_get table.rows id ≡ r → Keeps (row input table child id r)
  row-keeps child keeps goes id None is s good = (good, same_length (length s.nodes))
  row-keeps child keeps goes id (Some (Leaf prim)) is s good =
      leaf-keeps table.delimiters (nil_values table.primitives s.instead) (slice_get table.primitives (read_by table.primitives s.instead prim)) s good
  row-keeps child keeps goes id (Some (Elem name simple tried behind body)) is s good =
      let o : Outcome = element input id (has_elements simple) tried (child body) s in
      concluded-keeps (At (length s.nodes)) behind s o
      (element-stands s o.end o.state (element-begins id (has_elements simple) tried (child body) (subst (λ (r : Option Row). IsElementRow r) (sym is) tt)
      (keeps body) (goes body) s good))
  row-keeps child keeps goes id (Some (Group children)) is s good = group-keeps child keeps children s good
  row-keeps child keeps goes id (Some (Skip bits)) is s good = pass-keeps (s.at + bits) s good (nat_le (s.at + bits) s.at) (nat_le (s.at + bits) s.stop)
  row-keeps child keeps goes id (Some (Align bits)) is s good = pass-keeps (aligned bits s.at) s good (nat_le (aligned bits s.at) s.at) (nat_le (aligned bits s.at) s.stop)
  row-keeps child keeps goes id (Some (Initiator delimiter)) is s good =
      let same : Follows s s = (good, same_length (length s.nodes)) in
      initiator-comes (λ (e : End) (t : State). Follows s t) s
      (λ at marks is. (alike s (record s { at = at; marks = marks }) good refl refl, same_length (length s.nodes))) (λ cause. same)
      (λ cause quantity. same) input table.delimiters delimiter
  row-keeps child keeps goes id (Some (Terminator delimiter separators)) is s good =
      let same : Follows s s = (good, same_length (length s.nodes)) in
      terminator-comes (λ (e : End) (t : State). Follows s t) s
      (λ at marks is. (alike s (record s { at = at; marks = marks }) good refl refl, same_length (length s.nodes))) (λ cause. same)
      (λ cause quantity. same) input table.delimiters delimiter separators
  row-keeps child keeps goes id (Some Separator) is s good =
      let same : Follows s s = (good, same_length (length s.nodes)) in
      separator-comes (λ (e : End) (t : State). Follows s t) s
      (λ at marks is. (alike s (record s { at = at; marks = marks }) good refl refl, same_length (length s.nodes))) (λ cause. same)
      (λ cause quantity. same) input table.delimiters
  row-keeps child keeps goes id (Some (Scope list body)) is s good = scoped-keeps list (child body) (keeps body) s good
  row-keeps child keeps goes id (Some (Boxed bits body)) is s good = boxed-keeps bits (child body) (keeps body) s good (nat_le (s.at + bits) s.stop)
  row-keeps child keeps goes id (Some (PrefixedLeaf prefix prim)) is s good =
      let nil : Option (List Value) = nil_values table.primitives s.instead in
      let primitive : Option Primitive = slice_get table.primitives (read_by table.primitives s.instead prim) in
      prefixed-keeps table.delimiters (slice_get table.primitives prefix.prim) prefix.own (λ units after. sized_leaf input table.delimiters nil primitive (size_of prefix.unit units) after)
      (λ units. sized-keeps table.delimiters nil primitive (size_of prefix.unit units)) s good
  row-keeps child keeps goes id (Some (MeasuredLeaf measure prim)) is s good =
      let nil : Option (List Value) = nil_values table.primitives s.instead in
      let primitive : Option Primitive = slice_get table.primitives (read_by table.primitives s.instead prim) in
      asked-keeps (At s.inside) LengthOutOfRange (λ units after. sized_leaf input table.delimiters nil primitive (size_of measure.unit units) after)
      (λ units. sized-keeps table.delimiters nil primitive (size_of measure.unit units)) (question_at table measure.question) s good
  row-keeps child keeps goes id (Some (MeasuredBox measure body)) is s good =
      asked-keeps (At s.inside) LengthOutOfRange (λ units after. boxed input (bits_of_units measure.unit units) (child body) after)
      (λ units after kept. boxed-keeps (bits_of_units measure.unit units) (child body) (keeps body) after kept
      (nat_le (after.at + bits_of_units measure.unit units) after.stop)) (question_at table measure.question) s good
  row-keeps child keeps goes id (Some (Repeat count body)) is s good = group-keeps child keeps (replicate count body) s good
  row-keeps child keeps goes id (Some (Counted question body)) is s good =
      asked-keeps (Inside s.inside) NegativeCount (λ count after. group child (replicate count body) after)
      (λ count. group-keeps child keeps (replicate count body)) (question_at table question) s good
  row-keeps child keeps goes id (Some (Optional most item initiated body)) is s good =
      occurrences-keep (occurring true (child body)) (once-keeps true (child body) (keeps body)) (once-goes input true (child body) (goes body)) initiated most s good
  row-keeps child keeps goes id (Some (ChoiceRow branches initiated)) is s good = choice-keeps child keeps goes initiated branches s good
  row-keeps child keeps goes id (Some (Dispatch question keys)) is s good =
      key-keeps (Inside s.inside) child keeps keys (question_at table question) s good
  row-keeps child keeps goes id (Some (Statement number)) is s good =
      let start : Start = Inside s.inside in
      let here : Stands table start s s = record { grows = good; longer = omega arith; few = good.few; open_one = good.open_one } in
      let last = statement-comes input (λ (t : State). Stands table start s t) (λ (e : End) (t : State). Stands table start s t) (tree-tells start s) table
      number s here in
      (last.grows, last.longer)
  row-keeps child keeps goes id (Some (Concluded behind body)) is s good =
      let o : Outcome = child body s in
      concluded-keeps (Inside s.inside) behind s o (group-stands s o.end o.state good (keeps body s good))
  row-keeps child keeps goes id (Some (Hidden body)) is s good = keeps body s good
  row-keeps child keeps goes id (Some (Spanned body)) is s good = spanned-keeps (child body) (keeps body) s good
  row-keeps child keeps goes id (Some (Instance statement body)) is s good = instanced-keeps statement (child body) (keeps body) s good
  row-keeps child keeps goes id (Some (Separated policy position initiated slots)) is s good =
      let sequence : Sequence =
      record { input = input; table = table; child = child; position = position; initiated = initiated } in
      separated-keeps sequence keeps goes policy slots s good
  row-keeps child keeps goes id (Some (PrefixedBox prefix body)) is s good =
      prefixed-keeps table.delimiters (slice_get table.primitives prefix.prim) prefix.own (λ units after. boxed input (bits_of_units prefix.unit units) (child body) after)
      (λ units after kept. boxed-keeps (bits_of_units prefix.unit units) (child body) (keeps body) after kept
      (nat_le (after.at + bits_of_units prefix.unit units) after.stop)) s good

  below-choice : (n id : ℕ) → ((i : ℕ) → Keeps (below input table n i)) → (s : State) → Grows table s → (test : Bool)
      → Follows s (cond test (row_at input table (below input table n) n s) (below input table n id s)).state
  below-choice n id keeps s good true = row-keeps (below input table n) keeps (below-goes input table n) n (slice_get table.rows n) refl s good
  below-choice n id keeps s good false = keeps id s good

  below-keeps : (n id : ℕ) → Keeps (below input table n id)
  unfolding below
  below-keeps zero id s good = (good, same_length (length s.nodes))
  below-keeps (suc n) id s good = below-choice n id (below-keeps n) s good (nat_eq id n)

  pub meaning-tree : (id start : ℕ) → IsTree table (meaning input table id (front_at table start)).state.nodes
  unfolding meaning
  meaning-tree id start =
      let first : Grows table (front_at table start) =
      record { tree = λ number node is. absurd (cc); few = omega arith; open_one = λ some. absurd (omega arith) } in
      (row-keeps (below input table id) (below-keeps id) (below-goes input table id) id (slice_get table.rows id) refl (front_at table start) first).0.tree
