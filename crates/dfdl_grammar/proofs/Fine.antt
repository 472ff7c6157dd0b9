-- A state that follows another, whose elements that began meanwhile are read.
use Rattle.std.proofs.Common.{◌≡◌, ℕ, zero, suc, ◌+◌, ◌<◌, ◌≤◌, ◌⊎◌, inl, inr, refl, List, [], ◌∷◌, ◌++◌, length, Some, ap, sym, subst, ◌∙◌, arith, length-append}
use Rattle.std.specs.Prelude.{slice_get, Option, None}
use Rattle.std.proofs.lemmas.Option.{slice_get_within}
use Rattle.dfdl_vars.specs.Kept.{Kept}
use Rattle.dfdl_region.specs.declared.node.Node.{Node}
use Rattle.dfdl_region.specs.declared.node.Content.{Content}
use Rattle.dfdl_region.specs.declared.node.Content.TheVariants.{Begun}
use Rattle.dfdl_region.specs.declared.node.Lengths.{Lengths}
use Rattle.dfdl_region.specs.Nodes.{with_content, with_lengths}
use Rattle.dfdl_grammar.specs.declared.end.End.TheVariants.{Done}
use Rattle.dfdl_grammar.specs.declared.instead.Instead.{Instead}
use Rattle.dfdl_grammar.specs.declared.mark.Mark.{Mark}
use Rattle.dfdl_grammar.specs.States.{State}
use Rattle.dfdl_grammar.specs.Outcomes.{Outcome}
use Rattle.dfdl_grammar.specs.Elements.{begun}
use Rattle.dfdl_grammar.specs.Marks.{closed}
use Rattle.dfdl_grammar.specs.Spans.{with_span}
use Rattle.dfdl_grammar.proofs.Grown.{content-length}
use Rattle.dfdl_grammar.proofs.Lengthened.{lengths-length, lengths-same}

same_at : (nodes : List Node) (number : ℕ) (content : Content) (node : Node) → slice_get (with_content nodes number content) number ≡ Some node → node.content ≡ content
same_at [] number content node is = absurd (cc)
same_at (first ∷ rest) zero content node is = let same : ◌≡◌ {A = Node} (record first { content = content }) node = cc in sym (ap (λ (n : Node). n.content) same)
same_at (first ∷ rest) (suc number) content node is = same_at rest number content node is

other_at : (nodes : List Node) (number at : ℕ) (content : Content) (node : Node) → (at ≡ number → ⊥) → slice_get (with_content nodes number content) at ≡ Some node → slice_get nodes at ≡ Some node
other_at [] number at content node apart is = absurd (cc)
other_at (first ∷ rest) zero zero content node apart is = absurd (apart refl)
other_at (first ∷ rest) zero (suc at) content node apart is = is
other_at (first ∷ rest) (suc number) zero content node apart is = is
other_at (first ∷ rest) (suc number) (suc at) content node apart is = other_at rest number at content node (λ same. apart (ap suc same)) is

pub same_or : (a b : ℕ) → (a ≡ b) ⊎ (a ≡ b → ⊥)
same_or zero zero = inl refl
same_or zero (suc b) = inr (λ same. omega arith)
same_or (suc a) zero = inr (λ same. omega arith)
same_or (suc a) (suc b) = elim (same_or a b) [ inl same ↦ inl (ap suc same) | inr apart ↦ inr (λ same. apart (omega arith)) ]

below_or : (a b : ℕ) → (a < b) ⊎ (b ≤ a)
below_or zero zero = inr (omega arith)
below_or zero (suc b) = inl (omega arith)
below_or (suc a) zero = inr (omega arith)
below_or (suc a) (suc b) = elim (below_or a b) [ inl less ↦ inl (omega arith) | inr most ↦ inr (omega arith) ]

-- an element that had begun and wasn't read
pub record WasBegun (nodes : List Node) (at : ℕ) : Type 0 where
  pub old : Node
  pub there : slice_get nodes at ≡ Some old
  pub unread : old.content ≡ Begun

-- a state that follows another: the same element is open, those that began meanwhile are read, and none is unread again
pub record Fine (s t : State) : Type 0 where
  pub inside : t.inside ≡ s.inside
  pub longer : length s.nodes ≤ length t.nodes
  pub fresh : (at : ℕ) (node : Node) → length s.nodes ≤ at → slice_get t.nodes at ≡ Some node → node.content ≡ Begun → ⊥
  pub kept : (at : ℕ) (node : Node) → at < length s.nodes → slice_get t.nodes at ≡ Some node → node.content ≡ Begun → WasBegun s.nodes at

pub fine : (s : State) → Fine s s
fine s = record {
  inside = refl;
  longer = omega arith;
  fresh = λ at node past is unread. let within = slice_get_within s.nodes at node is in absurd (omega arith);
  kept = λ at node few is unread. record { old = node; there = is; unread = unread };
}

pub both : (s t u : State) → Fine s t → Fine t u → Fine s u
both s t u one two =
    let a = one.longer in
    let b = two.longer in
    record {
      inside = two.inside ∙ one.inside;
      longer = omega arith;
      fresh = λ at node past is unread. elim (below_or at (length t.nodes)) [
        | inl few ↦ (let was = two.kept at node few is unread in one.fresh at was.old past was.there was.unread)
        | inr most ↦ two.fresh at node most is unread
      ];
      kept = λ at node few is unread.
          let within : at < length t.nodes = omega arith in
          let was = two.kept at node within is unread in
          one.kept at was.old few was.there was.unread;
    }

-- a content that is put into the open element
put : (s : State) (at : ℕ) (text : List ℕ) (content : Content) → (content ≡ Begun → ⊥)
    → Fine s (record s { at = at; text = text; nodes = with_content s.nodes s.inside content })
put s at text content read =
    let size = content-length s.nodes s.inside content in
    record {
      inside = refl;
      longer = omega arith;
      fresh = λ i node past is unread. let within = slice_get_within (with_content s.nodes s.inside content) i node is in absurd (omega arith);
      kept = λ i node few is unread. elim (same_or i s.inside) [
        | inl same ↦ absurd (read (sym (same_at s.nodes s.inside content node (subst (λ (j : ℕ). slice_get (with_content s.nodes s.inside content) j ≡ Some node) same is)) ∙ unread))
        | inr apart ↦ record { old = node; there = other_at s.nodes s.inside i content node apart is; unread = unread }
      ];
    }

-- lengths of the open element change no content
pub spans : (content value : ℕ) (s : State) → Fine s (with_span content value s)
spans content value s =
    let lengths : Option Lengths = Some (record { content = content; value = value }) in
    let size = lengths-length s.nodes s.inside lengths in
    record {
      inside = refl;
      longer = omega arith;
      fresh = λ i node past is unread. let within = slice_get_within (with_lengths s.nodes s.inside lengths) i node is in absurd (omega arith);
      kept = λ i node few is unread.
          let was = lengths-same s.nodes s.inside i lengths node is in
          record { old = was.old; there = was.there; unread = was.content ∙ unread };
    }

-- what a row does where it is done
abbrev pub Fills : (State → Outcome) → Type 0
Fills f = (s : State) → (f s).end ≡ Done → Fine s (f s).state

-- a state that follows another, in which the element that was open is read
pub record IsRead (s t : State) : Type 0 where
  pub fine : Fine s t
  pub read : (node : Node) → slice_get t.nodes s.inside ≡ Some node → node.content ≡ Begun → ⊥

-- what a row does that reads a value, where it is done
abbrev pub Reads : (State → Outcome) → Type 0
Reads f = (s : State) → (f s).end ≡ Done → IsRead s (f s).state

-- a content that is put into the open element
pub put_read : (s : State) (at : ℕ) (text : List ℕ) (content : Content) → (content ≡ Begun → ⊥)
    → IsRead s (record s { at = at; text = text; nodes = with_content s.nodes s.inside content })
put_read s at text content read = record {
  fine = put s at text content read;
  read = λ node is unread. read (sym (same_at s.nodes s.inside content node is) ∙ unread);
}

-- what is read stays read
pub read_before : (s t u : State) → IsRead s t → Fine t u → IsRead s u
read_before s t u one two = record {
  fine = both s t u one.fine two;
  read = λ node is unread. elim (below_or s.inside (length t.nodes)) [
    | inl few ↦ (let was = two.kept s.inside node few is unread in one.read was.old was.there was.unread)
    | inr most ↦ two.fresh s.inside node most is unread
  ];
}

-- a content that is put into the open element, and how long it is
pub take_read : (s : State) (at : ℕ) (text : List ℕ) (made : Content) (content value : ℕ) → (made ≡ Begun → ⊥)
    → IsRead s (with_span content value (record s { at = at; text = text; nodes = with_content s.nodes s.inside made }))
take_read s at text made content value read =
    let t : State = record s { at = at; text = text; nodes = with_content s.nodes s.inside made } in
    read_before s t (with_span content value t) (put_read s at text made read) (spans content value t)

pub read_behind : (s t u : State) → Fine s t → IsRead t u → IsRead s u
read_behind s t u one two = record {
  fine = both s t u one two.fine;
  read = λ node is unread. two.read node (subst (λ (i : ℕ). slice_get u.nodes i ≡ Some node) (sym one.inside) is) unread;
}

-- fill that is passed over, a box that begins or ends, and lists that are opened or closed, change no element
pub aside : (s : State) (to stop hidden : ℕ) (lists : List ℕ) → Fine s (record s { at = to; stop = stop; hidden = hidden; lists = lists })
aside s to stop hidden lists = let same = fine s in record { inside = refl; longer = same.longer; fresh = same.fresh; kept = same.kept }

pub moved : (s : State) (to stop : ℕ) → Fine s (record s { at = to; stop = stop })
moved s to stop = aside s to stop s.hidden s.lists

-- the same where other marks are open, and where one is closed
pub unmarked : (s t : State) (before : Instead) (marks : List Mark) (kept : Kept) → Fine (record s { instead = before; marks = marks; variables = kept }) t
    → Fine s t
unmarked s t before marks kept same = record { inside = same.inside; longer = same.longer; fresh = same.fresh; kept = same.kept }

pub as_marked : (s t : State) (marks : List Mark) → Fine s t → Fine s (record t { marks = marks })
as_marked s t marks same = record { inside = same.inside; longer = same.longer; fresh = same.fresh; kept = same.kept }

pub closed_fine : (s t : State) → Fine s t → Fine s (closed t)
closed_fine s t same = record { inside = same.inside; longer = same.longer; fresh = same.fresh; kept = same.kept }

-- what content is read by changes no element, and neither do marks and variables
pub as_told : (s t : State) (instead : Instead) (marks : List Mark) (kept : Kept) → Fine s t
    → Fine s (record t { instead = instead; marks = marks; variables = kept })
as_told s t instead marks kept same = record { inside = same.inside; longer = same.longer; fresh = same.fresh; kept = same.kept }

front_at : (nodes : List Node) (last : Node) (at : ℕ) (node : Node) → at < length nodes → slice_get (nodes ++ last ∷ []) at ≡ Some node → slice_get nodes at ≡ Some node
front_at [] last at node few is = absurd (omega arith)
front_at (first ∷ rest) last zero node few is = is
front_at (first ∷ rest) last (suc at) node few is = front_at rest last at node (omega arith) is

-- an element that has begun, and what is in it, which reads it, and then the outer one is open
pub element-ends : (id : ℕ) (instead : Instead) (s t u : State) → IsRead (begun id instead s) t → u.nodes ≡ t.nodes → u.inside ≡ s.inside → Fine s u
element-ends id instead s t u inner nodes_are inside_is =
    let last : Node = record { element = id; parent = s.inside; content = Begun; lengths = None } in
    let one_more : length (s.nodes ++ last ∷ []) ≡ length s.nodes + 1 = length-append s.nodes (last ∷ []) in
    let longer = inner.fine.longer in
    let size : length u.nodes ≡ length t.nodes = ap (λ (ns : List Node). length ns) nodes_are in
    record {
      inside = inside_is;
      longer = omega arith;
      fresh = λ at node past is unread.
          let there : slice_get t.nodes at ≡ Some node = subst (λ (ns : List Node). slice_get ns at ≡ Some node) nodes_are is in
          elim (same_or at (length s.nodes)) [
            | inl same ↦ inner.read node (subst (λ (j : ℕ). slice_get t.nodes j ≡ Some node) same there) unread
            | inr apart ↦ inner.fine.fresh at node (omega arith) there unread
          ];
      kept = λ at node few is unread.
          let there : slice_get t.nodes at ≡ Some node = subst (λ (ns : List Node). slice_get ns at ≡ Some node) nodes_are is in
          let within : at < length (begun id instead s).nodes = omega arith in
          let was = inner.fine.kept at node within there unread in
          record { old = was.old; there = front_at s.nodes last at was.old few was.there; unread = was.unread };
    }
