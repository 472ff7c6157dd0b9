-- What rows do is added to what was there, but for the content and the lengths of the open element: states that follow others.
use Rattle.std.proofs.Common.{◌≡◌, ◌⊎◌, inl, inr, ℕ, zero, suc, ◌+◌, ◌<◌, ◌≤◌, refl, List, [], ◌∷◌, ◌++◌, length, take, Bool, Some, ap, sym, subst, ◌∙◌, arith, append-nil, append_assoc, length-append}
use Rattle.std.proofs.Math.Seq.{take-append_seam}
use Rattle.std.specs.Prelude.{slice_get, Option, None}
use Rattle.dfdl_report.specs.declared.cause.ParseCause.{ParseCause}
use Rattle.dfdl_vars.specs.Kept.{Kept}
use Rattle.dfdl_vars.specs.Marks.{gone_back, mark_of}
use Rattle.dfdl_region.specs.declared.node.Node.{Node}
use Rattle.dfdl_region.specs.declared.node.Content.{Content}
use Rattle.dfdl_region.specs.declared.node.Content.TheVariants.{Begun}
use Rattle.dfdl_region.specs.declared.node.Lengths.{Lengths}
use Rattle.dfdl_region.specs.Nodes.{with_content, with_lengths}
use Rattle.dfdl_surroundings.specs.Answers.{lengths_of}
use Rattle.dfdl_grammar.specs.declared.end.End.{End}
use Rattle.dfdl_grammar.specs.declared.end.End.TheVariants.{Done, Failed, Stopped}
use Rattle.dfdl_grammar.specs.declared.instead.Instead.{Instead}
use Rattle.dfdl_grammar.specs.declared.instead.Instead.TheVariants.{Nothing}
use Rattle.dfdl_grammar.specs.declared.mark.Mark.{Mark}
use Rattle.dfdl_grammar.specs.States.{State}
use Rattle.dfdl_grammar.specs.Outcomes.{Outcome}
use Rattle.dfdl_grammar.specs.Marks.{AreSame, back, back_among, closed, content_of, with_known}
use Rattle.dfdl_grammar.specs.Elements.{begun}
use Rattle.dfdl_grammar.proofs.Lengthened.{lengths-length}
use Rattle.dfdl_grammar.proofs.Represented.{marked_as}
use Rattle.dfdl_grammar.proofs.Resolved.{back_same, outer_same}
use Rattle.dfdl_grammar.proofs.Ways.{GoesOn, IsBack, gone_is, goes_same, goes_twice}

pub content-length : (nodes : List Node) (number : ℕ) (content : Content) → length (with_content nodes number content) ≡ length nodes
content-length [] number content = refl
content-length (node ∷ rest) zero content = refl
content-length (node ∷ rest) (suc number) content = ap suc (content-length rest number content)

pub known-length : (nodes : List Node) (number : ℕ) (content : Content) (lengths : Option Lengths) → length (with_known nodes number content lengths) ≡ length nodes
known-length nodes number content lengths = lengths-length (with_content nodes number content) number lengths ∙ content-length nodes number content

-- another content of one element, and other lengths, leave the others as they are
pub other_same : (nodes : List Node) (number at : ℕ) (content : Content) (lengths : Option Lengths) → (at ≡ number → ⊥)
    → slice_get (with_known nodes number content lengths) at ≡ slice_get nodes at
other_same [] number at content lengths apart = refl
other_same (first ∷ rest) zero zero content lengths apart = absurd (apart refl)
other_same (first ∷ rest) zero (suc at) content lengths apart = refl
other_same (first ∷ rest) (suc number) zero content lengths apart = refl
other_same (first ∷ rest) (suc number) (suc at) content lengths apart = other_same rest number at content lengths (λ same. apart (ap suc same))

-- of two contents of one element the later stays
pub content_twice : (nodes : List Node) (number : ℕ) (first last : Content) (lengths : Option Lengths)
    → with_known (with_content nodes number first) number last lengths ≡ with_known nodes number last lengths
content_twice [] number first last lengths = refl
content_twice (node ∷ rest) zero first last lengths = refl
content_twice (node ∷ rest) (suc number) first last lengths = ap (λ (ns : List Node). node ∷ ns) (content_twice rest number first last lengths)

-- and so do the later lengths
pub lengths_twice : (nodes : List Node) (number : ℕ) (first last : Option Lengths) (content : Content)
    → with_known (with_lengths nodes number first) number content last ≡ with_known nodes number content last
lengths_twice [] number first last content = refl
lengths_twice (node ∷ rest) zero first last content = refl
lengths_twice (node ∷ rest) (suc number) first last content = ap (λ (ns : List Node). node ∷ ns) (lengths_twice rest number first last content)

-- where an element is the same, it is with another content and other lengths of one of them too
pub content_same : (nodes others : List Node) (number at : ℕ) (content : Content) (lengths : Option Lengths) → slice_get nodes at ≡ slice_get others at
    → slice_get (with_known nodes number content lengths) at ≡ slice_get (with_known others number content lengths) at
content_same [] [] number at content lengths same = refl
content_same [] (other ∷ others) zero zero content lengths same = absurd (cc)
content_same [] (other ∷ others) zero (suc at) content lengths same = same
content_same [] (other ∷ others) (suc number) zero content lengths same = absurd (cc)
content_same [] (other ∷ others) (suc number) (suc at) content lengths same = content_same [] others number at content lengths same
content_same (node ∷ nodes) [] zero zero content lengths same = absurd (cc)
content_same (node ∷ nodes) [] zero (suc at) content lengths same = same
content_same (node ∷ nodes) [] (suc number) zero content lengths same = absurd (cc)
content_same (node ∷ nodes) [] (suc number) (suc at) content lengths same = content_same nodes [] number at content lengths same
content_same (node ∷ nodes) (other ∷ others) zero zero content lengths same =
    let one : node ≡ other = cc in ap (λ (n : Node). Some (record n { content = content; lengths = lengths })) one
content_same (node ∷ nodes) (other ∷ others) zero (suc at) content lengths same = same
content_same (node ∷ nodes) (other ∷ others) (suc number) zero content lengths same = same
content_same (node ∷ nodes) (other ∷ others) (suc number) (suc at) content lengths same = content_same nodes others number at content lengths same

-- what an element has, and how long it is, as another content and other lengths of it
own_known : (nodes : List Node) (number : ℕ) → with_known nodes number (content_of (slice_get nodes number)) (lengths_of (slice_get nodes number)) ≡ nodes
own_known [] number = refl
own_known (node ∷ rest) zero = refl
own_known (node ∷ rest) (suc number) = ap (λ (ns : List Node). node ∷ ns) (own_known rest number)

-- the first elements of those with another content and other lengths
take_known : (count : ℕ) (nodes : List Node) (number : ℕ) (content : Content) (lengths : Option Lengths)
    → take count (with_known nodes number content lengths) ≡ with_known (take count nodes) number content lengths
take_known zero nodes number content lengths = refl
take_known (suc count) [] number content lengths = refl
take_known (suc count) (node ∷ rest) zero content lengths = refl
take_known (suc count) (node ∷ rest) (suc number) content lengths = ap (λ (ns : List Node). node ∷ ns) (take_known count rest number content lengths)

-- and so does one more behind them
pub front_same : (nodes : List Node) (last : Node) (at : ℕ) → at < length nodes → slice_get (nodes ++ last ∷ []) at ≡ slice_get nodes at
front_same [] last at few = absurd (omega arith)
front_same (first ∷ rest) last zero few = refl
front_same (first ∷ rest) last (suc at) few = front_same rest last at (omega arith)

-- nodes that begin with others
pub begins_with : (nodes others : List Node) → ((at : ℕ) → at < length nodes → slice_get others at ≡ slice_get nodes at) → take (length nodes) others ≡ nodes
begins_with [] others same = refl
begins_with (node ∷ rest) [] same = let none = same zero (omega arith) in absurd (cc)
begins_with (node ∷ rest) (other ∷ others) same =
    let first = same zero (omega arith) in
    let one : other ≡ node = cc in
    ap (λ (n : Node). n ∷ take (length rest) others) one ∙ ap (λ (ns : List Node). node ∷ ns) (begins_with rest others (λ at few. same (suc at) (omega arith)))

pub begun-longer : (id : ℕ) (instead : Instead) (s : State) → length (begun id instead s).nodes ≡ length s.nodes + 1
begun-longer id instead s = length-append s.nodes (record { element = id; parent = s.inside; content = Begun; lengths = None } ∷ [])

-- a state that follows another, of whose elements at most one has another content or other lengths: with any content and lengths of that
-- they are the same; each way back to what was kept of the variables goes on
pub record Grown (one : ℕ) (s t : State) : Type 0 where
  pub longer : length s.nodes ≤ length t.nodes
  pub kept : (content : Content) (lengths : Option Lengths) (at : ℕ) → at < length s.nodes
      → slice_get (with_known t.nodes one content lengths) at ≡ slice_get (with_known s.nodes one content lengths) at
  pub more : List ℕ
  pub text : t.text ≡ s.text ++ more
  pub ways : GoesOn s.variables t.variables

-- content is read by what it was read by, or by its own primitive
abbrev pub IsKept : State → Instead → Type 0
IsKept s instead = (instead ≡ s.instead) ⊎ (instead ≡ Nothing)

pub is_nothing : (instead : Instead) → (instead ≡ Nothing) ⊎ (instead ≡ Nothing) → instead ≡ Nothing
is_nothing instead (inl same) = same
is_nothing instead (inr same) = same

-- a state behind what is done: the same element is open, its content is read by what it was read by, or by its own primitive, and the
-- same lists end it
pub record Stays (s t : State) : Type 0 where
  pub marks : AreSame t.marks s.marks
  pub inside : t.inside ≡ s.inside
  pub instead : IsKept s t.instead
  pub lists : t.lists ≡ s.lists
  pub hidden : t.hidden ≡ s.hidden

-- a state behind what fails
pub record Falls (s t : State) : Type 0 where
  pub marks : AreSame t.marks s.marks
  pub instead : IsKept s t.instead
  pub lists : t.lists ≡ s.lists
  pub hidden : t.hidden ≡ s.hidden

-- the marks and the lists are those from before, where no limit was reached
abbrev pub Ends : End → State → State → Type 0
Ends Done s t = Stays s t
Ends (Failed cause bit) s t = Falls s t
Ends (Stopped cause quantity) s t = Unit {0}

-- where what is done comes to
pub record Went (one : ℕ) (s : State) (e : End) (t : State) : Type 0 where
  pub grown : Grown one s t
  pub ends : Ends e s t

-- what is done changes no element but the one that is open
abbrev pub Goes : (State → Outcome) → Type 0
Goes f = (s : State) → Went s.inside s (f s).end (f s).state

pub grown : (one : ℕ) (s : State) → Grown one s s
grown one s = record { longer = omega arith; kept = λ content lengths at few. refl; more = []; text = sym (append-nil s.text); ways = goes_same s.variables }

pub ends_here : (e : End) (s : State) → Ends e s s
ends_here Done s = record { marks = refl; inside = refl; instead = inl refl; lists = refl; hidden = refl }
ends_here (Failed cause bit) s = record { marks = refl; instead = inl refl; lists = refl; hidden = refl }
ends_here (Stopped cause quantity) s = tt

pub still : (one : ℕ) (e : End) (s : State) → Went one s e s
still one e s = record { grown = grown one s; ends = ends_here e s }

pub moved : (one : ℕ) (s : State) (to stop : ℕ) → Went one s Done (record s { at = to; stop = stop })
moved one s to stop =
    let same = grown one s in
    record {
      grown = record { longer = same.longer; kept = same.kept; more = same.more; text = same.text; ways = same.ways };
      ends = record { marks = refl; inside = refl; instead = inl refl; lists = refl; hidden = refl };
    }

-- where points may be resolved meanwhile
pub moved_as : (one : ℕ) (s : State) (at : ℕ) (marks : List Mark) → AreSame marks s.marks → Went one s Done (record s { at = at; marks = marks })
moved_as one s at marks is =
    let same = grown one s in
    record {
      grown = record { longer = same.longer; kept = same.kept; more = same.more; text = same.text; ways = same.ways };
      ends = record { marks = is; inside = refl; instead = inl refl; lists = refl; hidden = refl };
    }

pub grown_twice : (one : ℕ) (s t u : State) → Grown one s t → Grown one t u → Grown one s u
grown_twice one s t u first second =
    let a = first.longer in
    let b = second.longer in
    record {
      longer = omega arith;
      kept = λ content lengths at few. second.kept content lengths at (omega arith) ∙ first.kept content lengths at few;
      more = first.more ++ second.more;
      text = second.text ∙ ap (λ (bytes : List ℕ). bytes ++ second.more) first.text ∙ append_assoc s.text first.more second.more;
      ways = goes_twice s.variables t.variables u.variables first.ways second.ways;
    }

pub instead_twice : (a b c : Instead) → (b ≡ a) ⊎ (b ≡ Nothing) → (c ≡ b) ⊎ (c ≡ Nothing) → (c ≡ a) ⊎ (c ≡ Nothing)
instead_twice a b c first (inr none) = inr none
instead_twice a b c (inl same) (inl again) = inl (again ∙ same)
instead_twice a b c (inr none) (inl again) = inr (again ∙ none)

pub ends_behind : (s t u : State) (e : End) → Stays s t → Ends e t u → Ends e s u
ends_behind s t u Done first second = record {
  marks = second.marks ∙ first.marks;
  inside = second.inside ∙ first.inside;
  instead = instead_twice s.instead t.instead u.instead first.instead second.instead;
  lists = second.lists ∙ first.lists;
  hidden = second.hidden ∙ first.hidden;
}
ends_behind s t u (Failed cause bit) first second = record {
  marks = second.marks ∙ first.marks;
  instead = instead_twice s.instead t.instead u.instead first.instead second.instead;
  lists = second.lists ∙ first.lists;
  hidden = second.hidden ∙ first.hidden;
}
ends_behind s t u (Stopped cause quantity) first second = tt

pub twice : (one : ℕ) (s t u : State) (e : End) → Went one s Done t → Went one t e u → Went one s e u
twice one s t u e first second =
    record { grown = grown_twice one s t u first.grown second.grown; ends = ends_behind s t u e first.ends second.ends }

-- the same element is open in the state between
pub behind : (s t u : State) (e : End) → Went s.inside s Done t → Went t.inside t e u → Went s.inside s e u
behind s t u e first second =
    twice s.inside s t u e first (subst (λ (one : ℕ). Went one t e u) first.ends.inside second)

-- nothing is changed at all of what was there
pub any_one : (one : ℕ) (s t : State) (e : End) → Went (length s.nodes) s e t → Went one s e t
any_one one s t e went = record {
  grown = record {
    longer = went.grown.longer;
    kept = λ content lengths at few.
        let apart : at ≡ length s.nodes → ⊥ = λ same. omega arith in
        content_same t.nodes s.nodes one at content lengths
        (sym (other_same t.nodes (length s.nodes) at content lengths apart)
        ∙ went.grown.kept content lengths at few
        ∙ other_same s.nodes (length s.nodes) at content lengths apart);
    more = went.grown.more;
    text = went.grown.text;
    ways = went.grown.ways;
  };
  ends = went.ends;
}

-- behind a mark
ends_closed : (mark : Mark) (s t : State) (e : End) → Ends e (record s { marks = mark ∷ s.marks }) t → Ends e s (closed t)
ends_closed mark s t Done ends = record {
  marks = outer_same t.marks (mark ∷ s.marks) ends.marks;
  inside = ends.inside;
  instead = ends.instead;
  lists = ends.lists;
  hidden = ends.hidden;
}
ends_closed mark s t (Failed cause bit) ends = record {
  marks = outer_same t.marks (mark ∷ s.marks) ends.marks;
  instead = ends.instead;
  lists = ends.lists;
  hidden = ends.hidden;
}
ends_closed mark s t (Stopped cause quantity) ends = tt

pub unmarked_went : (one : ℕ) (mark : Mark) (s : State) (e : End) (t : State) → Went one (record s { marks = mark ∷ s.marks }) e t
    → Went one s e (closed t)
unmarked_went one mark s e t went = record {
  grown = record { longer = went.grown.longer; kept = went.grown.kept; more = went.grown.more; text = went.grown.text; ways = went.grown.ways };
  ends = ends_closed mark s t e went.ends;
}

-- from a state with the same marks, to whose variables each way goes on
ends_as : (s t : State) (marks : List Mark) (kept : Kept) (e : End) → AreSame marks s.marks → Ends e (record s { marks = marks; variables = kept }) t
    → Ends e s t
ends_as s t marks kept Done same ends = record {
  marks = ends.marks ∙ same;
  inside = ends.inside;
  instead = ends.instead;
  lists = ends.lists;
  hidden = ends.hidden;
}
ends_as s t marks kept (Failed cause bit) same ends =
    record { marks = ends.marks ∙ same; instead = ends.instead; lists = ends.lists; hidden = ends.hidden }
ends_as s t marks kept (Stopped cause quantity) same ends = tt

pub went_as : (one : ℕ) (s t : State) (marks : List Mark) (kept : Kept) (e : End) → AreSame marks s.marks → GoesOn s.variables kept
    → Went one (record s { marks = marks; variables = kept }) e t → Went one s e t
went_as one s t marks kept e same goes went = record {
  grown = record {
    longer = went.grown.longer;
    kept = went.grown.kept;
    more = went.grown.more;
    text = went.grown.text;
    ways = goes_twice s.variables kept t.variables goes went.grown.ways;
  };
  ends = ends_as s t marks kept e same went.ends;
}

-- what is kept of the variables behind going back to a mark at a state
abbrev pub kept_at : State → State → Kept
kept_at s t = gone_back (mark_of s.variables) t.variables

-- What is gone back to is the state at the mark, where the marks and the lists are those from then: no element before the mark has
-- changed but for what the open one has, and how long that is.
pub restored : (is_point initiated : Bool) (s t : State) (before : Instead) → Grown s.inside (marked_as is_point initiated s before) t
    → AreSame t.marks (marked_as is_point initiated s before).marks → t.lists ≡ s.lists → t.hidden ≡ s.hidden
    → back t ≡ record s { instead = t.instead; marks = t.marks; variables = kept_at s t }
restored is_point initiated s t before grown marks lists hidden =
    let content : Content = content_of (slice_get s.nodes s.inside) in
    let lengths : Option Lengths = lengths_of (slice_get s.nodes s.inside) in
    let size : length (with_known s.nodes s.inside content lengths) ≡ length s.nodes = known-length s.nodes s.inside content lengths in
    let whole : List Node = with_known t.nodes s.inside content lengths in
    let nodes : with_known (take (length s.nodes) t.nodes) s.inside content lengths ≡ s.nodes =
    sym (take_known (length s.nodes) t.nodes s.inside content lengths)
    ∙ ap (λ (count : ℕ). take count whole) (sym size)
    ∙ begins_with (with_known s.nodes s.inside content lengths) whole (λ at few. grown.kept content lengths at (omega arith))
    ∙ own_known s.nodes s.inside in
    let text : take (length s.text) t.text ≡ s.text =
    ap (λ (bytes : List ℕ). take (length s.text) bytes) grown.text ∙ take-append_seam s.text grown.more in
    let there : List Node → List ℕ → List ℕ → ℕ → State =
    λ ns bytes ls h. record {
      at = s.at;
      stop = s.stop;
      nodes = ns;
      text = bytes;
      inside = s.inside;
      instead = t.instead;
      lists = ls;
      hidden = h;
      marks = t.marks;
      variables = kept_at s t;
    } in
    back_same t.marks t
    ∙ ap (λ (ms : List Mark). back_among ms t) marks
    ∙ ap (λ (ns : List Node). there ns (take (length s.text) t.text) t.lists t.hidden) nodes
    ∙ ap (λ (bytes : List ℕ). there s.nodes bytes t.lists t.hidden) text
    ∙ ap (λ (ls : List ℕ). there s.nodes s.text ls t.hidden) lists
    ∙ ap (λ (h : ℕ). there s.nodes s.text s.lists h) hidden

-- so it is behind what is done, and behind what fails
pub done_returns : (is_point initiated : Bool) (s t : State) (before : Instead) → Went s.inside (marked_as is_point initiated s before) Done t
    → back t ≡ record s { instead = t.instead; marks = t.marks; variables = kept_at s t }
done_returns is_point initiated s t before went =
    restored is_point initiated s t before went.grown went.ends.marks went.ends.lists went.ends.hidden

pub failed_returns : (is_point initiated : Bool) (s t : State) (before : Instead) (cause : ParseCause) (bit : ℕ)
    → Went s.inside (marked_as is_point initiated s before) (Failed cause bit) t
    → back t ≡ record s { instead = t.instead; marks = t.marks; variables = kept_at s t }
failed_returns is_point initiated s t before cause bit went =
    restored is_point initiated s t before went.grown went.ends.marks went.ends.lists went.ends.hidden

-- and the variables are those from then, where these are sound
pub went_kept : (is_point initiated : Bool) (s t : State) (before : Instead) (e : End) → Went s.inside (marked_as is_point initiated s before) e t
    → IsBack s.variables (kept_at s t)
went_kept is_point initiated s t before e went = gone_is s.variables t.variables went.grown.ways
