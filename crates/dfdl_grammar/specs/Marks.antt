-- Marks are opened, parsing goes back to them, and they are closed. 'Parsing Algorithm'.
use Rattle.std.specs.Prelude.{◌≡◌, ℕ, nat_le, List, [], ◌∷◌, take, length, Bool, true, false, ◌||◌, Option, Some, None, slice_get, if◌then◌else◌}
use Rattle.dfdl_vars.specs.Marks.{gone_back, mark_of}
use Rattle.dfdl_region.specs.declared.node.Content.{Content}
use Rattle.dfdl_region.specs.declared.node.Content.TheVariants.{Begun}
use Rattle.dfdl_region.specs.declared.node.Node.{Node}
use Rattle.dfdl_region.specs.declared.node.Lengths.{Lengths}
use Rattle.dfdl_region.specs.Nodes.{with_content, with_lengths}
use Rattle.dfdl_surroundings.specs.Answers.{lengths_of}
use Rattle.dfdl_grammar.specs.declared.mark.Mark.{Mark}
use Rattle.dfdl_grammar.specs.States.{State}

-- what an element has; where there is none, as before any read
abbrev pub content_of : Option Node → Content
content_of None = Begun
content_of (Some node) = node.content

-- nodes of which the one of this number has another content, and other lengths
abbrev pub with_known : List Node → ℕ → Content → Option Lengths → List Node
with_known nodes number content lengths = with_lengths (with_content nodes number content) number lengths

-- a mark at this state that is no point of uncertainty
abbrev pub mark_at : State → Mark
mark_at s = record {
  at = s.at;
  is_point = false;
  is_resolved = false;
  is_initiated = false;
  stop = s.stop;
  nodes = length s.nodes;
  text = length s.text;
  inside = s.inside;
  content = content_of (slice_get s.nodes s.inside);
  lengths = lengths_of (slice_get s.nodes s.inside);
  variables = mark_of s.variables;
}

-- the state with such a mark
abbrev pub marked : State → State
marked s = record s { marks = mark_at s ∷ s.marks }

-- a mark at this state that is a point of uncertainty, which an initiator resolves or not
abbrev pub point_at : Bool → State → Mark
point_at initiated s = record (mark_at s) { is_point = true; is_initiated = initiated }

-- the state with such a point
abbrev pub pointed : Bool → State → State
pointed initiated s = record s { marks = point_at initiated s ∷ s.marks }

-- marks of which the innermost point is resolved
abbrev pub resolved_among : List Mark → List Mark
resolved_among [] = []
resolved_among (mark ∷ outer) =
    if mark.is_point then record mark { is_resolved = true } ∷ outer else mark ∷ resolved_among outer

-- the innermost point is resolved
abbrev pub resolved : State → State
resolved s = record s { marks = resolved_among s.marks }

-- the innermost point of these marks is one that an initiator resolves
abbrev pub are_initiated : List Mark → Bool
are_initiated [] = false
are_initiated (mark ∷ outer) = if mark.is_point then mark.is_initiated else are_initiated outer

-- an initiator was found: it resolves the innermost point, if it is one that resolves any, and else where that is one that it can resolve
abbrev pub initiated : Bool → State → State
initiated resolves s = if resolves || are_initiated s.marks then resolved s else s

-- the first of these marks is resolved
abbrev pub is_settled : List Mark → Bool
is_settled [] = false
is_settled (mark ∷ outer) = mark.is_resolved

-- marks of which none is resolved
abbrev pub unresolved : List Mark → List Mark
unresolved [] = []
unresolved (mark ∷ outer) = record mark { is_resolved = false } ∷ unresolved outer

-- these marks are the others, of which some more may be resolved
abbrev pub AreSame : List Mark → List Mark → Type 0
AreSame marks others = unresolved marks ≡ unresolved others

-- the state at a mark: the elements that have begun since are gone, so are the bytes of values since, the element that was open has
-- what it had, and is as long as it was, and each variable is set and read as it was
abbrev pub back_to : Mark → State → State
back_to mark s = record s {
  at = mark.at;
  stop = mark.stop;
  nodes = with_known (take mark.nodes s.nodes) mark.inside mark.content mark.lengths;
  text = take mark.text s.text;
  inside = mark.inside;
  variables = gone_back mark.variables s.variables;
}

-- the state at the first of these marks, which stays open
abbrev pub back_among : List Mark → State → State
back_among [] s = s
back_among (mark ∷ outer) s = back_to mark s

-- the state at the innermost mark, which stays open
abbrev pub back : State → State
back s = back_among s.marks s

-- no bit was passed over since the first of these marks
abbrev pub stays_at : List Mark → ℕ → Bool
stays_at [] at = true
stays_at (mark ∷ outer) at = nat_le at mark.at

-- all but the first of these marks
abbrev pub outer_marks : List Mark → List Mark
outer_marks [] = []
outer_marks (mark ∷ outer) = outer

-- the innermost mark is closed
abbrev pub closed : State → State
closed s = record s { marks = outer_marks s.marks }

-- the state is this one again, but for the primitive by which content is read, and for points that are resolved
pub record IsAgain (s t : State) : Type 0 where
  pub same : record t { instead = s.instead; marks = s.marks } ≡ s
  pub marks : AreSame t.marks s.marks
