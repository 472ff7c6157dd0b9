-- Marks of which more are resolved are the same marks.
use Rattle.std.proofs.Common.{◌≡◌, refl, List, [], ◌∷◌, Bool, true, false, ◌||◌, cond, ap, sym, ◌∙◌}
use Rattle.dfdl_grammar.specs.declared.mark.Mark.{Mark}
use Rattle.dfdl_grammar.specs.States.{State}
use Rattle.dfdl_grammar.specs.Marks.{AreSame, are_initiated, back_among, initiated, outer_marks, resolved, resolved_among, unresolved}

at_point : (mark : Mark) (outer : List Mark) (point : Bool) → AreSame (resolved_among outer) outer
    → AreSame (cond point (record mark { is_resolved = true } ∷ outer) (mark ∷ resolved_among outer)) (mark ∷ outer)
at_point mark outer true same = refl
at_point mark outer false same = ap (λ (ms : List Mark). record mark { is_resolved = false } ∷ ms) same

pub resolved_same : (marks : List Mark) → AreSame (resolved_among marks) marks
resolved_same [] = refl
resolved_same (mark ∷ outer) = at_point mark outer mark.is_point (resolved_same outer)

outer_unresolved : (marks : List Mark) → unresolved (outer_marks marks) ≡ outer_marks (unresolved marks)
outer_unresolved [] = refl
outer_unresolved (mark ∷ outer) = refl

-- all but the first of them
pub outer_same : (marks others : List Mark) → AreSame marks others → AreSame (outer_marks marks) (outer_marks others)
outer_same marks others same =
    outer_unresolved marks ∙ ap (λ (ms : List Mark). outer_marks ms) same ∙ sym (outer_unresolved others)

-- what is gone back to doesn't depend on it
pub back_same : (marks : List Mark) (s : State) → back_among marks s ≡ back_among (unresolved marks) s
back_same [] s = refl
back_same (mark ∷ outer) s = refl

-- what holds of a state whose marks are the same holds of it where an initiator was found
module _ (P : State → Type 0) (s : State) (same : (marks : List Mark) → AreSame marks s.marks → P (record s { marks = marks })) where
  initiated_by : (test : Bool) → P (cond test (resolved s) s)
  initiated_by true = same (resolved_among s.marks) (resolved_same s.marks)
  initiated_by false = same s.marks refl

  pub initiated-comes : (resolves : Bool) → P (initiated resolves s)
  initiated-comes resolves = initiated_by (resolves || are_initiated s.marks)
