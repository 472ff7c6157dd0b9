-- An element comes to what its representations come to, each of which begins in the state at the mark.
use Rattle.std.proofs.Common.{◌≡◌, ℕ, Bool, true, false, cond, List, [], ◌∷◌, Option, Some, None, length, refl, ap, sym, subst, ◌∙◌}
use Rattle.dfdl_vars.specs.Kept.{Kept}
use Rattle.dfdl_report.specs.declared.cause.ParseCause.{ParseCause}
use Rattle.dfdl_report.specs.declared.cause.ParseCause.TheVariants.{RequiredEmpty}
use Rattle.dfdl_terms.specs.declared.representations.Representations.{Representations}
use Rattle.dfdl_grammar.specs.declared.end.End.{End}
use Rattle.dfdl_grammar.specs.declared.end.End.TheVariants.{Done, Failed, Stopped}
use Rattle.dfdl_grammar.specs.declared.end.Halt.{Halt}
use Rattle.dfdl_grammar.specs.declared.instead.Instead.{Instead}
use Rattle.dfdl_grammar.specs.declared.instead.Instead.TheVariants.{Nothing, Nil, Empty}
use Rattle.dfdl_grammar.specs.declared.mark.Mark.{Mark}
use Rattle.dfdl_grammar.specs.States.{State}
use Rattle.dfdl_grammar.specs.Outcomes.{Outcome}
use Rattle.dfdl_grammar.specs.Marks.{AreSame, back, closed, mark_at, marked, unresolved}
use Rattle.dfdl_grammar.proofs.Ways.{IsBack}
use Rattle.dfdl_grammar.specs.Representations.{Attempt, after_empty, or_else, refuse, refused_among, is_occurrence, representations_in, represented, represented_by, the_last, then_empty, then_nil, then_normal}

-- the state with a mark, which is a point of uncertainty or not, where content is read by this in place of its own primitive
abbrev pub marked_as : Bool → Bool → State → Instead → State
marked_as is_point initiated s instead =
    record s { instead = instead; marks = record (mark_at s) { is_point = is_point; is_initiated = initiated } ∷ s.marks }

-- the state at the mark of an element
abbrev pub marked_by : State → Instead → State
marked_by s instead = marked_as false false s instead

-- the state with these marks, where content is read by this, and where this is kept of the variables
abbrev pub again_at : State → Instead → List Mark → Kept → State
again_at s instead marks kept = record s { instead = instead; marks = marks; variables = kept }

-- the marks are those of a state and one more at it
abbrev pub AreMarked : State → List Mark → Type 0
AreMarked s marks = AreSame marks (marked s).marks

-- what a failure goes back to is a state again, but for what content is read by, and for points that are resolved, where its variables
-- are sound
pub record GoesBack (s t : State) : Type 0 where
  pub kept : Kept
  pub there : back t ≡ again_at s t.instead t.marks kept
  pub marks : AreMarked s t.marks
  pub is : IsBack s.variables kept

-- the state where an element fails whose empty representation is found
abbrev pub refused : State → State → State
refused s t = closed (record t { inside = length s.nodes })

-- a condition on the primitive that is there in place of an element's own
abbrev pub IsOk : (Instead → Type 0) → (ℕ → Instead) → Option ℕ → Type 0
IsOk ok made None = Unit {0}
IsOk ok made (Some prim) = ok (made prim)

-- one that each has
pub any_ok : (made : ℕ → Instead) (prim : Option ℕ) → IsOk (λ (instead : Instead). Unit {0}) made prim
any_ok made None = tt
any_ok made (Some prim) = tt

-- What holds of the outcome of a representation while the mark is open (Q) and behind it (P), where what fails goes back to the state at
-- the mark. The last one is the normal one.
module _ (P : End → State → Type 0) (Q : Instead → End → State → Type 0) (s : State) (attempt : Attempt) (ok : Instead → Type 0) (none_ok : ok Nothing)
    (alone : P (attempt Nothing s).end (attempt Nothing s).state)
    (attempts : (instead before : Instead) (marks : List Mark) (kept : Kept) → AreMarked s marks → IsBack s.variables kept → ok instead
    → Q instead (attempt instead (again_at s before marks kept)).end (attempt instead (again_at s before marks kept)).state)
    (finds : (instead : Instead) (t : State) → Q instead Done t → P Done (closed t))
    (fails : (cause : ParseCause) (bit : ℕ) (t : State) → Q Nothing (Failed cause bit) t → P (Failed cause bit) (closed t))
    (stays : (instead : Instead) (cause : Halt) (quantity : ℕ) (t : State) → Q instead (Stopped cause quantity) t → P (Stopped cause quantity) t)
    (refuses : (instead : Instead) (t : State) → Q instead Done t → P (Failed RequiredEmpty s.at) (refused s t))
    (marks_stay : (instead before : Instead) (marks : List Mark) (kept : Kept) → AreMarked s marks → IsBack s.variables kept
    → (attempt instead (again_at s before marks kept)).end ≡ Done
    → AreMarked s (attempt instead (again_at s before marks kept)).state.marks)
    (returns : (instead before : Instead) (marks : List Mark) (kept : Kept) → AreMarked s marks → IsBack s.variables kept → (cause : ParseCause) (bit : ℕ)
    → (attempt instead (again_at s before marks kept)).end ≡ Failed cause bit → GoesBack s (attempt instead (again_at s before marks kept)).state) where
  -- what follows from the mark
  abbrev Others : (State → Outcome) → Type 0
  Others next =
      (before : Instead) (marks : List Mark) (kept : Kept) → AreMarked s marks → IsBack s.variables kept
      → P (next (again_at s before marks kept)).end (next (again_at s before marks kept)).state

  stopped : (instead : Instead) (cause : Halt) (quantity : ℕ) (o : Outcome) → Stopped cause quantity ≡ o.end → Q instead o.end o.state → P o.end o.state
  stopped instead cause quantity o same holds =
      subst (λ (e : End). P e o.state) same (stays instead cause quantity o.state (subst (λ (e : End). Q instead e o.state) (sym same) holds))

  done : (instead : Instead) (o : Outcome) → Done ≡ o.end → Q instead o.end o.state → P o.end (closed o.state)
  done instead o same holds =
      subst (λ (e : End). P e (closed o.state)) same (finds instead o.state (subst (λ (e : End). Q instead e o.state) (sym same) holds))

  last-comes : (e : End) (o : Outcome) → e ≡ o.end → Q Nothing o.end o.state → P (the_last e o).end (the_last e o).state
  last-comes Done o same holds = done Nothing o same holds
  last-comes (Failed cause bit) o same holds =
      subst (λ (e : End). P e (closed o.state)) same (fails cause bit o.state (subst (λ (e : End). Q Nothing e o.state) (sym same) holds))
  last-comes (Stopped cause quantity) o same holds = stopped Nothing cause quantity o same holds

  else-comes : (instead : Instead) (e : End) (o : Outcome) (next : State → Outcome) → e ≡ o.end → Q instead o.end o.state
      → ((cause : ParseCause) (bit : ℕ) → o.end ≡ Failed cause bit → GoesBack s o.state)
      → Others next
      → P (or_else e o next).end (or_else e o next).state
  else-comes instead Done o next same holds goes_back others = done instead o same holds
  else-comes instead (Failed cause bit) o next same holds goes_back others =
      let there : GoesBack s o.state = goes_back cause bit (sym same) in
      subst (λ (t : State). P (next t).end (next t).state) (sym there.there)
      (others o.state.instead o.state.marks there.kept there.marks there.is)
  else-comes instead (Stopped cause quantity) o next same holds goes_back others = stopped instead cause quantity o same holds

  normal-comes : Others (then_normal attempt)
  normal-comes before marks kept same back_is =
      let o : Outcome = attempt Nothing (again_at s before marks kept) in last-comes o.end o refl (attempts Nothing before marks kept same back_is none_ok)

  -- where an element is refused doesn't depend on what is resolved
  refused_same : (marks : List Mark) (o : Outcome) → refused_among marks o ≡ refused_among (unresolved marks) o
  refused_same [] o = refl
  refused_same (mark ∷ outer) o = refl

  -- the empty representation of an element that has no value to take
  refuse-comes : (instead : Instead) (e : End) (o : Outcome) (next : State → Outcome) → e ≡ o.end → Q instead o.end o.state
      → (o.end ≡ Done → AreMarked s o.state.marks)
      → ((cause : ParseCause) (bit : ℕ) → o.end ≡ Failed cause bit → GoesBack s o.state)
      → Others next
      → P (refuse e o next).end (refuse e o next).state
  refuse-comes instead Done o next same holds stay goes_back others =
      let here : P (Failed RequiredEmpty s.at) (refused s o.state) =
      refuses instead o.state (subst (λ (e : End). Q instead e o.state) (sym same) holds) in
      let there : refused_among o.state.marks o ≡ refused_among (marked s).marks o =
      refused_same o.state.marks o ∙ ap (λ (ms : List Mark). refused_among ms o) (stay (sym same)) in
      subst (λ (out : Outcome). P out.end out.state) (sym there) here
  refuse-comes instead (Failed cause bit) o next same holds stay goes_back others =
      else-comes instead (Failed cause bit) o next same holds goes_back others
  refuse-comes instead (Stopped cause quantity) o next same holds stay goes_back others = stopped instead cause quantity o same holds

  found-comes : (instead : Instead) (refuses_empty : Bool) (o : Outcome) (next : State → Outcome) → Q instead o.end o.state
      → (o.end ≡ Done → AreMarked s o.state.marks)
      → ((cause : ParseCause) (bit : ℕ) → o.end ≡ Failed cause bit → GoesBack s o.state)
      → Others next
      → P (after_empty refuses_empty o next).end (after_empty refuses_empty o next).state
  found-comes instead true o next holds stay goes_back others = refuse-comes instead o.end o next refl holds stay goes_back others
  found-comes instead false o next holds stay goes_back others = else-comes instead o.end o next refl holds goes_back others

  empty-comes : (refuses_empty : Bool) (empty : Option ℕ) → IsOk ok Empty empty → Others (then_empty refuses_empty empty attempt)
  empty-comes refuses_empty None is before marks kept same back_is = normal-comes before marks kept same back_is
  empty-comes refuses_empty (Some prim) is before marks kept same back_is =
      let o : Outcome = attempt (Empty prim) (again_at s before marks kept) in
      found-comes (Empty prim) refuses_empty o (then_normal attempt) (attempts (Empty prim) before marks kept same back_is is)
      (marks_stay (Empty prim) before marks kept same back_is)
      (returns (Empty prim) before marks kept same back_is) normal-comes

  nil-comes : (tried : Representations) (nil : Option ℕ) → IsOk ok Nil nil → IsOk ok Empty tried.empty → Others (then_nil tried nil attempt)
  nil-comes tried None nil_is empty_is before marks kept same back_is =
      empty-comes tried.refuses_empty tried.empty empty_is before marks kept same back_is
  nil-comes tried (Some prim) nil_is empty_is before marks kept same back_is =
      let o : Outcome = attempt (Nil prim) (again_at s before marks kept) in
      else-comes (Nil prim) o.end o (then_empty tried.refuses_empty tried.empty attempt) refl (attempts (Nil prim) before marks kept same back_is nil_is)
      (returns (Nil prim) before marks kept same back_is) (empty-comes tried.refuses_empty tried.empty empty_is)

  several-come : (tried : Representations) → IsOk ok Nil tried.nil → IsOk ok Empty tried.empty → (several : Bool)
      → (let o : Outcome = cond several (then_nil tried tried.nil attempt (marked s)) (attempt Nothing s) in P o.end o.state)
  several-come tried nil_is empty_is true = nil-comes tried tried.nil nil_is empty_is s.instead (marked s).marks s.variables refl (λ sound. refl)
  several-come tried nil_is empty_is false = alone

  pub represented-comes : (tried : Representations) → IsOk ok Nil tried.nil → IsOk ok Empty tried.empty → IsOk ok Empty tried.where_tried.empty
      → P (represented tried attempt s).end (represented tried attempt s).state
  represented-comes tried nil_is empty_is tried_is = by (is_occurrence s.instead)
    where
      by : (occurrence : Bool) → (let o : Outcome = represented_by (representations_in occurrence tried) attempt s in P o.end o.state)
      by true = several-come (representations_in true tried) nil_is tried_is tried.where_tried.are_several
      by false = several-come tried nil_is empty_is tried.are_several
