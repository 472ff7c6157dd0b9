-- What holds of the body of each simple element among the rows of components, wherever the rows begin.
use Rattle.std.proofs.Common.{◌≡◌, ℕ, zero, suc, ◌+◌, ◌-◌, ◌<◌, Bool, false, List, [], ◌∷◌, ◌++◌, length, map, slice_get, get_or, All, Option, None, Some, sym, ap, subst, ◌∙◌, arith, append_assoc, inl, inr}
use Rattle.std.proofs.lemmas.Bool.{cases_lt}
use Rattle.std.proofs.lemmas.List.Elements.{All-tail, All-cons, All-nil, All-append}
use Rattle.std.proofs.lemmas.Option.{slice_get_within, slice_get-get_or, get_or_from_slice_get}
use Rattle.dfdl_forms.specs.declared.simple.Simple.{Simple}
use Rattle.dfdl_order.specs.Parts.{uses_of}
use Rattle.dfdl_terms.specs.declared.representations.Representations.{Representations}
use Rattle.dfdl_terms.specs.Leaves.{ReadsBy, leaf, prefixed, measured, calculated, scoped as scope}
use Rattle.dfdl_terms.specs.declared.framing.Framing.{Framing}
use Rattle.dfdl_terms.specs.declared.occurs.Occurs.{Occurs}
use Rattle.dfdl_terms.specs.declared.row.Row.{Row}
use Rattle.dfdl_terms.specs.declared.row.Row.TheVariants.{Elem, Scope, Statement, Hidden as HiddenRow}
use Rattle.dfdl_terms.specs.declared.statement.Statements.{Statements}
use Rattle.dfdl_terms.specs.Framing.{no_fill}
use Rattle.dfdl_rows.specs.Components.{Schema, component_at, no_trials, slots_at, AreOfOne, HasOrder, IsBareComponent}
use Rattle.dfdl_rows.specs.declared.component.Counted.{Counted}
use Rattle.dfdl_rows.specs.declared.component.LeafLength.{LeafLength}
use Rattle.dfdl_rows.specs.declared.component.LeafLength.TheVariants as leaf_length
use Rattle.dfdl_rows.specs.declared.component.Component.{Component}
use Rattle.dfdl_rows.specs.declared.component.Component.TheVariants.{Sequence, Choice, ComplexElement, SimpleElement, CalculatedElement, Hidden}
use Rattle.dfdl_rows.specs.Framing.{framed, framed_row, opened}
use Rattle.dfdl_rows.specs.Scopes.{list_of, scanned_list, scope_rows, scoped_row, scope_size}
use Rattle.dfdl_rows.specs.Slots.{Kind, InOrder, OneTried, OneByKey, grouped, kind_by, row_of, separator_list, slots_size}
use Rattle.dfdl_rows.specs.declared.component.Separated.{Separated}
use Rattle.dfdl_rows.specs.declared.times.Times.{Times}
use Rattle.dfdl_rows.specs.RowLists.{Numbered, leaf_row, boxed_rows, element_rows, scoped, sequence_rows, around_rows, group_rows, own_rows, in_turn, last_rows, rows_at, rows_of}
use Rattle.dfdl_rows.specs.Leaves.{IsAmong, IsCalculated, IsLeafOf, HaveLeaves, HaveBareLeaves}
use Rattle.dfdl_rows.proofs.Framed.{unframed_row, framed_all}
use Rattle.dfdl_rows.proofs.Opened.{opened_all}
use Rattle.dfdl_rows.proofs.Boxed.{leaf_holds, boxed_all}
use Rattle.dfdl_rows.proofs.Scoped.{none_scanned, scoped_all}
use Rattle.dfdl_rows.proofs.Grouped.{grouped_all}
use Rattle.dfdl_rows.proofs.Concluded.{concluded_all}
use Rattle.dfdl_rows.proofs.Placed.{left, right, nothing_there, Sits, sits_left, sits_right, sits_first, sits_tail, framed_reads}
use Rattle.dfdl_rows.proofs.Parts.{by_parts}
use Rattle.dfdl_rows.proofs.RowsOf.{rows_step}

-- the row is no simple element
abbrev pub IsNotSimple : Row → Type 0
IsNotSimple row = (name : List ℕ) (simple : Simple) (tried : Representations) (behind : Statements) (body : ℕ) → row ≡ Elem name (Some simple) tried behind body → ⊥

none_simple : (rows : List Row) (i : ℕ) (name : List ℕ) (simple : Simple) (tried : Representations) (behind : Statements) (body : ℕ) → All IsNotSimple rows
    → slice_get rows i ≡ Some (Elem name (Some simple) tried behind body) → ⊥
none_simple [] i name simple tried behind body all is = nothing_there i (Elem name (Some simple) tried behind body) is
none_simple (row ∷ rows) zero name simple tried behind body all is =
    let same : row ≡ Elem name (Some simple) tried behind body = cc in
    all 0 row (omega arith) name simple tried behind body same
none_simple (row ∷ rows) (suc i) name simple tried behind body all is = none_simple rows i name simple tried behind body (All-tail IsNotSimple row rows all) is

-- a simple element behind rows that are none
only_last : (rows : List Row) (last : Row) (i : ℕ) (name : List ℕ) (simple : Simple) (tried : Representations) (behind : Statements) (body : ℕ) → All IsNotSimple rows
    → slice_get (rows ++ last ∷ []) i ≡ Some (Elem name (Some simple) tried behind body) → last ≡ Elem name (Some simple) tried behind body
only_last [] last zero name simple tried behind body all is = cc
only_last [] last (suc i) name simple tried behind body all is = absurd (nothing_there i (Elem name (Some simple) tried behind body) is)
only_last (row ∷ rows) last zero name simple tried behind body all is =
    let same : row ≡ Elem name (Some simple) tried behind body = cc in
    absurd (all 0 row (omega arith) name simple tried behind body same)
only_last (row ∷ rows) last (suc i) name simple tried behind body all is = only_last rows last i name simple tried behind body (All-tail IsNotSimple row rows all) is

framed_not_simple : (f : Framing) (separators : Option ℕ) (content first : ℕ) → All IsNotSimple (framed f separators content first)
framed_not_simple f separators content first = framed_all IsNotSimple (λ bits name simple tried behind body is. absurd (cc)) (λ bits name simple tried behind body is. absurd (cc))
    f separators (λ statement less name simple tried behind body is. absurd (cc)) (λ statement less name simple tried behind body is. absurd (cc))
    (λ own there name simple tried behind body is. absurd (cc)) (λ own there name simple tried behind body is. absurd (cc))
    (λ children name simple tried behind body is. absurd (cc)) content first

opened_not_simple : (f : Framing) (separators : Option ℕ) (content first : ℕ) → All IsNotSimple (opened f separators content first)
opened_not_simple f separators = opened_all IsNotSimple (λ bits name simple tried behind body is. absurd (cc)) (λ bits name simple tried behind body is. absurd (cc))
    f separators (λ statement less name simple tried behind body is. absurd (cc)) (λ statement own less name simple tried behind body is. absurd (cc))
    (λ statement less name simple tried behind body is. absurd (cc)) (λ own there name simple tried behind body is. absurd (cc))
    (λ own there name simple tried behind body is. absurd (cc)) (λ children name simple tried behind body is. absurd (cc))

row_not_simple : (kind : Kind) (initiated : Bool) (children : List ℕ) → IsNotSimple (row_of kind initiated children)
row_not_simple InOrder initiated children name simple tried behind body is = absurd (cc)
row_not_simple OneTried initiated children name simple tried behind body is = absurd (cc)
row_not_simple (OneByKey dispatch) initiated children name simple tried behind body is = absurd (cc)

scoped_not_simple : (list : Option ℕ) (around : ℕ → ℕ → List Row) → ((content first : ℕ) → All IsNotSimple (around content first))
    → (content first : ℕ) → All IsNotSimple (scoped list around content first)
scoped_not_simple list around = scoped_all IsNotSimple list around (λ own row there name simple tried behind body is. absurd (cc))

sequence_not_simple : (f : Framing) (separators : Option ℕ) (content first : ℕ) → All IsNotSimple (sequence_rows f separators content first)
sequence_not_simple f separators =
    scoped_not_simple separators (scoped (list_of f.terminator) (opened f separators))
    (scoped_not_simple (list_of f.terminator) (opened f separators) (opened_not_simple f separators))

leaf_not_simple : (own_length : LeafLength) (prim : ℕ) → IsNotSimple (leaf_row own_length prim)
leaf_not_simple own_length prim =
    leaf_holds IsNotSimple own_length prim (λ name simple tried behind body is. absurd (cc)) (λ prefix has name simple tried behind body is. absurd (cc))
    (λ measure has name simple tried behind body is. absurd (cc))

-- a leaf reads by its primitive, whatever gives its length
leaf_reads : (rows : List Row) (IsOne IsCalculation : ℕ → Type 0) (id prim : ℕ) (own_length : LeafLength) → slice_get rows id ≡ Some (leaf_row own_length prim)
    → IsOne prim → ReadsBy rows IsOne IsCalculation id
leaf_reads rows IsOne IsCalculation id prim leaf_length.Own is one = leaf id prim is one
leaf_reads rows IsOne IsCalculation id prim (leaf_length.Prefixed prefix) is one = prefixed id prim prefix is one
leaf_reads rows IsOne IsCalculation id prim (leaf_length.Measured measure) is one = measured id prim measure is one

-- the rows around the content of a simple element that stand before its own: that of its scope, and those that frame it
abbrev pub scoped_frame : Bool → Framing → ℕ → List Row
scoped_frame scanned f content = scoped (scanned_list scanned f.terminator) (framed f None) content (content + 1)

-- the number of the row that stands for all of them
abbrev pub scoped_whole : Bool → Framing → ℕ → ℕ
scoped_whole scanned f content =
    framed_row f None (scoped_row (scanned_list scanned f.terminator) content (content + 1)) (content + 1 + scope_size (scanned_list scanned f.terminator))

-- a scope around a content, and what frames it, read what the content does
scoped_reads : (rows : List Row) (IsOne IsCalculation : ℕ → Type 0) (f : Framing) (list : Option ℕ) (content first : ℕ) → Sits rows first (scoped list (framed f None) content first)
    → ReadsBy rows IsOne IsCalculation content → ReadsBy rows IsOne IsCalculation (framed_row f None (scoped_row list content first) (first + scope_size list))
scoped_reads rows IsOne IsCalculation f None content first sits reads = framed_reads rows IsOne IsCalculation f None content (first + 0)
    (subst (λ (n : ℕ). Sits rows n (framed f None content (first + 0))) (omega arith) sits) reads
scoped_reads rows IsOne IsCalculation f (Some list) content first sits reads =
    framed_reads rows IsOne IsCalculation f None first (first + 1) (sits_tail rows first (Scope list content) (framed f None first (first + 1)) sits)
    (scope first list content (sits_first rows first (Scope list content) (framed f None first (first + 1)) sits) reads)

-- among all rows, this holds of the body of a simple element of the components
module _ (components : List Component) (all : List Row) (Q : Simple → ℕ → Type 0)
    (holds : (number content prim : ℕ) (name : List ℕ) (simple : Simple) (f : Framing) (own_length : LeafLength) (tried : Representations) (scanned : Bool) (occurs : Occurs) (often : Counted)
    → slice_get components number ≡ Some (SimpleElement name simple prim f own_length tried scanned occurs often) → slice_get all content ≡ Some (leaf_row own_length prim)
    → Sits all (content + 1) (scoped_frame scanned f content) → Q simple (scoped_whole scanned f content))
    (calculates : (number content statement : ℕ) (name : List ℕ) (simple : Simple) (f : Framing)
    → slice_get components number ≡ Some (CalculatedElement name simple statement f) → slice_get all content ≡ Some (Statement statement)
    → Sits all (content + 1) (framed f None content (content + 1)) → Q simple (framed_row f None content (content + 1))) where
  -- it holds of each simple element of the rows, where these stand among all rows
  abbrev pub BodiesFrom : ℕ → List Row → Type 0
  BodiesFrom first rows = Sits all first rows → (i : ℕ) (name : List ℕ) (simple : Simple) (tried : Representations) (behind : Statements) (body : ℕ)
      → slice_get rows i ≡ Some (Elem name (Some simple) tried behind body) → Q simple body

  bodies_append : (first : ℕ) (xs ys : List Row) → BodiesFrom first xs → BodiesFrom (first + length xs) ys → BodiesFrom first (xs ++ ys)
  bodies_append first xs ys here rest sits i name simple tried behind body is = elim (cases_lt i (length xs)) [
    | inl less ↦ here (sits_left all first xs ys sits) i name simple tried behind body (sym (left xs ys i less) ∙ is)
    | inr more ↦
        let split : i ≡ length xs + (i - length xs) = omega (arith, more) in
        rest (sits_right all first xs ys sits) (i - length xs) name simple tried behind body
        (sym (right xs ys (i - length xs)) ∙ (ap (slice_get (xs ++ ys)) (sym split) ∙ is))
  ]

  bodies_none : (first : ℕ) (rows : List Row) → All IsNotSimple rows → BodiesFrom first rows
  bodies_none first rows none sits i name simple tried behind body is = absurd (none_simple rows i name simple tried behind body none is)

  abbrev pub HasBodies : Numbered → Type 0
  HasBodies rows = (first : ℕ) → BodiesFrom first (rows first)

  turn_bodies : (f : ℕ → Numbered) (ps : List ℕ) → All (λ p. HasBodies (f p)) ps → HasBodies (in_turn (map f ps))
  turn_bodies f [] each first = bodies_none first [] (All-nil IsNotSimple)
  turn_bodies f (p ∷ ps) each first =
      bodies_append first (f p first) (in_turn (map f ps) (first + length (f p first))) (each 0 p (omega arith) first)
      (turn_bodies f ps (All-tail (λ (q : ℕ). HasBodies (f q)) p ps each) (first + length (f p first)))

  group_bodies : (kind : Kind) (f : Framing) (separated : Option Separated) (initiated : Bool) (slots : List Times) (lasts : List ℕ) (first : ℕ)
      → BodiesFrom first (group_rows kind f separated initiated slots lasts first)
  group_bodies kind f separated initiated slots lasts first =
      let size : ℕ = slots_size separated slots in
      let own : List Row = grouped kind initiated separated slots lasts first in
      let others : List Row = sequence_rows f (separator_list separated) (first + size) (first + size + 1) in
      bodies_none first (group_rows kind f separated initiated slots lasts first)
      (concluded_all IsNotSimple f.behind (around_rows kind f separated initiated slots lasts first) first
      (All-append IsNotSimple own others
      (grouped_all IsNotSimple (λ children name simple tried behind body is. absurd (cc))
      (λ name simple tried behind body is. absurd (cc)) (λ count body name simple tried behind other is. absurd (cc))
      (λ most item told body name simple tried behind other is. absurd (cc))
      kind initiated (row_not_simple kind initiated) separated slots (λ k n less question body has name simple tried behind other is. absurd (cc)) lasts first
      (λ policy position name simple tried behind other is. absurd (cc)))
      (sequence_not_simple f (separator_list separated) (first + size) (first + size + 1)))
      (λ row some name simple tried behind body is. absurd (cc)))

  own_bodies : (component : Component) (slots : List Times) (lasts : List ℕ) (first number : ℕ) → slice_get components number ≡ Some component
      → BodiesFrom first (own_rows component slots lasts first)
  own_bodies (Sequence f separated initiated) slots lasts first number there = group_bodies InOrder f separated initiated slots lasts first
  own_bodies (Choice f initiated dispatch) slots lasts first number there = group_bodies (kind_by dispatch) f None initiated slots lasts first
  own_bodies (ComplexElement own f box occurs often) slots lasts first number there =
      bodies_none first (scoped (list_of f.terminator) (boxed_rows own f box) (get_or lasts 0 0) first)
      (scoped_not_simple (list_of f.terminator) (boxed_rows own f box)
      (boxed_all IsNotSimple own f box (λ row there name simple tried behind body is. absurd (cc)) (λ bits row there name simple tried behind body is. absurd (cc))
      (λ prefix row there name simple tried behind body is. absurd (cc))
      (λ measure row there name simple tried behind body is. absurd (cc))
      (framed_not_simple f None) (λ row name simple tried behind body is. absurd (cc)))
      (get_or lasts 0 0) first)
  own_bodies (SimpleElement own kind prim f own_length trials scanned occurs often) slots lasts first number there = λ sits i name simple tried behind body is.
      let list : Option ℕ = scanned_list scanned f.terminator in
      let whole : ℕ = scoped_whole scanned f first in
      let last : Row = Elem own (Some kind) trials f.behind (scoped_whole scanned f first) in
      let rows : List Row = leaf_row own_length prim ∷ scoped_frame scanned f first in
      let regrouped : leaf_row own_length prim ∷ scoped list (element_rows own (Some kind) trials f) first (first + 1) ≡ rows ++ last ∷ []
      = ap (λ (others : List Row). leaf_row own_length prim ∷ others)
      (sym (append_assoc (scope_rows list first) (framed f None (scoped_row list first (first + 1)) (first + 1 + scope_size list)) (last ∷ []))) in
      let there_is : slice_get (rows ++ last ∷ []) i ≡ Some (Elem name (Some simple) tried behind body)
      = ap (λ (others : List Row). slice_get others i) (sym regrouped) ∙ is in
      let all_sit : Sits all first (rows ++ last ∷ []) = subst (Sits all first) regrouped sits in
      let same : last ≡ Elem name (Some simple) tried behind body
      = only_last rows last i name simple tried behind body
      (All-cons IsNotSimple (leaf_row own_length prim) (scoped_frame scanned f first) (leaf_not_simple own_length prim)
      (scoped_not_simple list (framed f None) (framed_not_simple f None) first (first + 1))) there_is in
      let kinds : kind ≡ simple = cc in
      let bodies : scoped_whole scanned f first ≡ body = cc in
      let frame : Sits all (first + 1) (scoped_frame scanned f first)
      = sits_left all (first + 1) (scoped_frame scanned f first) (last ∷ []) (sits_tail all first (leaf_row own_length prim) (scoped_frame scanned f first ++ last ∷ []) all_sit) in
      subst (λ (k : Simple). Q k body) kinds (subst (λ (n : ℕ). Q kind n) bodies
      (holds number first prim own kind f own_length trials scanned occurs often there
      (sits_first all first (leaf_row own_length prim) (scoped_frame scanned f first ++ last ∷ []) all_sit) frame))
  own_bodies (CalculatedElement own kind statement f) slots lasts first number there = λ sits i name simple tried behind body is.
      let frame : List Row = framed f None first (first + 1) in
      let last : Row = Elem own (Some kind) no_trials f.behind (framed_row f None first (first + 1)) in
      let same : Elem own (Some kind) no_trials f.behind (framed_row f None first (first + 1)) ≡ Elem name (Some simple) tried behind body
      = only_last (Statement statement ∷ framed f None first (first + 1)) last i name simple tried behind body
      (All-cons IsNotSimple (Statement statement) (framed f None first (first + 1)) (λ name simple tried behind body is. absurd (cc))
      (framed_not_simple f None first (first + 1))) is in
      let kinds : kind ≡ simple = cc in
      let bodies : framed_row f None first (first + 1) ≡ body = cc in
      let behind_it : Sits all (first + 1) (framed f None first (first + 1))
      = sits_left all (first + 1) frame (last ∷ []) (sits_tail all first (Statement statement) (frame ++ last ∷ []) sits) in
      subst (λ (k : Simple). Q k body) kinds (subst (λ (n : ℕ). Q kind n) bodies
      (calculates number first statement own kind f there (sits_first all first (Statement statement) (frame ++ last ∷ []) sits) behind_it))
  own_bodies Hidden slots lasts first number there =
      bodies_none first (HiddenRow (get_or lasts 0 0) ∷ [])
      (All-cons IsNotSimple (HiddenRow (get_or lasts 0 0)) [] (λ name simple tried behind body is. absurd (cc)) (All-nil IsNotSimple))

-- the rows of each component of a schema
module _ (s : Schema) (ordered : HasOrder s.uses) (one : AreOfOne s.uses s.components s.refusals s.places) where
  there : (c : ℕ) → c < length s.uses → slice_get s.components c ≡ Some (component_at s.components c)
  there c within = slice_get-get_or s.components c (Sequence no_fill None false) (omega (arith, within, one.counted))

  bodies_at : (all : List Row) (Q : Simple → ℕ → Type 0)
      → ((number content prim : ℕ) (name : List ℕ) (simple : Simple) (f : Framing) (own_length : LeafLength) (tried : Representations) (scanned : Bool) (occurs : Occurs) (often : Counted)
      → slice_get s.components number ≡ Some (SimpleElement name simple prim f own_length tried scanned occurs often) → slice_get all content ≡ Some (leaf_row own_length prim)
      → Sits all (content + 1) (scoped_frame scanned f content) → Q simple (scoped_whole scanned f content))
      → ((number content statement : ℕ) (name : List ℕ) (simple : Simple) (f : Framing)
      → slice_get s.components number ≡ Some (CalculatedElement name simple statement f) → slice_get all content ≡ Some (Statement statement)
      → Sits all (content + 1) (framed f None content (content + 1)) → Q simple (framed_row f None content (content + 1)))
      → (c : ℕ) → c < length s.uses → (first : ℕ) → Sits all first (rows_at s c first) → (i : ℕ) (name : List ℕ) (simple : Simple) (tried : Representations) (behind : Statements) (body : ℕ)
      → slice_get (rows_at s c first) i ≡ Some (Elem name (Some simple) tried behind body) → Q simple body
  bodies_at all Q holds calculates = by_parts s.uses ordered.0 ordered.1 (λ c. HasBodies s.components all Q holds calculates (rows_at s c))
      (λ c within each first.
      let turn : List Row = in_turn (map (rows_at s) (uses_of s.uses c)) first in
      let lasts : List ℕ = last_rows (map (rows_at s) (uses_of s.uses c)) first in
      subst (λ (rows : Numbered). BodiesFrom s.components all Q holds calculates first (rows first)) (sym (rows_step s ordered c within))
      (bodies_append s.components all Q holds calculates first turn (own_rows (component_at s.components c) (slots_at s c) lasts (first + length turn))
      (turn_bodies s.components all Q holds calculates (rows_at s) (uses_of s.uses c) each first)
      (own_bodies s.components all Q holds calculates (component_at s.components c) (slots_at s c) lasts (first + length turn) c (there c within))))

  -- the rows of a root among themselves
  root_sits : (rows : List Row) → Sits rows 0 rows
  root_sits rows i row is =
      let same : i ≡ 0 + i = omega arith in
      subst (λ (n : ℕ). slice_get rows n ≡ Some row) same is

  pub rows_have_leaves : (root : ℕ) → root < length s.uses → HaveLeaves s.components (rows_of s root)
  rows_have_leaves root within =
      bodies_at (rows_of s root) (λ simple body. ReadsBy (rows_of s root) (IsAmong s.components simple) (IsCalculated s.components simple) body)
      (λ number content prim name simple f own_length tried scanned occurs often component is sits.
      scoped_reads (rows_of s root) (IsAmong s.components simple) (IsCalculated s.components simple) f (scanned_list scanned f.terminator) content (content + 1) sits
      (leaf_reads (rows_of s root) (IsAmong s.components simple) (IsCalculated s.components simple) content prim own_length is
      (number, name, f, own_length, tried, scanned, occurs, often, component)))
      (λ number content statement name simple f component is sits.
      framed_reads (rows_of s root) (IsAmong s.components simple) (IsCalculated s.components simple) f None content (content + 1) sits
      (calculated content statement is (number, name, f, component)))
      root within 0 (root_sits (rows_of s root))

  -- where there is neither a statement nor fill nor a delimiter nor a box nor a prefix nor a question, the component of a number has none
  bare_at : All IsBareComponent s.components → (number : ℕ) (component : Component) → slice_get s.components number ≡ Some component → IsBareComponent component
  bare_at bare number component is =
      subst IsBareComponent (get_or_from_slice_get s.components number component component is)
      (bare number component (slice_get_within s.components number component is))

  pub rows_have_bare_leaves : All IsBareComponent s.components → (root : ℕ) → root < length s.uses → HaveBareLeaves s.components (rows_of s root)
  rows_have_bare_leaves bare root within =
      bodies_at (rows_of s root) (λ simple body. IsLeafOf s.components simple (slice_get (rows_of s root) body))
      (λ number content prim name simple f own_length tried scanned occurs often component is sits.
      let own = bare_at bare number (SimpleElement name simple prim f own_length tried scanned occurs often) component in
      let content_is : scoped_whole scanned f content ≡ content
      = ap (λ (list : Option ℕ). framed_row f None (scoped_row list content (content + 1)) (content + 1 + scope_size list)) (none_scanned scanned f own.unframed)
      ∙ unframed_row f None content (content + 1 + 0) own.unframed in
      let leaf_is : leaf_row own_length prim ≡ leaf_row leaf_length.Own prim = ap (λ (way : LeafLength). leaf_row way prim) own.unmeasured in
      subst (λ (n : ℕ). IsLeafOf s.components simple (slice_get (rows_of s root) n)) (sym content_is)
      (subst (IsLeafOf s.components simple) (sym (is ∙ ap (λ (row : Row). Some row) leaf_is)) (number, name, f, own_length, tried, scanned, occurs, often, component)))
      (λ number content statement name simple f component is sits.
      let own = bare_at bare number (CalculatedElement name simple statement f) component in
      absurd (let none = own.uncalculated in cc))
      root within 0 (root_sits (rows_of s root))
