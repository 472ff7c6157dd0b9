-- The rows of a component nest, name what is there, are plain where there is neither fill nor a delimiter nor a box nor a prefix nor a question, and
-- end with the component's own.
use Rattle.std.proofs.Common.{◌≡◌, ℕ, zero, suc, ◌+◌, ◌-◌, ◌<◌, ◌≤◌, Bool, true, false, if◌then◌else◌, List, [], ◌∷◌, ◌++◌, length, map, get_or, slice_get, All, Option, None, Some, sym, ap, subst, ◌∙◌, refl, arith, append_assoc, length-append}
use Rattle.std.proofs.lemmas.List.{length-map}
use Rattle.std.proofs.lemmas.List.Elements.{All-nil, All-tail, All-cons, All-append, All-get_or}
use Rattle.dfdl_forms.specs.declared.simple.Simple.{Simple}
use Rattle.dfdl_order.specs.Parts.{uses_of}
use Rattle.dfdl_terms.specs.declared.representations.Representations.{Representations}
use Rattle.dfdl_terms.specs.Tables.{Named}
use Rattle.dfdl_terms.specs.declared.framing.Framing.{Framing}
use Rattle.dfdl_terms.specs.declared.occurs.Occurs.{Occurs}
use Rattle.dfdl_terms.specs.declared.row.Row.{Row}
use Rattle.dfdl_terms.specs.declared.row.Row.TheVariants.{Elem, Group, Scope, Spanned, Statement, Hidden as HiddenRow}
use Rattle.dfdl_terms.specs.declared.slots.Slot.{Slot}
use Rattle.dfdl_terms.specs.declared.statement.Statements.{Statements}
use Rattle.dfdl_terms.specs.Rows.{ChildrenBelow, Nests, NamesWithin, IsPlainRow, IsWithin, HasPlainRows}
use Rattle.dfdl_terms.specs.Framing.{no_fill}
use Rattle.dfdl_rows.specs.Components.{Schema, component_at, slots_at, CanHave, AreOfOne, HasOrder, HasPrimitive, HasBoxPrimitive, HasBoxQuestion, HasPrefixPrimitive, HasLeafQuestion, HasList, HasSeparators, HasDelimiters, HasFramingStatements, HasStatements, IsBareComponent, no_trials, occurs_in, question_in}
use Rattle.dfdl_rows.specs.Slots.{Kind, InOrder, OneTried, OneByKey, grouped, laid_of, row_of, separator_list, slots_of, slots_of_group, slots_size}
use Rattle.dfdl_rows.specs.declared.component.Separated.{Separated}
use Rattle.dfdl_rows.specs.declared.times.Times.{Times}
use Rattle.dfdl_rows.specs.declared.component.Component.{Component}
use Rattle.dfdl_rows.specs.declared.component.Component.TheVariants.{Sequence, Choice, ComplexElement, SimpleElement, CalculatedElement, Hidden}
use Rattle.dfdl_rows.specs.declared.component.ContentBox.{ContentBox}
use Rattle.dfdl_rows.specs.declared.component.ContentBox.TheVariants.{Unbounded, Sized, Prefixed, Measured}
use Rattle.dfdl_rows.specs.declared.component.Counted.{Counted}
use Rattle.dfdl_rows.specs.declared.component.Counted.TheVariants.{ByBounds, Parsed, Told}
use Rattle.dfdl_rows.specs.Boxes.{box_row}
use Rattle.dfdl_rows.specs.Times.{question_of, times_of}
use Rattle.dfdl_rows.specs.RowLists.{Numbered, leaf_row, element_rows, boxed_rows, scoped, sequence_rows, around_rows, group_rows, own_rows, in_turn, last_rows, rows_at, rows_of}
use Rattle.dfdl_rows.specs.Answers.{EndsWith}
use Rattle.dfdl_rows.specs.Scopes.{list_of, scanned_list, scope_rows, scoped_row, scope_size}
use Rattle.dfdl_rows.specs.Framing.{has_framing, rows_before, rows_behind, numbers, in_group, framed, framed_row, framing_size, instance_rows, opened, opened_row, tests_alone, untested}
use Rattle.dfdl_rows.proofs.Framed.{framed_cases, unframed, length_framed, framed_end, framed_below, before_all, behind_all, framed_all}
use Rattle.dfdl_rows.proofs.Opened.{instances_nest, length_instances, opened_all, opened_cases, outermost_below, unopened}
use Rattle.dfdl_rows.proofs.Boxed.{leaf_holds, element_all, boxed_all}
use Rattle.dfdl_rows.proofs.Scoped.{length_scope, scope_end, scope_below, scoped_all, no_terminator, none_scanned, listed, scanned_holds}
use Rattle.dfdl_rows.proofs.Nests.{NestsFrom, nests_none, nests_cons, nests_append}
use Rattle.dfdl_rows.proofs.Slotted.{HoldsCounted, IsSingle, length_children}
use Rattle.dfdl_rows.proofs.Grouped.{LeadsWithin, grouped_all, grouped_nests, length_grouped, none_grouped, slots_hold}
use Rattle.dfdl_rows.proofs.Parts.{by_parts}
use Rattle.dfdl_rows.proofs.Concluded.{concluded_all, concluded_nests, unconcluded}
use Rattle.dfdl_rows.proofs.RowsOf.{rows_step, length_around, length_rows, length_lasts, some_rows}

-- wherever rows begin, they nest and there is one
pub record IsNested (rows : Numbered) : Type 0 where
  pub nests : (first : ℕ) → NestsFrom first (rows first)
  pub some : (first : ℕ) → 0 < length (rows first)

nests_turn : (f : ℕ → Numbered) (ps : List ℕ) → All (λ p. IsNested (f p)) ps → (first : ℕ) → NestsFrom first (in_turn (map f ps) first)
nests_turn f [] all first = nests_none first
nests_turn f (p ∷ ps) all first =
    let here : IsNested (f p) = all 0 p (omega arith) in
    nests_append (f p first) (in_turn (map f ps) (first + length (f p first))) first (here.nests first)
    (nests_turn f ps (All-tail (λ (q : ℕ). IsNested (f q)) p ps all) (first + length (f p first)))

lasts_below : (f : ℕ → Numbered) (ps : List ℕ) → All (λ p. IsNested (f p)) ps → (first bound : ℕ) → first + length (in_turn (map f ps) first) ≤ bound
    → All (λ n. n < bound) (last_rows (map f ps) first)
lasts_below f [] all first bound few = λ i d less. absurd (omega arith)
lasts_below f (p ∷ ps) all first bound few =
    let here : IsNested (f p) = all 0 p (omega arith) in
    let count : length (f p first ++ in_turn (map f ps) (first + length (f p first))) ≡ length (f p first) + length (in_turn (map f ps) (first + length (f p first)))
    = length-append (f p first) (in_turn (map f ps) (first + length (f p first))) in
    All-cons (λ n. n < bound) (first + length (f p first) - 1) (last_rows (map f ps) (first + length (f p first))) (omega (arith, here.some first, count, few))
    (lasts_below f ps (All-tail (λ (q : ℕ). IsNested (f q)) p ps all) (first + length (f p first)) bound (omega (arith, count, few)))

-- rows without children nest
nests_flat : (rows : List Row) (first : ℕ) → All (λ row. (n : ℕ) → ChildrenBelow n row) rows → NestsFrom first rows
nests_flat [] first flat = nests_none first
nests_flat (row ∷ rows) first flat = nests_cons first row rows (flat 0 row (omega arith) first)
    (nests_flat rows (first + 1) (All-tail (λ (r : Row). (n : ℕ) → ChildrenBelow n r) row rows flat))

numbers_below : (rows : List Row) (first bound : ℕ) → first + length rows ≤ bound → All (λ n. n < bound) (numbers rows first)
numbers_below [] first bound few = λ i d less. absurd (omega arith)
numbers_below (row ∷ rows) first bound few = All-cons (λ n. n < bound) first (numbers rows (first + 1)) (omega (arith, few))
    (numbers_below rows (first + 1) bound (omega (arith, few)))

-- a content with what frames it
module _ (f : Framing) (separators : Option ℕ) (content first : ℕ) (low : content < first) where
  group_below : All (λ n. n < first + length (rows_before f) + length (rows_behind f separators)) (in_group f separators content first)
  group_below = All-append (λ n. n < first + length (rows_before f) + length (rows_behind f separators)) (numbers (rows_before f) first)
      (content ∷ numbers (rows_behind f separators) (first + length (rows_before f)))
      (numbers_below (rows_before f) first (first + length (rows_before f) + length (rows_behind f separators)) (omega arith))
      (All-cons (λ n. n < first + length (rows_before f) + length (rows_behind f separators)) content (numbers (rows_behind f separators) (first + length (rows_before f)))
      (omega (arith, low))
      (numbers_below (rows_behind f separators) (first + length (rows_before f)) (first + length (rows_before f) + length (rows_behind f separators)) (omega arith)))

  nests_framed : NestsFrom first (framed f separators content first)
  nests_framed = framed_cases f separators content first (λ rows whole size. NestsFrom first rows) (λ none. nests_none first)
      (λ some.
      nests_append (rows_before f) (rows_behind f separators ++ Group (in_group f separators content first) ∷ []) first
      (nests_flat (rows_before f) first (before_all (λ row. (n : ℕ) → ChildrenBelow n row) (λ bits n. tt) (λ bits n. tt) f separators (λ statement less n. tt) (λ statement less n. tt) (λ own is n. tt) (λ own is n. tt)))
      (nests_append (rows_behind f separators) (Group (in_group f separators content first) ∷ []) (first + length (rows_before f))
      (nests_flat (rows_behind f separators) (first + length (rows_before f)) (behind_all (λ row. (n : ℕ) → ChildrenBelow n row) (λ bits n. tt) (λ bits n. tt) f separators (λ statement less n. tt) (λ statement less n. tt) (λ own is n. tt) (λ own is n. tt)))
      (nests_cons (first + length (rows_before f) + length (rows_behind f separators)) (Group (in_group f separators content first)) [] group_below
      (nests_none (first + length (rows_before f) + length (rows_behind f separators) + 1)))))

-- a content with the instances that are open in it
nests_opened : (f : Framing) (separators : Option ℕ) (content first : ℕ) → content < first → NestsFrom first (opened f separators content first)
nests_opened f separators content first low =
    let inside : ℕ = framed_row (untested f) separators content first in
    let behind : ℕ = first + framing_size (untested f) separators in
    let frame : List Row = framed (untested f) separators content first in
    let instances : List Row = instance_rows f.openings (framed_row (untested f) separators content first) (first + framing_size (untested f) separators) in
    let tests : List Row = framed (tests_alone f) None (opened_row f separators content first) (first + framing_size (untested f) separators + f.openings.count) in
    let under : framed_row (untested f) separators content first < first + framing_size (untested f) separators = framed_below (untested f) separators content first low in
    let after : first + framing_size (untested f) separators ≡ first + length (framed (untested f) separators content first)
    = ap (λ (n : ℕ). first + n) (sym (length_framed (untested f) separators content first)) in
    let end : first + framing_size (untested f) separators + f.openings.count ≡ first + framing_size (untested f) separators + length instances
    = ap (λ (n : ℕ). first + framing_size (untested f) separators + n) (sym (length_instances f.openings.first f.openings.count inside behind)) in
    opened_cases f separators content first (λ rows size. NestsFrom first rows) (nests_framed f separators content first low)
    (nests_append frame (instances ++ tests) first (nests_framed (untested f) separators content first low)
    (subst (λ (n : ℕ). NestsFrom n (instances ++ tests)) after
    (nests_append instances tests behind (instances_nest f.openings.first f.openings.count inside behind under)
    (subst (λ (n : ℕ). NestsFrom n tests) end
    (nests_framed (tests_alone f) None (opened_row f separators content first) (first + framing_size (untested f) separators + f.openings.count)
    (outermost_below f.openings.count inside behind under))))))

-- the row of an element behind them
nests_element : (f : Framing) (content first : ℕ) → content < first → (name : List ℕ) (simple : Option Simple) (tried : Representations)
    → NestsFrom first (element_rows name simple tried f content first)
nests_element f content first low name simple tried =
    let below : framed_row f None content first < first + length (framed f None content first)
    = omega (arith, framed_below f None content first low, length_framed f None content first) in
    nests_append (framed f None content first) (Elem name simple tried f.behind (framed_row f None content first) ∷ []) first (nests_framed f None content first low)
    (nests_cons (first + length (framed f None content first)) (Elem name simple tried f.behind (framed_row f None content first)) [] below
    (nests_none (first + length (framed f None content first) + 1)))

-- a content in its box
below_box : (box : ContentBox) (content first : ℕ) → content < first → ChildrenBelow first (box_row box content)
below_box Unbounded content first low = low
below_box (Sized bits) content first low = low
below_box (Prefixed prefix) content first low = low
below_box (Measured measure) content first low = low

nests_boxed : (name : List ℕ) (f : Framing) (box : ContentBox) (content first : ℕ) → content < first → NestsFrom first (boxed_rows name f box content first)
nests_boxed name f box content first low =
    nests_cons first (box_row box content) (element_rows name None no_trials f first (first + 1)) (below_box box content first low)
    (nests_element f first (first + 1) (omega arith) name None no_trials)

-- a content in its scope, and what is around both
nests_scope : (t : Option ℕ) (content first : ℕ) → content < first → NestsFrom first (scope_rows t content)
nests_scope None content first low = nests_none first
nests_scope (Some list) content first low = nests_cons first (Scope list content) [] low (nests_none (first + 1))

nests_scoped : (t : Option ℕ) (around : ℕ → ℕ → List Row) → ((content first : ℕ) → content < first → NestsFrom first (around content first))
    → (content first : ℕ) → content < first → NestsFrom first (scoped t around content first)
nests_scoped t around nests content first low =
    let others : List Row = around (scoped_row t content first) (first + scope_size t) in
    nests_append (scope_rows t content) others first (nests_scope t content first low)
    (subst (λ (n : ℕ). NestsFrom (first + n) others) (sym (length_scope t content))
    (nests (scoped_row t content first) (first + scope_size t) (scope_below t content first low)))

nests_sequence : (f : Framing) (separators : Option ℕ) (content first : ℕ) → content < first → NestsFrom first (sequence_rows f separators content first)
nests_sequence f separators =
    nests_scoped separators (scoped (list_of f.terminator) (opened f separators))
    (nests_scoped (list_of f.terminator) (opened f separators) (nests_opened f separators))

-- the group of a sequence or choice, and what is around it
nests_slots : (kind : Kind) (f : Framing) (separated : Option Separated) (initiated : Bool) (slots : List Times) (lasts : List ℕ) (first : ℕ)
    → length slots ≡ length lasts → All (λ n. n < first) lasts → LeadsWithin kind (length (laid_of initiated separated slots lasts first).children)
    → NestsFrom first (group_rows kind f separated initiated slots lasts first)
nests_slots kind f separated initiated slots lasts first long below leads =
    let size : ℕ = slots_size separated slots in
    let others : List Row = sequence_rows f (separator_list separated) (first + size) (first + size + 1) in
    let after : first + length (grouped kind initiated separated slots lasts first) ≡ first + size + 1
    = omega (arith, length_grouped kind initiated separated slots lasts first) in
    concluded_nests f.behind (around_rows kind f separated initiated slots lasts first) first
    (omega (arith, length_around kind f separated initiated slots lasts first))
    (nests_append (grouped kind initiated separated slots lasts first) others first (grouped_nests kind initiated separated slots lasts first long below leads)
    (subst (λ (n : ℕ). NestsFrom n others) (sym after) (nests_sequence f (separator_list separated) (first + size) (first + size + 1) (omega arith))))

own_nest : (component : Component) (slots : List Times) (ps lasts : List ℕ) (first : ℕ) → CanHave component ps → length lasts ≡ length ps → length slots ≡ length ps
    → All (λ n. n < first) lasts → NestsFrom first (own_rows component slots lasts first)
own_nest (Sequence f separated initiated) slots ps lasts first can long many below = nests_slots InOrder f separated initiated slots lasts first (omega (arith, long, many)) below tt
own_nest (Choice f initiated None) slots ps lasts first can long many below = nests_slots OneTried f None initiated slots lasts first (omega (arith, long, many)) below tt
own_nest (Choice f initiated (Some dispatch)) slots ps lasts first can long many below =
    nests_slots (OneByKey dispatch) f None initiated slots lasts first (omega (arith, long, many)) below
    (subst (λ (count : ℕ). All (λ key. key.branch < count) dispatch.keys) (sym (length_children initiated slots lasts first ∙ many)) can)
own_nest (ComplexElement name f box occurs often) slots ps lasts first can long many below =
    nests_scoped (list_of f.terminator) (boxed_rows name f box) (nests_boxed name f box) (get_or lasts 0 0) first (below 0 0 (omega (arith, can, long)))
own_nest (SimpleElement name simple prim f own_length tried scanned occurs often) slots ps lasts first can long many below =
    let list : Option ℕ = scanned_list scanned f.terminator in
    nests_cons first (leaf_row own_length prim) (scoped list (element_rows name (Some simple) tried f) first (first + 1))
    (leaf_holds (ChildrenBelow first) own_length prim tt (λ prefix is. tt) (λ measure is. tt))
    (nests_scoped list (element_rows name (Some simple) tried f) (λ content from low. nests_element f content from low name (Some simple) tried)
    first (first + 1) (omega arith))
own_nest (CalculatedElement name simple statement f) slots ps lasts first can long many below =
    nests_cons first (Statement statement) (element_rows name (Some simple) no_trials f first (first + 1)) tt
    (nests_element f first (first + 1) (omega arith) name (Some simple) no_trials)
own_nest Hidden slots ps lasts first can long many below =
    nests_cons first (HiddenRow (get_or lasts 0 0)) [] (below 0 0 (omega (arith, can, long))) (nests_none (first + 1))

-- each part has its slots
length_slots : (s : Schema) (c : ℕ) → length (slots_at s c) ≡ length (uses_of s.uses c)
length_slots s c = length-map (uses_of s.uses c) (λ p. slots_of (component_at s.components p) (uses_of s.uses p))

module _ (s : Schema) (ordered : HasOrder s.uses) (one : AreOfOne s.uses s.components s.refusals s.places) where
  nested : (c : ℕ) → c < length s.uses → IsNested (rows_at s c)
  nested = by_parts s.uses ordered.0 ordered.1 (λ c. IsNested (rows_at s c))
      (λ c within all. record {
        nests = λ first.
            let ps : List Numbered = map (rows_at s) (uses_of s.uses c) in
            let turn : List Row = in_turn (map (rows_at s) (uses_of s.uses c)) first in
            let lasts : List ℕ = last_rows (map (rows_at s) (uses_of s.uses c)) first in
            subst (λ (rows : Numbered). NestsFrom first (rows first)) (sym (rows_step s ordered c within))
            (nests_append turn (own_rows (component_at s.components c) (slots_at s c) lasts (first + length turn)) first (nests_turn (rows_at s) (uses_of s.uses c) all first)
            (own_nest (component_at s.components c) (slots_at s c) (uses_of s.uses c) lasts (first + length turn) (one.fit c within)
            (length_lasts (rows_at s) (uses_of s.uses c) first) (length_slots s c) (lasts_below (rows_at s) (uses_of s.uses c) all first (first + length turn) (omega arith))));
        some = λ first. omega (arith, length_rows s ordered c within first, some_rows s ordered c within);
      })

  pub rows_nest : (root : ℕ) → root < length s.uses → Nests (rows_of s root)
  unfolding NestsFrom
  rows_nest root within i row less is = subst (λ (n : ℕ). ChildrenBelow n row) (omega arith) ((nested root within).nests 0 i row is)

  pub rows_some : (root : ℕ) → root < length s.uses → 0 < length (rows_of s root)
  rows_some root within = (nested root within).some 0

-- what holds of each row
abbrev pub IsAll : (Row → Type 0) → Numbered → Type 0
IsAll P rows = (first : ℕ) → All P (rows first)

turn_all : (P : Row → Type 0) (f : ℕ → Numbered) (ps : List ℕ) → All (λ p. IsAll P (f p)) ps → IsAll P (in_turn (map f ps))
turn_all P f [] all first = λ i d less. absurd (omega arith)
turn_all P f (p ∷ ps) all first =
    All-append P (f p first) (in_turn (map f ps) (first + length (f p first))) (all 0 p (omega arith) first)
    (turn_all P f ps (All-tail (λ (q : ℕ). IsAll P (f q)) p ps all) (first + length (f p first)))

-- what holds of the rows of each component's own
rows_all : (s : Schema) → HasOrder s.uses → (P : Row → Type 0)
    → ((c : ℕ) → c < length s.uses → (lasts : List ℕ) (first : ℕ) → All P (own_rows (component_at s.components c) (slots_at s c) lasts first))
    → (c : ℕ) → c < length s.uses → IsAll P (rows_at s c)
rows_all s ordered P own = by_parts s.uses ordered.0 ordered.1 (λ c. IsAll P (rows_at s c))
    (λ c within all first.
    let turn : List Row = in_turn (map (rows_at s) (uses_of s.uses c)) first in
    let lasts : List ℕ = last_rows (map (rows_at s) (uses_of s.uses c)) first in
    subst (λ (rows : Numbered). All P (rows first)) (sym (rows_step s ordered c within))
    (All-append P turn (own_rows (component_at s.components c) (slots_at s c) lasts (first + length turn)) (turn_all P (rows_at s) (uses_of s.uses c) all first)
    (own c within lasts (first + length turn))))

-- what rows name is there
module _ (named : Named) (f : Framing) (separators : Option ℕ)
    (has : HasList (length named.delimiters) f.initiator × HasList (length named.delimiters) f.terminator)
    (within : IsWithin (length named.delimiters) separators) (stated : HasFramingStatements (length named.statements) f) where
  framed_named : (content first : ℕ) → All (NamesWithin named) (framed f separators content first)
  framed_named = framed_all (NamesWithin named) (λ bits. tt) (λ bits. tt) f separators (λ statement less. omega (arith, less, stated.0)) (λ statement less. omega (arith, less, stated.2))
      (λ own is. subst (HasList (length named.delimiters)) is has.0) (λ own is. (subst (HasList (length named.delimiters)) is has.1, within)) (λ children. tt)

  opened_named : (content first : ℕ) → All (NamesWithin named) (opened f separators content first)
  opened_named = opened_all (NamesWithin named) (λ bits. tt) (λ bits. tt) f separators (λ statement less. omega (arith, less, stated.0)) (λ statement body less. omega (arith, less, stated.1))
      (λ statement less. omega (arith, less, stated.2)) (λ own is. subst (HasList (length named.delimiters)) is has.0)
      (λ own is. (subst (HasList (length named.delimiters)) is has.1, within)) (λ children. tt)

  scoped_named : (around : ℕ → ℕ → List Row) → ((content first : ℕ) → All (NamesWithin named) (around content first))
      → (content first : ℕ) → All (NamesWithin named) (scoped (list_of f.terminator) around content first)
  scoped_named around =
      scoped_all (NamesWithin named) (list_of f.terminator) around
      (λ list body is. listed (λ n. n < length named.delimiters) f.terminator list is (λ own there. subst (HasList (length named.delimiters)) there has.1))

  sequence_named : (content first : ℕ) → All (NamesWithin named) (sequence_rows f separators content first)
  sequence_named =
      scoped_all (NamesWithin named) separators (scoped (list_of f.terminator) (opened f separators))
      (λ list body is. subst (IsWithin (length named.delimiters)) is within)
      (scoped_named (opened f separators) opened_named)

-- the list of a sequence's separators is there
separators_within : (count : ℕ) (separated : Option Separated) → HasSeparators count separated → IsWithin count (separator_list separated)
separators_within count None has = tt
separators_within count (Some own) has = has

-- the question that tells how often a part occurs, where one does, is one of so many statements
abbrev pub IsAsked : ℕ → Times → Type 0
IsAsked count n = IsWithin count n.question

counted_named : (named : Named) (n : Times) → IsAsked (length named.statements) n → HoldsCounted (NamesWithin named) n
counted_named named n within question body is = subst (IsWithin (length named.statements)) is within

-- the rows of a sequence or choice of its own
group_named : (named : Named) (kind : Kind) (f : Framing) (separated : Option Separated) (initiated : Bool) (slots : List Times) (lasts : List ℕ) (first : ℕ)
    → All (IsAsked (length named.statements)) slots → HasList (length named.delimiters) f.initiator → HasList (length named.delimiters) f.terminator → HasSeparators (length named.delimiters) separated
    → HasFramingStatements (length named.statements) f → ((children : List ℕ) → NamesWithin named (row_of kind initiated children))
    → All (NamesWithin named) (group_rows kind f separated initiated slots lasts first)
group_named named kind f separated initiated slots lasts first asked initiator terminator separators stated row =
    let size : ℕ = slots_size separated slots in
    let within : IsWithin (length named.delimiters) (separator_list separated) = separators_within (length named.delimiters) separated separators in
    concluded_all (NamesWithin named) f.behind (around_rows kind f separated initiated slots lasts first) first
    (All-append (NamesWithin named) (grouped kind initiated separated slots lasts first) (sequence_rows f (separator_list separated) (first + size) (first + size + 1))
    (grouped_all (NamesWithin named) (λ children. tt) tt (λ count body. tt) (λ most item own body. tt)
    kind initiated row separated slots (λ k n less. counted_named named (get_or slots k n) (asked k n less)) lasts first
    (λ policy position. slots_hold (λ (slot : Slot). IsWithin (length named.statements) slot.question) (IsAsked (length named.statements)) (λ n part within. within) lasts slots asked 0))
    (sequence_named named f (separator_list separated) (initiator, terminator) within stated (first + size) (first + size + 1)))
    (λ body some. stated.3)

own_named : (named : Named) (component : Component) (slots : List Times) (lasts : List ℕ) (first : ℕ) → All (IsAsked (length named.statements)) slots → HasPrimitive (length named.primitives) component
    → HasDelimiters (length named.delimiters) component → HasStatements (length named.statements) component → All (NamesWithin named) (own_rows component slots lasts first)
own_named named (Sequence f separated initiated) slots lasts first asked has lists statements =
    group_named named InOrder f separated initiated slots lasts first asked lists.0 lists.1 lists.2 statements.0 (λ children. tt)
own_named named (Choice f initiated None) slots lasts first asked has lists statements =
    group_named named OneTried f None initiated slots lasts first asked lists.0 lists.1 tt statements.0 (λ children. tt)
own_named named (Choice f initiated (Some dispatch)) slots lasts first asked has lists statements =
    group_named named (OneByKey dispatch) f None initiated slots lasts first asked lists.0 lists.1 tt statements.0 (λ children. statements.2)
own_named named (ComplexElement name f box occurs often) slots lasts first asked has lists statements =
    scoped_named named f None (lists.0, lists.1) tt statements.0 (boxed_rows name f box)
    (boxed_all (NamesWithin named) name f box (λ body is. tt) (λ bits body is. tt) (λ own body is. subst (HasBoxPrimitive (length named.primitives)) is has)
    (λ measure body is. subst (HasBoxQuestion (length named.statements)) is statements.2.0)
    (framed_named named f None (lists.0, lists.1) tt statements.0) (λ body. ((tt, tt, tt), statements.0.3)))
    (get_or lasts 0 0) first
own_named named (SimpleElement name simple prim f own_length tried scanned occurs often) slots lasts first asked has lists statements =
    let list : Option ℕ = scanned_list scanned f.terminator in
    All-cons (NamesWithin named) (leaf_row own_length prim) (scoped list (element_rows name (Some simple) tried f) first (first + 1))
    (leaf_holds (NamesWithin named) own_length prim has.0 (λ own is. (subst (HasPrefixPrimitive (length named.primitives)) is has.1, has.0))
    (λ measure is. (subst (HasLeafQuestion (length named.statements)) is statements.2.0, has.0)))
    (scoped_all (NamesWithin named) list (element_rows name (Some simple) tried f)
    (λ n body is. scanned_holds (λ n. n < length named.delimiters) scanned f.terminator n is (λ own there. subst (HasList (length named.delimiters)) there lists.1))
    (λ content from. element_all (NamesWithin named) name (Some simple) tried f content from (framed_named named f None (lists.0, lists.1) tt statements.0 content from) (has.2, statements.0.3))
    first (first + 1))
own_named named (CalculatedElement name simple statement f) slots lasts first asked has lists statements =
    All-cons (NamesWithin named) (Statement statement) (element_rows name (Some simple) no_trials f first (first + 1)) statements.1
    (element_all (NamesWithin named) name (Some simple) no_trials f first (first + 1)
    (framed_named named f None (lists.0, lists.1) tt statements.0 first (first + 1)) ((tt, tt, tt), statements.0.3))
own_named named Hidden slots lasts first asked has lists statements = All-cons (NamesWithin named) (HiddenRow (get_or lasts 0 0)) [] tt (All-nil (NamesWithin named))

-- each row is plain where there is neither a statement nor fill nor a delimiter nor a box nor a prefix nor a question
module _ (f : Framing) (none : has_framing f ≡ false) where
  unframed_plain : (content first : ℕ) → All IsPlainRow (framed f None content first)
  unframed_plain content first = subst (All IsPlainRow) (sym (unframed f None content first none)) (All-nil IsPlainRow)

  unopened_plain : f.openings.count ≡ 0 → (content first : ℕ) → All IsPlainRow (opened f None content first)
  unopened_plain closed content first = subst (All IsPlainRow) (sym (unopened f None content first closed)) (unframed_plain content first)

  no_scope : (list : ℕ) → list_of f.terminator ≡ Some list → ⊥
  no_scope list is = absurd (let there = no_terminator f none in cc)

  unscoped_plain : (around : ℕ → ℕ → List Row) → ((content first : ℕ) → All IsPlainRow (around content first))
      → (content first : ℕ) → All IsPlainRow (scoped (list_of f.terminator) around content first)
  unscoped_plain around = scoped_all IsPlainRow (list_of f.terminator) around (λ list body is. no_scope list is)

  element_plain : (name : List ℕ) (simple : Option Simple) (tried : Representations) (content first : ℕ)
      → All IsPlainRow (element_rows name simple tried f content first)
  element_plain name simple tried content first = element_all IsPlainRow name simple tried f content first (unframed_plain content first) tt

own_bare : (component : Component) (slots : List Times) (lasts : List ℕ) (first : ℕ) → IsBareComponent component → All IsSingle slots
    → All IsPlainRow (own_rows component slots lasts first)
own_bare (Sequence f None initiated) slots lasts first bare few =
    let size : ℕ = slots_size None slots in
    let others : List Row = sequence_rows f None (first + size) (first + size + 1) in
    subst (All IsPlainRow) (sym (unconcluded f.behind (around_rows InOrder f None initiated slots lasts first) first bare.unconcluded))
    (subst (λ (own : List Row). All IsPlainRow (own ++ others)) (sym (none_grouped InOrder initiated slots lasts first few))
    (All-cons IsPlainRow (Group (laid_of initiated None slots lasts first).children) (sequence_rows f None (first + size) (first + size + 1)) tt
    (unscoped_plain f bare.unframed (opened f None) (unopened_plain f bare.unframed bare.unopened) (first + size) (first + size + 1 + 0))))
own_bare (Choice f initiated dispatch) slots lasts first bare few = absurd (let none = bare.unchosen in cc)
own_bare Hidden slots lasts first bare few = absurd (let none = bare.unhidden in cc)
own_bare (CalculatedElement name simple statement f) slots lasts first bare few = absurd (let none = bare.uncalculated in cc)
own_bare (Sequence f (Some own) initiated) slots lasts first bare few = absurd (let none = bare.unseparated in cc)
own_bare (ComplexElement name f Unbounded occurs often) slots lasts first bare few =
    unscoped_plain f bare.unframed (boxed_rows name f Unbounded)
    (λ content n. All-cons IsPlainRow (Spanned content) (element_rows name None no_trials f n (n + 1)) tt (element_plain f bare.unframed name None no_trials n (n + 1)))
    (get_or lasts 0 0) first
own_bare (ComplexElement name f (Sized bits) occurs often) slots lasts first bare few = absurd (let none = bare.unboxed in cc)
own_bare (ComplexElement name f (Prefixed prefix) occurs often) slots lasts first bare few = absurd (let none = bare.unboxed in cc)
own_bare (ComplexElement name f (Measured measure) occurs often) slots lasts first bare few = absurd (let none = bare.unboxed in cc)
own_bare (SimpleElement name simple prim f own_length tried scanned occurs often) slots lasts first bare few =
    let list : Option ℕ = scanned_list scanned f.terminator in
    All-cons IsPlainRow (leaf_row own_length prim) (scoped list (element_rows name (Some simple) tried f) first (first + 1))
    (leaf_holds IsPlainRow own_length prim tt (λ own is. absurd (let none = bare.unmeasured in cc)) (λ measure is. absurd (let none = bare.unmeasured in cc)))
    (scoped_all IsPlainRow list (element_rows name (Some simple) tried f)
    (λ n body is. absurd (let none = none_scanned scanned f bare.unframed in cc)) (element_plain f bare.unframed name (Some simple) tried)
    first (first + 1))

-- each part has one slot or none, and none of its occurrences is tried
once_group : (f : Framing) (parts : List ℕ) → slots_of_group f parts ≤ 1
once_group f [] = by (has_framing f)
  where
    by : (b : Bool) → (if b then 1 else 0) ≤ 1
    by true = omega arith
    by false = omega arith
once_group f (part ∷ parts) = omega arith

-- an element occurs once or never, and none of its occurrences is tried or told by a question
record IsOnce (component : Component) : Type 0 where
  few : (occurs_in component).least ≤ 1
  untried : (occurs_in component).further ≡ 0
  untold : question_in component ≡ None

once_times : (occurs : Occurs) (often : Counted) → occurs.least ≤ 1 → occurs.further ≡ 0 → question_of often ≡ None → IsSingle (times_of occurs often)
once_times occurs ByBounds few untried untold = record { few = few; untried = untried; untold = refl }
once_times occurs Parsed few untried untold = record { few = few; untried = untried; untold = refl }
once_times occurs (Told question) few untried untold = absurd (cc)

once_slots : (component : Component) (parts : List ℕ) → IsOnce component → IsSingle (slots_of component parts)
once_slots (Sequence f separated initiated) parts is = record { few = once_group f parts; untried = refl; untold = refl }
once_slots (Choice f initiated dispatch) parts is = record { few = once_group f parts; untried = refl; untold = refl }
once_slots (ComplexElement name f box occurs often) parts is = once_times occurs often is.few is.untried is.untold
once_slots (SimpleElement name simple prim f own_length tried scanned occurs often) parts is = once_times occurs often is.few is.untried is.untold
once_slots (CalculatedElement name simple statement f) parts is = record { few = omega arith; untried = refl; untold = refl }
once_slots Hidden parts is = record { few = omega arith; untried = refl; untold = refl }

bare_once : (components : List Component) (p : ℕ) → All IsBareComponent components → IsOnce (component_at components p)
bare_once [] p bare = record { few = omega arith; untried = refl; untold = refl }
bare_once (k ∷ components) zero bare = let own = bare 0 k (omega arith) in record { few = own.once; untried = own.untried; untold = own.untold }
bare_once (k ∷ components) (suc p) bare = bare_once components p (All-tail IsBareComponent k components bare)

slots_once : (s : Schema) → All IsBareComponent s.components → (c : ℕ) → All IsSingle (slots_at s c)
slots_once s bare c = all (uses_of s.uses c)
  where
    all : (ps : List ℕ) → All IsSingle (map (λ p. slots_of (component_at s.components p) (uses_of s.uses p)) ps)
    all [] = All-nil IsSingle
    all (p ∷ ps) =
        All-cons IsSingle (slots_of (component_at s.components p) (uses_of s.uses p)) (map (λ p. slots_of (component_at s.components p) (uses_of s.uses p)) ps)
        (once_slots (component_at s.components p) (uses_of s.uses p) (bare_once s.components p bare)) (all ps)

-- the questions that tell how often the parts of a component occur are some of so many statements
asked_times : (count : ℕ) (occurs : Occurs) (often : Counted) → IsWithin count (question_of often) → IsAsked count (times_of occurs often)
asked_times count occurs ByBounds within = tt
asked_times count occurs Parsed within = tt
asked_times count occurs (Told question) within = within

asked_slots : (count : ℕ) (component : Component) (parts : List ℕ) → IsWithin count (question_in component) → IsAsked count (slots_of component parts)
asked_slots count (Sequence f separated initiated) parts within = tt
asked_slots count (Choice f initiated dispatch) parts within = tt
asked_slots count (ComplexElement name f box occurs often) parts within = asked_times count occurs often within
asked_slots count (SimpleElement name simple prim f own_length tried scanned occurs often) parts within = asked_times count occurs often within
asked_slots count (CalculatedElement name simple statement f) parts within = tt
asked_slots count Hidden parts within = tt

asked_one : (count : ℕ) (component : Component) → HasStatements count component → IsWithin count (question_in component)
asked_one count (Sequence f separated initiated) has = tt
asked_one count (Choice f initiated dispatch) has = tt
asked_one count (ComplexElement name f box occurs often) has = has.2.1
asked_one count (SimpleElement name simple prim f own_length tried scanned occurs often) has = has.2.1
asked_one count (CalculatedElement name simple statement f) has = tt
asked_one count Hidden has = tt

asked_at : (count : ℕ) (components : List Component) (p : ℕ) → All (HasStatements count) components → IsWithin count (question_in (component_at components p))
asked_at count [] p has = tt
asked_at count (k ∷ components) zero has = asked_one count k (has 0 k (omega arith))
asked_at count (k ∷ components) (suc p) has = asked_at count components p (All-tail (HasStatements count) k components has)

slots_asked : (count : ℕ) (s : Schema) → All (HasStatements count) s.components → (c : ℕ) → All (IsAsked count) (slots_at s c)
slots_asked count s has c = all (uses_of s.uses c)
  where
    all : (ps : List ℕ) → All (IsAsked count) (map (λ p. slots_of (component_at s.components p) (uses_of s.uses p)) ps)
    all [] = All-nil (IsAsked count)
    all (p ∷ ps) =
        All-cons (IsAsked count) (slots_of (component_at s.components p) (uses_of s.uses p)) (map (λ p. slots_of (component_at s.components p) (uses_of s.uses p)) ps)
        (asked_slots count (component_at s.components p) (uses_of s.uses p) (asked_at count s.components p has)) (all ps)

module _ (s : Schema) (ordered : HasOrder s.uses) (one : AreOfOne s.uses s.components s.refusals s.places) where
  pub rows_named : (named : Named) → All (HasPrimitive (length named.primitives)) s.components → All (HasDelimiters (length named.delimiters)) s.components
      → All (HasStatements (length named.statements)) s.components → (c : ℕ) → c < length s.uses → IsAll (NamesWithin named) (rows_at s c)
  rows_named named has lists statements = rows_all s ordered (NamesWithin named)
      (λ c within lasts first. own_named named (component_at s.components c) (slots_at s c) lasts first (slots_asked (length named.statements) s statements c)
      (All-get_or (HasPrimitive (length named.primitives)) s.components c (Sequence no_fill None false) (omega (arith, within, one.counted)) has)
      (All-get_or (HasDelimiters (length named.delimiters)) s.components c (Sequence no_fill None false) (omega (arith, within, one.counted)) lists)
      (All-get_or (HasStatements (length named.statements)) s.components c (Sequence no_fill None false) (omega (arith, within, one.counted)) statements))

  pub rows_bare : All IsBareComponent s.components → (root : ℕ) → root < length s.uses → HasPlainRows (rows_of s root)
  rows_bare bare root within = rows_all s ordered IsPlainRow
      (λ c within lasts first. own_bare (component_at s.components c) (slots_at s c) lasts first
      (All-get_or IsBareComponent s.components c (Sequence no_fill None false) (omega (arith, within, one.counted)) bare) (slots_once s bare c))
      root within 0

-- an element's own row is the last one
last_of : {A : Type 0} (before : List A) (x : A) → slice_get (before ++ x ∷ []) (length (before ++ x ∷ []) - 1) ≡ Some x
last_of [] x = refl
last_of (b ∷ []) x = refl
last_of (b ∷ (d ∷ before)) x =
    let same : length (b ∷ (d ∷ (before ++ x ∷ []))) - 1 ≡ suc (length (d ∷ (before ++ x ∷ [])) - 1) = omega arith in
    ap (λ (n : ℕ). slice_get (b ∷ (d ∷ (before ++ x ∷ []))) n) same ∙ last_of (d ∷ before) x

-- the last of the rows is that of an element, whose body is the one before it
abbrev pub IsLast : List ℕ → Option Simple → Representations → Statements → List Row → Type 0
IsLast name simple tried behind rows = slice_get rows (length rows - 1) ≡ Some (Elem name simple tried behind (length rows - 2))

-- an element behind its content and what frames it
element_last : (before : List Row) (f : Framing) (content first : ℕ) (name : List ℕ) (simple : Option Simple) (tried : Representations) → first ≡ length before → content + 1 ≡ first
    → IsLast name simple tried f.behind (before ++ element_rows name simple tried f content first)
element_last before f content first name simple tried begins is =
    let row : Row = Elem name simple tried f.behind (framed_row f None content first) in
    let regrouped : before ++ (framed f None content first ++ row ∷ []) ≡ (before ++ framed f None content first) ++ row ∷ [] = sym (append_assoc before (framed f None content first) (row ∷ [])) in
    let count : length (before ++ (framed f None content first ++ row ∷ [])) ≡ length before + length (framed f None content first ++ row ∷ [])
    = length-append before (framed f None content first ++ row ∷ []) in
    let rest : length (framed f None content first ++ row ∷ []) ≡ length (framed f None content first) + 1 = length-append (framed f None content first) (row ∷ []) in
    let same : framed_row f None content first ≡ length (before ++ (framed f None content first ++ row ∷ [])) - 2
    = omega (arith, begins, count, rest, framed_end f None content first is, length_framed f None content first) in
    ap (λ (rows : List Row). slice_get rows (length rows - 1)) regrouped
    ∙ (last_of (before ++ framed f None content first) row ∙ ap (λ (n : ℕ). Some (Elem name simple tried f.behind n)) same)

boxed_last : (name : List ℕ) (f : Framing) (box : ContentBox) (before : List Row) (content first : ℕ) → first ≡ length before
    → IsLast name None no_trials f.behind (before ++ boxed_rows name f box content first)
boxed_last name f box before content first begins =
    subst (IsLast name None no_trials f.behind) (append_assoc before (box_row box content ∷ []) (element_rows name None no_trials f first (first + 1)))
    (element_last (before ++ box_row box content ∷ []) f first (first + 1) name None no_trials (omega (arith, begins, length-append before (box_row box content ∷ []))) refl)

complex_last : (name : List ℕ) (f : Framing) (box : ContentBox) (before : List Row) (content first : ℕ) → first ≡ length before
    → IsLast name None no_trials f.behind (before ++ scoped (list_of f.terminator) (boxed_rows name f box) content first)
complex_last name f box before content first begins =
    let others : List Row = boxed_rows name f box (scoped_row (list_of f.terminator) content first) (first + scope_size (list_of f.terminator)) in
    subst (IsLast name None no_trials f.behind) (append_assoc before (scope_rows (list_of f.terminator) content) others)
    (boxed_last name f box (before ++ scope_rows (list_of f.terminator) content) (scoped_row (list_of f.terminator) content first) (first + scope_size (list_of f.terminator))
    (omega (arith, begins, length-append before (scope_rows (list_of f.terminator) content), length_scope (list_of f.terminator) content)))

own_last : (component : Component) (slots : List Times) (f : ℕ → Numbered) (ps : List ℕ)
    → EndsWith component (in_turn (map f ps) 0 ++ own_rows component slots (last_rows (map f ps) 0) (0 + length (in_turn (map f ps) 0)))
own_last (Sequence framing separated initiated) slots f ps = tt
own_last (Choice framing initiated dispatch) slots f ps = tt
own_last Hidden slots f ps = tt
own_last (ComplexElement name framing box occurs often) slots f ps =
    complex_last name framing box (in_turn (map f ps) 0) (get_or (last_rows (map f ps) 0) 0 0) (0 + length (in_turn (map f ps) 0)) (omega arith)
own_last (SimpleElement name simple prim framing own_length tried scanned occurs often) slots f ps =
    let turn : List Row = in_turn (map f ps) 0 in
    let first : ℕ = 0 + length (in_turn (map f ps) 0) in
    let list : Option ℕ = scanned_list scanned framing.terminator in
    let whole : ℕ = scoped_row list first (first + 1) in
    let behind : ℕ = first + 1 + scope_size list in
    let own : List Row = element_rows name (Some simple) tried framing (scoped_row list first (first + 1)) (first + 1 + scope_size list) in
    let before : List Row = turn ++ (leaf_row own_length prim ∷ scope_rows list first) in
    let regrouped : turn ++ (leaf_row own_length prim ∷ (scope_rows list first ++ own)) ≡ before ++ own
    = sym (append_assoc turn (leaf_row own_length prim ∷ scope_rows list first) own) in
    subst (IsLast name (Some simple) tried framing.behind) (sym regrouped)
    (element_last before framing whole behind name (Some simple) tried
    (omega (arith, length-append turn (leaf_row own_length prim ∷ scope_rows list first), length_scope list first)) (scope_end list first (first + 1) refl))
own_last (CalculatedElement name simple statement framing) slots f ps =
    let turn : List Row = in_turn (map f ps) 0 in
    let first : ℕ = 0 + length (in_turn (map f ps) 0) in
    let own : List Row = element_rows name (Some simple) no_trials framing first (first + 1) in
    let before : List Row = turn ++ Statement statement ∷ [] in
    let regrouped : turn ++ (Statement statement ∷ own) ≡ before ++ own = sym (append_assoc turn (Statement statement ∷ []) own) in
    subst (IsLast name (Some simple) no_trials framing.behind) (sym regrouped)
    (element_last before framing first (first + 1) name (Some simple) no_trials (omega (arith, length-append turn (Statement statement ∷ []))) refl)

pub rows_end : (s : Schema) → HasOrder s.uses → (root : ℕ) → root < length s.uses → EndsWith (component_at s.components root) (rows_of s root)
rows_end s ordered root within =
    subst (λ (rows : Numbered). EndsWith (component_at s.components root) (rows 0)) (sym (rows_step s ordered root within))
    (own_last (component_at s.components root) (slots_at s root) (rows_at s) (uses_of s.uses root))
