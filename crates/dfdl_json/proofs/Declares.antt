-- What a row declares and how many steps it takes, by its kind.
use Rattle.std.proofs.Common.{◌≡◌, ℕ, ◌+◌, ◌<◌, Bool, List, [], ◌∷◌, ◌++◌, All, map, Option, None, Some, slice_get, sym, ap, subst, ◌∙◌, arith, append_assoc, Result, Ok, Err, OnOk}
use Rattle.std.specs.List.{flat_map}
use Rattle.std.proofs.lemmas.Grind.{flat_map-append}
use Rattle.std.proofs.lemmas.List.{append-nil}
use Rattle.std.proofs.lemmas.List.Elements.{All-cons, All-head, All-nil, All-tail}
use Rattle.dfdl_forms.specs.declared.simple.Simple.{Simple}
use Rattle.dfdl_terms.specs.declared.representations.Representations.{Representations}
use Rattle.dfdl_terms.specs.declared.statement.Statements.{Statements}
use Rattle.dfdl_terms.specs.declared.delimiters.Delimiter.{Delimiter}
use Rattle.dfdl_terms.specs.declared.prefix.Measure.{Measure}
use Rattle.dfdl_terms.specs.declared.prefix.Prefix.{Prefix}
use Rattle.dfdl_terms.specs.declared.keys.Key.{Key}
use Rattle.dfdl_terms.specs.declared.slots.Slot.{Slot}
use Rattle.dfdl_separators.specs.declared.policy.SeparatorPosition.{SeparatorPosition}
use Rattle.dfdl_separators.specs.declared.policy.SeparatorSuppressionPolicy.{SeparatorSuppressionPolicy}
use Rattle.dfdl_terms.specs.declared.row.Row.{Row}
use Rattle.dfdl_terms.specs.declared.row.Row.TheVariants.{Leaf, Elem, Group, Skip, Align, Initiator, Terminator, Separator, Scope, Boxed, PrefixedLeaf, PrefixedBox, MeasuredLeaf, MeasuredBox, Repeat, Counted, Optional, Choice, Dispatch, Statement, Concluded, Hidden, Spanned, Instance, Separated}
use Rattle.dfdl_terms.specs.Rows.{Table, ChildrenBelow}
use Rattle.dfdl_json.specs.ByRows.{below}
use Rattle.dfdl_json.specs.Children.{bodies_of, declared_by, elements_in, keyed}
use Rattle.dfdl_json.specs.Steps.{steps_by, steps_of, total}
use Rattle.dfdl_json.proofs.RowValues.{row_is, below_is, flat_map_same, map_same}

module _ (t : Table) (row : ℕ) where
  pub no_row_declares : slice_get t.rows row ≡ None → elements_in t row ≡ []
  no_row_declares is = row_is declared_by [] t.rows row None is

  pub leaf_declares : (prim : ℕ) → slice_get t.rows row ≡ Some (Leaf prim) → elements_in t row ≡ []
  leaf_declares prim is = row_is declared_by [] t.rows row (Some (Leaf prim)) is

  pub skip_declares : (bits : ℕ) → slice_get t.rows row ≡ Some (Skip bits) → elements_in t row ≡ []
  skip_declares bits is = row_is declared_by [] t.rows row (Some (Skip bits)) is

  pub align_declares : (bits : ℕ) → slice_get t.rows row ≡ Some (Align bits) → elements_in t row ≡ []
  align_declares bits is = row_is declared_by [] t.rows row (Some (Align bits)) is

  pub initiator_declares : (delimiter : Delimiter) → slice_get t.rows row ≡ Some (Initiator delimiter) → elements_in t row ≡ []
  initiator_declares delimiter is = row_is declared_by [] t.rows row (Some (Initiator delimiter)) is

  pub terminator_declares : (delimiter : Delimiter) (separators : Option ℕ) → slice_get t.rows row ≡ Some (Terminator delimiter separators) → elements_in t row ≡ []
  terminator_declares delimiter separators is = row_is declared_by [] t.rows row (Some (Terminator delimiter separators)) is

  pub separator_declares : slice_get t.rows row ≡ Some Separator → elements_in t row ≡ []
  separator_declares is = row_is declared_by [] t.rows row (Some Separator) is

  pub box_declares : (bits body : ℕ) → slice_get t.rows row ≡ Some (Boxed bits body) → body < row → elements_in t row ≡ elements_in t body
  box_declares bits body is less =
      row_is declared_by [] t.rows row (Some (Boxed bits body)) is ∙ below_is declared_by [] t.rows row body less

  pub scope_declares : (list body : ℕ) → slice_get t.rows row ≡ Some (Scope list body) → body < row → elements_in t row ≡ elements_in t body
  scope_declares list body is less =
      row_is declared_by [] t.rows row (Some (Scope list body)) is ∙ below_is declared_by [] t.rows row body less

  pub prefixed_leaf_declares : (prefix : Prefix) (prim : ℕ) → slice_get t.rows row ≡ Some (PrefixedLeaf prefix prim) → elements_in t row ≡ []
  prefixed_leaf_declares prefix prim is = row_is declared_by [] t.rows row (Some (PrefixedLeaf prefix prim)) is

  pub measured_leaf_declares : (measure : Measure) (prim : ℕ) → slice_get t.rows row ≡ Some (MeasuredLeaf measure prim) → elements_in t row ≡ []
  measured_leaf_declares measure prim is = row_is declared_by [] t.rows row (Some (MeasuredLeaf measure prim)) is

  pub prefixed_box_declares : (prefix : Prefix) (body : ℕ) → slice_get t.rows row ≡ Some (PrefixedBox prefix body) → body < row
      → elements_in t row ≡ elements_in t body
  prefixed_box_declares prefix body is less =
      row_is declared_by [] t.rows row (Some (PrefixedBox prefix body)) is ∙ below_is declared_by [] t.rows row body less

  pub measured_box_declares : (measure : Measure) (body : ℕ) → slice_get t.rows row ≡ Some (MeasuredBox measure body) → body < row
      → elements_in t row ≡ elements_in t body
  measured_box_declares measure body is less =
      row_is declared_by [] t.rows row (Some (MeasuredBox measure body)) is ∙ below_is declared_by [] t.rows row body less

  pub repeat_declares : (count body : ℕ) → slice_get t.rows row ≡ Some (Repeat count body) → body < row → elements_in t row ≡ elements_in t body
  repeat_declares count body is less =
      row_is declared_by [] t.rows row (Some (Repeat count body)) is ∙ below_is declared_by [] t.rows row body less

  pub counted_declares : (question body : ℕ) → slice_get t.rows row ≡ Some (Counted question body) → body < row → elements_in t row ≡ elements_in t body
  counted_declares question body is less =
      row_is declared_by [] t.rows row (Some (Counted question body)) is ∙ below_is declared_by [] t.rows row body less

  pub optional_declares : (most : ℕ) (item initiated : Bool) (body : ℕ) → slice_get t.rows row ≡ Some (Optional most item initiated body) → body < row
      → elements_in t row ≡ elements_in t body
  optional_declares most item initiated body is less =
      row_is declared_by [] t.rows row (Some (Optional most item initiated body)) is ∙ below_is declared_by [] t.rows row body less

  pub statement_declares : (statement : ℕ) → slice_get t.rows row ≡ Some (Statement statement) → elements_in t row ≡ []
  statement_declares statement is = row_is declared_by [] t.rows row (Some (Statement statement)) is

  pub concluded_declares : (behind : Statements) (body : ℕ) → slice_get t.rows row ≡ Some (Concluded behind body) → body < row → elements_in t row ≡ elements_in t body
  concluded_declares behind body is less =
      row_is declared_by [] t.rows row (Some (Concluded behind body)) is ∙ below_is declared_by [] t.rows row body less

  pub hidden_declares : (body : ℕ) → slice_get t.rows row ≡ Some (Hidden body) → body < row → elements_in t row ≡ elements_in t body
  hidden_declares body is less =
      row_is declared_by [] t.rows row (Some (Hidden body)) is ∙ below_is declared_by [] t.rows row body less

  pub spanned_declares : (body : ℕ) → slice_get t.rows row ≡ Some (Spanned body) → body < row → elements_in t row ≡ elements_in t body
  spanned_declares body is less =
      row_is declared_by [] t.rows row (Some (Spanned body)) is ∙ below_is declared_by [] t.rows row body less

  pub instance_declares : (statement body : ℕ) → slice_get t.rows row ≡ Some (Instance statement body) → body < row → elements_in t row ≡ elements_in t body
  instance_declares statement body is less =
      row_is declared_by [] t.rows row (Some (Instance statement body)) is ∙ below_is declared_by [] t.rows row body less

  pub separated_declares : (policy : SeparatorSuppressionPolicy) (position : SeparatorPosition) (initiated : Bool) (slots : List Slot)
      → slice_get t.rows row ≡ Some (Separated policy position initiated slots) → All (λ b. b < row) (bodies_of slots)
      → elements_in t row ≡ flat_map (elements_in t) (bodies_of slots)
  separated_declares policy position initiated slots is below_row =
      row_is declared_by [] t.rows row (Some (Separated policy position initiated slots)) is
      ∙ flat_map_same row (below declared_by [] t.rows row) (elements_in t) (λ b less. below_is declared_by [] t.rows row b less) (bodies_of slots) below_row

  pub elem_declares : (name : List ℕ) (simple : Option Simple) (tried : Representations) (behind : Statements) (body : ℕ) → slice_get t.rows row ≡ Some (Elem name simple tried behind body) → elements_in t row ≡ row ∷ []
  elem_declares name simple tried behind body is = row_is declared_by [] t.rows row (Some (Elem name simple tried behind body)) is

  pub group_declares : (children : List ℕ) → slice_get t.rows row ≡ Some (Group children) → All (λ c. c < row) children
      → elements_in t row ≡ flat_map (elements_in t) children
  group_declares children is below_row =
      row_is declared_by [] t.rows row (Some (Group children)) is
      ∙ flat_map_same row (below declared_by [] t.rows row) (elements_in t) (λ c less. below_is declared_by [] t.rows row c less) children below_row

  pub choice_declares : (branches : List ℕ) (initiated : Bool) → slice_get t.rows row ≡ Some (Choice branches initiated) → All (λ b. b < row) branches
      → elements_in t row ≡ flat_map (elements_in t) branches
  choice_declares branches initiated is below_row =
      row_is declared_by [] t.rows row (Some (Choice branches initiated)) is
      ∙ flat_map_same row (below declared_by [] t.rows row) (elements_in t) (λ b less. below_is declared_by [] t.rows row b less) branches below_row

  pub dispatch_declares : (question : ℕ) (keys : List Key) → slice_get t.rows row ≡ Some (Dispatch question keys) → All (λ b. b < row) (keyed keys)
      → elements_in t row ≡ flat_map (elements_in t) (keyed keys)
  dispatch_declares question keys is below_row =
      row_is declared_by [] t.rows row (Some (Dispatch question keys)) is
      ∙ flat_map_same row (below declared_by [] t.rows row) (elements_in t) (λ b less. below_is declared_by [] t.rows row b less) (keyed keys) below_row

  pub no_row_steps : slice_get t.rows row ≡ None → steps_of t row ≡ 1
  no_row_steps is = row_is steps_by 0 t.rows row None is

  pub leaf_steps : (prim : ℕ) → slice_get t.rows row ≡ Some (Leaf prim) → steps_of t row ≡ 1
  leaf_steps prim is = row_is steps_by 0 t.rows row (Some (Leaf prim)) is

  pub skip_steps : (bits : ℕ) → slice_get t.rows row ≡ Some (Skip bits) → steps_of t row ≡ 1
  skip_steps bits is = row_is steps_by 0 t.rows row (Some (Skip bits)) is

  pub align_steps : (bits : ℕ) → slice_get t.rows row ≡ Some (Align bits) → steps_of t row ≡ 1
  align_steps bits is = row_is steps_by 0 t.rows row (Some (Align bits)) is

  pub initiator_steps : (delimiter : Delimiter) → slice_get t.rows row ≡ Some (Initiator delimiter) → steps_of t row ≡ 1
  initiator_steps delimiter is = row_is steps_by 0 t.rows row (Some (Initiator delimiter)) is

  pub terminator_steps : (delimiter : Delimiter) (separators : Option ℕ) → slice_get t.rows row ≡ Some (Terminator delimiter separators) → steps_of t row ≡ 1
  terminator_steps delimiter separators is = row_is steps_by 0 t.rows row (Some (Terminator delimiter separators)) is

  pub separator_steps : slice_get t.rows row ≡ Some Separator → steps_of t row ≡ 1
  separator_steps is = row_is steps_by 0 t.rows row (Some Separator) is

  pub box_steps : (bits body : ℕ) → slice_get t.rows row ≡ Some (Boxed bits body) → body < row → steps_of t row ≡ 1 + steps_of t body
  box_steps bits body is less =
      row_is steps_by 0 t.rows row (Some (Boxed bits body)) is ∙ ap (λ n. 1 + n) (below_is steps_by 0 t.rows row body less)

  pub scope_steps : (list body : ℕ) → slice_get t.rows row ≡ Some (Scope list body) → body < row → steps_of t row ≡ 1 + steps_of t body
  scope_steps list body is less =
      row_is steps_by 0 t.rows row (Some (Scope list body)) is ∙ ap (λ n. 1 + n) (below_is steps_by 0 t.rows row body less)

  pub prefixed_leaf_steps : (prefix : Prefix) (prim : ℕ) → slice_get t.rows row ≡ Some (PrefixedLeaf prefix prim) → steps_of t row ≡ 1
  prefixed_leaf_steps prefix prim is = row_is steps_by 0 t.rows row (Some (PrefixedLeaf prefix prim)) is

  pub measured_leaf_steps : (measure : Measure) (prim : ℕ) → slice_get t.rows row ≡ Some (MeasuredLeaf measure prim) → steps_of t row ≡ 1
  measured_leaf_steps measure prim is = row_is steps_by 0 t.rows row (Some (MeasuredLeaf measure prim)) is

  pub prefixed_box_steps : (prefix : Prefix) (body : ℕ) → slice_get t.rows row ≡ Some (PrefixedBox prefix body) → body < row
      → steps_of t row ≡ 1 + steps_of t body
  prefixed_box_steps prefix body is less =
      row_is steps_by 0 t.rows row (Some (PrefixedBox prefix body)) is ∙ ap (λ n. 1 + n) (below_is steps_by 0 t.rows row body less)

  pub measured_box_steps : (measure : Measure) (body : ℕ) → slice_get t.rows row ≡ Some (MeasuredBox measure body) → body < row
      → steps_of t row ≡ 1 + steps_of t body
  measured_box_steps measure body is less =
      row_is steps_by 0 t.rows row (Some (MeasuredBox measure body)) is ∙ ap (λ n. 1 + n) (below_is steps_by 0 t.rows row body less)

  pub repeat_steps : (count body : ℕ) → slice_get t.rows row ≡ Some (Repeat count body) → body < row → steps_of t row ≡ 1 + steps_of t body
  repeat_steps count body is less =
      row_is steps_by 0 t.rows row (Some (Repeat count body)) is ∙ ap (λ n. 1 + n) (below_is steps_by 0 t.rows row body less)

  pub counted_steps : (question body : ℕ) → slice_get t.rows row ≡ Some (Counted question body) → body < row → steps_of t row ≡ 1 + steps_of t body
  counted_steps question body is less =
      row_is steps_by 0 t.rows row (Some (Counted question body)) is ∙ ap (λ n. 1 + n) (below_is steps_by 0 t.rows row body less)

  pub optional_steps : (most : ℕ) (item initiated : Bool) (body : ℕ) → slice_get t.rows row ≡ Some (Optional most item initiated body) → body < row
      → steps_of t row ≡ 1 + steps_of t body
  optional_steps most item initiated body is less =
      row_is steps_by 0 t.rows row (Some (Optional most item initiated body)) is ∙ ap (λ n. 1 + n) (below_is steps_by 0 t.rows row body less)

  pub choice_steps : (branches : List ℕ) (initiated : Bool) → slice_get t.rows row ≡ Some (Choice branches initiated) → All (λ b. b < row) branches
      → steps_of t row ≡ 1 + total (map (steps_of t) branches)
  choice_steps branches initiated is below_row =
      row_is steps_by 0 t.rows row (Some (Choice branches initiated)) is
      ∙ ap (λ ns. 1 + total ns) (map_same row (below steps_by 0 t.rows row) (steps_of t) (λ b less. below_is steps_by 0 t.rows row b less) branches below_row)

  pub dispatch_steps : (question : ℕ) (keys : List Key) → slice_get t.rows row ≡ Some (Dispatch question keys) → All (λ b. b < row) (keyed keys)
      → steps_of t row ≡ 1 + total (map (steps_of t) (keyed keys))
  dispatch_steps question keys is below_row =
      row_is steps_by 0 t.rows row (Some (Dispatch question keys)) is
      ∙ ap (λ ns. 1 + total ns) (map_same row (below steps_by 0 t.rows row) (steps_of t) (λ b less. below_is steps_by 0 t.rows row b less) (keyed keys) below_row)

  pub statement_steps : (statement : ℕ) → slice_get t.rows row ≡ Some (Statement statement) → steps_of t row ≡ 1
  statement_steps statement is = row_is steps_by 0 t.rows row (Some (Statement statement)) is

  pub concluded_steps : (behind : Statements) (body : ℕ) → slice_get t.rows row ≡ Some (Concluded behind body) → body < row → steps_of t row ≡ 1 + steps_of t body
  concluded_steps behind body is less =
      row_is steps_by 0 t.rows row (Some (Concluded behind body)) is ∙ ap (λ n. 1 + n) (below_is steps_by 0 t.rows row body less)

  pub hidden_steps : (body : ℕ) → slice_get t.rows row ≡ Some (Hidden body) → body < row → steps_of t row ≡ 1 + steps_of t body
  hidden_steps body is less =
      row_is steps_by 0 t.rows row (Some (Hidden body)) is ∙ ap (λ n. 1 + n) (below_is steps_by 0 t.rows row body less)

  pub spanned_steps : (body : ℕ) → slice_get t.rows row ≡ Some (Spanned body) → body < row → steps_of t row ≡ 1 + steps_of t body
  spanned_steps body is less =
      row_is steps_by 0 t.rows row (Some (Spanned body)) is ∙ ap (λ n. 1 + n) (below_is steps_by 0 t.rows row body less)

  pub instance_steps : (statement body : ℕ) → slice_get t.rows row ≡ Some (Instance statement body) → body < row → steps_of t row ≡ 1 + steps_of t body
  instance_steps statement body is less =
      row_is steps_by 0 t.rows row (Some (Instance statement body)) is ∙ ap (λ n. 1 + n) (below_is steps_by 0 t.rows row body less)

  pub separated_steps : (policy : SeparatorSuppressionPolicy) (position : SeparatorPosition) (initiated : Bool) (slots : List Slot)
      → slice_get t.rows row ≡ Some (Separated policy position initiated slots) → All (λ b. b < row) (bodies_of slots)
      → steps_of t row ≡ 1 + total (map (steps_of t) (bodies_of slots))
  separated_steps policy position initiated slots is below_row =
      row_is steps_by 0 t.rows row (Some (Separated policy position initiated slots)) is
      ∙ ap (λ ns. 1 + total ns) (map_same row (below steps_by 0 t.rows row) (steps_of t) (λ b less. below_is steps_by 0 t.rows row b less) (bodies_of slots) below_row)

  pub elem_steps : (name : List ℕ) (simple : Option Simple) (tried : Representations) (behind : Statements) (body : ℕ) → slice_get t.rows row ≡ Some (Elem name simple tried behind body) → body < row
      → steps_of t row ≡ 2 + steps_of t body
  elem_steps name simple tried behind body is less =
      row_is steps_by 0 t.rows row (Some (Elem name simple tried behind body)) is ∙ ap (λ n. 2 + n) (below_is steps_by 0 t.rows row body less)

  pub group_steps : (children : List ℕ) → slice_get t.rows row ≡ Some (Group children) → All (λ c. c < row) children
      → steps_of t row ≡ 1 + total (map (steps_of t) children)
  group_steps children is below_row =
      row_is steps_by 0 t.rows row (Some (Group children)) is
      ∙ ap (λ ns. 1 + total ns) (map_same row (below steps_by 0 t.rows row) (steps_of t) (λ c less. below_is steps_by 0 t.rows row c less) children below_row)

pub total_both : (f : ℕ → ℕ) (xs ys : List ℕ) → total (map f (xs ++ ys)) ≡ total (map f xs) + total (map f ys)
total_both f [] ys = omega arith
total_both f (x ∷ xs) ys = omega (arith, total_both f xs ys)

-- what is there, by its kind
pub there : {A : Type 0} (o : Option A) (r s : A) → Some r ≡ o → r ≡ s → o ≡ Some s
there o r s is kind = sym is ∙ ap Some kind

-- the children of a row are below it
pub below_elem : (bound : ℕ) (r : Row) (name : List ℕ) (simple : Option Simple) (tried : Representations) (behind : Statements) (body : ℕ) → r ≡ Elem name simple tried behind body → ChildrenBelow bound r → body < bound
below_elem bound r name simple tried behind body is below_row = subst (λ (x : Row). ChildrenBelow bound x) is below_row

pub below_box : (bound : ℕ) (r : Row) (bits body : ℕ) → r ≡ Boxed bits body → ChildrenBelow bound r → body < bound
below_box bound r bits body is below_row = subst (λ (x : Row). ChildrenBelow bound x) is below_row

pub below_scope : (bound : ℕ) (r : Row) (list body : ℕ) → r ≡ Scope list body → ChildrenBelow bound r → body < bound
below_scope bound r list body is below_row = subst (λ (x : Row). ChildrenBelow bound x) is below_row

pub below_concluded : (bound : ℕ) (r : Row) (behind : Statements) (body : ℕ) → r ≡ Concluded behind body → ChildrenBelow bound r → body < bound
below_concluded bound r behind body is below_row = subst (λ (x : Row). ChildrenBelow bound x) is below_row

pub below_prefixed_box : (bound : ℕ) (r : Row) (prefix : Prefix) (body : ℕ) → r ≡ PrefixedBox prefix body → ChildrenBelow bound r → body < bound
below_prefixed_box bound r prefix body is below_row = subst (λ (x : Row). ChildrenBelow bound x) is below_row

pub below_measured_box : (bound : ℕ) (r : Row) (measure : Measure) (body : ℕ) → r ≡ MeasuredBox measure body → ChildrenBelow bound r → body < bound
below_measured_box bound r measure body is below_row = subst (λ (x : Row). ChildrenBelow bound x) is below_row

pub below_repeat : (bound : ℕ) (r : Row) (count body : ℕ) → r ≡ Repeat count body → ChildrenBelow bound r → body < bound
below_repeat bound r count body is below_row = subst (λ (x : Row). ChildrenBelow bound x) is below_row

pub below_counted : (bound : ℕ) (r : Row) (question body : ℕ) → r ≡ Counted question body → ChildrenBelow bound r → body < bound
below_counted bound r question body is below_row = subst (λ (x : Row). ChildrenBelow bound x) is below_row

pub below_optional : (bound : ℕ) (r : Row) (most : ℕ) (item initiated : Bool) (body : ℕ) → r ≡ Optional most item initiated body → ChildrenBelow bound r → body < bound
below_optional bound r most item initiated body is below_row = subst (λ (x : Row). ChildrenBelow bound x) is below_row

pub below_choice : (bound : ℕ) (r : Row) (branches : List ℕ) (initiated : Bool) → r ≡ Choice branches initiated → ChildrenBelow bound r → All (λ b. b < bound) branches
below_choice bound r branches initiated is below_row = subst (λ (x : Row). ChildrenBelow bound x) is below_row

pub below_hidden : (bound : ℕ) (r : Row) (body : ℕ) → r ≡ Hidden body → ChildrenBelow bound r → body < bound
below_hidden bound r body is below_row = subst (λ (x : Row). ChildrenBelow bound x) is below_row

pub below_spanned : (bound : ℕ) (r : Row) (body : ℕ) → r ≡ Spanned body → ChildrenBelow bound r → body < bound
below_spanned bound r body is below_row = subst (λ (x : Row). ChildrenBelow bound x) is below_row

pub below_instance : (bound : ℕ) (r : Row) (statement body : ℕ) → r ≡ Instance statement body → ChildrenBelow bound r → body < bound
below_instance bound r statement body is below_row = subst (λ (x : Row). ChildrenBelow bound x) is below_row

pub all_bodies : (bound : ℕ) (slots : List Slot) → All (λ slot. slot.body < bound) slots → All (λ b. b < bound) (bodies_of slots)
all_bodies bound [] all = All-nil (λ b. b < bound)
all_bodies bound (slot ∷ slots) all =
    All-cons (λ b. b < bound) slot.body (bodies_of slots) (All-head (λ s. s.body < bound) slot slots all)
    (all_bodies bound slots (All-tail (λ s. s.body < bound) slot slots all))

pub all_keyed : (bound : ℕ) (keys : List Key) → All (λ key. key.body < bound) keys → All (λ b. b < bound) (keyed keys)
all_keyed bound [] all = All-nil (λ b. b < bound)
all_keyed bound (key ∷ keys) all =
    All-cons (λ b. b < bound) key.body (keyed keys) (All-head (λ s. s.body < bound) key keys all)
    (all_keyed bound keys (All-tail (λ s. s.body < bound) key keys all))

pub below_dispatch : (bound : ℕ) (r : Row) (question : ℕ) (keys : List Key) → r ≡ Dispatch question keys → ChildrenBelow bound r → All (λ b. b < bound) (keyed keys)
below_dispatch bound r question keys is below_row = all_keyed bound keys (subst (λ (x : Row). ChildrenBelow bound x) is below_row)

pub below_separated : (bound : ℕ) (r : Row) (policy : SeparatorSuppressionPolicy) (position : SeparatorPosition) (initiated : Bool) (slots : List Slot)
    → r ≡ Separated policy position initiated slots → ChildrenBelow bound r → All (λ b. b < bound) (bodies_of slots)
below_separated bound r policy position initiated slots is below_row =
    all_bodies bound slots (subst (λ (x : Row). ChildrenBelow bound x) is below_row)

pub below_group : (bound : ℕ) (r : Row) (children : List ℕ) → r ≡ Group children → ChildrenBelow bound r → All (λ c. c < bound) children
below_group bound r children is below_row = subst (λ (x : Row). ChildrenBelow bound x) is below_row

-- what follows where a call succeeds
pub on_ok : {T E : Type 0} (r : Result T E) (P Q : Type 0) → OnOk r P → (P → Q) → OnOk r Q
on_ok (Ok x) P Q p f = f p
on_ok (Err e) P Q p f = tt

pub on_ok_both : {T E : Type 0} (r : Result T E) (P Q R : Type 0) → OnOk r P → OnOk r Q → (P → Q → R) → OnOk r R
on_ok_both (Ok x) P Q R p q f = f p q
on_ok_both (Err e) P Q R p q f = tt

pub on_ok_four : {T E : Type 0} (r : Result T E) (P Q R S X : Type 0) → OnOk r P → OnOk r Q → OnOk r R → OnOk r S → (P → Q → R → S → X) → OnOk r X
on_ok_four (Ok x) P Q R S X p q r s f = f p q r s
on_ok_four (Err e) P Q R S X p q r s f = tt

-- one step of the walk over declared elements
module _ (t : Table) (row : ℕ) (elements left : List ℕ) where
  pub elem_visited : (name : List ℕ) (simple : Option Simple) (tried : Representations) (behind : Statements) (body : ℕ) (now : List ℕ) → slice_get t.rows row ≡ Some (Elem name simple tried behind body)
      → now ≡ elements ++ row ∷ []
      → now ++ flat_map (elements_in t) left ≡ elements ++ (elements_in t row ++ flat_map (elements_in t) left)
  elem_visited name simple tried behind body now is now_is =
      ap (λ xs. xs ++ flat_map (elements_in t) left) now_is
      ∙ (append_assoc elements (row ∷ []) (flat_map (elements_in t) left)
      ∙ ap (λ xs. elements ++ (xs ++ flat_map (elements_in t) left)) (sym (elem_declares t row name simple tried behind body is)))

  pub elem_less : (name : List ℕ) (simple : Option Simple) (tried : Representations) (behind : Statements) (body : ℕ) → slice_get t.rows row ≡ Some (Elem name simple tried behind body) → body < row
      → total (map (steps_of t) left) < steps_of t row + total (map (steps_of t) left)
  elem_less name simple tried behind body is less = omega (arith, elem_steps t row name simple tried behind body is less)

  -- of a row that declares what its parts do
  pub parts_visited : (parts now : List ℕ) → elements_in t row ≡ flat_map (elements_in t) parts → now ≡ parts ++ left
      → elements ++ flat_map (elements_in t) now ≡ elements ++ (elements_in t row ++ flat_map (elements_in t) left)
  parts_visited parts now same now_is =
      ap (λ xs. elements ++ flat_map (elements_in t) xs) now_is
      ∙ (ap (λ xs. elements ++ xs) (flat_map-append (elements_in t) parts left)
      ∙ ap (λ xs. elements ++ (xs ++ flat_map (elements_in t) left)) (sym same))

  pub parts_less : (parts now : List ℕ) → steps_of t row ≡ 1 + total (map (steps_of t) parts) → now ≡ parts ++ left
      → total (map (steps_of t) now) < steps_of t row + total (map (steps_of t) left)
  parts_less parts now more now_is =
      let both : total (map (steps_of t) now) ≡ total (map (steps_of t) parts) + total (map (steps_of t) left)
      = ap (λ xs. total (map (steps_of t) xs)) now_is ∙ total_both (steps_of t) parts left in
      omega (arith, both, more)

  -- of a row that declares what its body does
  pub body_visited : (body : ℕ) (now : List ℕ) → elements_in t row ≡ elements_in t body → now ≡ body ∷ left
      → elements ++ flat_map (elements_in t) now ≡ elements ++ (elements_in t row ++ flat_map (elements_in t) left)
  body_visited body now same now_is =
      ap (λ xs. elements ++ flat_map (elements_in t) xs) now_is
      ∙ ap (λ xs. elements ++ (xs ++ flat_map (elements_in t) left)) (sym same)

  pub body_less : (body : ℕ) (now : List ℕ) → steps_of t row ≡ 1 + steps_of t body → now ≡ body ∷ left
      → total (map (steps_of t) now) < steps_of t row + total (map (steps_of t) left)
  body_less body now more now_is =
      let one : total (map (steps_of t) now) ≡ steps_of t body + total (map (steps_of t) left) = ap (λ xs. total (map (steps_of t) xs)) now_is in
      omega (arith, one, more)

  -- of a row that declares nothing
  pub bare_visited : elements_in t row ≡ [] → elements ++ flat_map (elements_in t) left ≡ elements ++ (elements_in t row ++ flat_map (elements_in t) left)
  bare_visited none = ap (λ xs. elements ++ (xs ++ flat_map (elements_in t) left)) (sym none)

  pub bare_less : steps_of t row ≡ 1 → total (map (steps_of t) left) < steps_of t row + total (map (steps_of t) left)
  bare_less one = omega (arith, one)

-- the begin of the walk
pub walk_begins : (t : Table) (id : ℕ) (elements left : List ℕ) → elements ≡ [] → left ≡ id ∷ []
    → elements ++ flat_map (elements_in t) left ≡ elements_in t id
walk_begins t id elements left none one = rw (none, one) (append-nil (elements_in t id))
