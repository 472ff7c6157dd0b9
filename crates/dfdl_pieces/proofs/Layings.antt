-- How a row is laid, by its kind.
use Rattle.std.proofs.Common.{◌≡◌, ℕ, ◌+◌, ◌<◌, Bool, List, [], ◌∷◌, ◌++◌, All, map, None, Some, slice_get, refl, ap, ◌∙◌, arith, Option}
use Rattle.std.proofs.lemmas.List.Elements.{All-head, All-tail}
use Rattle.dfdl_forms.specs.declared.simple.Simple.{Simple as SimpleType}
use Rattle.dfdl_terms.specs.declared.representations.Representations.{Representations}
use Rattle.dfdl_terms.specs.declared.statement.Statements.{Statements}
use Rattle.dfdl_terms.specs.Rows.{Table}
use Rattle.dfdl_terms.specs.declared.delimiters.Delimiter.{Delimiter}
use Rattle.dfdl_terms.specs.declared.prefix.Prefix.{Prefix}
use Rattle.dfdl_terms.specs.declared.row.Row.{Row}
use Rattle.dfdl_terms.specs.declared.row.Row.TheVariants.{Leaf, Elem, Group, Skip, Align, Initiator, Terminator, Separator, Scope, Boxed, PrefixedLeaf, PrefixedBox, Repeat, Optional, Choice, Spanned}
use Rattle.dfdl_json.specs.ByRows.{below}
use Rattle.dfdl_json.specs.Paths.{Names}
use Rattle.dfdl_json.specs.Steps.{steps_of, total}
use Rattle.dfdl_json.proofs.RowValues.{row_is, below_is}
use Rattle.dfdl_json.proofs.Declares.{elem_steps, group_steps, repeat_steps, spanned_steps}
use Rattle.dfdl_json.proofs.Below.{some_steps}
use Rattle.dfdl_pieces.specs.Laying.{Laying, Takes, begins, begun_laying, form_at, in_turn, laying, laying_by, value_for, value_laying}
use Rattle.dfdl_pieces.specs.Unparsing.{left, steps_left}
use Rattle.dfdl_pieces.specs.declared.unparsing.Task.{Task}
use Rattle.dfdl_pieces.specs.declared.unparsing.Task.TheVariants.{Lay}

turn_same : (bound : ℕ) (f g : ℕ → Names → Laying → Laying) → ((c : ℕ) → c < bound → f c ≡ g c) → (rows : List ℕ) → All (λ c. c < bound) rows
    → (around : Names) (more : Laying) → in_turn f rows around more ≡ in_turn g rows around more
turn_same bound f g same [] within around more = refl
turn_same bound f g same (row ∷ rows) within around more =
    ap (λ (h : Names → Laying → Laying). h around (in_turn f rows around more)) (same row (All-head (λ c. c < bound) row rows within))
    ∙ ap (g row around) (turn_same bound f g same rows (All-tail (λ c. c < bound) row rows within) around more)

module _ (t : Table) (row : ℕ) (around : Names) (more : Laying) where
  pub laid_simple : (name : List ℕ) (kind : SimpleType) (tried : Representations) (behind : Statements) (body : ℕ) → slice_get t.rows row ≡ Some (Elem name (Some kind) tried behind body)
      → laying t row around more ≡ Takes (λ event. value_laying (name ∷ around) (form_at t body) more (value_for row event))
  laid_simple name kind tried behind body is = ap (λ (h : Names → Laying → Laying). h around more) (row_is (laying_by t) (λ a m. m) t.rows row (Some (Elem name (Some kind) tried behind body)) is)

  pub laid_complex : (name : List ℕ) (tried : Representations) (behind : Statements) (body : ℕ) → slice_get t.rows row ≡ Some (Elem name None tried behind body) → body < row
      → laying t row around more ≡ Takes (λ event. begun_laying (name ∷ around) (laying t body (name ∷ around) (Takes (λ end. more))) (begins row event))
  laid_complex name tried behind body is less =
      ap (λ (h : Names → Laying → Laying). h around more) (row_is (laying_by t) (λ a m. m) t.rows row (Some (Elem name None tried behind body)) is)
      ∙ ap (λ (h : Names → Laying → Laying). Takes (λ event. begun_laying (name ∷ around) (h (name ∷ around) (Takes (λ end. more))) (begins row event)))
      (below_is (laying_by t) (λ a m. m) t.rows row body less)

  pub laid_group : (children : List ℕ) → slice_get t.rows row ≡ Some (Group children) → All (λ c. c < row) children
      → laying t row around more ≡ in_turn (laying t) children around more
  laid_group children is below_row =
      ap (λ (h : Names → Laying → Laying). h around more) (row_is (laying_by t) (λ a m. m) t.rows row (Some (Group children)) is)
      ∙ turn_same row (below (laying_by t) (λ a m. m) t.rows row) (laying t) (λ c less. below_is (laying_by t) (λ a m. m) t.rows row c less) children below_row around more

  pub laid_leaf : (prim : ℕ) → slice_get t.rows row ≡ Some (Leaf prim) → laying t row around more ≡ more
  laid_leaf prim is = ap (λ (h : Names → Laying → Laying). h around more) (row_is (laying_by t) (λ a m. m) t.rows row (Some (Leaf prim)) is)

  pub laid_skip : (bits : ℕ) → slice_get t.rows row ≡ Some (Skip bits) → laying t row around more ≡ more
  laid_skip bits is = ap (λ (h : Names → Laying → Laying). h around more) (row_is (laying_by t) (λ a m. m) t.rows row (Some (Skip bits)) is)

  pub laid_align : (bits : ℕ) → slice_get t.rows row ≡ Some (Align bits) → laying t row around more ≡ more
  laid_align bits is = ap (λ (h : Names → Laying → Laying). h around more) (row_is (laying_by t) (λ a m. m) t.rows row (Some (Align bits)) is)

  pub laid_initiator : (delimiter : Delimiter) → slice_get t.rows row ≡ Some (Initiator delimiter) → laying t row around more ≡ more
  laid_initiator delimiter is = ap (λ (h : Names → Laying → Laying). h around more) (row_is (laying_by t) (λ a m. m) t.rows row (Some (Initiator delimiter)) is)

  pub laid_terminator : (delimiter : Delimiter) (separators : Option ℕ) → slice_get t.rows row ≡ Some (Terminator delimiter separators) → laying t row around more ≡ more
  laid_terminator delimiter separators is = ap (λ (h : Names → Laying → Laying). h around more) (row_is (laying_by t) (λ a m. m) t.rows row (Some (Terminator delimiter separators)) is)

  pub laid_separator : slice_get t.rows row ≡ Some Separator → laying t row around more ≡ more
  laid_separator is = ap (λ (h : Names → Laying → Laying). h around more) (row_is (laying_by t) (λ a m. m) t.rows row (Some Separator) is)

  pub laid_boxed : (bits body : ℕ) → slice_get t.rows row ≡ Some (Boxed bits body) → laying t row around more ≡ more
  laid_boxed bits body is = ap (λ (h : Names → Laying → Laying). h around more) (row_is (laying_by t) (λ a m. m) t.rows row (Some (Boxed bits body)) is)

  pub laid_scope : (list body : ℕ) → slice_get t.rows row ≡ Some (Scope list body) → laying t row around more ≡ more
  laid_scope list body is = ap (λ (h : Names → Laying → Laying). h around more) (row_is (laying_by t) (λ a m. m) t.rows row (Some (Scope list body)) is)

  pub laid_prefixed_leaf : (prefix : Prefix) (prim : ℕ) → slice_get t.rows row ≡ Some (PrefixedLeaf prefix prim) → laying t row around more ≡ more
  laid_prefixed_leaf prefix prim is =
      ap (λ (h : Names → Laying → Laying). h around more) (row_is (laying_by t) (λ a m. m) t.rows row (Some (PrefixedLeaf prefix prim)) is)

  pub laid_prefixed_box : (prefix : Prefix) (body : ℕ) → slice_get t.rows row ≡ Some (PrefixedBox prefix body) → laying t row around more ≡ more
  laid_prefixed_box prefix body is =
      ap (λ (h : Names → Laying → Laying). h around more) (row_is (laying_by t) (λ a m. m) t.rows row (Some (PrefixedBox prefix body)) is)

  pub laid_repeat : (count body : ℕ) → slice_get t.rows row ≡ Some (Repeat count body) → body < row
      → laying t row around more ≡ in_turn (laying t) (body ∷ []) around more
  laid_repeat count body is less =
      ap (λ (h : Names → Laying → Laying). h around more)
      (row_is (laying_by t) (λ a m. m) t.rows row (Some (Repeat count body)) is ∙ below_is (laying_by t) (λ a m. m) t.rows row body less)

  pub laid_spanned : (body : ℕ) → slice_get t.rows row ≡ Some (Spanned body) → body < row → laying t row around more ≡ in_turn (laying t) (body ∷ []) around more
  laid_spanned body is less =
      ap (λ (h : Names → Laying → Laying). h around more)
      (row_is (laying_by t) (λ a m. m) t.rows row (Some (Spanned body)) is ∙ below_is (laying_by t) (λ a m. m) t.rows row body less)

  pub laid_optional : (most : ℕ) (item initiated : Bool) (body : ℕ) → slice_get t.rows row ≡ Some (Optional most item initiated body)
      → laying t row around more ≡ more
  laid_optional most item initiated body is =
      ap (λ (h : Names → Laying → Laying). h around more) (row_is (laying_by t) (λ a m. m) t.rows row (Some (Optional most item initiated body)) is)

  pub laid_choice : (branches : List ℕ) (initiated : Bool) → slice_get t.rows row ≡ Some (Choice branches initiated) → laying t row around more ≡ more
  laid_choice branches initiated is =
      ap (λ (h : Names → Laying → Laying). h around more) (row_is (laying_by t) (λ a m. m) t.rows row (Some (Choice branches initiated)) is)

  -- a row of which nothing is laid
  pub laid_nothing : (r : Row) → slice_get t.rows row ≡ Some r
      → laying_by t (below (laying_by t) (λ a m. m) t.rows row) row (Some r) around more ≡ more → laying t row around more ≡ more
  laid_nothing r is nothing = ap (λ (h : Names → Laying → Laying). h around more) (row_is (laying_by t) (λ a m. m) t.rows row (Some r) is) ∙ nothing

  pub laid_no_row : slice_get t.rows row ≡ None → laying t row around more ≡ more
  laid_no_row is = ap (λ (h : Names → Laying → Laying). h around more) (row_is (laying_by t) (λ a m. m) t.rows row None is)

-- rows that were put before the other tasks
pub left_turn : (t : Table) (rows : List ℕ) (tasks : List Task) (names : Names) → left t (map Lay rows ++ tasks) names ≡ in_turn (laying t) rows names (left t tasks names)
left_turn t [] tasks names = refl
left_turn t (row ∷ rows) tasks names = ap (laying t row names) (left_turn t rows tasks names)

pub steps_turn : (t : Table) (rows : List ℕ) (tasks : List Task) → steps_left t (map Lay rows ++ tasks) ≡ total (map (steps_of t) rows) + steps_left t tasks
steps_turn t [] tasks = omega arith
steps_turn t (row ∷ rows) tasks = omega (arith, steps_turn t rows tasks)

-- fewer steps are left
module _ (t : Table) (row : ℕ) (tasks now : List Task) where
  pub same_less : now ≡ tasks → steps_left t now < steps_of t row + steps_left t tasks
  same_less are = rw are (omega (arith, some_steps t row))

  pub group_less : (children : List ℕ) → slice_get t.rows row ≡ Some (Group children) → All (λ c. c < row) children → now ≡ map Lay children ++ tasks
      → steps_left t now < steps_of t row + steps_left t tasks
  group_less children is below_row are = rw are (omega (arith, group_steps t row children is below_row, steps_turn t children tasks))

  pub repeat_less : (count body : ℕ) → slice_get t.rows row ≡ Some (Repeat count body) → body < row → now ≡ map Lay (body ∷ []) ++ tasks
      → steps_left t now < steps_of t row + steps_left t tasks
  repeat_less count body is less are = rw are (omega (arith, repeat_steps t row count body is less))

  pub spanned_less : (body : ℕ) → slice_get t.rows row ≡ Some (Spanned body) → body < row → now ≡ map Lay (body ∷ []) ++ tasks
      → steps_left t now < steps_of t row + steps_left t tasks
  spanned_less body is less are = rw are (omega (arith, spanned_steps t row body is less))

  pub complex_less : (name : List ℕ) (tried : Representations) (behind : Statements) (body : ℕ) → slice_get t.rows row ≡ Some (Elem name None tried behind body) → body < row
      → steps_left t now < 2 + steps_of t body + steps_left t tasks → steps_left t now < steps_of t row + steps_left t tasks
  complex_less name tried behind body is less few = omega (arith, elem_steps t row name None tried behind body is less, few)
