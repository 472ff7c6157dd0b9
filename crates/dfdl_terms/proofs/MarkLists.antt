-- The marks of all rows as a list.
use Rattle.std.proofs.Common.{◌≡◌, ℕ, zero, suc, ◌<◌, ◌≤◌, ◌+◌, ◌&&◌, ◌||◌, Bool, true, false, List, [], ◌∷◌, length, get_or, All, Option, Some, None, slice_get, refl, sym, ap, ◌∙◌, arith, eqb, ne_eqb, inl, inr}
use Rattle.std.specs.List.{list_any}
use Rattle.std.proofs.lemmas.Bool.{cases_lt, or_from}
use Rattle.std.proofs.lemmas.List.{ext_get_or, get_or_past}
use Rattle.std.proofs.lemmas.List.Folds.{list_any_none}
use Rattle.std.proofs.lemmas.Option.{slice_get-get_or}
use Rattle.dfdl_terms.specs.declared.row.Row.{Row}
use Rattle.dfdl_terms.specs.declared.row.Row.TheVariants.{Leaf, Elem, Group, Skip, Align, Initiator, Terminator, Separator, Scope, Boxed, PrefixedLeaf, PrefixedBox, MeasuredLeaf, MeasuredBox, Repeat, Counted, Optional, Choice, Dispatch, Statement, Concluded, Hidden, Spanned, Instance, Separated}
use Rattle.dfdl_terms.specs.declared.slots.Slot.{Slot}
use Rattle.dfdl_terms.specs.Arrays.{children_in, is_item, is_item_in, is_item_of, is_marked, item_marks, item_marks_from, MarksItems}
use Rattle.dfdl_terms.specs.Rows.{ChildrenBelow, Nests}

-- as many marks as rows
length_marks : (rows : List Row) (first count : ℕ) → length (item_marks_from rows first count) ≡ count
unfolding item_marks_from
length_marks rows first zero = refl
length_marks rows first (suc count) = ap suc (length_marks rows (suc first) count)

same_item : (rows : List Row) (one other : ℕ) → one ≡ other → is_item rows one ≡ is_item rows other
same_item rows one other same = ap (is_item rows) same

-- the mark of a row
mark_at : (rows : List Row) (first count at : ℕ) → at < count → is_marked (item_marks_from rows first count) at ≡ is_item rows (first + at)
unfolding item_marks_from
mark_at rows first zero at less = absurd (omega arith)
mark_at rows first (suc count) zero less = same_item rows first (first + zero) (omega arith)
mark_at rows first (suc count) (suc at) less = mark_at rows (suc first) count at (omega arith) ∙ same_item rows (suc first + at) (first + suc at) (omega arith)

-- a number that is one of those below a bound, and not below it
none_of : (numbers : List ℕ) (bound other : ℕ) → All (λ n. n < bound) numbers → bound ≤ other → list_any (eqb other) numbers ≡ false
none_of numbers bound other below past = list_any_none (eqb other) numbers
    (λ i d less. ne_eqb other (get_or numbers i d) (let under : get_or numbers i d < bound = below i d less in λ same. absurd (omega arith)))

none_among : (slots : List Slot) (bound other : ℕ) → All (λ slot. slot.body < bound) slots → bound ≤ other → list_any (is_item_in other) slots ≡ false
none_among slots bound other below past = list_any_none (is_item_in other) slots (λ i d less. no_item (get_or slots i d) (below i d less))
  where
    and_false : (item same : Bool) → same ≡ false → (item && same) ≡ false
    and_false true same is = is
    and_false false same is = refl

    no_item : (slot : Slot) → slot.body < bound → is_item_in other slot ≡ false
    no_item slot under = and_false slot.is_item (eqb other slot.body) (ne_eqb other slot.body (λ same. absurd (omega arith)))

-- the children of a group are below it
none_inside : (row : Option Row) (bound other : ℕ) → ((some : Row) → row ≡ Some some → ChildrenBelow bound some) → bound ≤ other
    → list_any (eqb other) (children_in row) ≡ false
none_inside None bound other below past = refl
none_inside (Some (Group children)) bound other below past = none_of children bound other (below (Group children) refl) past
none_inside (Some (Leaf prim)) bound other below past = refl
none_inside (Some (Elem name simple tried behind body)) bound other below past = refl
none_inside (Some (Skip bits)) bound other below past = refl
none_inside (Some (Align bits)) bound other below past = refl
none_inside (Some (Initiator delimiter)) bound other below past = refl
none_inside (Some (Terminator delimiter separators)) bound other below past = refl
none_inside (Some Separator) bound other below past = refl
none_inside (Some (Scope list body)) bound other below past = refl
none_inside (Some (Boxed bits body)) bound other below past = refl
none_inside (Some (PrefixedLeaf prefix prim)) bound other below past = refl
none_inside (Some (PrefixedBox prefix body)) bound other below past = refl
none_inside (Some (MeasuredLeaf measure prim)) bound other below past = refl
none_inside (Some (MeasuredBox measure body)) bound other below past = refl
none_inside (Some (Repeat count body)) bound other below past = refl
none_inside (Some (Counted question body)) bound other below past = refl
none_inside (Some (Optional most item initiated body)) bound other below past = refl
none_inside (Some (Choice branches initiated)) bound other below past = refl
none_inside (Some (Dispatch question keys)) bound other below past = refl
none_inside (Some (Statement statement)) bound other below past = refl
none_inside (Some (Concluded behind body)) bound other below past = refl
none_inside (Some (Hidden body)) bound other below past = refl
none_inside (Some (Spanned body)) bound other below past = refl
none_inside (Some (Instance statement body)) bound other below past = refl
none_inside (Some (Separated policy position initiated slots)) bound other below past = refl

-- a row repeats rows below it
none_repeated : (rows : List Row) → Nests rows → (bound other : ℕ) (row : Row) → bound ≤ length rows → length rows ≤ other → ChildrenBelow bound row
    → is_item_of rows other row ≡ false
none_repeated rows nests bound other (Repeat count body) within past below =
    or_from (eqb other body) (list_any (eqb other) (children_in (slice_get rows body))) (ne_eqb other body (λ same. absurd (omega arith)))
    (none_inside (slice_get rows body) body other (λ some is. nests body some (omega arith) is) (omega arith))
none_repeated rows nests bound other (Counted question body) within past below = ne_eqb other body (λ same. absurd (omega arith))
none_repeated rows nests bound other (Optional most true initiated body) within past below = ne_eqb other body (λ same. absurd (omega arith))
none_repeated rows nests bound other (Optional most false initiated body) within past below = refl
none_repeated rows nests bound other (Separated policy position initiated slots) within past below = none_among slots bound other below (omega arith)
none_repeated rows nests bound other (Leaf prim) within past below = refl
none_repeated rows nests bound other (Elem name simple tried behind body) within past below = refl
none_repeated rows nests bound other (Group children) within past below = refl
none_repeated rows nests bound other (Skip bits) within past below = refl
none_repeated rows nests bound other (Align bits) within past below = refl
none_repeated rows nests bound other (Initiator delimiter) within past below = refl
none_repeated rows nests bound other (Terminator delimiter separators) within past below = refl
none_repeated rows nests bound other Separator within past below = refl
none_repeated rows nests bound other (Scope list body) within past below = refl
none_repeated rows nests bound other (Boxed bits body) within past below = refl
none_repeated rows nests bound other (PrefixedLeaf prefix prim) within past below = refl
none_repeated rows nests bound other (PrefixedBox prefix body) within past below = refl
none_repeated rows nests bound other (MeasuredLeaf measure prim) within past below = refl
none_repeated rows nests bound other (MeasuredBox measure body) within past below = refl
none_repeated rows nests bound other (Choice branches initiated) within past below = refl
none_repeated rows nests bound other (Dispatch question keys) within past below = refl
none_repeated rows nests bound other (Statement statement) within past below = refl
none_repeated rows nests bound other (Concluded behind body) within past below = refl
none_repeated rows nests bound other (Hidden body) within past below = refl
none_repeated rows nests bound other (Spanned body) within past below = refl
none_repeated rows nests bound other (Instance statement body) within past below = refl

-- past the rows there is no item
none_beyond : (rows : List Row) → Nests rows → (other : ℕ) → length rows ≤ other → is_item rows other ≡ false
none_beyond rows nests other past = list_any_none (is_item_of rows other) rows
    (λ i d less. none_repeated rows nests i other (get_or rows i d) (omega arith) past (nests i (get_or rows i d) less (slice_get-get_or rows i d less)))

-- the list marks the items
pub marks_items : (rows : List Row) → Nests rows → MarksItems rows (item_marks rows)
marks_items rows nests row = elim (cases_lt row (length rows)) as (λ _. is_marked (item_marks rows) row ≡ is_item rows row) [
  | inl less ↦ mark_at rows 0 (length rows) row less ∙ same_item rows (0 + row) row (omega arith)
  | inr past ↦ get_or_past (item_marks rows) row false (omega (arith, length_marks rows 0 (length rows))) ∙ sym (none_beyond rows nests row past)
]

-- marks of all rows are the list, where they mark the items
pub is_marks : (rows : List Row) (marks : List Bool) → length marks ≡ length rows → MarksItems rows marks → marks ≡ item_marks rows
is_marks rows marks many marked = ext_get_or false marks (item_marks rows) (many ∙ sym (length_marks rows 0 (length rows)))
    (λ row less. marked row ∙ sym (mark_at rows 0 (length rows) row (omega arith) ∙ same_item rows (0 + row) row (omega arith)))
