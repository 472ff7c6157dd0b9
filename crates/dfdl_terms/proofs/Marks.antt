-- Marks at rows: each row that is marked, and those before it.
use Rattle.std.proofs.Common.{◌≡◌, ℕ, zero, suc, ◌<◌, ◌≤◌, ◌+◌, ◌||◌, Bool, true, false, List, [], ◌∷◌, length, set, get_or, take, take_all, replicate, Some, slice_get, refl, sym, ap, ◌∙◌, arith, eqb}
use Rattle.std.proofs.Math.Dec.{eqb-suc-zero, eqb-zero-suc, eqb-suc-suc}
use Rattle.std.specs.List.{list_any}
use Rattle.std.proofs.lemmas.List.Folds.{list_any_more}
use Rattle.std.proofs.lemmas.Option.{get_or_from_slice_get}
use Rattle.dfdl_terms.specs.declared.row.Row.{Row}
use Rattle.dfdl_terms.specs.declared.slots.Slot.{Slot}
use Rattle.dfdl_terms.specs.Arrays.{is_item_in, is_item_of, is_marked}

or_false : (b : Bool) → b ≡ (b || false)
or_false true = refl
or_false false = refl

or_true : (b : Bool) → true ≡ (b || true)
or_true true = refl
or_true false = refl

pub or_both : (a b c : Bool) → ((a || b) || c) ≡ (a || (b || c))
or_both true b c = refl
or_both false b c = refl

-- no row of none is marked
pub none_marked : (count row : ℕ) → is_marked (replicate count false) row ≡ false
none_marked zero row = refl
none_marked (suc count) zero = refl
none_marked (suc count) (suc row) = none_marked count row

-- one row more
pub one_marked : (marks : List Bool) (row other : ℕ) → row < length marks → is_marked (set marks row true) other ≡ (is_marked marks other || eqb other row)
one_marked [] row other less = absurd (omega arith)
one_marked (mark ∷ marks) zero zero less = or_true mark
one_marked (mark ∷ marks) zero (suc other) less = or_false (is_marked marks other) ∙ ap (λ b. is_marked marks other || b) (sym (eqb-suc-zero other))
one_marked (mark ∷ marks) (suc row) zero less = or_false mark ∙ ap (λ b. mark || b) (sym (eqb-zero-suc row))
one_marked (mark ∷ marks) (suc row) (suc other) less =
    one_marked marks row other (omega arith) ∙ ap (λ b. is_marked marks other || b) (sym (eqb-suc-suc other row))

-- the next row of a list
pub next_marked : (before marks : List Bool) (rows : List ℕ) (at row some other : ℕ) → at < length rows → row ≡ get_or rows at some → row < length marks
    → is_marked marks other ≡ (is_marked before other || list_any (eqb other) (take at rows))
    → is_marked (set marks row true) other ≡ (is_marked before other || list_any (eqb other) (take (at + 1) rows))
next_marked before marks rows at row some other less is within so_far =
    one_marked marks row other within
    ∙ (ap (λ b. b || eqb other row) so_far
    ∙ (or_both (is_marked before other) (list_any (eqb other) (take at rows)) (eqb other row)
    ∙ ap (λ b. is_marked before other || b) (ap (λ r. list_any (eqb other) (take at rows) || eqb other r) is ∙ sym (list_any_more (eqb other) rows at some less))))

-- the next slot of a list
pub next_slot : (before marks after : List Bool) (slots : List Slot) (at other : ℕ) (slot : Slot) → at < length slots → slot ≡ get_or slots at slot
    → is_marked marks other ≡ (is_marked before other || list_any (is_item_in other) (take at slots))
    → is_marked after other ≡ (is_marked marks other || is_item_in other slot)
    → is_marked after other ≡ (is_marked before other || list_any (is_item_in other) (take (at + 1) slots))
next_slot before marks after slots at other slot less there so_far adds =
    adds
    ∙ (ap (λ b. b || is_item_in other slot) so_far
    ∙ (or_both (is_marked before other) (list_any (is_item_in other) (take at slots)) (is_item_in other slot)
    ∙ ap (λ b. is_marked before other || b) (ap (λ r. list_any (is_item_in other) (take at slots) || is_item_in other r) there
    ∙ sym (list_any_more (is_item_in other) slots at slot less))))

-- all slots of a list
pub all_slots : (before marks : List Bool) (slots : List Slot) (at other : ℕ) → length slots ≤ at
    → is_marked marks other ≡ (is_marked before other || list_any (is_item_in other) (take at slots))
    → is_marked marks other ≡ (is_marked before other || list_any (is_item_in other) slots)
all_slots before marks slots at other past so_far = so_far ∙ ap (λ xs. is_marked before other || list_any (is_item_in other) xs) (take_all at slots past)

pub nothing_more : (b : Bool) → b ≡ (b || false)
nothing_more b = or_false b

-- all rows of a list
pub all_marked : (before marks : List Bool) (rows : List ℕ) (at other : ℕ) → length rows ≤ at
    → is_marked marks other ≡ (is_marked before other || list_any (eqb other) (take at rows))
    → is_marked marks other ≡ (is_marked before other || list_any (eqb other) rows)
all_marked before marks rows at other past so_far = so_far ∙ ap (λ xs. is_marked before other || list_any (eqb other) xs) (take_all at rows past)

-- what the next row repeats
pub next_row : (marks old : List Bool) (rows : List Row) (at other : ℕ) (row : Row) → at < length rows → slice_get rows at ≡ Some row
    → is_marked old other ≡ list_any (is_item_of rows other) (take at rows)
    → is_marked marks other ≡ (is_marked old other || is_item_of rows other row)
    → is_marked marks other ≡ list_any (is_item_of rows other) (take (at + 1) rows)
next_row marks old rows at other row less there so_far adds =
    adds
    ∙ (ap (λ b. b || is_item_of rows other row) so_far
    ∙ (ap (λ r. list_any (is_item_of rows other) (take at rows) || is_item_of rows other r) (sym (get_or_from_slice_get rows at row row there))
    ∙ sym (list_any_more (is_item_of rows other) rows at row less)))
