-- The elements that a row declares are it or below it, and take no more steps than it.
use Rattle.std.proofs.Common.{◌≡◌, ℕ, suc, ◌<◌, ◌≤◌, List, [], ◌∷◌, All, map, Option, None, Some, slice_get, refl, sym, subst, arith, inl, inr}
use Rattle.std.specs.List.{flat_map}
use Rattle.std.proofs.lemmas.Bool.{cases_lt}
use Rattle.std.proofs.lemmas.List.Elements.{All-cons, All-nil, All-append}
use Rattle.dfdl_terms.specs.declared.row.Row.{Row}
use Rattle.dfdl_terms.specs.declared.row.Row.TheVariants.{Leaf, Elem, Group, Skip, Align, Initiator, Terminator, Separator, Scope, Boxed, PrefixedLeaf, PrefixedBox, MeasuredLeaf, MeasuredBox, Repeat, Counted, Optional, Choice, Dispatch, Statement, Concluded, Hidden, Spanned, Instance, Separated}
use Rattle.dfdl_terms.specs.Rows.{IsElementRow, Table}
use Rattle.dfdl_json.specs.ByRows.{below}
use Rattle.dfdl_json.specs.Children.{bodies_of, declared_by, elements_in, keyed}
use Rattle.dfdl_json.specs.Steps.{steps_by, steps_of, total}
use Rattle.dfdl_json.proofs.RowValues.{row_is, below_is, below_past, by_numbers}
use Rattle.dfdl_json.proofs.Declares.{total_both}

-- what a row declares, with its steps
pub record AreBelow (t : Table) (row : ℕ) (declared : List ℕ) (steps : ℕ) : Type 0 where
  pub within : All (λ c. c < suc row) declared
  pub few : total (map (steps_of t) declared) ≤ steps
  pub elements : All (λ c. IsElementRow (slice_get t.rows c)) declared

higher : (row bound : ℕ) (xs : List ℕ) → row ≤ bound → All (λ c. c < suc row) xs → All (λ c. c < suc bound) xs
higher row bound xs most all = λ k d within. omega (arith, most, all k d within)

nothing_below : (t : Table) (row : ℕ) → AreBelow t row [] 0
nothing_below t row = record { within = All-nil (λ c. c < suc row); few = omega arith; elements = All-nil (λ c. IsElementRow (slice_get t.rows c)) }

all_below : (t : Table) (row : ℕ) (declared : ℕ → List ℕ) (steps : ℕ → ℕ) → ((c : ℕ) → AreBelow t row (declared c) (steps c)) → (cs : List ℕ)
    → AreBelow t row (flat_map declared cs) (total (map steps cs))
all_below t row declared steps each [] = nothing_below t row
all_below t row declared steps each (c ∷ cs) =
    let others = all_below t row declared steps each cs in
    record {
      within = All-append (λ x. x < suc row) (declared c) (flat_map declared cs) (each c).within others.within;
      few = omega (arith, total_both (steps_of t) (declared c) (flat_map declared cs), (each c).few, others.few);
      elements = All-append (λ x. IsElementRow (slice_get t.rows x)) (declared c) (flat_map declared cs) (each c).elements others.elements;
    }

-- a row below this one, or nothing
one_below : (t : Table) (row c : ℕ) → ((d : ℕ) → d < row → AreBelow t d (elements_in t d) (steps_of t d))
    → AreBelow t row (below declared_by [] t.rows row c) (below steps_by 0 t.rows row c)
one_below t row c each =
    elim (cases_lt c row) [
      | inl less ↦
          let have = each c less in
          subst (λ (xs : List ℕ). AreBelow t row xs (below steps_by 0 t.rows row c)) (sym (below_is declared_by [] t.rows row c less))
          (subst (λ (n : ℕ). AreBelow t row (elements_in t c) n) (sym (below_is steps_by 0 t.rows row c less))
          (record { within = higher c row (elements_in t c) (omega (arith, less)) have.within; few = have.few; elements = have.elements }))
      | inr past ↦
          subst (λ (xs : List ℕ). AreBelow t row xs (below steps_by 0 t.rows row c)) (sym (below_past declared_by [] t.rows row c past))
          (subst (λ (n : ℕ). AreBelow t row [] n) (sym (below_past steps_by 0 t.rows row c past)) (nothing_below t row))
    ]

by_kind : (t : Table) (row : ℕ) (r : Option Row) → slice_get t.rows row ≡ r → ((d : ℕ) → d < row → AreBelow t d (elements_in t d) (steps_of t d))
    → AreBelow t row (declared_by (below declared_by [] t.rows row) row r) (steps_by (below steps_by 0 t.rows row) row r)
by_kind t row None is each = record { within = All-nil (λ c. c < suc row); few = omega arith; elements = All-nil (λ c. IsElementRow (slice_get t.rows c)) }
by_kind t row (Some (Leaf prim)) is each = record { within = All-nil (λ c. c < suc row); few = omega arith; elements = All-nil (λ c. IsElementRow (slice_get t.rows c)) }
by_kind t row (Some (Skip bits)) is each = record { within = All-nil (λ c. c < suc row); few = omega arith; elements = All-nil (λ c. IsElementRow (slice_get t.rows c)) }
by_kind t row (Some (Align bits)) is each = record { within = All-nil (λ c. c < suc row); few = omega arith; elements = All-nil (λ c. IsElementRow (slice_get t.rows c)) }
by_kind t row (Some (Initiator delimiter)) is each = record { within = All-nil (λ c. c < suc row); few = omega arith; elements = All-nil (λ c. IsElementRow (slice_get t.rows c)) }
by_kind t row (Some (Terminator delimiter separators)) is each = record { within = All-nil (λ c. c < suc row); few = omega arith; elements = All-nil (λ c. IsElementRow (slice_get t.rows c)) }
by_kind t row (Some Separator) is each = record { within = All-nil (λ c. c < suc row); few = omega arith; elements = All-nil (λ c. IsElementRow (slice_get t.rows c)) }
by_kind t row (Some (PrefixedLeaf prefix prim)) is each = record { within = All-nil (λ c. c < suc row); few = omega arith; elements = All-nil (λ c. IsElementRow (slice_get t.rows c)) }
by_kind t row (Some (MeasuredLeaf measure prim)) is each = record { within = All-nil (λ c. c < suc row); few = omega arith; elements = All-nil (λ c. IsElementRow (slice_get t.rows c)) }
by_kind t row (Some (Scope list body)) is each =
    let inside = one_below t row body each in
    record { within = inside.within; few = omega (arith, inside.few); elements = inside.elements }
by_kind t row (Some (Boxed bits body)) is each =
    let inside = one_below t row body each in
    record { within = inside.within; few = omega (arith, inside.few); elements = inside.elements }
by_kind t row (Some (PrefixedBox prefix body)) is each =
    let inside = one_below t row body each in
    record { within = inside.within; few = omega (arith, inside.few); elements = inside.elements }
by_kind t row (Some (MeasuredBox measure body)) is each =
    let inside = one_below t row body each in
    record { within = inside.within; few = omega (arith, inside.few); elements = inside.elements }
by_kind t row (Some (Repeat count body)) is each =
    let inside = one_below t row body each in
    record { within = inside.within; few = omega (arith, inside.few); elements = inside.elements }
by_kind t row (Some (Counted question body)) is each =
    let inside = one_below t row body each in
    record { within = inside.within; few = omega (arith, inside.few); elements = inside.elements }
by_kind t row (Some (Optional most item initiated body)) is each =
    let inside = one_below t row body each in
    record { within = inside.within; few = omega (arith, inside.few); elements = inside.elements }
by_kind t row (Some (Choice branches initiated)) is each =
    let all = all_below t row (below declared_by [] t.rows row) (below steps_by 0 t.rows row) (λ c. one_below t row c each) branches in
    record { within = all.within; few = omega (arith, all.few); elements = all.elements }
by_kind t row (Some (Dispatch question keys)) is each =
    let all = all_below t row (below declared_by [] t.rows row) (below steps_by 0 t.rows row) (λ c. one_below t row c each) (keyed keys) in
    record { within = all.within; few = omega (arith, all.few); elements = all.elements }
by_kind t row (Some (Statement statement)) is each = record { within = All-nil (λ c. c < suc row); few = omega arith; elements = All-nil (λ c. IsElementRow (slice_get t.rows c)) }
by_kind t row (Some (Concluded behind body)) is each =
    let inside = one_below t row body each in
    record { within = inside.within; few = omega (arith, inside.few); elements = inside.elements }
by_kind t row (Some (Hidden body)) is each =
    let inside = one_below t row body each in
    record { within = inside.within; few = omega (arith, inside.few); elements = inside.elements }
by_kind t row (Some (Spanned body)) is each =
    let inside = one_below t row body each in
    record { within = inside.within; few = omega (arith, inside.few); elements = inside.elements }
by_kind t row (Some (Instance statement body)) is each =
    let inside = one_below t row body each in
    record { within = inside.within; few = omega (arith, inside.few); elements = inside.elements }
by_kind t row (Some (Separated policy position initiated slots)) is each =
    let all = all_below t row (below declared_by [] t.rows row) (below steps_by 0 t.rows row) (λ c. one_below t row c each) (bodies_of slots) in
    record { within = all.within; few = omega (arith, all.few); elements = all.elements }
by_kind t row (Some (Elem name simple tried behind body)) is each = record {
  within = All-cons (λ c. c < suc row) row [] (omega arith) (All-nil (λ c. c < suc row));
  few = omega (arith, row_is steps_by 0 t.rows row (Some (Elem name simple tried behind body)) is);
  elements = All-cons (λ c. IsElementRow (slice_get t.rows c)) row [] (subst IsElementRow (sym is) tt) (All-nil (λ c. IsElementRow (slice_get t.rows c)));
}
by_kind t row (Some (Group children)) is each =
    let all = all_below t row (below declared_by [] t.rows row) (below steps_by 0 t.rows row) (λ c. one_below t row c each) children in
    record { within = all.within; few = omega (arith, all.few); elements = all.elements }

-- of each row
pub are_below : (t : Table) (row : ℕ) → AreBelow t row (elements_in t row) (steps_of t row)
are_below t row =
    by_numbers (λ id. AreBelow t id (elements_in t id) (steps_of t id))
    (λ id each.
    subst (λ (xs : List ℕ). AreBelow t id xs (steps_of t id)) (sym (row_is declared_by [] t.rows id (slice_get t.rows id) refl))
    (subst (λ (n : ℕ). AreBelow t id (declared_by (below declared_by [] t.rows id) id (slice_get t.rows id)) n) (sym (row_is steps_by 0 t.rows id (slice_get t.rows id) refl))
    (by_kind t id (slice_get t.rows id) refl each)))
    (suc row) row (omega arith)

-- each row takes a step
some_by : (inside : ℕ → ℕ) (row : ℕ) (r : Option Row) → 1 ≤ steps_by inside row r
some_by inside row None = omega arith
some_by inside row (Some (Leaf prim)) = omega arith
some_by inside row (Some (Skip bits)) = omega arith
some_by inside row (Some (Align bits)) = omega arith
some_by inside row (Some (Initiator delimiter)) = omega arith
some_by inside row (Some (Terminator delimiter separators)) = omega arith
some_by inside row (Some Separator) = omega arith
some_by inside row (Some (Scope list body)) = omega arith
some_by inside row (Some (Boxed bits body)) = omega arith
some_by inside row (Some (PrefixedLeaf prefix prim)) = omega arith
some_by inside row (Some (MeasuredLeaf measure prim)) = omega arith
some_by inside row (Some (PrefixedBox prefix body)) = omega arith
some_by inside row (Some (MeasuredBox measure body)) = omega arith
some_by inside row (Some (Repeat count body)) = omega arith
some_by inside row (Some (Counted question body)) = omega arith
some_by inside row (Some (Optional most item initiated body)) = omega arith
some_by inside row (Some (Choice branches initiated)) = omega arith
some_by inside row (Some (Dispatch question keys)) = omega arith
some_by inside row (Some (Statement statement)) = omega arith
some_by inside row (Some (Concluded behind body)) = omega arith
some_by inside row (Some (Hidden body)) = omega arith
some_by inside row (Some (Spanned body)) = omega arith
some_by inside row (Some (Instance statement body)) = omega arith
some_by inside row (Some (Separated policy position initiated slots)) = omega arith
some_by inside row (Some (Elem name simple tried behind body)) = omega arith
some_by inside row (Some (Group children)) = omega arith

pub some_steps : (t : Table) (row : ℕ) → 1 ≤ steps_of t row
some_steps t row =
    subst (λ (n : ℕ). 1 ≤ n) (sym (row_is steps_by 0 t.rows row (slice_get t.rows row) refl)) (some_by (below steps_by 0 t.rows row) row (slice_get t.rows row))
