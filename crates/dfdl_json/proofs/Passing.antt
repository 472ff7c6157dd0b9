-- The marks of hidden elements, from the last row to the first.
use Rattle.std.proofs.Common.{◌≡◌, ℕ, zero, suc, ◌<◌, ◌≤◌, ◌+◌, ◌||◌, ◌&&◌, Bool, true, false, cond, List, [], ◌∷◌, All, length, set, take, take_all, replicate, Some, slice_get, refl, sym, ap, subst, ◌∙◌, arith, eqb, inl, inr}
use Rattle.std.specs.List.{list_any, flat_map}
use Rattle.std.proofs.lemmas.Bool.{cases_Bool}
use Rattle.std.proofs.lemmas.Bool.Decides.{nat_tests}
use Rattle.std.proofs.lemmas.List.{length-set, length-replicate, append-nil}
use Rattle.std.proofs.lemmas.List.Elements.{All-cons, All-nil, All-head, All-tail}
use Rattle.std.proofs.lemmas.List.Folds.{list_any_more, list_any-append}
use Rattle.std.proofs.lemmas.Option.{get_or_from_slice_get}
use Rattle.dfdl_terms.specs.declared.row.Row.{Row}
use Rattle.dfdl_terms.specs.declared.row.Row.TheVariants.{Leaf, Elem, Group, Skip, Align, Initiator, Terminator, Separator, Scope, Boxed, PrefixedLeaf, PrefixedBox, MeasuredLeaf, MeasuredBox, Repeat, Counted, Optional, Choice, Dispatch, Statement, Concluded, Hidden, Spanned, Instance, Separated}
use Rattle.dfdl_terms.specs.Arrays.{is_marked}
use Rattle.dfdl_terms.specs.Rows.{ChildrenBelow, Table}
use Rattle.dfdl_json.specs.Children.{bodies_of, elements_in, keyed}
use Rattle.dfdl_json.specs.Hidden.{hides, is_hidden, MarksHidden}
use Rattle.dfdl_json.specs.Marking.{all_marked, passed_on}
use Rattle.dfdl_json.proofs.Declares as declares

-- the rows that are marked declare the element, where the first of these marks is of the row `from`
abbrev pub reaches : Table → ℕ → ℕ → List Bool → Bool
reaches t c from [] = false
reaches t c from (mark ∷ marks) = (mark && list_any (eqb c) (elements_in t from)) || reaches t c (suc from) marks

-- laws of or
or_swap : (a b c : Bool) → (a || (b || c)) ≡ (b || (a || c))
or_swap true true c = refl
or_swap true false c = refl
or_swap false b c = refl

or_group : (a b c : Bool) → ((a || b) || c) ≡ (a || (b || c))
or_group true b c = refl
or_group false b c = refl

or_twice : (a b : Bool) → (a || (a || b)) ≡ (a || b)
or_twice true b = refl
or_twice false b = refl

or_marked : (m b c : Bool) → (b || c) ≡ (b || ((m && b) || c))
or_marked m true c = refl
or_marked true false c = refl
or_marked false false c = refl

or_nothing : (b : Bool) → (b || false) ≡ b
or_nothing true = refl
or_nothing false = refl

-- no row of none declares it
none_reached : (t : Table) (c from count : ℕ) → reaches t c from (replicate count false) ≡ false
none_reached t c from zero = refl
none_reached t c from (suc count) = none_reached t c (suc from) count

none_marked : (count row : ℕ) → is_marked (replicate count false) row ≡ false
none_marked zero row = refl
none_marked (suc count) zero = refl
none_marked (suc count) (suc row) = none_marked count row

next_from : (t : Table) (from i : ℕ) → elements_in t (suc from + i) ≡ elements_in t (from + suc i)
next_from t from i = ap (elements_in t) (let same : suc from + i ≡ from + suc i = omega arith in same)

-- one more mark
set_reached : (t : Table) (c from : ℕ) (marks : List Bool) (i : ℕ) → i < length marks
    → reaches t c from (set marks i true) ≡ (list_any (eqb c) (elements_in t (from + i)) || reaches t c from marks)
set_reached t c from [] i less = absurd (omega arith)
set_reached t c from (mark ∷ marks) zero less =
    let here : elements_in t from ≡ elements_in t (from + 0) = ap (elements_in t) (let same : from ≡ from + 0 = omega arith in same) in
    or_marked mark (list_any (eqb c) (elements_in t from)) (reaches t c (suc from) marks)
    ∙ ap (λ xs. list_any (eqb c) xs || ((mark && list_any (eqb c) (elements_in t from)) || reaches t c (suc from) marks)) here
set_reached t c from (mark ∷ marks) (suc i) less =
    ap (λ b. (mark && list_any (eqb c) (elements_in t from)) || b) (set_reached t c (suc from) marks i (omega (arith, less)))
    ∙ (or_swap (mark && list_any (eqb c) (elements_in t from)) (list_any (eqb c) (elements_in t (suc from + i))) (reaches t c (suc from) marks)
    ∙ ap (λ xs. list_any (eqb c) xs || ((mark && list_any (eqb c) (elements_in t from)) || reaches t c (suc from) marks)) (next_from t from i))

-- one mark less
cleared_reached : (t : Table) (c from : ℕ) (marks : List Bool) (i : ℕ) → is_marked marks i ≡ true
    → (list_any (eqb c) (elements_in t (from + i)) || reaches t c from (set marks i false)) ≡ reaches t c from marks
cleared_reached t c from [] i marked = absurd (cc)
cleared_reached t c from (mark ∷ marks) zero marked =
    let here : elements_in t (from + 0) ≡ elements_in t from = ap (elements_in t) (let same : from + 0 ≡ from = omega arith in same) in
    ap (λ xs. list_any (eqb c) xs || reaches t c (suc from) marks) here
    ∙ ap (λ m. (m && list_any (eqb c) (elements_in t from)) || reaches t c (suc from) marks) (sym marked)
cleared_reached t c from (mark ∷ marks) (suc i) marked =
    ap (λ xs. list_any (eqb c) xs || ((mark && list_any (eqb c) (elements_in t from)) || reaches t c (suc from) (set marks i false))) (sym (next_from t from i))
    ∙ (or_swap (list_any (eqb c) (elements_in t (suc from + i))) (mark && list_any (eqb c) (elements_in t from)) (reaches t c (suc from) (set marks i false))
    ∙ ap (λ b. (mark && list_any (eqb c) (elements_in t from)) || b) (cleared_reached t c (suc from) marks i marked))

-- from the first row on
at_first : (t : Table) (i : ℕ) → elements_in t (0 + i) ≡ elements_in t i
at_first t i = ap (elements_in t) (let same : 0 + i ≡ i = omega arith in same)

set_first : (t : Table) (c : ℕ) (marks : List Bool) (i : ℕ) → i < length marks
    → reaches t c 0 (set marks i true) ≡ (list_any (eqb c) (elements_in t i) || reaches t c 0 marks)
set_first t c marks i less = set_reached t c 0 marks i less ∙ ap (λ xs. list_any (eqb c) xs || reaches t c 0 marks) (at_first t i)

cleared_first : (t : Table) (c : ℕ) (marks : List Bool) (i : ℕ) → is_marked marks i ≡ true
    → (list_any (eqb c) (elements_in t i) || reaches t c 0 (set marks i false)) ≡ reaches t c 0 marks
cleared_first t c marks i marked =
    ap (λ xs. list_any (eqb c) xs || reaches t c 0 (set marks i false)) (sym (at_first t i)) ∙ cleared_reached t c 0 marks i marked

-- what isn't marked stays so
cleared_same : (marks : List Bool) (i : ℕ) → is_marked marks i ≡ false → set marks i false ≡ marks
cleared_same [] i is = refl
cleared_same (mark ∷ marks) zero is = ap (λ m. m ∷ marks) (sym is)
cleared_same (mark ∷ marks) (suc i) is = ap (λ ms. mark ∷ ms) (cleared_same marks i is)

pub length_marked : (marks : List Bool) (rows : List ℕ) → length (all_marked marks rows) ≡ length marks
length_marked marks [] = refl
length_marked marks (row ∷ rows) = length-set (all_marked marks rows) row true ∙ length_marked marks rows

-- marks at all of these rows
all_reached : (t : Table) (c : ℕ) (marks : List Bool) (rows : List ℕ) → All (λ row. row < length marks) rows
    → reaches t c 0 (all_marked marks rows) ≡ (list_any (eqb c) (flat_map (elements_in t) rows) || reaches t c 0 marks)
all_reached t c marks [] within = refl
all_reached t c marks (row ∷ rows) within =
    let less : row < length (all_marked marks rows) = omega (arith, All-head (λ r. r < length marks) row rows within, length_marked marks rows) in
    set_first t c (all_marked marks rows) row less
    ∙ (ap (λ b. list_any (eqb c) (elements_in t row) || b) (all_reached t c marks rows (All-tail (λ r. r < length marks) row rows within))
    ∙ (sym (or_group (list_any (eqb c) (elements_in t row)) (list_any (eqb c) (flat_map (elements_in t) rows)) (reaches t c 0 marks))
    ∙ ap (λ b. b || reaches t c 0 marks) (sym (list_any-append (eqb c) (elements_in t row) (flat_map (elements_in t) rows)))))

-- a mark elsewhere
marked_other : (marks : List Bool) (i j : ℕ) (mark : Bool) → (i ≡ j → ⊥) → is_marked (set marks i mark) j ≡ is_marked marks j
marked_other [] i j mark other = refl
marked_other (m ∷ marks) zero zero mark other = absurd (other refl)
marked_other (m ∷ marks) zero (suc j) mark other = refl
marked_other (m ∷ marks) (suc i) zero mark other = refl
marked_other (m ∷ marks) (suc i) (suc j) mark other = marked_other marks i j mark (λ same. other (ap suc same))

marked_not : (marks : List Bool) (i : ℕ) → is_marked (set marks i false) i ≡ false
marked_not [] i = refl
marked_not (m ∷ marks) zero = refl
marked_not (m ∷ marks) (suc i) = marked_not marks i

marked_above : (marks : List Bool) (rows : List ℕ) (bound j : ℕ) → All (λ row. row < bound) rows → bound ≤ j
    → is_marked (all_marked marks rows) j ≡ is_marked marks j
marked_above marks [] bound j below most = refl
marked_above marks (row ∷ rows) bound j below most =
    marked_other (all_marked marks rows) row j true (λ same. let bad : ⊥ = omega (arith, All-head (λ r. r < bound) row rows below, most, same) in bad)
    ∙ marked_above marks rows bound j (All-tail (λ r. r < bound) row rows below) most

-- each row that is marked is an element
past_reached : (t : Table) (c from : ℕ) (marks : List Bool) → c < from → ((i : ℕ) → is_marked marks i ≡ true → elements_in t (from + i) ≡ (from + i) ∷ [])
    → reaches t c from marks ≡ false
past_reached t c from [] less single = refl
past_reached t c from (mark ∷ marks) less single =
    let rest = past_reached t c (suc from) marks (omega (arith, less))
    (λ i is. subst (λ (n : ℕ). elements_in t n ≡ n ∷ []) (let same : from + suc i ≡ suc from + i = omega arith in same) (single (suc i) is)) in
    elim (cases_Bool mark) [
      | inl marked ↦
          let here : elements_in t from ≡ from ∷ [] = subst (λ (n : ℕ). elements_in t n ≡ n ∷ []) (let same : from + 0 ≡ from = omega arith in same) (single 0 marked) in
          let apart : eqb c from ≡ false = grind (arith, nat_tests) in
          ap (λ m. (m && list_any (eqb c) (elements_in t from)) || reaches t c (suc from) marks) marked
          ∙ (ap (λ xs. list_any (eqb c) xs || reaches t c (suc from) marks) here
          ∙ (ap (λ b. (b || false) || reaches t c (suc from) marks) apart ∙ rest))
      | inr not ↦ ap (λ m. (m && list_any (eqb c) (elements_in t from)) || reaches t c (suc from) marks) not ∙ rest
    ]

single_reached : (t : Table) (c from d : ℕ) (marks : List Bool) → c ≡ from + d → ((i : ℕ) → is_marked marks i ≡ true → elements_in t (from + i) ≡ (from + i) ∷ [])
    → reaches t c from marks ≡ is_marked marks d
single_reached t c from d [] is single = refl
single_reached t c from zero (mark ∷ marks) is single =
    elim (cases_Bool mark) [
      | inl marked ↦
          let here : elements_in t from ≡ from ∷ [] = subst (λ (n : ℕ). elements_in t n ≡ n ∷ []) (let same : from + 0 ≡ from = omega arith in same) (single 0 marked) in
          let same : eqb c from ≡ true = grind (arith, nat_tests) in
          ap (λ m. (m && list_any (eqb c) (elements_in t from)) || reaches t c (suc from) marks) marked
          ∙ (ap (λ xs. list_any (eqb c) xs || reaches t c (suc from) marks) here
          ∙ (ap (λ b. (b || false) || reaches t c (suc from) marks) same ∙ sym marked))
      | inr not ↦
          ap (λ m. (m && list_any (eqb c) (elements_in t from)) || reaches t c (suc from) marks) not
          ∙ (past_reached t c (suc from) marks (omega (arith, is)) later ∙ sym not)
    ]
  where
    later : (i : ℕ) → is_marked marks i ≡ true → elements_in t (suc from + i) ≡ (suc from + i) ∷ []
    later i marked = subst (λ (n : ℕ). elements_in t n ≡ n ∷ []) (let same : from + suc i ≡ suc from + i = omega arith in same) (single (suc i) marked)
single_reached t c from (suc d) (mark ∷ marks) is single =
    let rest = single_reached t c (suc from) d marks (omega (arith, is))
    (λ i marked. subst (λ (n : ℕ). elements_in t n ≡ n ∷ []) (let same : from + suc i ≡ suc from + i = omega arith in same) (single (suc i) marked)) in
    elim (cases_Bool mark) [
      | inl marked ↦
          let here : elements_in t from ≡ from ∷ [] = subst (λ (n : ℕ). elements_in t n ≡ n ∷ []) (let same : from + 0 ≡ from = omega arith in same) (single 0 marked) in
          let apart : eqb c from ≡ false = grind (arith, nat_tests) in
          ap (λ m. (m && list_any (eqb c) (elements_in t from)) || reaches t c (suc from) marks) marked
          ∙ (ap (λ xs. list_any (eqb c) xs || reaches t c (suc from) marks) here
          ∙ (ap (λ b. (b || false) || reaches t c (suc from) marks) apart ∙ rest))
      | inr not ↦ ap (λ m. (m && list_any (eqb c) (elements_in t from)) || reaches t c (suc from) marks) not ∙ rest
    ]

-- the rows from a place on have handed on their marks
pub record ArePassed (t : Table) (at : ℕ) (marks : List Bool) : Type 0 where
  pub within : at ≤ length t.rows
  pub many : length marks ≡ length t.rows
  pub same : (c : ℕ) → (list_any (hides t c) (take at t.rows) || reaches t c 0 marks) ≡ is_hidden t c
  pub single : (i : ℕ) → at ≤ i → is_marked marks i ≡ true → elements_in t i ≡ i ∷ []

pub none_passed : (t : Table) (at count : ℕ) (marks : List Bool) → at ≡ length t.rows → count ≡ length t.rows → marks ≡ replicate count false → ArePassed t at marks
none_passed t at count marks whole counted none = record {
  within = omega (arith, whole);
  many = ap length none ∙ (length-replicate count false ∙ counted);
  same = λ c. ap (λ ms. list_any (hides t c) (take at t.rows) || reaches t c 0 ms) none
      ∙ (ap (λ b. list_any (hides t c) (take at t.rows) || b) (none_reached t c 0 count)
      ∙ (or_nothing (list_any (hides t c) (take at t.rows)) ∙ ap (list_any (hides t c)) (take_all at t.rows (omega (arith, whole)))));
  single = λ i most is. absurd (let bad : true ≡ false = sym is ∙ (ap (λ ms. is_marked ms i) none ∙ none_marked count i) in cc);
}

pub all_passed : (t : Table) (at : ℕ) (marks : List Bool) → at ≡ 0 → ArePassed t at marks → MarksHidden t marks
all_passed t at marks is passed = λ c.
    sym (single_reached t c 0 c marks (omega arith)
    (λ i marked. subst (λ (n : ℕ). elements_in t n ≡ n ∷ []) (let same : i ≡ 0 + i = omega arith in same) (passed.single i (omega (arith, is)) marked)))
    ∙ (ap (λ n. list_any (hides t c) (take n t.rows) || reaches t c 0 marks) (sym is) ∙ passed.same c)

-- what the row of a number does with the marks
record Passes (t : Table) (k : ℕ) (r : Row) (marks now : List Bool) : Type 0 where
  pub many : length now ≡ length marks
  pub same : (c : ℕ) → reaches t c 0 now ≡ (hides t c r || reaches t c 0 marks)
  pub single : is_marked now k ≡ true → elements_in t k ≡ k ∷ []
  pub above : (i : ℕ) → k < i → is_marked now i ≡ is_marked marks i

module _ (t : Table) (k : ℕ) (r : Row) (marks : List Bool) where
  -- a row whose mark stays
  stays : ((c : ℕ) → hides t c r ≡ false) → (is_marked marks k ≡ true → elements_in t k ≡ k ∷ []) → Passes t k r marks marks
  stays plain single = record {
    many = refl;
    same = λ c. ap (λ b. b || reaches t c 0 marks) (sym (plain c));
    single = single;
    above = λ i more. refl;
  }

  -- a row whose mark goes on to others
  module _ (parts : List ℕ) (less : k < length marks) (below : All (λ p. p < k) parts) (declared : elements_in t k ≡ flat_map (elements_in t) parts) where
    abbrev now : List Bool
    now = all_marked (set marks k false) parts

    fewer : All (λ p. p < length (set marks k false)) parts
    fewer = λ j d here. omega (arith, below j d here, less, length-set marks k false)

    reached : (c : ℕ) → reaches t c 0 now ≡ (list_any (eqb c) (elements_in t k) || reaches t c 0 (set marks k false))
    reached c =
        all_reached t c (set marks k false) parts fewer
        ∙ ap (λ xs. list_any (eqb c) xs || reaches t c 0 (set marks k false)) (sym declared)

    gone : ((c : ℕ) → reaches t c 0 now ≡ (hides t c r || reaches t c 0 marks)) → Passes t k r marks now
    gone same = record {
      many = length_marked (set marks k false) parts ∙ length-set marks k false;
      same = same;
      single = λ is. absurd (let bad : true ≡ false = sym is ∙ (marked_above (set marks k false) parts k k below (omega arith) ∙ marked_not marks k) in cc);
      above = λ i more. marked_above (set marks k false) parts k i below (omega (arith, more))
          ∙ marked_other marks k i false (λ same. let bad : ⊥ = omega (arith, more, same) in bad);
    }

    -- of a row that hides nothing
    plain_gone : is_marked marks k ≡ true → ((c : ℕ) → hides t c r ≡ false) → Passes t k r marks now
    plain_gone marked plain =
        gone (λ c. reached c ∙ (cleared_first t c marks k marked ∙ ap (λ b. b || reaches t c 0 marks) (sym (plain c))))

    -- of a hidden row
    hidden_gone : ((c : ℕ) → hides t c r ≡ list_any (eqb c) (elements_in t k)) → Passes t k r marks now
    hidden_gone hides_it =
        gone (λ c.
        elim (cases_Bool (is_marked marks k)) [
          | inl marked ↦
              reached c ∙ (sym (or_twice (list_any (eqb c) (elements_in t k)) (reaches t c 0 (set marks k false)))
              ∙ (ap (λ b. list_any (eqb c) (elements_in t k) || b) (cleared_first t c marks k marked)
              ∙ ap (λ b. b || reaches t c 0 marks) (sym (hides_it c))))
          | inr not ↦
              reached c ∙ (ap (λ ms. list_any (eqb c) (elements_in t k) || reaches t c 0 ms) (cleared_same marks k not)
              ∙ ap (λ b. b || reaches t c 0 marks) (sym (hides_it c)))
        ])

  -- a row that hands on its mark alone
  plain : (parts : List ℕ) → k < length marks → All (λ p. p < k) parts → elements_in t k ≡ flat_map (elements_in t) parts → ((c : ℕ) → hides t c r ≡ false)
      → Passes t k r marks (cond (is_marked marks k) (all_marked (set marks k false) parts) marks)
  plain parts less below declared none =
      elim (cases_Bool (is_marked marks k)) [
        | inl marked ↦ rw marked (plain_gone parts less below declared marked none)
        | inr not ↦ rw not (stays none (λ is. absurd (let bad : true ≡ false = sym is ∙ not in cc)))
      ]

-- a row with a body in its place declares what the body does
with_body : (t : Table) (k body : ℕ) → elements_in t k ≡ elements_in t body → elements_in t k ≡ flat_map (elements_in t) (body ∷ [])
with_body t k body is = is ∙ sym (append-nil (elements_in t body))

one_under : (k body : ℕ) → body < k → All (λ p. p < k) (body ∷ [])
one_under k body less = All-cons (λ p. p < k) body [] less (All-nil (λ p. p < k))

-- a row with nothing in its place
bare : (t : Table) (k : ℕ) (r : Row) (marks : List Bool) → k < length marks → elements_in t k ≡ [] → ((c : ℕ) → hides t c r ≡ false)
    → Passes t k r marks (cond (is_marked marks k) (all_marked (set marks k false) []) marks)
bare t k r marks less declared none = plain t k r marks [] less (All-nil (λ p. p < k)) declared none

-- a row with a body in its place
through : (t : Table) (k : ℕ) (r : Row) (marks : List Bool) (body : ℕ) → k < length marks → body < k → elements_in t k ≡ elements_in t body → ((c : ℕ) → hides t c r ≡ false)
    → Passes t k r marks (cond (is_marked marks k) (all_marked (set marks k false) (body ∷ [])) marks)
through t k r marks body less below declared none = plain t k r marks (body ∷ []) less (one_under k body below) (with_body t k body declared) none

row_passes : (t : Table) (k : ℕ) (marks : List Bool) → k < length marks → (r : Row) → slice_get t.rows k ≡ Some r → ChildrenBelow k r
    → Passes t k r marks (passed_on k r marks)
row_passes t k marks less (Leaf prim) is below = bare t k (Leaf prim) marks less (declares.leaf_declares t k prim is) (λ c. refl)
row_passes t k marks less (Skip bits) is below = bare t k (Skip bits) marks less (declares.skip_declares t k bits is) (λ c. refl)
row_passes t k marks less (Align bits) is below = bare t k (Align bits) marks less (declares.align_declares t k bits is) (λ c. refl)
row_passes t k marks less (Initiator delimiter) is below = bare t k (Initiator delimiter) marks less (declares.initiator_declares t k delimiter is) (λ c. refl)
row_passes t k marks less (Terminator delimiter separators) is below =
    bare t k (Terminator delimiter separators) marks less (declares.terminator_declares t k delimiter separators is) (λ c. refl)
row_passes t k marks less Separator is below = bare t k Separator marks less (declares.separator_declares t k is) (λ c. refl)
row_passes t k marks less (PrefixedLeaf prefix prim) is below =
    bare t k (PrefixedLeaf prefix prim) marks less (declares.prefixed_leaf_declares t k prefix prim is) (λ c. refl)
row_passes t k marks less (MeasuredLeaf measure prim) is below =
    bare t k (MeasuredLeaf measure prim) marks less (declares.measured_leaf_declares t k measure prim is) (λ c. refl)
row_passes t k marks less (Statement statement) is below = bare t k (Statement statement) marks less (declares.statement_declares t k statement is) (λ c. refl)
row_passes t k marks less (Scope list body) is below =
    through t k (Scope list body) marks body less below (declares.scope_declares t k list body is below) (λ c. refl)
row_passes t k marks less (Concluded behind body) is below =
    through t k (Concluded behind body) marks body less below (declares.concluded_declares t k behind body is below) (λ c. refl)
row_passes t k marks less (Boxed bits body) is below =
    through t k (Boxed bits body) marks body less below (declares.box_declares t k bits body is below) (λ c. refl)
row_passes t k marks less (PrefixedBox prefix body) is below =
    through t k (PrefixedBox prefix body) marks body less below (declares.prefixed_box_declares t k prefix body is below) (λ c. refl)
row_passes t k marks less (MeasuredBox measure body) is below =
    through t k (MeasuredBox measure body) marks body less below (declares.measured_box_declares t k measure body is below) (λ c. refl)
row_passes t k marks less (Repeat count body) is below =
    through t k (Repeat count body) marks body less below (declares.repeat_declares t k count body is below) (λ c. refl)
row_passes t k marks less (Counted question body) is below =
    through t k (Counted question body) marks body less below (declares.counted_declares t k question body is below) (λ c. refl)
row_passes t k marks less (Optional most item initiated body) is below =
    through t k (Optional most item initiated body) marks body less below (declares.optional_declares t k most item initiated body is below) (λ c. refl)
row_passes t k marks less (Group children) is below =
    plain t k (Group children) marks children less below (declares.group_declares t k children is below) (λ c. refl)
row_passes t k marks less (Choice branches initiated) is below =
    plain t k (Choice branches initiated) marks branches less below (declares.choice_declares t k branches initiated is below) (λ c. refl)
row_passes t k marks less (Dispatch question keys) is below =
    let bodies = declares.all_keyed k keys below in
    plain t k (Dispatch question keys) marks (keyed keys) less bodies (declares.dispatch_declares t k question keys is bodies) (λ c. refl)
row_passes t k marks less (Separated policy position initiated slots) is below =
    let bodies = declares.all_bodies k slots below in
    plain t k (Separated policy position initiated slots) marks (bodies_of slots) less bodies
    (declares.separated_declares t k policy position initiated slots is bodies) (λ c. refl)
row_passes t k marks less (Hidden body) is below =
    let same = declares.hidden_declares t k body is below in
    hidden_gone t k (Hidden body) marks (body ∷ []) less (one_under k body below) (with_body t k body same) (λ c. ap (list_any (eqb c)) (sym same))
row_passes t k marks less (Spanned body) is below =
    through t k (Spanned body) marks body less below (declares.spanned_declares t k body is below) (λ c. refl)
row_passes t k marks less (Instance statement body) is below =
    through t k (Instance statement body) marks body less below (declares.instance_declares t k statement body is below) (λ c. refl)
row_passes t k marks less (Elem name simple tried behind body) is below =
    stays t k (Elem name simple tried behind body) marks (λ c. refl) (λ marked. declares.elem_declares t k name simple tried behind body is)

-- the next row, towards the first
pub next_passed : (t : Table) (at k : ℕ) (r : Row) (marks now : List Bool) → at ≡ suc k → slice_get t.rows k ≡ Some r → ChildrenBelow k r
    → now ≡ passed_on k r marks → ArePassed t at marks → ArePassed t k now
next_passed t at k r marks now is there below now_is passed =
    let here : k < length t.rows = omega (arith, is, passed.within) in
    let step : Passes t k r marks now = subst (λ ms. Passes t k r marks ms) (sym now_is) (row_passes t k marks (omega (arith, here, passed.many)) r there below) in
    let next : at ≡ k + 1 = omega (arith, is) in
    record {
      within = omega (arith, here);
      many = step.many ∙ passed.many;
      same = λ c.
          ap (λ b. list_any (hides t c) (take k t.rows) || b) (step.same c)
          ∙ (sym (or_group (list_any (hides t c) (take k t.rows)) (hides t c r) (reaches t c 0 marks))
          ∙ (ap (λ x. (list_any (hides t c) (take k t.rows) || hides t c x) || reaches t c 0 marks) (sym (get_or_from_slice_get t.rows k r r there))
          ∙ (ap (λ b. b || reaches t c 0 marks) (sym (list_any_more (hides t c) t.rows k r here))
          ∙ (ap (λ n. list_any (hides t c) (take n t.rows) || reaches t c 0 marks) (sym next) ∙ passed.same c))));
      single = λ i most marked.
          elim (cases_Bool (eqb k i)) [
            | inl same ↦ let is_it : k ≡ i = grind (arith, nat_tests) in
                subst (λ (n : ℕ). elements_in t n ≡ n ∷ []) is_it (step.single (ap (is_marked now) is_it ∙ marked))
            | inr apart ↦ let more : k < i = grind (arith, nat_tests) in
                passed.single i (omega (arith, is, more)) (sym (step.above i more) ∙ marked)
          ];
    }
