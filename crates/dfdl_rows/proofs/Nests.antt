-- Rows nest, wherever they begin.
use Rattle.std.proofs.Common.{◌≡◌, ℕ, zero, suc, ◌+◌, List, [], ◌∷◌, ◌++◌, length, slice_get, Some, subst, refl, arith}
use Rattle.std.proofs.lemmas.Option.{slice_get_within}
use Rattle.dfdl_terms.specs.declared.row.Row.{Row}
use Rattle.dfdl_terms.specs.Rows.{ChildrenBelow}

-- rows that begin at a number have their children below them
unfoldable pub NestsFrom : ℕ → List Row → Type 0
NestsFrom first rows = (i : ℕ) (row : Row) → slice_get rows i ≡ Some row → ChildrenBelow (first + i) row

pub nests_none : (first : ℕ) → NestsFrom first []
unfolding NestsFrom
nests_none first i row is = absurd (let less = slice_get_within [] i row is in omega arith)

pub nests_cons : (first : ℕ) (row : Row) (rows : List Row) → ChildrenBelow first row → NestsFrom (first + 1) rows → NestsFrom first (row ∷ rows)
unfolding NestsFrom
nests_cons first row rows here behind zero other is =
    let same : row ≡ other = cc in
    subst (λ (r : Row). ChildrenBelow (first + 0) r) same (subst (λ (n : ℕ). ChildrenBelow n row) (omega arith) here)
nests_cons first row rows here behind (suc i) other is = subst (λ (n : ℕ). ChildrenBelow n other) (omega arith) (behind i other is)

pub nests_first : (first : ℕ) (row : Row) (rows : List Row) → NestsFrom first (row ∷ rows) → ChildrenBelow first row
unfolding NestsFrom
nests_first first row rows all = subst (λ (n : ℕ). ChildrenBelow n row) (omega arith) (all 0 row refl)

pub nests_tail : (first : ℕ) (row : Row) (rows : List Row) → NestsFrom first (row ∷ rows) → NestsFrom (first + 1) rows
unfolding NestsFrom
nests_tail first row rows all i other is = subst (λ (n : ℕ). ChildrenBelow n other) (omega arith) (all (suc i) other is)

pub nests_append : (xs ys : List Row) (first : ℕ) → NestsFrom first xs → NestsFrom (first + length xs) ys → NestsFrom first (xs ++ ys)
nests_append [] ys first here behind = subst (λ (n : ℕ). NestsFrom n ys) (omega arith) behind
nests_append (x ∷ xs) ys first here behind =
    nests_cons first x (xs ++ ys) (nests_first first x xs here)
    (nests_append xs ys (first + 1) (nests_tail first x xs here) (subst (λ (n : ℕ). NestsFrom n ys) (omega arith) behind))
