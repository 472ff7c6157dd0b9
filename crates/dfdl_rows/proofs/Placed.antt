-- Rows that stand in a longer list from a number on, and what a content reads there with what frames it.
use Rattle.std.proofs.Common.{◌≡◌, ℕ, zero, suc, ◌+◌, ◌<◌, Option, List, [], ◌∷◌, ◌++◌, length, slice_get, Some, ap, subst, ◌∙◌, refl, arith}
use Rattle.std.proofs.lemmas.Option.{slice_get_within}
use Rattle.dfdl_terms.specs.Leaves.{ReadsBy, grouped}
use Rattle.dfdl_terms.specs.declared.framing.Framing.{Framing}
use Rattle.dfdl_terms.specs.declared.row.Row.{Row}
use Rattle.dfdl_terms.specs.declared.row.Row.TheVariants.{Group}
use Rattle.dfdl_rows.specs.Framing.{rows_before, rows_behind, numbers, in_group, framed, framed_row}
use Rattle.dfdl_rows.proofs.Framed.{filled, framed_cases}

pub left : {A : Type 0} (xs ys : List A) (i : ℕ) → i < length xs → slice_get (xs ++ ys) i ≡ slice_get xs i
left [] ys i less = absurd (omega (arith, less))
left (x ∷ xs) ys zero less = refl
left (x ∷ xs) ys (suc i) less = left xs ys i (omega (arith, less))

pub right : {A : Type 0} (xs ys : List A) (i : ℕ) → slice_get (xs ++ ys) (length xs + i) ≡ slice_get ys i
right [] ys i = ap (slice_get ys) (omega arith)
right (x ∷ xs) ys i =
    let same : length (x ∷ xs) + i ≡ suc (length xs + i) = omega arith in
    ap (slice_get (x ∷ (xs ++ ys))) same ∙ right xs ys i

pub seam : {A : Type 0} (xs : List A) (y : A) (ys : List A) → slice_get (xs ++ y ∷ ys) (length xs) ≡ Some y
seam [] y ys = refl
seam (x ∷ xs) y ys = seam xs y ys

pub nothing_there : {A : Type 0} (i : ℕ) (x : A) → slice_get [] i ≡ Some x → ⊥
nothing_there i x is = let less = slice_get_within [] i x is in absurd (omega (arith, less))

-- the rows stand in all rows from a number on
abbrev pub Sits : List Row → ℕ → List Row → Type 0
Sits all first rows = (i : ℕ) (row : Row) → slice_get rows i ≡ Some row → slice_get all (first + i) ≡ Some row

pub sits_left : (all : List Row) (first : ℕ) (xs ys : List Row) → Sits all first (xs ++ ys) → Sits all first xs
sits_left all first xs ys sits i row is = sits i row (left xs ys i (slice_get_within xs i row is) ∙ is)

pub sits_right : (all : List Row) (first : ℕ) (xs ys : List Row) → Sits all first (xs ++ ys) → Sits all (first + length xs) ys
sits_right all first xs ys sits i row is =
    let same : first + (length xs + i) ≡ first + length xs + i = omega arith in
    subst (λ (n : ℕ). slice_get all n ≡ Some row) same (sits (length xs + i) row (right xs ys i ∙ is))

pub sits_first : (all : List Row) (first : ℕ) (row : Row) (rows : List Row) → Sits all first (row ∷ rows) → slice_get all first ≡ Some row
sits_first all first row rows sits =
    let same : first + 0 ≡ first = omega arith in
    subst (λ (n : ℕ). slice_get all n ≡ Some row) same (sits 0 row refl)

pub sits_tail : (all : List Row) (first : ℕ) (row : Row) (rows : List Row) → Sits all first (row ∷ rows) → Sits all (first + 1) rows
sits_tail all first row rows sits i other is =
    let same : first + suc i ≡ first + 1 + i = omega arith in
    subst (λ (n : ℕ). slice_get all n ≡ Some other) same (sits (suc i) other is)

-- what the content reads, the group of it and what frames it does too
module _ (all : List Row) (IsOne IsCalculation : ℕ → Type 0) (f : Framing) (separators : Option ℕ) (content first : ℕ) where
  group_there : Sits all first (filled f separators content first)
      → slice_get all (first + length (rows_before f) + length (rows_behind f separators)) ≡ Some (Group (in_group f separators content first))
  group_there sits =
      let behind : Sits all (first + length (rows_before f)) (rows_behind f separators ++ Group (in_group f separators content first) ∷ [])
      = sits_right all first (rows_before f) (rows_behind f separators ++ Group (in_group f separators content first) ∷ []) sits in
      behind (length (rows_behind f separators)) (Group (in_group f separators content first)) (seam (rows_behind f separators) (Group (in_group f separators content first)) [])

  pub framed_reads : Sits all first (framed f separators content first) → ReadsBy all IsOne IsCalculation content → ReadsBy all IsOne IsCalculation (framed_row f separators content first)
  framed_reads = framed_cases f separators content first (λ rows whole size. Sits all first rows → ReadsBy all IsOne IsCalculation content → ReadsBy all IsOne IsCalculation whole)
      (λ none sits reads. reads)
      (λ some sits reads. grouped (first + length (rows_before f) + length (rows_behind f separators)) (length (numbers (rows_before f) first)) content (in_group f separators content first)
      (group_there sits) (seam (numbers (rows_before f) first) content (numbers (rows_behind f separators) (first + length (rows_before f)))) reads)
