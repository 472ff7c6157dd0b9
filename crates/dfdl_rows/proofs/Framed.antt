-- The rows that frame a content: how many they are, and what holds of each.
use Rattle.std.proofs.Common.{◌≡◌, ℕ, zero, suc, ◌+◌, ◌<◌, Bool, true, false, nat_lt, if◌then◌else◌, List, [], ◌∷◌, ◌++◌, length, All, Option, None, Some, ap, refl, arith, length-append}
use Rattle.std.proofs.lemmas.List.Elements.{All-nil, All-cons, All-append}
use Rattle.dfdl_terms.specs.declared.delimiters.Delimiter.{Delimiter}
use Rattle.dfdl_terms.specs.declared.framing.Framing.{Framing}
use Rattle.dfdl_terms.specs.declared.row.Row.{Row}
use Rattle.dfdl_terms.specs.declared.row.Row.TheVariants.{Group, Skip, Align, Initiator, Terminator, Statement}
use Rattle.dfdl_rows.specs.Framing.{has_framing, statements_from, statement_rows, skip_rows, align_rows, initiator_rows, terminator_rows, fill_rows, rows_before, rows_behind, in_group, framed, framed_row, framing_size}

-- the rows where something frames a content
abbrev pub filled : Framing → Option ℕ → ℕ → ℕ → List Row
filled f separators content first = rows_before f ++ (rows_behind f separators ++ Group (in_group f separators content first) ∷ [])

-- how many rows statements are
pub length_statements : (first count : ℕ) → length (statements_from first count) ≡ count
unfolding statements_from
length_statements first zero = refl
length_statements first (suc count) = omega (arith, length_statements (first + 1) count)

-- with something that frames it and without
pub framed_cases : (f : Framing) (separators : Option ℕ) (content first : ℕ) (P : List Row → ℕ → ℕ → Type 0)
    → (has_framing f ≡ false → P [] content 0)
    → (has_framing f ≡ true → P (filled f separators content first) (first + length (rows_before f) + length (rows_behind f separators)) (length (rows_before f) + length (rows_behind f separators) + 1))
    → P (framed f separators content first) (framed_row f separators content first) (framing_size f separators)
unfolding framed framed_row framing_size
framed_cases f separators content first P none some =
    (elim (has_framing f) as (λ (b : Bool). has_framing f ≡ b → P (if b then filled f separators content first else [])
    (if b then first + length (rows_before f) + length (rows_behind f separators) else content) (if b then length (rows_before f) + length (rows_behind f separators) + 1 else 0)) [
      | true ↦ some
      | false ↦ none
    ]) refl

pub unframed : (f : Framing) (separators : Option ℕ) (content first : ℕ) → has_framing f ≡ false → framed f separators content first ≡ []
unfolding framed
unframed f separators content first none = ap (λ (b : Bool). if b then filled f separators content first else []) none

pub unframed_row : (f : Framing) (separators : Option ℕ) (content first : ℕ) → has_framing f ≡ false → framed_row f separators content first ≡ content
unfolding framed_row
unframed_row f separators content first none = ap (λ (b : Bool). if b then first + length (rows_before f) + length (rows_behind f separators) else content) none

length_filled : (f : Framing) (separators : Option ℕ) (content first : ℕ) → length (filled f separators content first) ≡ length (rows_before f) + length (rows_behind f separators) + 1
length_filled f separators content first =
    let group : List Row = Group (in_group f separators content first) ∷ [] in
    let whole : length (filled f separators content first) ≡ length (rows_before f) + length (rows_behind f separators ++ Group (in_group f separators content first) ∷ [])
    = length-append (rows_before f) (rows_behind f separators ++ Group (in_group f separators content first) ∷ []) in
    let rest : length (rows_behind f separators ++ Group (in_group f separators content first) ∷ []) ≡ length (rows_behind f separators) + 1
    = length-append (rows_behind f separators) (Group (in_group f separators content first) ∷ []) in
    omega (arith, whole, rest)

pub length_framed : (f : Framing) (separators : Option ℕ) (content first : ℕ) → length (framed f separators content first) ≡ framing_size f separators
length_framed f separators content first = framed_cases f separators content first (λ rows whole size. length rows ≡ size) (λ none. refl) (λ some. length_filled f separators content first)

-- the row of the whole is the last one, that of the content where nothing frames it
pub framed_end : (f : Framing) (separators : Option ℕ) (content first : ℕ) → content + 1 ≡ first → framed_row f separators content first + 1 ≡ first + framing_size f separators
framed_end f separators content first is = framed_cases f separators content first (λ rows whole size. whole + 1 ≡ first + size)
    (λ none. omega (arith, is)) (λ some. omega arith)

pub framed_below : (f : Framing) (separators : Option ℕ) (content first : ℕ) → content < first → framed_row f separators content first < first + framing_size f separators
framed_below f separators content first less = framed_cases f separators content first (λ rows whole size. whole < first + size)
    (λ none. omega (arith, less)) (λ some. omega arith)

-- what holds of fill and of groups, and of the delimiters that there are
module _ (P : Row → Type 0) (skips : (bits : ℕ) → P (Skip bits)) (aligns : (bits : ℕ) → P (Align bits)) where
  skip_all : (bits : ℕ) → All P (skip_rows bits)
  skip_all bits = elim (nat_lt 0 bits) as (λ (b : Bool). All P (if b then Skip bits ∷ [] else [])) [
    | true ↦ All-cons P (Skip bits) [] (skips bits) (All-nil P)
    | false ↦ All-nil P
  ]

  align_all : (bits : ℕ) → All P (align_rows bits)
  align_all bits = elim (nat_lt 1 bits) as (λ (b : Bool). All P (if b then Align bits ∷ [] else [])) [
    | true ↦ All-cons P (Align bits) [] (aligns bits) (All-nil P)
    | false ↦ All-nil P
  ]

  initiator_all : (d : Option Delimiter) → ((own : Delimiter) → d ≡ Some own → P (Initiator own)) → All P (initiator_rows d)
  initiator_all None holds = All-nil P
  initiator_all (Some own) holds = All-cons P (Initiator own) [] (holds own refl) (All-nil P)

  terminator_all : (d : Option Delimiter) (separators : Option ℕ) → ((own : Delimiter) → d ≡ Some own → P (Terminator own separators))
      → All P (terminator_rows d separators)
  terminator_all None separators holds = All-nil P
  terminator_all (Some own) separators holds = All-cons P (Terminator own separators) [] (holds own refl) (All-nil P)

  statements_all : (first count : ℕ) → ((statement : ℕ) → statement < first + count → P (Statement statement)) → All P (statements_from first count)
  unfolding statements_from
  statements_all first zero holds = All-nil P
  statements_all first (suc count) holds =
      All-cons P (Statement first) (statements_from (first + 1) count) (holds first (omega arith))
      (statements_all (first + 1) count (λ statement less. holds statement (omega (arith, less))))

  module _ (f : Framing) (separators : Option ℕ) (tests : (statement : ℕ) → statement < f.before.first + f.before.count → P (Statement statement))
      (settings : (statement : ℕ) → statement < f.settings.first + f.settings.count → P (Statement statement))
      (initiators : (own : Delimiter) → f.initiator ≡ Some own → P (Initiator own))
      (terminators : (own : Delimiter) → f.terminator ≡ Some own → P (Terminator own separators)) where
    pub before_all : All P (rows_before f)
    before_all =
        All-append P (statement_rows f.before) (statement_rows f.settings ++ fill_rows f) (statements_all f.before.first f.before.count tests)
        (All-append P (statement_rows f.settings) (fill_rows f) (statements_all f.settings.first f.settings.count settings)
        (All-append P (skip_rows f.leading_skip) (align_rows f.alignment ++ initiator_rows f.initiator) (skip_all f.leading_skip)
        (All-append P (align_rows f.alignment) (initiator_rows f.initiator) (align_all f.alignment) (initiator_all f.initiator initiators))))

    pub behind_all : All P (rows_behind f separators)
    behind_all = All-append P (terminator_rows f.terminator separators) (skip_rows f.trailing_skip) (terminator_all f.terminator separators terminators) (skip_all f.trailing_skip)

    pub framed_all : ((children : List ℕ) → P (Group children)) → (content first : ℕ) → All P (framed f separators content first)
    framed_all groups content first = framed_cases f separators content first (λ rows whole size. All P rows) (λ none. All-nil P)
        (λ some. All-append P (rows_before f) (rows_behind f separators ++ Group (in_group f separators content first) ∷ []) before_all
        (All-append P (rows_behind f separators) (Group (in_group f separators content first) ∷ []) behind_all
        (All-cons P (Group (in_group f separators content first)) [] (groups (in_group f separators content first)) (All-nil P))))
