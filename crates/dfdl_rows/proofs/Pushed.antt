-- The rows that frame a content are pushed, a row at a time.
use Rattle.std.proofs.Common.{Option, ◌≡◌, ℕ, suc, ◌+◌, ◌-◌, ◌<◌, ◌≤◌, Bool, true, false, if◌then◌else◌, List, [], ◌∷◌, ◌++◌, length, sym, ap, ◌∙◌, arith, append_assoc, length-append}
use Rattle.std.proofs.lemmas.List.{append-nil}
use Rattle.dfdl_terms.specs.declared.framing.Framing.{Framing}
use Rattle.dfdl_terms.specs.declared.row.Row.{Row}
use Rattle.dfdl_terms.specs.declared.row.Row.TheVariants.{Group, Statement}
use Rattle.dfdl_rows.specs.Framing.{has_framing, statements_from, statement_rows, skip_rows, align_rows, initiator_rows, terminator_rows, fill_rows, rows_before, rows_behind, numbers, in_group, framed, framed_row, framing_size}
use Rattle.dfdl_rows.proofs.Framed.{filled, length_statements, unframed}

-- where nothing frames a content
pub none_size : (f : Framing) (separators : Option ℕ) → has_framing f ≡ false → 0 ≡ framing_size f separators
unfolding framing_size
none_size f separators none = sym (ap (λ (b : Bool). if b then length (rows_before f) + length (rows_behind f separators) + 1 else 0) none)

pub none_pushed : (f : Framing) (separators : Option ℕ) (content first : ℕ) (rows : List Row) → has_framing f ≡ false → rows ≡ rows ++ framed f separators content first
none_pushed f separators content first rows none = sym (append-nil rows) ∙ ap (λ (own : List Row). rows ++ own) (sym (unframed f separators content first none))

-- where something does
framed_is : (f : Framing) (separators : Option ℕ) (content first : ℕ) → has_framing f ≡ true → framed f separators content first ≡ filled f separators content first
unfolding framed
framed_is f separators content first some = ap (λ (b : Bool). if b then filled f separators content first else []) some

row_is : (f : Framing) (separators : Option ℕ) (content first : ℕ) → has_framing f ≡ true → framed_row f separators content first ≡ first + length (rows_before f) + length (rows_behind f separators)
unfolding framed_row
row_is f separators content first some = ap (λ (b : Bool). if b then first + length (rows_before f) + length (rows_behind f separators) else content) some

size_is : (f : Framing) (separators : Option ℕ) → has_framing f ≡ true → framing_size f separators ≡ length (rows_before f) + length (rows_behind f separators) + 1
unfolding framing_size
size_is f separators some = ap (λ (b : Bool). if b then length (rows_before f) + length (rows_behind f separators) + 1 else 0) some

pub some_size : (f : Framing) (separators : Option ℕ) (before behind : ℕ) → has_framing f ≡ true → before ≡ length (rows_before f) → behind ≡ length (rows_behind f separators)
    → before + behind + 1 ≡ framing_size f separators
some_size f separators before behind some befores behinds = omega (arith, befores, behinds, size_is f separators some)

pub before_size : (f : Framing) (tests settings leading align initiator : ℕ) → tests ≡ length (statement_rows f.before) → settings ≡ length (statement_rows f.settings)
    → leading ≡ length (skip_rows f.leading_skip) → align ≡ length (align_rows f.alignment) → initiator ≡ length (initiator_rows f.initiator)
    → tests + settings + (leading + align) + initiator ≡ length (rows_before f)
before_size f tests settings leading align initiator tested set leads aligns begins =
    let rest : length (align_rows f.alignment ++ initiator_rows f.initiator) ≡ length (align_rows f.alignment) + length (initiator_rows f.initiator)
    = length-append (align_rows f.alignment) (initiator_rows f.initiator) in
    let fill : length (fill_rows f) ≡ length (skip_rows f.leading_skip) + length (align_rows f.alignment ++ initiator_rows f.initiator)
    = length-append (skip_rows f.leading_skip) (align_rows f.alignment ++ initiator_rows f.initiator) in
    let inner : length (statement_rows f.settings ++ fill_rows f) ≡ length (statement_rows f.settings) + length (fill_rows f)
    = length-append (statement_rows f.settings) (fill_rows f) in
    let whole : length (rows_before f) ≡ length (statement_rows f.before) + length (statement_rows f.settings ++ fill_rows f)
    = length-append (statement_rows f.before) (statement_rows f.settings ++ fill_rows f) in
    omega (arith, tested, set, leads, aligns, begins, rest, fill, inner, whole)

-- the first of the statements that are left
module _ (first count behind : ℕ) where
  statements_step : behind < count → statements_from (first + behind) (count - behind) ≡ Statement (first + behind) ∷ statements_from (first + (behind + 1)) (count - (behind + 1))
  unfolding statements_from
  statements_step less =
      let more : count - behind ≡ suc (count - (behind + 1)) = omega (arith, less) in
      let next : first + behind + 1 ≡ first + (behind + 1) = omega arith in
      ap (statements_from (first + behind)) more ∙ ap (λ (n : ℕ). Statement (first + behind) ∷ statements_from n (count - (behind + 1))) next

  statements_end : count ≤ behind → statements_from (first + behind) (count - behind) ≡ []
  unfolding statements_from
  statements_end all =
      let none : count - behind ≡ 0 = omega (arith, all) in
      ap (statements_from (first + behind)) none

  -- one is pushed
  module _ (statement : ℕ) (rows next whole : List Row) (is : statement ≡ first + behind) (less : behind < count) (next_is : next ≡ rows ++ Statement statement ∷ []) where
    pub statement_rows_more : rows ++ statements_from (first + behind) (count - behind) ≡ whole → next ++ statements_from (first + (behind + 1)) (count - (behind + 1)) ≡ whole
    statement_rows_more same =
        let rest : List Row = statements_from (first + (behind + 1)) (count - (behind + 1)) in
        ap (λ (rs : List Row). rs ++ rest) next_is
        ∙ (append_assoc rows (Statement statement ∷ []) rest
        ∙ (ap (λ (n : ℕ). rows ++ Statement n ∷ rest) is
        ∙ (ap (λ (rs : List Row). rows ++ rs) (sym (statements_step less)) ∙ same)))

    pub statement_numbers_more : (g h all : List ℕ) → h ≡ g ++ length rows ∷ [] → g ++ numbers (statements_from (first + behind) (count - behind)) (length rows) ≡ all
        → h ++ numbers (statements_from (first + (behind + 1)) (count - (behind + 1))) (length next) ≡ all
    statement_numbers_more g h all h_is same =
        let rest : List Row = statements_from (first + (behind + 1)) (count - (behind + 1)) in
        let long : length next ≡ length rows + 1 = ap (λ (rs : List Row). length rs) next_is ∙ length-append rows (Statement statement ∷ []) in
        ap (λ (ns : List ℕ). ns ++ numbers rest (length next)) h_is
        ∙ (ap (λ (n : ℕ). (g ++ length rows ∷ []) ++ numbers rest n) long
        ∙ (append_assoc g (length rows ∷ []) (numbers rest (length rows + 1))
        ∙ (ap (λ (rs : List Row). g ++ numbers rs (length rows)) (sym (statements_step less)) ∙ same)))

  -- all are pushed
  pub statement_rows_all : (rows whole : List Row) → count ≤ behind → rows ++ statements_from (first + behind) (count - behind) ≡ whole → rows ≡ whole
  statement_rows_all rows whole all same = sym (append-nil rows) ∙ (ap (λ (rs : List Row). rows ++ rs) (sym (statements_end all)) ∙ same)

  pub statement_numbers_all : (g all : List ℕ) (from : ℕ) → count ≤ behind → g ++ numbers (statements_from (first + behind) (count - behind)) from ≡ all → g ≡ all
  statement_numbers_all g whole from all same = sym (append-nil g) ∙ (ap (λ (rs : List Row). g ++ numbers rs from) (sym (statements_end all)) ∙ same)

  -- there is room for one
  pub statements_few : (rows old : List Row) (most : ℕ) → behind < count → rows ++ statements_from (first + behind) (count - behind) ≡ old ++ statements_from first count
      → length old + length (statements_from first count) < most → length rows < most
  statements_few rows old most less same few =
      let long : length (rows ++ statements_from (first + behind) (count - behind)) ≡ length (old ++ statements_from first count) = ap (λ (rs : List Row). length rs) same in
      omega (
        arith,
        few,
        less,
        long,
        length-append rows (statements_from (first + behind) (count - behind)),
        length-append old (statements_from first count),
        length_statements (first + behind) (count - behind),
        length_statements first count,
      )

pub behind_size : (f : Framing) (separators : Option ℕ) (terminator trailing : ℕ) → terminator ≡ length (terminator_rows f.terminator separators) → trailing ≡ length (skip_rows f.trailing_skip)
    → terminator + trailing ≡ length (rows_behind f separators)
behind_size f separators terminator trailing ends trails =
    let whole : length (rows_behind f separators) ≡ length (terminator_rows f.terminator separators) + length (skip_rows f.trailing_skip)
    = length-append (terminator_rows f.terminator separators) (skip_rows f.trailing_skip) in
    omega (arith, ends, trails, whole)

numbers_append : (xs ys : List Row) (first : ℕ) → numbers (xs ++ ys) first ≡ numbers xs first ++ numbers ys (first + length xs)
numbers_append [] ys first = ap (numbers ys) (omega arith)
numbers_append (x ∷ xs) ys first =
    let same : first + 1 + length xs ≡ first + length (x ∷ xs) = omega arith in
    ap (λ (ns : List ℕ). first ∷ ns) (numbers_append xs ys (first + 1) ∙ ap (λ (n : ℕ). numbers xs (first + 1) ++ numbers ys n) same)

-- rows are added, and then others
module _ (rows xs ys next : List Row) (next_is : next ≡ rows ++ xs) where
  next_long : length next ≡ length rows + length xs
  next_long = ap (λ (rs : List Row). length rs) next_is ∙ length-append rows xs

  pub others_few : (most : ℕ) → length rows + length (xs ++ ys) < most → length next + length ys < most
  others_few most few = omega (arith, few, next_long, length-append xs ys)

  pub both_rows : (all : List Row) → all ≡ next ++ ys → all ≡ rows ++ (xs ++ ys)
  both_rows all is = is ∙ (ap (λ (rs : List Row). rs ++ ys) next_is ∙ append_assoc rows xs ys)

  pub both_numbers : (g h k : List ℕ) → h ≡ g ++ numbers xs (length rows) → k ≡ h ++ numbers ys (length next) → k ≡ g ++ numbers (xs ++ ys) (length rows)
  both_numbers g h k h_is k_is =
      k_is ∙ (ap (λ (ns : List ℕ). ns ++ numbers ys (length next)) h_is
      ∙ (ap (λ (n : ℕ). (g ++ numbers xs (length rows)) ++ numbers ys n) next_long
      ∙ (append_assoc g (numbers xs (length rows)) (numbers ys (length rows + length xs))
      ∙ ap (λ (ns : List ℕ). g ++ ns) (sym (numbers_append xs ys (length rows))))))

-- the rows before a content, and those behind it
pub before_few : (f : Framing) (separators : Option ℕ) (most : ℕ) (rows : List Row) → has_framing f ≡ true → length rows + framing_size f separators < most
    → length rows + length (rows_before f) < most
before_few f separators most rows some few = omega (arith, few, size_is f separators some)

module _ (f : Framing) (separators : Option ℕ) (content most : ℕ) (rows before : List Row) (some : has_framing f ≡ true) (few : length rows + framing_size f separators < most)
    (before_is : before ≡ rows ++ rows_before f) where
  before_long : length before ≡ length rows + length (rows_before f)
  before_long = ap (λ (rs : List Row). length rs) before_is ∙ length-append rows (rows_before f)

  pub behind_few : length before + length (rows_behind f separators) < most
  behind_few = omega (arith, few, size_is f separators some, before_long)

  module _ (behind : List Row) (behind_is : behind ≡ before ++ rows_behind f separators) where
    behind_long : length behind ≡ length before + length (rows_behind f separators)
    behind_long = ap (λ (rs : List Row). length rs) behind_is ∙ length-append before (rows_behind f separators)

    pub whole_few : length behind < most
    whole_few = omega (arith, few, size_is f separators some, before_long, behind_long)

    pub whole_row : (whole : ℕ) → whole ≡ length behind → whole ≡ framed_row f separators content (length rows)
    whole_row whole is =
        let ends : length behind ≡ length rows + length (rows_before f) + length (rows_behind f separators) = omega (arith, before_long, behind_long) in
        is ∙ (ends ∙ sym (row_is f separators content (length rows) some))

    -- the group's rows after each step
    module _ (g h k : List ℕ) (g_is : g ≡ numbers (rows_before f) (length rows)) (h_is : h ≡ g ++ content ∷ [])
        (k_is : k ≡ h ++ numbers (rows_behind f separators) (length before)) where
      group_is : k ≡ in_group f separators content (length rows)
      group_is =
          k_is ∙ (ap (λ (ns : List ℕ). ns ++ numbers (rows_behind f separators) (length before)) (h_is ∙ ap (λ (ns : List ℕ). ns ++ content ∷ []) g_is)
          ∙ (append_assoc (numbers (rows_before f) (length rows)) (content ∷ []) (numbers (rows_behind f separators) (length before))
          ∙ ap (λ (n : ℕ). numbers (rows_before f) (length rows) ++ content ∷ numbers (rows_behind f separators) n) before_long))

      pub whole_rows : (all : List Row) → all ≡ behind ++ Group k ∷ [] → all ≡ rows ++ framed f separators content (length rows)
      whole_rows all is =
          is ∙ (ap (λ (rs : List Row). rs ++ Group k ∷ []) (behind_is ∙ ap (λ (rs : List Row). rs ++ rows_behind f separators) before_is)
          ∙ (append_assoc (rows ++ rows_before f) (rows_behind f separators) (Group k ∷ [])
          ∙ (append_assoc rows (rows_before f) (rows_behind f separators ++ Group k ∷ [])
          ∙ (ap (λ (ns : List ℕ). rows ++ (rows_before f ++ (rows_behind f separators ++ Group ns ∷ []))) group_is
          ∙ ap (λ (own : List Row). rows ++ own) (sym (framed_is f separators content (length rows) some))))))
