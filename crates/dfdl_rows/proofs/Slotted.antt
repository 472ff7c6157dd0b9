-- What is made of the parts of a sequence: how many rows, what holds of each, and that they nest.
use Rattle.std.proofs.Common.{◌≡◌, ℕ, zero, suc, ◌+◌, ◌-◌, ◌<◌, ◌≤◌, Bool, true, false, if◌then◌else◌, ◌&&◌, ◌||◌, nat_lt, List, [], ◌∷◌, ◌++◌, length, get_or, drop, All, Option, None, Some, sym, ap, ◌∙◌, refl, arith, length-append}
use Rattle.std.proofs.lemmas.List.{append-nil}
use Rattle.std.proofs.lemmas.List.Elements.{All-nil, All-tail, All-cons, All-append}
use Rattle.dfdl_separators.specs.declared.policy.SeparatorPosition.{SeparatorPosition}
use Rattle.dfdl_separators.specs.declared.policy.SeparatorPosition.TheVariants.{Prefix, Infix, Postfix}
use Rattle.dfdl_terms.specs.declared.row.Row.{Row}
use Rattle.dfdl_terms.specs.declared.row.Row.TheVariants.{Group, Repeat, Counted, Optional, Separator}
use Rattle.dfdl_rows.specs.Times.{has_tried}
use Rattle.dfdl_rows.specs.declared.times.Times.{Times}
use Rattle.dfdl_rows.specs.Slots.{Laid, laid, lay, with_part, all_laid, laid_of, needed, begins, ends, row_if, separator_rows, separator_size, part_rows, rows_by, bounded_rows, part_size, part_size_by, bounded_size, parts_size, repeating_rows, repeating_size, required_rows, required_size, required_children, tried_rows, tried_size, laid_size, part_children, children_by, bounded_children, repeated, single, with_separators}
use Rattle.dfdl_rows.specs.declared.component.Separated.{Separated}
use Rattle.dfdl_rows.proofs.Nests.{NestsFrom, nests_none, nests_cons, nests_append}

-- what each part that occurs in some way keeps, all of them keep
pub lay_keeps : (P : Laid → Type 0) (Q : Times → Type 0) (initiated : Bool) (way : Option SeparatorPosition) (first : ℕ) (parts : List ℕ)
    → ((n : Times) (part : ℕ) (a : Laid) → Q n → P a → P (with_part initiated way first n part a)) → (slots : List Times) → All Q slots
    → (at : ℕ) (a : Laid) → P a → P (lay initiated way first parts slots at a)
unfolding lay
lay_keeps P Q initiated way first parts keeps [] all at a has = has
lay_keeps P Q initiated way first parts keeps (n ∷ slots) all at a has =
    lay_keeps P Q initiated way first parts keeps slots (All-tail Q n slots all) (at + 1) (with_part initiated way first n (get_or parts at 0) a)
    (keeps n (get_or parts at 0) a (all 0 n (omega arith)) has)

-- the same, where each part is one of some
pub lay_keeps_within : (P : Laid → Type 0) (initiated : Bool) (way : Option SeparatorPosition) (first : ℕ) (parts : List ℕ)
    → ((n : Times) (at : ℕ) → at < length parts → (a : Laid) → P a → P (with_part initiated way first n (get_or parts at 0) a))
    → (slots : List Times) (at : ℕ) (a : Laid) → at + length slots ≤ length parts → P a → P (lay initiated way first parts slots at a)
unfolding lay
lay_keeps_within P initiated way first parts keeps [] at a few has = has
lay_keeps_within P initiated way first parts keeps (n ∷ slots) at a few has =
    lay_keeps_within P initiated way first parts keeps slots (at + 1) (with_part initiated way first n (get_or parts at 0) a) (omega (arith, few))
    (keeps n at (omega (arith, few)) a has)

-- how many rows repeat a part
length_repeating : (way : Option SeparatorPosition) (separator n part from : ℕ) → length (repeating_rows way separator n part from) ≡ repeating_size way
length_repeating None separator n part from = refl
length_repeating (Some Prefix) separator n part from = refl
length_repeating (Some Infix) separator n part from = refl
length_repeating (Some Postfix) separator n part from = refl

length_required : (way : Option SeparatorPosition) (separator n part from : ℕ) → length (required_rows way separator n part from) ≡ required_size way n
length_required way separator n part from = by (nat_lt 1 n)
  where
    by : (b : Bool) → length (if b then repeating_rows way separator n part from else []) ≡ (if b then repeating_size way else 0)
    by true = length_repeating way separator n part from
    by false = refl

-- how many rows try a part
length_tried : (initiated : Bool) (n : Times) (part from : ℕ) → length (tried_rows initiated n part from) ≡ tried_size n
length_tried initiated n part from = by (nat_lt 0 n.least)
  where
    by : (b : Bool)
        → length (if b then Repeat n.least part ∷ Optional n.further n.is_item initiated part ∷ Group (from ∷ (from + 1) ∷ []) ∷ [] else Optional n.further n.is_item initiated part ∷ [])
        ≡ (if b then 3 else 1)
    by true = refl
    by false = refl

length_bounded : (initiated : Bool) (way : Option SeparatorPosition) (separator : ℕ) (n : Times) (part from : ℕ) → length (bounded_rows initiated way separator n part from) ≡ bounded_size way n
length_bounded initiated way separator n part from = by (has_tried n)
  where
    by : (b : Bool)
        → length (if b then tried_rows initiated n part from else required_rows way separator n.least part from) ≡ (if b then tried_size n else required_size way n.least)
    by true = length_tried initiated n part from
    by false = length_required way separator n.least part from

pub length_part : (initiated : Bool) (way : Option SeparatorPosition) (separator : ℕ) (n : Times) (part from : ℕ) → length (part_rows initiated way separator n part from) ≡ part_size way n
length_part initiated way separator n part from = by n.question
  where
    by : (question : Option ℕ) → length (rows_by question initiated way separator n part from) ≡ part_size_by question way n
    by None = length_bounded initiated way separator n part from
    by (Some question) = refl

-- how many rows are made
pub length_lay : (initiated : Bool) (way : Option SeparatorPosition) (first : ℕ) (parts : List ℕ) (slots : List Times) (at : ℕ) (a : Laid)
    → length (lay initiated way first parts slots at a).rows ≡ length a.rows + parts_size way slots
unfolding lay
length_lay initiated way first parts [] at a = omega arith
length_lay initiated way first parts (n ∷ slots) at a =
    let own : List Row = part_rows initiated way first n (get_or parts at 0) (first + length a.rows) in
    omega (
      arith,
      length_lay initiated way first parts slots (at + 1) (with_part initiated way first n (get_or parts at 0) a),
      length-append a.rows own,
      length_part initiated way first n (get_or parts at 0) (first + length a.rows),
    )

pub length_separators : (way : Option SeparatorPosition) → length (separator_rows way) ≡ separator_size way
length_separators None = refl
length_separators (Some position) = refl

pub length_laid : (initiated : Bool) (separated : Option Separated) (slots : List Times) (parts : List ℕ) (first : ℕ)
    → length (laid_of initiated separated slots parts first).rows ≡ laid_size separated slots
length_laid initiated separated slots parts first =
    let way : Option SeparatorPosition = needed separated slots in
    omega (arith, length_lay initiated way first parts slots 0 (laid (separator_rows way) [] false), length_separators way)

-- this holds of the row of a part that is repeated as often as a question tells
abbrev pub HoldsCounted : (Row → Type 0) → Times → Type 0
HoldsCounted P n = (question body : ℕ) → n.question ≡ Some question → P (Counted question body)

-- what holds of each row
module _ (P : Row → Type 0) (own : P Separator) (group : (children : List ℕ) → P (Group children)) (repeat : (count body : ℕ) → P (Repeat count body))
    (optional : (most : ℕ) (item initiated : Bool) (body : ℕ) → P (Optional most item initiated body)) where
  repeating_all : (way : Option SeparatorPosition) (separator n part from : ℕ) → All P (repeating_rows way separator n part from)
  repeating_all None separator n part from = All-cons P (Repeat n part) [] (repeat n part) (All-nil P)
  repeating_all (Some Prefix) separator n part from =
      All-cons P (Group (separator ∷ part ∷ [])) (Repeat n from ∷ []) (group (separator ∷ part ∷ [])) (All-cons P (Repeat n from) [] (repeat n from) (All-nil P))
  repeating_all (Some Infix) separator n part from =
      All-cons P (Group (separator ∷ part ∷ [])) (Repeat (n - 1) from ∷ []) (group (separator ∷ part ∷ []))
      (All-cons P (Repeat (n - 1) from) [] (repeat (n - 1) from) (All-nil P))
  repeating_all (Some Postfix) separator n part from =
      All-cons P (Group (part ∷ separator ∷ [])) (Repeat n from ∷ []) (group (part ∷ separator ∷ [])) (All-cons P (Repeat n from) [] (repeat n from) (All-nil P))

  tried_all : (initiated : Bool) (n : Times) (part from : ℕ) → All P (tried_rows initiated n part from)
  tried_all initiated n part from = by (nat_lt 0 n.least)
    where
      last : (rows : List Row) → All P rows → All P (Optional n.further n.is_item initiated part ∷ rows)
      last rows all = All-cons P (Optional n.further n.is_item initiated part) rows (optional n.further n.is_item initiated part) all

      by : (b : Bool)
          → All P (if b then Repeat n.least part ∷ Optional n.further n.is_item initiated part ∷ Group (from ∷ (from + 1) ∷ []) ∷ [] else Optional n.further n.is_item initiated part ∷ [])
      by true =
          All-cons P (Repeat n.least part) (Optional n.further n.is_item initiated part ∷ Group (from ∷ (from + 1) ∷ []) ∷ []) (repeat n.least part)
          (last (Group (from ∷ (from + 1) ∷ []) ∷ []) (All-cons P (Group (from ∷ (from + 1) ∷ [])) [] (group (from ∷ (from + 1) ∷ [])) (All-nil P)))
      by false = last [] (All-nil P)

  required_all : (way : Option SeparatorPosition) (separator n part from : ℕ) → All P (required_rows way separator n part from)
  required_all way separator n part from = by (nat_lt 1 n)
    where
      by : (b : Bool) → All P (if b then repeating_rows way separator n part from else [])
      by true = repeating_all way separator n part from
      by false = All-nil P

  bounded_all : (initiated : Bool) (way : Option SeparatorPosition) (separator : ℕ) (n : Times) (part from : ℕ) → All P (bounded_rows initiated way separator n part from)
  bounded_all initiated way separator n part from = by (has_tried n)
    where
      by : (b : Bool) → All P (if b then tried_rows initiated n part from else required_rows way separator n.least part from)
      by true = tried_all initiated n part from
      by false = required_all way separator n.least part from

  part_all : (initiated : Bool) (way : Option SeparatorPosition) (separator : ℕ) (n : Times) (part from : ℕ) → HoldsCounted P n → All P (part_rows initiated way separator n part from)
  part_all initiated way separator n part from counted = by n.question counted
    where
      by : (question : Option ℕ) → ((own body : ℕ) → question ≡ Some own → P (Counted own body)) → All P (rows_by question initiated way separator n part from)
      by None holds = bounded_all initiated way separator n part from
      by (Some question) holds = All-cons P (Counted question part) [] (holds question part refl) (All-nil P)

  separators_all : (way : Option SeparatorPosition) → All P (separator_rows way)
  separators_all None = All-nil P
  separators_all (Some position) = All-cons P Separator [] own (All-nil P)

  pub laid_all : (initiated : Bool) (separated : Option Separated) (slots : List Times) → All (HoldsCounted P) slots → (parts : List ℕ) (first : ℕ)
      → All P (laid_of initiated separated slots parts first).rows
  laid_all initiated separated slots counted parts first =
      let way : Option SeparatorPosition = needed separated slots in
      lay_keeps (λ a. All P a.rows) (HoldsCounted P) initiated way first parts
      (λ n part a holds has. All-append P a.rows (part_rows initiated way first n part (first + length a.rows)) has (part_all initiated way first n part (first + length a.rows) holds))
      slots counted 0 (laid (separator_rows way) [] false) (separators_all way)

-- the part occurs once or never, and none of its occurrences is tried or told by a question
pub record IsSingle (n : Times) : Type 0 where
  pub few : n.least ≤ 1
  pub untried : n.further ≡ 0
  pub untold : n.question ≡ None

-- without separators, parts that occur more than once and those that are tried there are no rows
pub none_laid : (initiated : Bool) (slots : List Times) (parts : List ℕ) (first : ℕ) → All IsSingle slots → (laid_of initiated None slots parts first).rows ≡ []
unfolding lay
none_laid initiated slots parts first few = all slots 0 (laid [] [] false) few
  where
    one : (n part from : ℕ) → n ≤ 1 → required_rows None first n part from ≡ []
    one zero part from low = refl
    one (suc zero) part from low = refl
    one (suc (suc n)) part from low = absurd (omega (arith, low))

    single_rows : (n : Times) (part from : ℕ) → IsSingle n → part_rows initiated None first n part from ≡ []
    single_rows n part from is =
        ap (λ (question : Option ℕ). rows_by question initiated None first n part from) is.untold
        ∙ ap (λ (k : ℕ). if nat_lt 0 k then tried_rows initiated n part from else required_rows None first n.least part from) is.untried
        ∙ one n.least part from is.few

    all : (ns : List Times) (at : ℕ) (a : Laid) → All IsSingle ns → (lay initiated None first parts ns at a).rows ≡ a.rows
    all [] at a low = refl
    all (n ∷ ns) at a low =
        all ns (at + 1) (with_part initiated None first n (get_or parts at 0) a) (All-tail IsSingle n ns low)
        ∙ (ap (λ (rows : List Row). a.rows ++ rows) (single_rows n (get_or parts at 0) (first + length a.rows) (low 0 n (omega arith)))
        ∙ append-nil a.rows)

-- the row of separators, where there are some, stands below a number
abbrev pub SeparatorBelow : Option SeparatorPosition → ℕ → ℕ → Type 0
SeparatorBelow None separator bound = Unit {0}
SeparatorBelow (Some position) separator bound = separator < bound

below_more : (way : Option SeparatorPosition) (separator bound more : ℕ) → bound ≤ more → SeparatorBelow way separator bound → SeparatorBelow way separator more
below_more None separator bound more few low = tt
below_more (Some position) separator bound more few low = omega (arith, few, low)

-- the rows that repeat a part nest
module _ (separator part from : ℕ) (low : part < from) where
  pairs_below : separator < from → (All (λ c. c < from) (separator ∷ part ∷ [])) × (All (λ c. c < from) (part ∷ separator ∷ []))
  pairs_below own = (
    All-cons (λ c. c < from) separator (part ∷ []) own (All-cons (λ c. c < from) part [] low (All-nil (λ c. c < from))),
    All-cons (λ c. c < from) part (separator ∷ []) low (All-cons (λ c. c < from) separator [] own (All-nil (λ c. c < from))),
  )

  nests_pair : (children : List ℕ) (count : ℕ) → All (λ c. c < from) children → NestsFrom from (Group children ∷ Repeat count from ∷ [])
  nests_pair children count all =
      nests_cons from (Group children) (Repeat count from ∷ []) all (nests_cons (from + 1) (Repeat count from) [] (omega arith) (nests_none (from + 1 + 1)))

  nests_repeating : (way : Option SeparatorPosition) (n : ℕ) → SeparatorBelow way separator from → NestsFrom from (repeating_rows way separator n part from)
  nests_repeating None n own = nests_cons from (Repeat n part) [] low (nests_none (from + 1))
  nests_repeating (Some Prefix) n own = nests_pair (separator ∷ part ∷ []) n (pairs_below own).0
  nests_repeating (Some Infix) n own = nests_pair (separator ∷ part ∷ []) (n - 1) (pairs_below own).0
  nests_repeating (Some Postfix) n own = nests_pair (part ∷ separator ∷ []) n (pairs_below own).1

  nests_tried : (initiated : Bool) (n : Times) → NestsFrom from (tried_rows initiated n part from)
  nests_tried initiated n = by (nat_lt 0 n.least)
    where
      pair : All (λ c. c < from + 1 + 1) (from ∷ (from + 1) ∷ [])
      pair = All-cons (λ c. c < from + 1 + 1) from ((from + 1) ∷ []) (omega arith)
          (All-cons (λ c. c < from + 1 + 1) (from + 1) [] (omega arith) (All-nil (λ c. c < from + 1 + 1)))

      by : (b : Bool)
          → NestsFrom from (if b then Repeat n.least part ∷ Optional n.further n.is_item initiated part ∷ Group (from ∷ (from + 1) ∷ []) ∷ [] else Optional n.further n.is_item initiated part ∷ [])
      by true =
          nests_cons from (Repeat n.least part) (Optional n.further n.is_item initiated part ∷ Group (from ∷ (from + 1) ∷ []) ∷ []) low
          (nests_cons (from + 1) (Optional n.further n.is_item initiated part) (Group (from ∷ (from + 1) ∷ []) ∷ []) (omega (arith, low))
          (nests_cons (from + 1 + 1) (Group (from ∷ (from + 1) ∷ [])) [] pair (nests_none (from + 1 + 1 + 1))))
      by false = nests_cons from (Optional n.further n.is_item initiated part) [] low (nests_none (from + 1))

  nests_required : (way : Option SeparatorPosition) (n : ℕ) → SeparatorBelow way separator from → NestsFrom from (required_rows way separator n part from)
  nests_required way n own = by (nat_lt 1 n)
    where
      by : (b : Bool) → NestsFrom from (if b then repeating_rows way separator n part from else [])
      by true = nests_repeating way n own
      by false = nests_none from

  nests_bounded : (initiated : Bool) (way : Option SeparatorPosition) (n : Times) → SeparatorBelow way separator from → NestsFrom from (bounded_rows initiated way separator n part from)
  nests_bounded initiated way n own = by (has_tried n)
    where
      by : (b : Bool) → NestsFrom from (if b then tried_rows initiated n part from else required_rows way separator n.least part from)
      by true = nests_tried initiated n
      by false = nests_required way n.least own

  nests_part : (initiated : Bool) (way : Option SeparatorPosition) (n : Times) → SeparatorBelow way separator from → NestsFrom from (part_rows initiated way separator n part from)
  nests_part initiated way n own = by n.question
    where
      by : (question : Option ℕ) → NestsFrom from (rows_by question initiated way separator n part from)
      by None = nests_bounded initiated way n own
      by (Some question) = nests_cons from (Counted question part) [] low (nests_none (from + 1))

-- the rows of the group stand below a number
module _ (separator part bound : ℕ) (low : part < bound) where
  if_below : (stands : Bool) → separator < bound → All (λ k. k < bound) (row_if stands separator)
  if_below true own = All-cons (λ k. k < bound) separator [] own (All-nil (λ k. k < bound))
  if_below false own = All-nil (λ k. k < bound)

  with_below : (position : SeparatorPosition) (taken slot : Bool) → separator < bound → All (λ k. k < bound) (with_separators position separator taken slot part)
  with_below position taken slot own =
      All-append (λ k. k < bound) (row_if (slot && begins position taken) separator) (part ∷ row_if (slot && ends position) separator)
      (if_below (slot && begins position taken) own)
      (All-cons (λ k. k < bound) part (row_if (slot && ends position) separator) low (if_below (slot && ends position) own))

  single_below : (way : Option SeparatorPosition) (taken slot : Bool) → SeparatorBelow way separator bound → All (λ k. k < bound) (single way separator taken slot part)
  single_below None taken slot own = All-cons (λ k. k < bound) part [] low (All-nil (λ k. k < bound))
  single_below (Some position) taken slot own = with_below position taken slot own

  only_below : (k : ℕ) → k < bound → All (λ k. k < bound) (k ∷ [])
  only_below k less = All-cons (λ k. k < bound) k [] less (All-nil (λ k. k < bound))

  repeated_below : (way : Option SeparatorPosition) (taken : Bool) (from : ℕ) → SeparatorBelow way separator bound → from + repeating_size way ≤ bound
      → All (λ k. k < bound) (repeated way separator taken part from)
  repeated_below None taken from own few = only_below from (omega (arith, few))
  repeated_below (Some Prefix) taken from own few = only_below (from + 1) (omega (arith, few))
  repeated_below (Some Infix) taken from own few =
      All-append (λ k. k < bound) (row_if taken separator) (part ∷ (from + 1) ∷ []) (if_below taken own)
      (All-cons (λ k. k < bound) part ((from + 1) ∷ []) low (only_below (from + 1) (omega (arith, few))))
  repeated_below (Some Postfix) taken from own few = only_below (from + 1) (omega (arith, few))

  required_below : (way : Option SeparatorPosition) (taken : Bool) (n from : ℕ) → SeparatorBelow way separator bound → from + required_size way n ≤ bound
      → All (λ k. k < bound) (required_children way separator taken n part from)
  required_below way taken n from own = by (nat_lt 1 n)
    where
      by : (b : Bool) → from + (if b then repeating_size way else 0) ≤ bound
          → All (λ k. k < bound) (if b then repeated way separator taken part from else single way separator taken (nat_lt 0 n) part)
      by true few = repeated_below way taken from own few
      by false few = single_below way taken (nat_lt 0 n) own

  bounded_below : (way : Option SeparatorPosition) (taken : Bool) (n : Times) (from : ℕ) → SeparatorBelow way separator bound → from + bounded_size way n ≤ bound
      → All (λ k. k < bound) (bounded_children way separator taken n part from)
  bounded_below way taken n from own = by (has_tried n)
    where
      some : (b : Bool) → 0 < (if b then 3 else 1)
      some true = omega arith
      some false = omega arith

      by : (b : Bool) → from + (if b then tried_size n else required_size way n.least) ≤ bound
          → All (λ k. k < bound) (if b then (from + tried_size n - 1) ∷ [] else required_children way separator taken n.least part from)
      by true few = let one : 0 < tried_size n = some (nat_lt 0 n.least) in only_below (from + tried_size n - 1) (omega (arith, few, one))
      by false few = required_below way taken n.least from own few

  children_below : (way : Option SeparatorPosition) (taken : Bool) (n : Times) (from : ℕ) → SeparatorBelow way separator bound → from + part_size way n ≤ bound
      → All (λ k. k < bound) (part_children way separator taken n part from)
  children_below way taken n from own = by n.question
    where
      by : (question : Option ℕ) → from + part_size_by question way n ≤ bound → All (λ k. k < bound) (children_by question way separator taken n part from)
      by None few = bounded_below way taken n from own few
      by (Some question) few = only_below from (omega (arith, few))

-- without separators one row of the group stands for each part
one_child : (separator : ℕ) (taken : Bool) (n : Times) (part from : ℕ) → length (part_children None separator taken n part from) ≡ 1
one_child separator taken n part from = by n.question
  where
    required : (b : Bool) → length (if b then repeated None separator taken part from else single None separator taken (nat_lt 0 n.least) part) ≡ 1
    required true = refl
    required false = refl

    bounded : (b : Bool) → length (if b then (from + tried_size n - 1) ∷ [] else required_children None separator taken n.least part from) ≡ 1
    bounded true = refl
    bounded false = required (nat_lt 1 n.least)

    by : (question : Option ℕ) → length (children_by question None separator taken n part from) ≡ 1
    by None = bounded (has_tried n)
    by (Some question) = refl

pub length_children : (initiated : Bool) (slots : List Times) (parts : List ℕ) (first : ℕ) → length (laid_of initiated None slots parts first).children ≡ length slots
unfolding lay
length_children initiated slots parts first = whole
  where
    all : (ns : List Times) (at : ℕ) (a : Laid) → length (lay initiated None first parts ns at a).children ≡ length a.children + length ns
    all [] at a = omega arith
    all (n ∷ ns) at a =
        omega (
          arith,
          all ns (at + 1) (with_part initiated None first n (get_or parts at 0) a),
          length-append a.children (part_children None first a.taken n (get_or parts at 0) (first + length a.rows)),
          one_child first a.taken n (get_or parts at 0) (first + length a.rows),
        )

    whole : length (laid_of initiated None slots parts first).children ≡ length slots
    whole = let from_none : length (laid_of initiated None slots parts first).children ≡ 0 + length slots = all slots 0 (laid [] [] false) in omega (arith, from_none)

-- the rows so far nest, and those of the group stand below the next one
pub record LaidNest (way : Option SeparatorPosition) (first : ℕ) (a : Laid) : Type 0 where
  pub nests : NestsFrom first a.rows
  pub below : All (λ k. k < first + length a.rows) a.children
  pub own : SeparatorBelow way first (first + length a.rows)

part_nests : (initiated : Bool) (way : Option SeparatorPosition) (first : ℕ) (n : Times) (part : ℕ) (a : Laid) → part < first → LaidNest way first a → LaidNest way first (with_part initiated way first n part a)
part_nests initiated way first n part a low has =
    let from : ℕ = first + length a.rows in
    let more : List Row = part_rows initiated way first n part (first + length a.rows) in
    let count : length (a.rows ++ more) ≡ length a.rows + part_size way n
    = length-append a.rows more ∙ ap (λ (k : ℕ). length a.rows + k) (length_part initiated way first n part (first + length a.rows)) in
    let bound : ℕ = first + length (a.rows ++ more) in
    let few : first + length a.rows ≤ first + length (a.rows ++ more) = omega (arith, count) in
    record {
      nests = nests_append a.rows more first has.nests (nests_part first part (first + length a.rows) (omega (arith, low)) initiated way n has.own);
      below = All-append (λ k. k < first + length (a.rows ++ more)) a.children (part_children way first a.taken n part (first + length a.rows))
          (λ i d less. let here = has.below i d less in omega (arith, here, few))
          (children_below first part (first + length (a.rows ++ more)) (omega (arith, low, few)) way a.taken n (first + length a.rows)
          (below_more way first (first + length a.rows) (first + length (a.rows ++ more)) few has.own) (omega (arith, count)));
      own = below_more way first (first + length a.rows) (first + length (a.rows ++ more)) few has.own;
    }

begin_nests : (way : Option SeparatorPosition) (first : ℕ) → LaidNest way first (laid (separator_rows way) [] false)
begin_nests None first = record { nests = nests_none first; below = λ i d less. absurd (omega (arith, less)); own = tt }
begin_nests (Some position) first = record {
  nests = nests_cons first Separator [] tt (nests_none (first + 1));
  below = λ i d less. absurd (omega (arith, less));
  own = omega arith;
}

pub laid_nests : (initiated : Bool) (separated : Option Separated) (slots : List Times) (parts : List ℕ) (first : ℕ) → length slots ≡ length parts → All (λ n. n < first) parts
    → LaidNest (needed separated slots) first (laid_of initiated separated slots parts first)
laid_nests initiated separated slots parts first long low =
    let way : Option SeparatorPosition = needed separated slots in
    lay_keeps_within (LaidNest way first) initiated way first parts (λ n at within a has. part_nests initiated way first n (get_or parts at 0) a (low at 0 within) has)
    slots 0 (laid (separator_rows way) [] false) (omega (arith, long)) (begin_nests way first)

-- no occurrence
abbrev pub never : Times
never = record { least = 0; further = 0; is_item = false; is_parsed = false; question = None }

-- one part is laid behind others
pub lay_step : (initiated : Bool) (way : Option SeparatorPosition) (first : ℕ) (parts : List ℕ) (slots : List Times) (at : ℕ) (a : Laid) → at < length slots
    → lay initiated way first parts (drop at slots) at a ≡ lay initiated way first parts (drop (at + 1) slots) (at + 1) (with_part initiated way first (get_or slots at never) (get_or parts at 0) a)
unfolding lay
lay_step initiated way first parts slots at a within = ap (λ (ns : List Times). lay initiated way first parts ns at a) (drops slots at within) ∙ once
  where
    drops : (ns : List Times) (i : ℕ) → i < length ns → drop i ns ≡ get_or ns i never ∷ drop (i + 1) ns
    drops [] i less = absurd (omega (arith, less))
    drops (n ∷ ns) zero less = refl
    drops (n ∷ ns) (suc i) less =
        let same : suc (i + 1) ≡ suc i + 1 = omega arith in
        drops ns i (omega (arith, less)) ∙ ap (λ (k : ℕ). get_or ns i never ∷ drop k (n ∷ ns)) same

    once : lay initiated way first parts (get_or slots at never ∷ drop (at + 1) slots) at a
        ≡ lay initiated way first parts (drop (at + 1) slots) (at + 1) (with_part initiated way first (get_or slots at never) (get_or parts at 0) a)
    once = refl

-- so many rows are left to be made
pub size_step : (way : Option SeparatorPosition) (slots : List Times) (at : ℕ) → at < length slots
    → parts_size way (drop at slots) ≡ part_size way (get_or slots at never) + parts_size way (drop (at + 1) slots)
size_step way [] at less = absurd (omega (arith, less))
size_step way (n ∷ ns) zero less = refl
size_step way (n ∷ ns) (suc i) less =
    let same : suc (i + 1) ≡ suc i + 1 = omega arith in
    size_step way ns i (omega (arith, less)) ∙ ap (λ (k : ℕ). part_size way (get_or ns i never) + parts_size way (drop k (n ∷ ns))) same

-- a part is laid behind others, by what is added
module _ (initiated : Bool) (way : Option SeparatorPosition) (first : ℕ) (parts : List ℕ) (slots : List Times) (at part : ℕ) (rows next : List Row) (children others : List ℕ) (taken more : Bool)
    (within : at < length slots) (next_is : next ≡ rows ++ part_rows initiated way first (get_or slots at never) part (first + length rows)) where
  pub laid_more : (whole : Laid) → part ≡ get_or parts at 0
      → others ≡ children ++ part_children way first taken (get_or slots at never) part (first + length rows) → more ≡ (taken || nat_lt 0 (get_or slots at never).least)
      → lay initiated way first parts (drop at slots) at (laid rows children taken) ≡ whole
      → lay initiated way first parts (drop (at + 1) slots) (at + 1) (laid next others more) ≡ whole
  laid_more whole part_is others_is more_is same =
      let rows_are : next ≡ rows ++ part_rows initiated way first (get_or slots at never) (get_or parts at 0) (first + length rows)
      = next_is ∙ ap (λ (p : ℕ). rows ++ part_rows initiated way first (get_or slots at never) p (first + length rows)) part_is in
      let children_are : others ≡ children ++ part_children way first taken (get_or slots at never) (get_or parts at 0) (first + length rows)
      = others_is ∙ ap (λ (p : ℕ). children ++ part_children way first taken (get_or slots at never) p (first + length rows)) part_is in
      let made : laid next others more ≡ with_part initiated way first (get_or slots at never) (get_or parts at 0) (laid rows children taken)
      = λ i. laid (rows_are i) (children_are i) (more_is i) in
      ap (lay initiated way first parts (drop (at + 1) slots) (at + 1)) made ∙ (sym (lay_step initiated way first parts slots at (laid rows children taken) within) ∙ same)

  pub laid_few : (most : ℕ) → first + length rows + parts_size way (drop at slots) < most → first + length next + parts_size way (drop (at + 1) slots) < most
  laid_few most few =
      let long : length next ≡ length (rows ++ part_rows initiated way first (get_or slots at never) part (first + length rows)) = ap (λ (rs : List Row). length rs) next_is in
      omega (
        arith,
        few,
        long,
        length-append rows (part_rows initiated way first (get_or slots at never) part (first + length rows)),
        length_part initiated way first (get_or slots at never) part (first + length rows),
        size_step way slots at within,
      )

-- nothing is left to be laid
pub laid_end : (initiated : Bool) (way : Option SeparatorPosition) (first : ℕ) (parts : List ℕ) (slots : List Times) (at : ℕ) (a whole : Laid) → length slots ≤ at
    → lay initiated way first parts (drop at slots) at a ≡ whole → a ≡ whole
unfolding lay
laid_end initiated way first parts slots at a whole end same = sym (ap (λ (ns : List Times). lay initiated way first parts ns at a) (none slots at end) ∙ done) ∙ same
  where
    none : (ns : List Times) (i : ℕ) → length ns ≤ i → drop i ns ≡ []
    none [] zero less = refl
    none [] (suc i) less = refl
    none (n ∷ ns) zero less = absurd (omega (arith, less))
    none (n ∷ ns) (suc i) less = none ns i (omega (arith, less))

    done : lay initiated way first parts [] at a ≡ a
    done = refl

-- so many rows are there when all parts are laid
pub after_laid : (initiated : Bool) (way : Option SeparatorPosition) (separated : Option Separated) (slots : List Times) (parts : List ℕ) (first : ℕ) (rows own next : List Row)
    → way ≡ needed separated slots → own ≡ (all_laid initiated way slots parts first).rows → next ≡ rows ++ own → length next ≡ length rows + laid_size separated slots
after_laid initiated way separated slots parts first rows own next way_is own_is next_is =
    let long : length next ≡ length (rows ++ own) = ap (λ (rs : List Row). length rs) next_is in
    let made : length own ≡ length (all_laid initiated way slots parts first).rows = ap (λ (rs : List Row). length rs) own_is in
    let sized : separator_size way + parts_size way slots ≡ laid_size separated slots
    = ap (λ (w : Option SeparatorPosition). separator_size w + parts_size w slots) way_is in
    omega (arith, long, made, sized, length-append rows own, length_lay initiated way first parts slots 0 (laid (separator_rows way) [] false), length_separators way)
