-- The rows of a component by those of its parts: how many they are, and that there is one.
use Rattle.std.proofs.Common.{◌≡◌, ℕ, ◌+◌, ◌-◌, ◌<◌, Bool, List, [], ◌∷◌, ◌++◌, length, map, get_or, Option, None, Some, All, sym, ap, subst, ◌∙◌, refl, arith, append_assoc, length-append}
use Rattle.std.proofs.lemmas.List.Elements.{All-tail}
use Rattle.dfdl_order.specs.Parts.{uses_of}
use Rattle.dfdl_order.proofs.Over.{value_step}
use Rattle.dfdl_terms.specs.declared.framing.Framing.{Framing}
use Rattle.dfdl_terms.specs.declared.row.Row.{Row}
use Rattle.dfdl_rows.specs.declared.times.Times.{Times}
use Rattle.dfdl_rows.specs.Components.{Schema, component_at, no_trials, slots_at, HasOrder}
use Rattle.dfdl_rows.specs.declared.component.Component.{Component}
use Rattle.dfdl_rows.specs.declared.component.Component.TheVariants.{Sequence, Choice, ComplexElement, SimpleElement, CalculatedElement, Hidden}
use Rattle.dfdl_rows.specs.Sizes.{total, group_size, own_size, size_from, size_of}
use Rattle.dfdl_rows.specs.Framing.{conclusion, conclusion_size, framing_size, opened, opened_size}
use Rattle.dfdl_rows.specs.Scopes.{list_of, scanned_list, scope_size}
use Rattle.dfdl_rows.specs.Slots.{Kind, InOrder, grouped, kind_by, separator_list, slots_size}
use Rattle.dfdl_rows.specs.declared.component.Separated.{Separated}
use Rattle.dfdl_rows.specs.RowLists.{Numbered, boxed_rows, element_rows, scoped, sequence_rows, around_rows, group_rows, own_rows, in_turn, last_rows, rows_from, no_rows, rows_at}
use Rattle.dfdl_rows.proofs.Opened.{length_opened}
use Rattle.dfdl_rows.proofs.Boxed.{length_boxed, length_element}
use Rattle.dfdl_rows.proofs.Scoped.{length_scoped}
use Rattle.dfdl_rows.proofs.Grouped.{length_grouped}
use Rattle.dfdl_rows.proofs.Concluded.{concluded_whole, length_concluded}
use Rattle.dfdl_rows.proofs.Parts.{by_parts}

pub rows_step : (s : Schema) → HasOrder s.uses → (c : ℕ) → c < length s.uses → rows_at s c ≡ rows_from s c (map (rows_at s) (uses_of s.uses c))
rows_step s ordered c within = value_step s.uses ordered.0 (rows_from s) no_rows ordered.1 c within

pub size_step : (s : Schema) → HasOrder s.uses → (c : ℕ) → c < length s.uses → size_of s c ≡ size_from s c (map (size_of s) (uses_of s.uses c))
size_step s ordered c within = value_step s.uses ordered.0 (size_from s) 0 ordered.1 c within

-- as many last rows as parts
pub length_lasts : (f : ℕ → Numbered) (ps : List ℕ) (first : ℕ) → length (last_rows (map f ps) first) ≡ length ps
length_lasts f [] first = refl
length_lasts f (p ∷ ps) first = omega (arith, length_lasts f ps (first + length (f p first)))

length_sequence : (f : Framing) (separators : Option ℕ) (content first : ℕ)
    → length (sequence_rows f separators content first) ≡ scope_size separators + (scope_size (list_of f.terminator) + opened_size f separators)
length_sequence f separators =
    length_scoped separators (scoped (list_of f.terminator) (opened f separators)) (scope_size (list_of f.terminator) + opened_size f separators)
    (length_scoped (list_of f.terminator) (opened f separators) (opened_size f separators) (length_opened f separators))

-- the rows of a sequence or choice of its own, but for the one behind which statements are done
abbrev pub around_size : Framing → Option Separated → List Times → ℕ
around_size framing separated slots =
    1 + slots_size separated slots + scope_size (separator_list separated) + scope_size (list_of framing.terminator)
    + opened_size framing (separator_list separated)

pub length_around : (kind : Kind) (framing : Framing) (separated : Option Separated) (initiated : Bool) (slots : List Times) (parts : List ℕ) (first : ℕ)
    → length (around_rows kind framing separated initiated slots parts first) ≡ around_size framing separated slots
length_around kind framing separated initiated slots parts first =
    let size : ℕ = slots_size separated slots in
    let others : List Row = sequence_rows framing (separator_list separated) (first + size) (first + size + 1) in
    omega (
      arith,
      length-append (grouped kind initiated separated slots parts first) others,
      length_grouped kind initiated separated slots parts first,
      length_sequence framing (separator_list separated) (first + size) (first + size + 1),
    )

length_group : (kind : Kind) (framing : Framing) (separated : Option Separated) (initiated : Bool) (slots : List Times) (parts : List ℕ) (first : ℕ)
    → length (group_rows kind framing separated initiated slots parts first) ≡ group_size framing separated slots
length_group kind framing separated initiated slots parts first =
    omega (
      arith,
      length_concluded framing.behind (around_rows kind framing separated initiated slots parts first) first,
      length_around kind framing separated initiated slots parts first,
    )

pub length_own : (component : Component) (slots : List Times) (parts : List ℕ) (first : ℕ) → length (own_rows component slots parts first) ≡ own_size component slots
length_own (Sequence framing separated initiated) slots parts first = length_group InOrder framing separated initiated slots parts first
length_own (Choice framing initiated dispatch) slots parts first = length_group (kind_by dispatch) framing None initiated slots parts first
length_own (ComplexElement name framing box occurs often) slots parts first =
    omega (
      arith,
      length_scoped (list_of framing.terminator) (boxed_rows name framing box) (2 + framing_size framing None) (length_boxed name framing box)
          (get_or parts 0 0) first,
    )
length_own (SimpleElement name simple prim framing own_length tried scanned occurs often) slots parts first =
    omega (
      arith,
      length_scoped (scanned_list scanned framing.terminator) (element_rows name (Some simple) tried framing) (1 + framing_size framing None)
          (length_element name (Some simple) tried framing) first (first + 1),
    )
length_own (CalculatedElement name simple statement framing) slots parts first =
    omega (arith, length_element name (Some simple) no_trials framing first (first + 1))
length_own Hidden slots parts first = refl

-- so many rows, wherever they begin
abbrev pub IsLong : Numbered → ℕ → Type 0
IsLong rows size = (first : ℕ) → length (rows first) ≡ size

length_turn : (f : ℕ → Numbered) (size : ℕ → ℕ) (ps : List ℕ) → All (λ p. IsLong (f p) (size p)) ps → (first : ℕ) → length (in_turn (map f ps) first) ≡ total (map size ps)
length_turn f size [] all first = refl
length_turn f size (p ∷ ps) all first =
    let here : length (f p first) ≡ size p = all 0 p (omega arith) first in
    let others : length (in_turn (map f ps) (first + length (f p first))) ≡ total (map size ps)
    = length_turn f size ps (All-tail (λ (q : ℕ). IsLong (f q) (size q)) p ps all) (first + length (f p first)) in
    omega (arith, length-append (f p first) (in_turn (map f ps) (first + length (f p first))), here, others)

pub length_rows : (s : Schema) → HasOrder s.uses → (c : ℕ) → c < length s.uses → IsLong (rows_at s c) (size_of s c)
length_rows s ordered = by_parts s.uses ordered.0 ordered.1 (λ c. IsLong (rows_at s c) (size_of s c))
    (λ c within all first.
    let turn : List Row = in_turn (map (rows_at s) (uses_of s.uses c)) first in
    let own : List Row = own_rows (component_at s.components c) (slots_at s c) (last_rows (map (rows_at s) (uses_of s.uses c)) first) (first + length (in_turn (map (rows_at s) (uses_of s.uses c)) first)) in
    let whole : length (rows_at s c first) ≡ length (turn ++ own) = ap (λ (rows : Numbered). length (rows first)) (rows_step s ordered c within) in
    let parts : length turn ≡ total (map (size_of s) (uses_of s.uses c)) = length_turn (rows_at s) (size_of s) (uses_of s.uses c) all first in
    let last : length own ≡ own_size (component_at s.components c) (slots_at s c)
    = length_own (component_at s.components c) (slots_at s c) (last_rows (map (rows_at s) (uses_of s.uses c)) first) (first + length (in_turn (map (rows_at s) (uses_of s.uses c)) first)) in
    let sum : size_of s c ≡ own_size (component_at s.components c) (slots_at s c) + total (map (size_of s) (uses_of s.uses c)) = size_step s ordered c within in
    omega (arith, whole, length-append turn own, parts, last, sum))

some_own : (component : Component) (slots : List Times) (parts : ℕ) → 0 < own_size component slots + parts
some_own (Sequence framing separated initiated) slots parts = omega arith
some_own (Choice framing initiated dispatch) slots parts = omega arith
some_own (ComplexElement name framing box occurs often) slots parts = omega arith
some_own (SimpleElement name simple prim framing own_length tried scanned occurs often) slots parts = omega arith
some_own (CalculatedElement name simple statement framing) slots parts = omega arith
some_own Hidden slots parts = omega arith

-- each component has a row
pub some_rows : (s : Schema) → HasOrder s.uses → (c : ℕ) → c < length s.uses → 0 < size_of s c
some_rows s ordered c within =
    subst (λ n. 0 < n) (sym (size_step s ordered c within))
    (some_own (component_at s.components c) (slots_at s c) (total (map (size_of s) (uses_of s.uses c))))

-- the rows of a sequence or choice are added: those of its group, and those around it
module _ (kind : Kind) (f : Framing) (separated : Option Separated) (initiated : Bool) (slots : List Times) (parts : List ℕ) (rows next : List Row)
    (next_is : next ≡ rows ++ grouped kind initiated separated slots parts (length rows)) where
  next_long : length next ≡ length rows + slots_size separated slots + 1
  next_long =
      let whole : length next ≡ length (rows ++ grouped kind initiated separated slots parts (length rows)) = ap (λ (rs : List Row). length rs) next_is in
      omega (
        arith,
        whole,
        length-append rows (grouped kind initiated separated slots parts (length rows)),
        length_grouped kind initiated separated slots parts (length rows),
      )

  pub around_few : (most : ℕ) → length rows + group_size f separated slots < most
      → length next + scope_size (separator_list separated) + scope_size (list_of f.terminator) + opened_size f (separator_list separated) < most
  around_few most few = omega (arith, few, next_long)

  pub sequence_whole : (content : ℕ) (all : List Row) → content ≡ length rows + slots_size separated slots
      → all ≡ next ++ sequence_rows f (separator_list separated) content (length next) → all ≡ rows ++ around_rows kind f separated initiated slots parts (length rows)
  sequence_whole content all content_is all_is =
      let others : List Row = sequence_rows f (separator_list separated) (length rows + slots_size separated slots) (length rows + slots_size separated slots + 1) in
      all_is
      ∙ (ap (λ (n : ℕ). next ++ sequence_rows f (separator_list separated) n (length next)) content_is
      ∙ (ap (λ (n : ℕ). next ++ sequence_rows f (separator_list separated) (length rows + slots_size separated slots) n) next_long
      ∙ (ap (λ (rs : List Row). rs ++ others) next_is
      ∙ append_assoc rows (grouped kind initiated separated slots parts (length rows)) others)))

-- the row behind which statements are done is added to them
module _ (kind : Kind) (f : Framing) (separated : Option Separated) (initiated : Bool) (slots : List Times) (parts : List ℕ) (rows next : List Row)
    (next_is : next ≡ rows ++ around_rows kind f separated initiated slots parts (length rows)) where
  around_long : length next ≡ length rows + around_size f separated slots
  around_long =
      let whole : length next ≡ length (rows ++ around_rows kind f separated initiated slots parts (length rows)) = ap (λ (rs : List Row). length rs) next_is in
      omega (
        arith,
        whole,
        length-append rows (around_rows kind f separated initiated slots parts (length rows)),
        length_around kind f separated initiated slots parts (length rows),
      )

  pub conclusion_few : (most : ℕ) → length rows + group_size f separated slots < most → length next + conclusion_size f.behind < most
  conclusion_few most few = omega (arith, few, around_long)

  pub group_whole : (all : List Row) → all ≡ next ++ conclusion f.behind (length next - 1) → all ≡ rows ++ group_rows kind f separated initiated slots parts (length rows)
  group_whole all all_is =
      concluded_whole f.behind rows (around_rows kind f separated initiated slots parts (length rows)) next all
      (omega (arith, length_around kind f separated initiated slots parts (length rows))) next_is all_is
