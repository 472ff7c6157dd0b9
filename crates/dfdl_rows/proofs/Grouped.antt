-- The rows of a group: how many they are, what holds of each, and that they nest.
use Rattle.std.proofs.Common.{◌≡◌, ℕ, zero, suc, ◌+◌, ◌<◌, ◌≤◌, Bool, List, [], ◌∷◌, ◌++◌, length, map, get_or, drop, All, Option, None, Some, sym, ap, ◌∙◌, refl, arith, append_assoc, drop-cons, length-append}
use Rattle.std.proofs.lemmas.List.{append-nil}
use Rattle.std.proofs.lemmas.List.Elements.{All-nil, All-tail, All-cons, All-append}
use Rattle.dfdl_separators.specs.declared.policy.SeparatorPosition.{SeparatorPosition}
use Rattle.dfdl_separators.specs.declared.policy.SeparatorSuppressionPolicy.{SeparatorSuppressionPolicy}
use Rattle.dfdl_terms.specs.Rows.{ChildrenBelow}
use Rattle.dfdl_terms.specs.declared.row.Row.{Row}
use Rattle.dfdl_terms.specs.declared.keys.Key.{Key}
use Rattle.dfdl_terms.specs.declared.row.Row.TheVariants.{Group, Repeat, Optional, Separator, Separated as SeparatedRow}
use Rattle.dfdl_terms.specs.declared.slots.Slot.{Slot}
use Rattle.dfdl_rows.specs.Apart.{apart, apart_row, slot_of, slots_from}
use Rattle.dfdl_rows.specs.Slots.{Kind, InOrder, OneTried, OneByKey, grouped, grouped_by, key_of, laid_of, laid_size, row_of, size_by, slots_size}
use Rattle.dfdl_rows.specs.declared.component.BranchKey.{BranchKey}
use Rattle.dfdl_rows.specs.declared.component.Separated.{Separated}
use Rattle.dfdl_rows.specs.declared.times.Times.{Times}
use Rattle.dfdl_rows.proofs.Nests.{NestsFrom, nests_none, nests_cons, nests_append}
use Rattle.dfdl_rows.proofs.Slotted.{HoldsCounted, IsSingle, laid_all, laid_nests, length_laid, never, none_laid}

-- a sequence that is one row of slots, and any other group
pub grouped_cases : (kind : Kind) (initiated : Bool) (separated : Option Separated) (slots : List Times) (parts : List ℕ) (first : ℕ) (P : List Row → ℕ → Type 0)
    → P (grouped_by None kind initiated separated slots parts first) (laid_size separated slots)
    → ((own : Separated) → P (apart_row initiated slots parts own ∷ []) 0) → P (grouped kind initiated separated slots parts first) (slots_size separated slots)
unfolding grouped slots_size
grouped_cases kind initiated separated slots parts first P laid one = by (apart separated slots)
  where
    by : (own : Option Separated) → P (grouped_by own kind initiated separated slots parts first) (size_by own separated slots)
    by None = laid
    by (Some own) = one own

-- how many rows stand before the group's own, by what the sequence is
pub size_apart : (own separated : Option Separated) (slots : List Times) → own ≡ apart separated slots → size_by own separated slots ≡ slots_size separated slots
unfolding slots_size
size_apart own separated slots is = ap (λ (o : Option Separated). size_by o separated slots) is

-- the rows of the group, by what the sequence is
pub grouped_apart : (own separated : Option Separated) (kind : Kind) (initiated : Bool) (slots : List Times) (parts : List ℕ) (first : ℕ) → own ≡ apart separated slots
    → grouped_by own kind initiated separated slots parts first ≡ grouped kind initiated separated slots parts first
unfolding grouped
grouped_apart own separated kind initiated slots parts first is = ap (λ (o : Option Separated). grouped_by o kind initiated separated slots parts first) is

pub length_grouped : (kind : Kind) (initiated : Bool) (separated : Option Separated) (slots : List Times) (parts : List ℕ) (first : ℕ)
    → length (grouped kind initiated separated slots parts first) ≡ slots_size separated slots + 1
length_grouped kind initiated separated slots parts first =
    let own : List Row = (laid_of initiated separated slots parts first).rows in
    let row : Row = row_of kind initiated (laid_of initiated separated slots parts first).children in
    grouped_cases kind initiated separated slots parts first (λ rows size. length rows ≡ size + 1)
    (omega (arith, length-append own (row ∷ []), length_laid initiated separated slots parts first)) (λ own. refl)

-- what holds of each row
module _ (P : Row → Type 0) (group : (children : List ℕ) → P (Group children)) where
  pub grouped_all : P Separator → ((count body : ℕ) → P (Repeat count body)) → ((most : ℕ) (item initiated : Bool) (body : ℕ) → P (Optional most item initiated body))
      → (kind : Kind) (initiated : Bool) → ((children : List ℕ) → P (row_of kind initiated children)) → (separated : Option Separated) (slots : List Times)
      → All (HoldsCounted P) slots → (parts : List ℕ) (first : ℕ)
      → ((policy : SeparatorSuppressionPolicy) (position : SeparatorPosition) → P (SeparatedRow policy position initiated (slots_from parts slots 0)))
      → All P (grouped kind initiated separated slots parts first)
  grouped_all own repeat optional kind initiated row separated slots counted parts first one =
      let laid : List Row = (laid_of initiated separated slots parts first).rows in
      let children : List ℕ = (laid_of initiated separated slots parts first).children in
      grouped_cases kind initiated separated slots parts first (λ rows size. All P rows)
      (All-append P laid (row_of kind initiated children ∷ []) (laid_all P own group repeat optional initiated separated slots counted parts first)
      (All-cons P (row_of kind initiated children) [] (row children) (All-nil P)))
      (λ apart. All-cons P (apart_row initiated slots parts apart) [] (one apart.policy apart.position) (All-nil P))

-- the rows of slots stand below a number
slots_below : (parts : List ℕ) (bound : ℕ) → All (λ n. n < bound) parts → (slots : List Times) (at : ℕ) → at + length slots ≤ length parts
    → All (λ (slot : Slot). slot.body < bound) (slots_from parts slots at)
unfolding slots_from
slots_below parts bound low [] at few = All-nil (λ (slot : Slot). slot.body < bound)
slots_below parts bound low (n ∷ slots) at few =
    All-cons (λ (slot : Slot). slot.body < bound) (slot_of n (get_or parts at 0)) (slots_from parts slots (at + 1)) (low at 0 (omega (arith, few)))
    (slots_below parts bound low slots (at + 1) (omega (arith, few)))

-- what holds of slots
pub slots_hold : (P : Slot → Type 0) (Q : Times → Type 0) → ((n : Times) (part : ℕ) → Q n → P (slot_of n part)) → (parts : List ℕ) (slots : List Times) → All Q slots
    → (at : ℕ) → All P (slots_from parts slots at)
unfolding slots_from
slots_hold P Q holds parts [] all at = All-nil P
slots_hold P Q holds parts (n ∷ slots) all at =
    All-cons P (slot_of n (get_or parts at 0)) (slots_from parts slots (at + 1)) (holds n (get_or parts at 0) (all 0 n (omega arith)))
    (slots_hold P Q holds parts slots (All-tail Q n slots all) (at + 1))

-- the keys of a choice lead to some of so many branches
abbrev pub LeadsWithin : Kind → ℕ → Type 0
LeadsWithin InOrder count = Unit {0}
LeadsWithin OneTried count = Unit {0}
LeadsWithin (OneByKey dispatch) count = All (λ key. key.branch < count) dispatch.keys

keys_below : (children : List ℕ) (n : ℕ) → All (λ k. k < n) children → (keys : List BranchKey) → All (λ key. key.branch < length children) keys
    → All (λ (key : Key). key.body < n) (map (key_of children) keys)
keys_below children n all [] leads = All-nil (λ (key : Key). key.body < n)
keys_below children n all (key ∷ keys) leads =
    All-cons (λ (own : Key). own.body < n) (key_of children key) (map (key_of children) keys) (all key.branch 0 (leads 0 key (omega arith)))
    (keys_below children n all keys (All-tail (λ (own : BranchKey). own.branch < length children) key keys leads))

-- the row of a group stands behind what is in it
below_group : (kind : Kind) (initiated : Bool) (children : List ℕ) (n : ℕ) → LeadsWithin kind (length children) → All (λ k. k < n) children
    → ChildrenBelow n (row_of kind initiated children)
below_group InOrder initiated children n leads all = all
below_group OneTried initiated children n leads all = all
below_group (OneByKey dispatch) initiated children n leads all = keys_below children n all dispatch.keys leads

pub grouped_nests : (kind : Kind) (initiated : Bool) (separated : Option Separated) (slots : List Times) (parts : List ℕ) (first : ℕ) → length slots ≡ length parts
    → All (λ n. n < first) parts → LeadsWithin kind (length (laid_of initiated separated slots parts first).children)
    → NestsFrom first (grouped kind initiated separated slots parts first)
grouped_nests kind initiated separated slots parts first long low leads =
    let own : List Row = (laid_of initiated separated slots parts first).rows in
    let children : List ℕ = (laid_of initiated separated slots parts first).children in
    let nest = laid_nests initiated separated slots parts first long low in
    grouped_cases kind initiated separated slots parts first (λ rows size. NestsFrom first rows)
    (nests_append own (row_of kind initiated children ∷ []) first nest.nests
    (nests_cons (first + length own) (row_of kind initiated children) [] (below_group kind initiated children (first + length own) leads nest.below)
    (nests_none (first + length own + 1))))
    (λ apart. nests_cons first (apart_row initiated slots parts apart) [] (slots_below parts first low slots 0 (omega (arith, long))) (nests_none (first + 1)))

-- without separators, parts that occur more than once and those that are tried there is one row
pub none_grouped : (kind : Kind) (initiated : Bool) (slots : List Times) (parts : List ℕ) (first : ℕ) → All IsSingle slots
    → grouped kind initiated None slots parts first ≡ row_of kind initiated (laid_of initiated None slots parts first).children ∷ []
unfolding grouped
none_grouped kind initiated slots parts first few =
    ap (λ (own : List Row). own ++ row_of kind initiated (laid_of initiated None slots parts first).children ∷ []) (none_laid initiated slots parts first few)

-- the slot of one part more
pub slots_more : (parts : List ℕ) (slots : List Times) (at part : ℕ) (times : Times) (made next whole : List Slot) → at < length slots → times ≡ get_or slots at never → part ≡ get_or parts at 0
    → next ≡ made ++ slot_of times part ∷ [] → made ++ slots_from parts (drop at slots) at ≡ whole → next ++ slots_from parts (drop (at + 1) slots) (at + 1) ≡ whole
unfolding slots_from
slots_more parts slots at part times made next whole within times_is part_is next_is same =
    let rest : List Slot = slots_from parts (drop (at + 1) slots) (at + 1) in
    let after : suc at ≡ at + 1 = omega arith in
    let split : slots_from parts (drop at slots) at ≡ slot_of (get_or slots at never) (get_or parts at 0) ∷ rest
    = ap (λ (ns : List Times). slots_from parts ns at) (drop-cons slots at never within ∙ ap (λ (k : ℕ). get_or slots at never ∷ drop k slots) after) in
    ap (λ (own : List Slot). own ++ rest) (next_is ∙ (ap (λ (n : Times). made ++ slot_of n part ∷ []) times_is ∙ ap (λ (p : ℕ). made ++ slot_of (get_or slots at never) p ∷ []) part_is))
    ∙ (append_assoc made (slot_of (get_or slots at never) (get_or parts at 0) ∷ []) rest ∙ (ap (λ (own : List Slot). made ++ own) (sym split) ∙ same))

-- no part is left
pub slots_all : (parts : List ℕ) (slots : List Times) (at : ℕ) (made whole : List Slot) → length slots ≤ at → made ++ slots_from parts (drop at slots) at ≡ whole → made ≡ whole
unfolding slots_from
slots_all parts slots at made whole end same =
    sym (append-nil made) ∙ (ap (λ (ns : List Times). made ++ slots_from parts ns at) (sym (none slots at end)) ∙ same)
  where
    none : (ns : List Times) (i : ℕ) → length ns ≤ i → drop i ns ≡ []
    none [] zero less = refl
    none [] (suc i) less = refl
    none (n ∷ ns) zero less = absurd (omega (arith, less))
    none (n ∷ ns) (suc i) less = none ns i (omega (arith, less))
