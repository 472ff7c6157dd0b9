-- The rows of slots stand below that of their sequence.
use Rattle.std.proofs.Common.{◌≡◌, ℕ, zero, suc, ◌+◌, ◌<◌, List, [], ◌∷◌, drop, Option, Some, All, ap, refl, ◌∙◌, arith}
use Rattle.std.specs.Prelude.{slice_get}
use Rattle.std.proofs.lemmas.Option.{slice_get_within}
use Rattle.dfdl_terms.specs.declared.row.Row.{Row}
use Rattle.dfdl_terms.specs.declared.row.Row.TheVariants.{Separated}
use Rattle.dfdl_terms.specs.declared.slots.Slot.{Slot}
use Rattle.dfdl_terms.specs.Rows.{Table, Nests}
use Rattle.dfdl_parse.specs.declared.frame.SlotPlace.{SlotPlace}
use Rattle.dfdl_parse.specs.Slots.{separation_of, slots_from}

-- the rows of these slots stand below this one
abbrev pub AreBelow : ℕ → List Slot → Type 0
AreBelow bound [] = Unit {0}
AreBelow bound (own ∷ slots) = (own.body < bound) × AreBelow bound slots

pub all-below : (bound : ℕ) (slots : List Slot) → All (λ slot. slot.body < bound) slots → AreBelow bound slots
all-below bound [] all = tt
all-below bound (own ∷ slots) all = (all 0 own (omega arith), all-below bound slots (λ i d less. all (suc i) d (omega arith)))

drop-below : (bound n : ℕ) (slots : List Slot) → AreBelow bound slots → AreBelow bound (drop n slots)
drop-below bound zero slots below = below
drop-below bound (suc n) [] below = tt
drop-below bound (suc n) (own ∷ slots) below = drop-below bound n slots below.1

separated-below : (table : Table) → Nests table.rows → (id : ℕ) (r : Option Row) → slice_get table.rows id ≡ r → AreBelow id (separation_of r).slots
separated-below table nests id (Some (Separated policy position initiated slots)) is =
    all-below id slots (nests id (Separated policy position initiated slots) (slice_get_within table.rows id (Separated policy position initiated slots) is) is)
separated-below table nests id r is = tt

-- the slots from a place of a row on
pub slots-below : (table : Table) → Nests table.rows → (slot : SlotPlace) → AreBelow slot.sequence (slots_from table slot)
slots-below table nests slot =
    drop-below slot.sequence slot.place (separation_of (slice_get table.rows slot.sequence)).slots
    (separated-below table nests slot.sequence (slice_get table.rows slot.sequence) refl)

-- what stands behind the first of the slots from a place on
drop-behind : (n : ℕ) (all : List Slot) (own : Slot) (slots : List Slot) → drop n all ≡ own ∷ slots → drop (suc n) all ≡ slots
drop-behind zero [] own slots is = absurd (cc)
drop-behind zero (first ∷ rest) own slots is = cc
drop-behind (suc n) [] own slots is = absurd (cc)
drop-behind (suc n) (first ∷ rest) own slots is = drop-behind n rest own slots is

pub drop-next : (n : ℕ) (all : List Slot) (own : Slot) (slots : List Slot) → drop n all ≡ own ∷ slots → drop (n + 1) all ≡ slots
drop-next n all own slots is = let more : n + 1 ≡ suc n = omega arith in ap (λ (m : ℕ). drop m all) more ∙ drop-behind n all own slots is
