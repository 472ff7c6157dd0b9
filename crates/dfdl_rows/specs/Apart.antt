-- The row of a sequence with separators, some of whose occurrences are tried or told by a question: it has a slot for each of its parts, in
-- order, and that of a part that has none says so ('Sequence Groups').
use Rattle.std.specs.Prelude.{ℕ, ◌+◌, Bool, ◌||◌, List, [], ◌∷◌, get_or, Option, None, Some, if◌then◌else◌}
use Rattle.dfdl_terms.specs.declared.row.Row.{Row}
use Rattle.dfdl_terms.specs.declared.row.Row.TheVariants.{Separated as SeparatedRow}
use Rattle.dfdl_terms.specs.declared.slots.Slot.{Slot}
use Rattle.dfdl_rows.specs.Times.{have_told, have_tried, is_slotless}
use Rattle.dfdl_rows.specs.declared.component.Separated.{Separated}
use Rattle.dfdl_rows.specs.declared.times.Times.{Times}

-- the separators of a sequence, where it has some and some of the occurrences of its parts are tried or told by a question
abbrev pub apart : Option Separated → List Times → Option Separated
apart None slots = None
apart (Some own) slots = if have_tried slots || have_told slots then Some own else None

-- the slot of a part that occurs so often, by its row
abbrev pub slot_of : Times → ℕ → Slot
slot_of n part = record {
  body = part;
  least = n.least;
  further = n.further;
  is_parsed = n.is_parsed;
  is_item = n.is_item;
  question = n.question;
  is_slotless = is_slotless n;
}

-- the slots of the parts from one on, which occur so often
unfoldable pub slots_from : List ℕ → List Times → ℕ → List Slot
slots_from parts [] at = []
slots_from parts (n ∷ slots) at = slot_of n (get_or parts at 0) ∷ slots_from parts slots (at + 1)

-- the row of a sequence with these separators, of whose parts these are the last rows, which occur so often; initiators tell what stands
-- there, or don't
abbrev pub apart_row : Bool → List Times → List ℕ → Separated → Row
apart_row initiated slots parts own = SeparatedRow own.policy own.position initiated (slots_from parts slots 0)
