-- The separators of a sequence, slot by slot. Which slot is written is told by equations; here is which piece stands at which slot, and what it asks for.
-- 'Sequence Groups' (separatorPosition, separatorSuppressionPolicy).
use Rattle.std.specs.Prelude.{ℕ, ◌+◌, ◌&&◌, nat_le, nat_lt, Bool, true, false, length, if◌then◌else◌, Option, None, Some}
use Rattle.dfdl_separators.specs.declared.policy.SeparatorPosition.{SeparatorPosition}
use Rattle.dfdl_separators.specs.declared.policy.SeparatorPosition.TheVariants.{Prefix, Infix, Postfix}
use Rattle.dfdl_cells.specs.Growing.{with_piece}
use Rattle.dfdl_cells.specs.declared.cell.Cell.TheVariants.{Waiting, Bits}
use Rattle.dfdl_cells.specs.declared.piece.Earlier.{Earlier}
use Rattle.dfdl_cells.specs.declared.piece.Earlier.TheVariants as earlier
use Rattle.dfdl_cells.specs.declared.piece.Piece.TheVariants as piece
use Rattle.dfdl_cells.specs.declared.piece.SlotEnd.{SlotEnd}
use Rattle.dfdl_cells.specs.declared.piece.Stands.{Stands}
use Rattle.dfdl_cells.specs.declared.piece.Stands.TheVariants as stands
use Rattle.dfdl_cells.specs.declared.step.Step.TheVariants as step
use Rattle.dfdl_outline.specs.declared.entry.Separating.{Separating}
use Rattle.dfdl_outline.specs.declared.part.Part.{Part}
use Rattle.dfdl_outline.specs.declared.part.Slot.{Slot}
use Rattle.dfdl_outline.specs.declared.part.Slot.TheVariants.{Absent, Always, IfLong, IfLater}
use Rattle.dfdl_laying.specs.Laying.{Laid, given, next, stepped, steps_here, with_unknown}
use Rattle.dfdl_laying.specs.declared.frame.Slots.{Slots}

-- the slot of an occurrence that is required
abbrev pub required : Slot → Slot
required Absent = Absent
required Always = Always
required IfLong = Always
required IfLater = Always

-- the slot of an occurrence of a part, where so many come before it
abbrev pub slot_of : Part → ℕ → Slot
slot_of part count = if nat_lt count part.least then required part.slot else part.slot

-- no slot can come behind that
abbrev pub is_final : Part → ℕ → Bool
is_final part count = part.is_last && nat_le part.most (count + 1)

-- how far the separators of a sequence were laid, and what was laid
pub record Slotted : Type 0 where
  pub slots : Slots
  pub laid : Laid

-- no slot was laid yet, where this many steps lie before
abbrev pub no_slots : Slots
no_slots = record { before = earlier.None; next = None; first = 0 }

-- the unknown of the next separator, which may be there already
abbrev pub made : Option ℕ → Laid → Laid
made None laid = with_unknown laid.here.owner Waiting laid
made (Some cell) laid = laid

abbrev pub made_cell : Option ℕ → Laid → ℕ
made_cell None laid = next laid
made_cell (Some cell) laid = cell

-- a separator whose slot depends on later ones asks for the next one, unless its slot is the last
abbrev pub later_made : Slot → Bool → Laid → Laid
later_made Absent final laid = laid
later_made Always final laid = laid
later_made IfLong final laid = laid
later_made IfLater final laid = if final then laid else with_unknown laid.here.owner Waiting laid

abbrev pub later_cell : Slot → Bool → Laid → Option ℕ
later_cell Absent final laid = None
later_cell Always final laid = None
later_cell IfLong final laid = None
later_cell IfLater final laid = if final then None else Some (next laid)

-- when a slot is written
abbrev pub stands_by : Slot → SlotEnd → Option ℕ → Stands
stands_by Absent slot later = stands.Always
stands_by Always slot later = stands.Always
stands_by IfLong slot later = stands.IfLong slot
stands_by IfLater slot later = stands.IfLater slot later

-- a slot of so many steps from one on
abbrev pub slot_end : ℕ → ℕ → Laid → SlotEnd
slot_end first count laid = record { around = Some laid.here.complex; first = first; count = count }

-- what the next separator between slots has before it, behind a slot whose separator is this unknown: under the trailing policies no slot is written without those
-- before it, so a written one has all before it
abbrev pub behind_long : Earlier → SlotEnd → Option ℕ → Earlier
behind_long earlier.None slot cell = earlier.IfLong slot
behind_long earlier.Some slot cell = earlier.Some
behind_long (earlier.IfLong other) slot None = earlier.IfLong other
behind_long (earlier.IfLong other) slot (Some cell) = earlier.Told cell
behind_long (earlier.Told other) slot None = earlier.Told other
behind_long (earlier.Told other) slot (Some cell) = earlier.Told cell

abbrev pub behind_slot : Slot → Earlier → SlotEnd → Option ℕ → Earlier
behind_slot Absent before slot cell = before
behind_slot Always before slot cell = earlier.Some
behind_slot IfLong before slot cell = behind_long before slot cell
behind_slot IfLater before slot cell = earlier.Some

-- only a separator between slots asks for those before it
abbrev pub before_next : SeparatorPosition → Slot → Earlier → SlotEnd → Option ℕ → Earlier
before_next Prefix slot before end cell = earlier.None
before_next Infix slot before end cell = behind_slot slot before end cell
before_next Postfix slot before end cell = earlier.None

-- the piece of a separator behind its step, whose unknown waits
abbrev pub separator_piece : ℕ → Separating → Stands → Earlier → ℕ → Laid → Laid
separator_piece component own slot before cell laid =
    given cell (Bits (length laid.book.pieces))
    (record laid { book = with_piece (piece.Separator component own.list own.position slot before) laid.book })

-- the same, and what comes after it
abbrev pub separated_by : ℕ → Separating → Slot → Bool → SlotEnd → ℕ → Slots → Laid → Slotted
separated_by component own slot final end cell slots laid = record {
  slots = record slots { before = before_next own.position slot slots.before end (Some cell); next = later_cell slot final laid };
  laid = separator_piece component own (stands_by slot end (later_cell slot final laid)) slots.before cell (later_made slot final laid);
}

-- the step of a separator
abbrev pub separator_step : Slots → Laid → Laid
separator_step slots laid = stepped (step.Separator (made_cell slots.next laid)) (made slots.next laid)

-- a separator before a slot of so many steps
abbrev pub separated_before : ℕ → Separating → Slot → Bool → ℕ → Slots → Laid → Slotted
separated_before component own slot final count slots laid =
    separated_by component own slot final (slot_end (steps_here (separator_step slots laid)) count laid) (made_cell slots.next laid) slots
    (separator_step slots laid)

-- one behind a slot, where that began
abbrev pub separated_behind : ℕ → Separating → Slot → Bool → ℕ → Slots → Laid → Slotted
separated_behind component own slot final count slots laid =
    separated_by component own slot final (slot_end slots.first count laid) (made_cell slots.next laid) slots (separator_step slots laid)

-- the first slot of those with separators between them has none
abbrev pub first_slot : Slot → ℕ → Slots → Laid → Slotted
first_slot slot count slots laid = record {
  slots = record slots { before = behind_slot slot slots.before (slot_end (steps_here laid) count laid) None };
  laid = laid;
}

-- between slots
abbrev pub between : Earlier → ℕ → Separating → Slot → Bool → ℕ → Slots → Laid → Slotted
between earlier.None component own slot final count slots laid = first_slot slot count slots laid
between earlier.Some component own slot final count slots laid = separated_before component own slot final count slots laid
between (earlier.IfLong end) component own slot final count slots laid = separated_before component own slot final count slots laid
between (earlier.Told cell) component own slot final count slots laid = separated_before component own slot final count slots laid

-- a slot of so many steps begins
abbrev pub begun_at : SeparatorPosition → ℕ → Separating → Slot → Bool → ℕ → Slots → Laid → Slotted
begun_at Prefix component own slot final count slots laid = separated_before component own slot final count slots laid
begun_at Infix component own slot final count slots laid = between slots.before component own slot final count slots laid
begun_at Postfix component own slot final count slots laid = record { slots = record slots { first = steps_here laid }; laid = laid }

-- it ends
abbrev pub ended_at : SeparatorPosition → ℕ → Separating → Slot → Bool → ℕ → Slots → Laid → Slotted
ended_at Prefix component own slot final count slots laid = record { slots = slots; laid = laid }
ended_at Infix component own slot final count slots laid = record { slots = slots; laid = laid }
ended_at Postfix component own slot final count slots laid = separated_behind component own slot final count slots laid

-- an occurrence has a slot
abbrev pub has_slot : Slot → Bool
has_slot Absent = false
has_slot Always = true
has_slot IfLong = true
has_slot IfLater = true

-- a slot begins in a sequence, where there are separators and it is one
unfoldable pub slot_begun : ℕ → Option Separating → Slot → Bool → ℕ → Slots → Laid → Slotted
slot_begun component None slot final count slots laid = record { slots = slots; laid = laid }
slot_begun component (Some own) slot final count slots laid =
    if has_slot slot then begun_at own.position component own slot final count slots laid else record { slots = slots; laid = laid }

-- it ends
unfoldable pub slot_ended : ℕ → Option Separating → Slot → Bool → ℕ → Slots → Laid → Slotted
slot_ended component None slot final count slots laid = record { slots = slots; laid = laid }
slot_ended component (Some own) slot final count slots laid =
    if has_slot slot then ended_at own.position component own slot final count slots laid else record { slots = slots; laid = laid }

-- the last separator that one before it asks for, where no slot comes any more: that of an empty slot
abbrev pub last_separator : ℕ → Separating → ℕ → Earlier → Laid → Laid
last_separator component own cell before laid =
    separator_piece component own (stands.IfLater (slot_end (steps_here laid) 0 laid) None) before cell laid

abbrev pub slots_ended_by : ℕ → Option Separating → Option ℕ → Slots → Laid → Laid
slots_ended_by component None next slots laid = laid
slots_ended_by component (Some own) None slots laid = laid
slots_ended_by component (Some own) (Some cell) slots laid =
    last_separator component own cell slots.before laid

unfoldable pub slots_ended : ℕ → Option Separating → Slots → Laid → Laid
slots_ended component separating slots laid = slots_ended_by component separating slots.next slots laid
