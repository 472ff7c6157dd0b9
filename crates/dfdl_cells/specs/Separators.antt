-- How long separators are. The unknown of a separator tells twice as many bits as it has, and one more where a slot up to its own, or its own or a later
-- one, is written, by the rule of its slot ('Sequence Groups', on separatorPosition and separatorSuppressionPolicy).
use Rattle.std.specs.Prelude.{ℕ, ◌+◌, ◌*◌, ◌%◌, ◌==◌, Bool, true, false, ◌&&◌, ◌||◌, not, List, [], ◌∷◌, take, drop, if◌then◌else◌, Option, None, Some}
use Rattle.dfdl_separators.specs.declared.policy.SeparatorPosition.{SeparatorPosition}
use Rattle.dfdl_separators.specs.declared.policy.SeparatorPosition.TheVariants.{Prefix, Infix, Postfix}
use Rattle.dfdl_suspend.specs.Asks.{Asks, Is, Fails}
use Rattle.dfdl_suspend.specs.declared.known.Held.{Held}
use Rattle.dfdl_suspend.specs.declared.known.Held.TheVariants as held
use Rattle.dfdl_cells.specs.Books.{Book}
use Rattle.dfdl_cells.specs.Places.{complex_at, passed_all, steps_in}
use Rattle.dfdl_cells.specs.Values.{asked_number}
use Rattle.dfdl_cells.specs.declared.piece.Earlier.{Earlier}
use Rattle.dfdl_cells.specs.declared.piece.Earlier.TheVariants as earlier
use Rattle.dfdl_cells.specs.declared.piece.SlotEnd.{SlotEnd}
use Rattle.dfdl_cells.specs.declared.piece.Stands.{Stands}
use Rattle.dfdl_cells.specs.declared.piece.Stands.TheVariants.{Always, IfLong, IfLater}
use Rattle.dfdl_cells.specs.declared.step.Step.{Step}
use Rattle.dfdl_cells.specs.declared.step.Step.TheVariants.{Fixed, Align, Marked, Length, Separator}

-- the fill of an alignment counts for no length of a slot
abbrev pub unaligned : List Step → List Step
unaligned [] = []
unaligned (Align bits ∷ steps) = unaligned steps
unaligned (Fixed bits ∷ steps) = Fixed bits ∷ unaligned steps
unaligned (Marked mark ∷ steps) = Marked mark ∷ unaligned steps
unaligned (Length cell ∷ steps) = Length cell ∷ unaligned steps
unaligned (Separator cell ∷ steps) = Separator cell ∷ unaligned steps

-- the steps of a slot
abbrev pub steps_of : Book → SlotEnd → List Step
steps_of book slot = unaligned (take slot.count (drop slot.first (steps_in (complex_at book slot.around))))

-- what goes on with whether a slot has a bit
abbrev pub is_long : Book → SlotEnd → (Bool → Asks Held) → Asks Held
is_long book slot go = passed_all book.cells (steps_of book slot) 0 (λ bits. go (not (bits == 0)))

-- what the unknown of a separator tells of slots: one is written
abbrev pub is_told : ℕ → Bool
is_told number = number % 2 == 1

-- what goes on with whether the slot of a later separator is written, if there is one
abbrev pub is_later : Option ℕ → (Bool → Asks Held) → Asks Held
is_later None go = go false
is_later (Some cell) go = asked_number cell (λ number. go (is_told number))

-- what goes on with whether a slot is written
abbrev pub stands : Book → Stands → (Bool → Asks Held) → Asks Held
stands book Always go = go true
stands book (IfLong slot) go = is_long book slot go
stands book (IfLater slot later) go = is_long book slot (λ long. if long then go true else is_later later go)

-- what goes on with whether an earlier one is
abbrev pub is_earlier : Book → Earlier → (Bool → Asks Held) → Asks Held
is_earlier book earlier.None go = go false
is_earlier book earlier.Some go = go true
is_earlier book (earlier.IfLong slot) go = is_long book slot go
is_earlier book (earlier.Told cell) go = asked_number cell (λ number. go (is_told number))

-- a separator between slots stands where an earlier one is written too, every other one with its slot
abbrev pub is_there : SeparatorPosition → Bool → Bool → Bool
is_there Prefix written before = written
is_there Infix written before = written && before
is_there Postfix written before = written

-- one more, where it is so
abbrev pub one_if : Bool → ℕ
one_if true = 1
one_if false = 0

-- what a separator tells of slots: of its own and those before it that one is written, and where its own depends on later ones, that its own is
abbrev pub tells : Stands → Bool → Bool → Bool
tells Always written before = written || before
tells (IfLong slot) written before = written || before
tells (IfLater slot later) written before = written

-- what the unknown of a separator of so many bits tells
abbrev pub told : SeparatorPosition → ℕ → Stands → Bool → Bool → Asks Held
told position bits slot written before =
    Is (held.Number ((if is_there position written before then 2 * bits else 0) + one_if (tells slot written before)))

-- the same of one that has no writing, for this cause: where it doesn't stand, that is nothing to it
abbrev pub told_or : SeparatorPosition → Stands → Bool → Bool → ℕ → Asks Held
told_or position slot written before cause =
    if is_there position written before then Fails cause else Is (held.Number (one_if (tells slot written before)))

-- how long a separator of so many bits is
abbrev pub separator : Book → SeparatorPosition → ℕ → Stands → Earlier → Asks Held
separator book position bits slot before =
    is_earlier book before (λ is_before. stands book slot (λ is_written. told position bits slot is_written is_before))
