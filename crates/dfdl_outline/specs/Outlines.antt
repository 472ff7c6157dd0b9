-- What laying asks of a schema: where a group's elements stand among those that the element around declares, which occurrences have slots, how many
-- steps an element is in the content around it, and which branch of a choice is taken.
use Rattle.std.specs.Prelude.{ℕ, ◌+◌, ◌-◌, ◌^◌, ◌&&◌, min, nat_le, nat_lt, Bool, true, false, List, [], ◌∷◌, slice_get, if◌then◌else◌, Option, None, Some, is_some}
use Rattle.dfdl_outline.specs.declared.entry.Around.{Around}
use Rattle.dfdl_outline.specs.declared.entry.ContentSize.{ContentSize}
use Rattle.dfdl_outline.specs.declared.entry.ContentSize.TheVariants.{Unbounded, Sized, Prefixed}
use Rattle.dfdl_outline.specs.declared.entry.Entry.{Entry}
use Rattle.dfdl_outline.specs.declared.entry.Needs.{Needs}
use Rattle.dfdl_outline.specs.declared.entry.Sort.{Sort}
use Rattle.dfdl_outline.specs.declared.entry.Sort.TheVariants.{Sequence, Choice, Complex, Simple, Calculated, Hidden, Unbuilt}
use Rattle.dfdl_outline.specs.declared.part.Part.{Part}

-- one where something is so
abbrev pub one_if : Bool → ℕ
one_if true = 1
one_if false = 0

-- how many steps stand around a content: those of fill and of delimiters
abbrev pub steps_around : Around → ℕ
steps_around a =
    one_if (nat_lt 0 a.leading_skip) + one_if (nat_lt 1 a.alignment) + one_if (is_some a.initiator) + one_if (is_some a.terminator)
    + one_if (nat_lt 0 a.trailing_skip)

-- how many steps the content of an element with parts is, with a length prefix before it
abbrev pub steps_boxed : ContentSize → ℕ
steps_boxed Unbounded = 1
steps_boxed (Sized bits) = 1
steps_boxed (Prefixed prefix) = 2

-- how many steps the content of an element is with what stands before it in its framing: one, one more for a length prefix, and one for the move of text to a whole
-- byte; other components have none of their own
abbrev pub steps_within : Sort → ℕ
steps_within (Sequence separating) = 0
steps_within Choice = 0
steps_within (Complex size) = steps_boxed size
steps_within (Simple own) = 1 + one_if (is_some own.prefix) + one_if own.is_text
steps_within Calculated = 0
steps_within Hidden = 0
steps_within Unbuilt = 0

-- how many steps an element is in the content around it
abbrev pub steps_of : Entry → ℕ
steps_of entry = steps_around entry.around + steps_within entry.sort

-- a component needs an item of the infoset, where its elements are hidden or aren't
abbrev pub is_needy : Bool → Needs → Bool
is_needy hidden needs = if hidden then needs.hidden else needs.shown

-- the same of the component of a part; one that isn't there needs one
abbrev pub entry_is_needy : Bool → Option Entry → Bool
entry_is_needy hidden None = true
entry_is_needy hidden (Some entry) = is_needy hidden entry.needs

-- no part has this place
abbrev pub no_part : ℕ
no_part = 2 ^ 32 - 1

-- an element of a group is in a part: its number among the group's elements is one of those of the part
abbrev pub is_in : ℕ → Part → Bool
is_in child part = nat_le part.first child && nat_lt child (part.first + part.declared)

-- the first branch of a choice that has an element, counted from a branch on
abbrev pub branch_with : List Part → ℕ → ℕ → Option ℕ
branch_with [] child at = None
branch_with (part ∷ parts) child at = if is_in child part then Some at else branch_with parts child (min (at + 1) no_part)

-- the first that needs no item
abbrev pub branch_without : List Entry → Bool → List Part → ℕ → Option ℕ
branch_without layout hidden [] at = None
branch_without layout hidden (part ∷ parts) at =
    if entry_is_needy hidden (slice_get layout part.component) then branch_without layout hidden parts (min (at + 1) no_part) else Some at
