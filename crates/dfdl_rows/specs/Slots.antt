-- The slots of a group, the separators at them, and the rows that repeat elements there, and those that try them ('Sequence Groups',
-- 'Arrays and Optional Elements'). Separators are rows of their own where all occurrences are required by bounds; else Apart says what the sequence is.
use Rattle.std.specs.Prelude.{ℕ, ◌+◌, ◌-◌, Bool, true, false, ◌&&◌, ◌||◌, nat_lt, List, [], ◌∷◌, ◌++◌, length, get_or, map, Option, None, Some, option_map, if◌then◌else◌}
use Rattle.dfdl_separators.specs.declared.policy.SeparatorPosition.{SeparatorPosition}
use Rattle.dfdl_separators.specs.declared.policy.SeparatorPosition.TheVariants.{Prefix, Infix, Postfix}
use Rattle.dfdl_terms.specs.declared.framing.Framing.{Framing}
use Rattle.dfdl_terms.specs.declared.keys.Key.{Key}
use Rattle.dfdl_terms.specs.declared.row.Row.{Row}
use Rattle.dfdl_terms.specs.declared.row.Row.TheVariants.{Group, Repeat, Counted as CountedRow, Separator, Optional, Choice as Chosen, Dispatch as Dispatched}
use Rattle.dfdl_rows.specs.Framing.{has_framing}
use Rattle.dfdl_rows.specs.declared.component.BranchKey.{BranchKey}
use Rattle.dfdl_rows.specs.declared.component.Component.{Component}
use Rattle.dfdl_rows.specs.declared.component.Component.TheVariants.{Sequence, Choice, ComplexElement, SimpleElement, CalculatedElement, Hidden}
use Rattle.dfdl_rows.specs.declared.component.Dispatch.{Dispatch}
use Rattle.dfdl_rows.specs.declared.component.Separated.{Separated}
use Rattle.dfdl_rows.specs.declared.times.Times.{Times}
use Rattle.dfdl_rows.specs.Times.{has_tried, required_times, times_of}
use Rattle.dfdl_rows.specs.Apart.{apart, apart_row}
use Rattle.dfdl_rows.specs.declared.slots.Grouping.{Grouping}
use Rattle.dfdl_rows.specs.declared.slots.Grouping.TheVariants as grouping

-- how many slots a group with this framing and these parts has in the one that it stands in: one, unless nothing stands in it and
-- nothing frames it
abbrev pub slots_of_group : Framing → List ℕ → ℕ
slots_of_group framing [] = if has_framing framing then 1 else 0
slots_of_group framing (part ∷ parts) = 1

-- how often a component with these parts occurs in the group that it stands in: a group once for each of its slots, a hidden one once, and an
-- element whose value is calculated has no slot
abbrev pub slots_of : Component → List ℕ → Times
slots_of (Sequence framing separated initiated) parts = required_times (slots_of_group framing parts)
slots_of (Choice framing initiated dispatch) parts = required_times (slots_of_group framing parts)
slots_of (ComplexElement name framing box occurs often) parts = times_of occurs often
slots_of (SimpleElement name simple prim framing own_length tried scanned occurs often) parts = times_of occurs often
slots_of (CalculatedElement name simple statement framing) parts = required_times 0
slots_of Hidden parts = required_times 1

-- how many required slots parts have together
abbrev pub count_slots : List Times → ℕ
count_slots [] = 0
count_slots (n ∷ slots) = n.least + count_slots slots

-- so many slots need separators: between them they need some where there are two
abbrev pub need_separators : SeparatorPosition → ℕ → Bool
need_separators Prefix count = nat_lt 0 count
need_separators Infix count = nat_lt 1 count
need_separators Postfix count = nat_lt 0 count

-- a slot begins with a separator, where a slot came before it or none did
abbrev pub begins : SeparatorPosition → Bool → Bool
begins Prefix taken = true
begins Infix taken = taken
begins Postfix taken = false

-- a slot ends with a separator
abbrev pub ends : SeparatorPosition → Bool
ends Prefix = false
ends Infix = false
ends Postfix = true

-- the row of this number, where it stands there
abbrev pub row_if : Bool → ℕ → List ℕ
row_if stands row = if stands then row ∷ [] else []

-- the row of a part, which is a slot or isn't, with the separators at it
abbrev pub with_separators : SeparatorPosition → ℕ → Bool → Bool → ℕ → List ℕ
with_separators position separator taken slot part =
    row_if (slot && begins position taken) separator ++ part ∷ row_if (slot && ends position) separator

-- where the separators of a sequence stand, if it has some and its parts, with so many slots, need one
abbrev pub needed : Option Separated → List Times → Option SeparatorPosition
needed None slots = None
needed (Some own) slots = if need_separators own.position (count_slots slots) then Some own.position else None

-- the row of separators, where there are some
abbrev pub separator_rows : Option SeparatorPosition → List Row
separator_rows None = []
separator_rows (Some position) = Separator ∷ []

-- The rows that repeat the row of a part with so many slots, from a number on: with its separator where there are separators. Between
-- slots the separator stands before each but the first.
abbrev pub repeating_rows : Option SeparatorPosition → ℕ → ℕ → ℕ → ℕ → List Row
repeating_rows None separator slots part first = Repeat slots part ∷ []
repeating_rows (Some Prefix) separator slots part first = Group (separator ∷ part ∷ []) ∷ Repeat slots first ∷ []
repeating_rows (Some Infix) separator slots part first = Group (separator ∷ part ∷ []) ∷ Repeat (slots - 1) first ∷ []
repeating_rows (Some Postfix) separator slots part first = Group (part ∷ separator ∷ []) ∷ Repeat slots first ∷ []

-- the rows of the sequence's group that stand for such a part
abbrev pub repeated : Option SeparatorPosition → ℕ → Bool → ℕ → ℕ → List ℕ
repeated None separator taken part first = first ∷ []
repeated (Some Prefix) separator taken part first = (first + 1) ∷ []
repeated (Some Infix) separator taken part first = row_if taken separator ++ (part ∷ (first + 1) ∷ [])
repeated (Some Postfix) separator taken part first = (first + 1) ∷ []

-- the rows of the sequence's group that stand for a part with one slot or none
abbrev pub single : Option SeparatorPosition → ℕ → Bool → Bool → ℕ → List ℕ
single None separator taken slot part = part ∷ []
single (Some position) separator taken slot part = with_separators position separator taken slot part

-- the rows of a part some of whose occurrences are tried, from a number on: those that are required stand before them in a group; initiators
-- tell what stands there, or don't
abbrev pub tried_rows : Bool → Times → ℕ → ℕ → List Row
tried_rows initiated occurs part first =
    if nat_lt 0 occurs.least
    then Repeat occurs.least part ∷ Optional occurs.further occurs.is_item initiated part ∷ Group (first ∷ (first + 1) ∷ []) ∷ []
    else Optional occurs.further occurs.is_item initiated part ∷ []

-- how many they are
abbrev pub tried_size : Times → ℕ
tried_size occurs = if nat_lt 0 occurs.least then 3 else 1

-- the rows of a part whose occurrences are required, where it has more slots than one
abbrev pub required_rows : Option SeparatorPosition → ℕ → ℕ → ℕ → ℕ → List Row
required_rows way separator slots part first = if nat_lt 1 slots then repeating_rows way separator slots part first else []

-- the rows of the group that stand for such a part, where rows that repeat it have this number on
abbrev pub required_children : Option SeparatorPosition → ℕ → Bool → ℕ → ℕ → ℕ → List ℕ
required_children way separator taken slots part first =
    if nat_lt 1 slots then repeated way separator taken part first else single way separator taken (nat_lt 0 slots) part

-- the rows that repeat and try a part by its bounds; where it is tried there is no separator
abbrev pub bounded_rows : Bool → Option SeparatorPosition → ℕ → Times → ℕ → ℕ → List Row
bounded_rows initiated way separator occurs part first =
    if has_tried occurs then tried_rows initiated occurs part first else required_rows way separator occurs.least part first

-- the rows of the group that stand for such a part, where rows that repeat it or try it have this number on: for one that is tried the last
abbrev pub bounded_children : Option SeparatorPosition → ℕ → Bool → Times → ℕ → ℕ → List ℕ
bounded_children way separator taken occurs part first =
    if has_tried occurs then (first + tried_size occurs - 1) ∷ [] else required_children way separator taken occurs.least part first

-- the rows that repeat a part as often as this question tells, or by its bounds where there is none
abbrev pub rows_by : Option ℕ → Bool → Option SeparatorPosition → ℕ → Times → ℕ → ℕ → List Row
rows_by None initiated way separator occurs part first = bounded_rows initiated way separator occurs part first
rows_by (Some question) initiated way separator occurs part first = CountedRow question part ∷ []

-- the rows of the group that stand for it
abbrev pub children_by : Option ℕ → Option SeparatorPosition → ℕ → Bool → Times → ℕ → ℕ → List ℕ
children_by None way separator taken occurs part first = bounded_children way separator taken occurs part first
children_by (Some question) way separator taken occurs part first = first ∷ []

-- the rows that repeat and try a part; one whose number of occurrences a question tells is repeated by one row
abbrev pub part_rows : Bool → Option SeparatorPosition → ℕ → Times → ℕ → ℕ → List Row
part_rows initiated way separator occurs part first = rows_by occurs.question initiated way separator occurs part first

-- the rows of the group that stand for a part, where rows that repeat it or try it have this number on
abbrev pub part_children : Option SeparatorPosition → ℕ → Bool → Times → ℕ → ℕ → List ℕ
part_children way separator taken occurs part first = children_by occurs.question way separator taken occurs part first

-- what is made of some parts of a group: the rows of its separators and those that repeat and try parts, the rows that stand in it, and
-- whether one of the parts had a slot
pub record Laid : Type 0 where
  pub rows : List Row
  pub children : List ℕ
  pub taken : Bool

-- the same, from its parts
abbrev pub laid : List Row → List ℕ → Bool → Laid
laid rows children taken = record { rows = rows; children = children; taken = taken }

-- a part that occurs so often comes behind others, where the rows have a number on; the first is that of the separators
abbrev pub with_part : Bool → Option SeparatorPosition → ℕ → Times → ℕ → Laid → Laid
with_part initiated way first occurs part a =
    laid (a.rows ++ part_rows initiated way first occurs part (first + length a.rows)) (a.children ++ part_children way first a.taken occurs part (first + length a.rows))
    (a.taken || nat_lt 0 occurs.least)

-- so do the parts from one on
unfoldable pub lay : Bool → Option SeparatorPosition → ℕ → List ℕ → List Times → ℕ → Laid → Laid
lay initiated way first parts [] at a = a
lay initiated way first parts (n ∷ slots) at a =
    lay initiated way first parts slots (at + 1) (with_part initiated way first n (get_or parts at 0) a)

-- what is made of all parts of a group, which occur so often
abbrev pub all_laid : Bool → Option SeparatorPosition → List Times → List ℕ → ℕ → Laid
all_laid initiated way slots parts first = lay initiated way first parts slots 0 (laid (separator_rows way) [] false)

-- the same, where the group has these separators, if it has some
abbrev pub laid_of : Bool → Option Separated → List Times → List ℕ → ℕ → Laid
laid_of initiated separated slots parts first = all_laid initiated (needed separated slots) slots parts first

-- how many rows the separators are
abbrev pub separator_size : Option SeparatorPosition → ℕ
separator_size None = 0
separator_size (Some position) = 1

-- how many rows repeat a part
abbrev pub repeating_size : Option SeparatorPosition → ℕ
repeating_size None = 1
repeating_size (Some position) = 2

-- how many rows repeat a part with so many slots, all of which are required
abbrev pub required_size : Option SeparatorPosition → ℕ → ℕ
required_size way slots = if nat_lt 1 slots then repeating_size way else 0

-- how many rows repeat and try a part by its bounds
abbrev pub bounded_size : Option SeparatorPosition → Times → ℕ
bounded_size way occurs = if has_tried occurs then tried_size occurs else required_size way occurs.least

-- how many rows repeat a part as often as this question tells, or by its bounds where there is none
abbrev pub part_size_by : Option ℕ → Option SeparatorPosition → Times → ℕ
part_size_by None way occurs = bounded_size way occurs
part_size_by (Some question) way occurs = 1

-- how many rows repeat and try a part
abbrev pub part_size : Option SeparatorPosition → Times → ℕ
part_size way occurs = part_size_by occurs.question way occurs

-- how many rows repeat and try the parts
abbrev pub parts_size : Option SeparatorPosition → List Times → ℕ
parts_size way [] = 0
parts_size way (n ∷ slots) = part_size way n + parts_size way slots

-- how many rows the separators are and those that repeat and try parts
abbrev pub laid_size : Option Separated → List Times → ℕ
laid_size separated slots = separator_size (needed separated slots) + parts_size (needed separated slots) slots

-- how many rows of a group stand before its own, where the sequence is one row of slots with these separators, or isn't
abbrev pub size_by : Option Separated → Option Separated → List Times → ℕ
size_by None separated slots = laid_size separated slots
size_by (Some own) separated slots = 0

-- how many rows of a group stand before its own
unfoldable pub slots_size : Option Separated → List Times → ℕ
slots_size separated slots = size_by (apart separated slots) separated slots

-- the number of the list of a sequence's separators, where it has some
abbrev pub separator_list : Option Separated → Option ℕ
separator_list separated = option_map (λ own. own.list) separated

-- what a group is: a sequence, a choice whose branches are tried, or one whose branch a key tells
pub data Kind : Type 0 where
  InOrder : Kind
  OneTried : Kind
  OneByKey : Dispatch → Kind

-- a choice
abbrev pub kind_by : Option Dispatch → Kind
kind_by None = OneTried
kind_by (Some dispatch) = OneByKey dispatch

-- a sequence or a choice
abbrev pub kind_of : Grouping → Option Dispatch → Kind
kind_of grouping.Sequence dispatch = InOrder
kind_of grouping.Choice dispatch = kind_by dispatch

-- a key with the row that stands for its branch, of these rows of the branches
abbrev pub key_of : List ℕ → BranchKey → Key
key_of branches key = record { text = key.text; body = get_or branches key.branch 0 }

-- the row of a group of rows, by what they are in it; initiators tell what stands in it, or don't
abbrev pub row_of : Kind → Bool → List ℕ → Row
row_of InOrder initiated children = Group children
row_of OneTried initiated children = Chosen children initiated
row_of (OneByKey dispatch) initiated children = Dispatched dispatch.question (map (key_of children) dispatch.keys)

-- the rows of a group from a number on, where the sequence is one row of slots with these separators, or isn't
abbrev pub grouped_by : Option Separated → Kind → Bool → Option Separated → List Times → List ℕ → ℕ → List Row
grouped_by None kind initiated separated slots parts first =
    (laid_of initiated separated slots parts first).rows ++ row_of kind initiated (laid_of initiated separated slots parts first).children ∷ []
grouped_by (Some own) kind initiated separated slots parts first = apart_row initiated slots parts own ∷ []

-- the rows of a group from a number on, where these are the last rows of its parts, which occur so often: those of its separators and those
-- that repeat and try parts, and its own; a sequence with separators some of whose occurrences are tried or told has its own alone
unfoldable pub grouped : Kind → Bool → Option Separated → List Times → List ℕ → ℕ → List Row
grouped kind initiated separated slots parts first = grouped_by (apart separated slots) kind initiated separated slots parts first
