-- Which act of laying comes next: it is determined by the layout, by what is aimed at, and by what is open innermost. 'Sequence Groups', 'Choices', 'Properties for Array
-- Elements and Optional Elements'.
use Rattle.std.specs.Prelude.{ℕ, ◌+◌, ◌-◌, ◌^◌, ◌==◌, ◌&&◌, not, min, nat_lt, Bool, true, false, List, [], ◌∷◌, slice_get, if◌then◌else◌, Option, None, Some, is_some}
use Rattle.dfdl_outline.specs.Outlines.{branch_with, branch_without}
use Rattle.dfdl_outline.specs.declared.entry.Entry.{Entry}
use Rattle.dfdl_outline.specs.declared.entry.Separating.{Separating}
use Rattle.dfdl_outline.specs.declared.entry.Sort.{Sort}
use Rattle.dfdl_outline.specs.declared.entry.Sort.TheVariants.{Sequence, Choice, Complex, Simple, Calculated, Hidden, Unbuilt}
use Rattle.dfdl_outline.specs.declared.part.Part.{Part}
use Rattle.dfdl_outline.specs.declared.part.Slot.{Slot}
use Rattle.dfdl_outline.specs.declared.part.Slot.TheVariants as slot
use Rattle.dfdl_laying.specs.declared.act.Act.{Act}
use Rattle.dfdl_laying.specs.declared.act.Act.TheVariants.{Wait, Take, Leave, Pass, Fill, Blank, Enter, Choose, Branchless}
use Rattle.dfdl_laying.specs.declared.act.Act.TheVariants as act
use Rattle.dfdl_laying.specs.declared.act.Aim.{Aim}
use Rattle.dfdl_laying.specs.declared.act.Aim.TheVariants as aim
use Rattle.dfdl_laying.specs.declared.frame.Open.{Open}

-- an item of the unknown of a part's occurrences is aimed at
abbrev pub is_aimed : Aim → ℕ → Bool
is_aimed aim.Nothing first = false
is_aimed (aim.Child child) first = child == first
is_aimed aim.End first = false

-- laying goes on to what lies behind
abbrev pub is_passing : Aim → Bool
is_passing aim.Nothing = false
is_passing (aim.Child child) = true
is_passing aim.End = true

-- an element's part has no item more: what is required is filled up, then come slots without an occurrence
abbrev pub has_blanks : Slot → Bool
has_blanks slot.Absent = false
has_blanks slot.Always = true
has_blanks slot.IfLong = false
has_blanks slot.IfLater = true

-- there are at most so many occurrences, and not any number
abbrev pub is_bounded : Part → Bool
is_bounded part = nat_lt part.most (2 ^ 64 - 1)

abbrev pub act_without : Bool → Part → ℕ → Act
act_without separated part count =
    if nat_lt count part.least then Fill
    else if separated && has_blanks part.slot && is_bounded part && nat_lt count part.most then Blank
    else Pass

-- at an element that the infoset can have
abbrev pub act_shown : Bool → Aim → Part → ℕ → ℕ → Act
act_shown separated aim part first count =
    if nat_lt count part.most
    then if is_aimed aim first then Take else if is_passing aim then act_without separated part count else Wait
    else Pass

-- at an element
abbrev pub act_element : Bool → Bool → Aim → Part → ℕ → ℕ → Act
act_element separated hidden aim part first count =
    if hidden then act_without separated part count else act_shown separated aim part first count

-- at an element whose value is calculated, which is laid once
abbrev pub act_calculated : Aim → ℕ → ℕ → Act
act_calculated aim first count = if nat_lt 0 count then Pass else if is_aimed aim first then Take else Fill

-- at a group, which is gone into once
abbrev pub act_group : ℕ → Act
act_group count = if nat_lt 0 count then Pass else Enter

-- at a part by what it is
abbrev pub act_by : Sort → Bool → Bool → Aim → Part → ℕ → ℕ → Act
act_by (Sequence separating) separated hidden aim part first count = act_group count
act_by Choice separated hidden aim part first count = act_group count
act_by (Complex size) separated hidden aim part first count = act_element separated hidden aim part first count
act_by (Simple own) separated hidden aim part first count = act_element separated hidden aim part first count
act_by Calculated separated hidden aim part first count = act_calculated aim first count
act_by Hidden separated hidden aim part first count = act_group count
act_by Unbuilt separated hidden aim part first count = act_calculated aim first count

abbrev pub act_at_part : Option Entry → Bool → Bool → Aim → Part → ℕ → ℕ → Act
act_at_part None separated hidden aim part first count = Pass
act_at_part (Some entry) separated hidden aim part first count = act_by entry.sort separated hidden aim part first count

-- the separators of a component
abbrev pub separating_of : Sort → Option Separating
separating_of (Sequence separating) = separating
separating_of Choice = None
separating_of (Complex size) = None
separating_of (Simple own) = None
separating_of Calculated = None
separating_of Hidden = None
separating_of Unbuilt = None

-- the unknown of the occurrences of the first element of a part
abbrev pub first_of : Open → Part → ℕ
first_of top part = min (top.first + part.first) (2 ^ 32 - 1)

-- at what is open
abbrev pub act_in_part : List Entry → Aim → Open → Entry → Option Part → Act
act_in_part layout aim top entry None = Leave
act_in_part layout aim top entry (Some part) =
    act_at_part (slice_get layout part.component) (is_some (separating_of entry.sort)) top.is_hidden aim part (first_of top part) top.count

-- a branch, if there is one
abbrev pub act_branch : Option ℕ → Act
act_branch None = Branchless
act_branch (Some branch) = Choose branch

-- which branch is taken where none has an element that is there
abbrev pub act_unaimed : List Entry → Open → Entry → Act
act_unaimed layout top entry = act_branch (branch_without layout top.is_hidden entry.parts 0)

-- the first branch that has an element that is aimed at, and else the first that needs no item
abbrev pub act_aimed : List Entry → ℕ → Open → Entry → Option ℕ → Act
act_aimed layout child top entry None = act_unaimed layout top entry
act_aimed layout child top entry (Some branch) = Choose branch

-- an element's place among those that are declared from one on; one before has none
abbrev pub place_in : ℕ → ℕ → Option ℕ
place_in first child = if nat_lt child first then None else Some (child - first)

abbrev pub branch_at : List Part → Option ℕ → Option ℕ
branch_at parts None = None
branch_at parts (Some place) = branch_with parts place 0

-- a choice whose branch isn't known: an event can tell it as long as one of its elements may come
abbrev pub act_choice : List Entry → Aim → Open → Entry → Act
act_choice layout aim.Nothing top entry =
    if not top.is_hidden && nat_lt 0 entry.declared then Wait else act_unaimed layout top entry
act_choice layout (aim.Child child) top entry =
    if top.is_hidden then act_unaimed layout top entry
    else act_aimed layout child top entry (branch_at entry.parts (place_in top.first child))
act_choice layout aim.End top entry = act_unaimed layout top entry

-- an element that the infoset has ends by an event
abbrev pub act_complex_end : Bool → Aim → Act
act_complex_end hidden aim.Nothing = if hidden then Leave else Wait
act_complex_end hidden (aim.Child child) = if hidden then Leave else Wait
act_complex_end hidden aim.End = if hidden then Leave else act.End

abbrev pub act_complex : List Entry → Aim → Open → Entry → Option Part → Act
act_complex layout aim top entry None = act_complex_end top.is_hidden aim
act_complex layout aim top entry (Some part) = act_in_part layout aim top entry (Some part)

abbrev pub act_in : List Entry → Aim → Open → Entry → Sort → Act
act_in layout aim top entry (Sequence separating) = act_in_part layout aim top entry (slice_get entry.parts top.part)
act_in layout aim top entry Choice =
    if top.is_chosen then act_in_part layout aim top entry (slice_get entry.parts top.part) else act_choice layout aim top entry
act_in layout aim top entry (Complex size) = act_complex layout aim top entry (slice_get entry.parts top.part)
act_in layout aim top entry (Simple own) = Leave
act_in layout aim top entry Calculated = Leave
act_in layout aim top entry Hidden = act_in_part layout aim top entry (slice_get entry.parts top.part)
act_in layout aim top entry Unbuilt = Leave

abbrev pub act_if : List Entry → Aim → Open → Option Entry → Act
act_if layout aim top None = Wait
act_if layout aim top (Some entry) = act_in layout aim top entry entry.sort

-- what is done next, with what is open innermost; where nothing is open, an event is wanted
abbrev pub act_top : List Entry → Aim → Option Open → Act
act_top layout aim None = Wait
act_top layout aim (Some top) = act_if layout aim top (slice_get layout top.component)

abbrev pub act_at : List Entry → Aim → List Open → Act
act_at layout aim stack = act_top layout aim (slice_get stack 0)

-- laying goes no further by itself
abbrev pub is_stop : Act → Bool
is_stop Wait = true
is_stop Take = true
is_stop act.End = true
is_stop Leave = false
is_stop Pass = false
is_stop Fill = false
is_stop Blank = false
is_stop Enter = false
is_stop (Choose branch) = false
is_stop Branchless = false
