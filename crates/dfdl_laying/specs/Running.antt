-- How laying runs from event to event: over a stack of what is open, one act after another. 'Sequence Groups', 'Choices', 'Properties for Array Elements and Optional
-- Elements'.
use Rattle.std.specs.Prelude.{◌≡◌, ℕ, zero, suc, ◌+◌, ◌-◌, ◌^◌, ◌==◌, ◌&&◌, ◌||◌, not, min, nat_lt, Bool, true, false, List, [], ◌∷◌, ◌++◌, slice_get, if◌then◌else◌, Option, None, Some}
use Rattle.dfdl_value.specs.declared.value.Value.{Value}
use Rattle.dfdl_cells.specs.Growing.{is_waiting}
use Rattle.dfdl_cells.specs.declared.cell.Cell.{Cell}
use Rattle.dfdl_cells.specs.declared.cell.Cell.TheVariants as cell
use Rattle.dfdl_outline.specs.Outlines.{steps_of}
use Rattle.dfdl_outline.specs.declared.entry.ContentSize.{ContentSize}
use Rattle.dfdl_outline.specs.declared.entry.Entry.{Entry}
use Rattle.dfdl_outline.specs.declared.entry.Separating.{Separating}
use Rattle.dfdl_outline.specs.declared.entry.SimpleSort.{SimpleSort}
use Rattle.dfdl_outline.specs.declared.entry.Sort.{Sort}
use Rattle.dfdl_outline.specs.declared.entry.Sort.TheVariants.{Sequence, Choice, Complex, Simple, Calculated, Hidden, Unbuilt}
use Rattle.dfdl_outline.specs.declared.part.Part.{Part}
use Rattle.dfdl_laying.specs.Acting.{act_at, first_of, is_stop, separating_of}
use Rattle.dfdl_laying.specs.Laying.{Laid, branchless, complex_closed, complex_missed, complex_opened, document_ended, given, group_closed, group_opened, next, nothing_laid, with_calculated, with_simple, with_surplus, with_unbuilt}
use Rattle.dfdl_laying.specs.Slots.{Slotted, is_final, no_slots, slot_begun, slot_ended, slot_of, slots_ended}
use Rattle.dfdl_laying.specs.declared.act.Act.{Act}
use Rattle.dfdl_laying.specs.declared.act.Act.TheVariants.{Wait, Take, Leave, Pass, Fill, Blank, Enter, Choose, Branchless}
use Rattle.dfdl_laying.specs.declared.act.Act.TheVariants as act
use Rattle.dfdl_laying.specs.declared.act.Aim.{Aim}
use Rattle.dfdl_laying.specs.declared.act.Aim.TheVariants as aim
use Rattle.dfdl_laying.specs.declared.act.Said.{Said}
use Rattle.dfdl_laying.specs.declared.act.Said.TheVariants as said
use Rattle.dfdl_laying.specs.declared.frame.Open.{Open}
use Rattle.dfdl_laying.specs.declared.frame.Slots.{Slots}
use Rattle.dfdl_laying.specs.declared.frame.Tops.{Tops}
use Rattle.dfdl_laying.specs.declared.slots.Place.{Place as SlotPlace}

-- what was laid, and what is open, the innermost first
pub record Run : Type 0 where
  pub laid : Laid
  pub stack : List Open

-- what was laid by an act, and what is open then in place of what was open innermost: that itself as it is now, and what opened in it, if something did
pub record Acted : Type 0 where
  pub laid : Laid
  pub tops : Tops

-- nothing opened
abbrev pub only : Open → Tops
only top = record { top = top; inner = None }

-- nothing was done
abbrev pub idle : Open → Laid → Acted
idle top laid = record { laid = laid; tops = only top }

-- the cause of what is missing: 13 where it is hidden, and else 10
abbrev pub cause_of : Bool → ℕ
cause_of hidden = if hidden then 13 else 10

-- no part has this place
abbrev pub no_part : ℕ
no_part = 2 ^ 32 - 1

-- how many elements an element with parts declares: those of its one part
abbrev pub declared_by : Option Part → ℕ
declared_by None = 0
declared_by (Some part) = part.declared

abbrev pub declared_in : Entry → ℕ
declared_in entry = declared_by (slice_get entry.parts 0)

-- one occurrence more, as far as 64 bits count
abbrev pub one_more : ℕ → ℕ
one_more count = min (count + 1) (2 ^ 64 - 1)

-- the slot of the occurrence of a part that so many come before
abbrev pub place_of : Open → Part → ℕ → ℕ → SlotPlace
place_of top part count steps = record {
  component = top.component;
  slot = slot_of part count;
  is_final = is_final part count;
  count = steps;
}

-- a slot of so many steps begins at a part
unfoldable pub begun_slot : Entry → Open → Part → ℕ → Laid → Slotted
begun_slot entry top part steps laid =
    slot_begun top.component (separating_of entry.sort) (slot_of part top.count) (is_final part top.count) steps top.slots laid

-- the slot of the occurrence before so many ends
unfoldable pub ended_slot : Entry → Open → Part → ℕ → ℕ → Slots → Laid → Slotted
ended_slot entry top part count steps slots laid =
    slot_ended top.component (separating_of entry.sort) (slot_of part count) (is_final part count) steps slots laid

-- an item more, so that there are so many
abbrev pub with_item : Open → ℕ → ℕ → Slots → Open
with_item top item count slots = record top { count = count; items = top.items ++ item ∷ []; slots = slots }

-- an occurrence of an element without parts was laid, so that there are so many: its slot ends
abbrev pub item_ended : Entry → Open → Part → ℕ → ℕ → ℕ → Slots → Laid → Acted
item_ended entry top part steps count item slots laid = record {
  laid = (ended_slot entry top part top.count steps slots laid).laid;
  tops = only (with_item top item count (ended_slot entry top part top.count steps slots laid).slots);
}

-- an occurrence of an element without parts in its slot, whose laying is this
abbrev pub item_laid : Entry → Open → Part → ℕ → ℕ → (Laid → Laid) → Laid → Acted
item_laid entry top part steps count lay laid =
    item_ended entry top part steps count (next (begun_slot entry top part steps laid).laid) (begun_slot entry top part steps laid).slots
    (lay (begun_slot entry top part steps laid).laid)

-- a component that opens, of which nothing was laid
abbrev pub opened : ℕ → ℕ → Bool → ℕ → Open
opened component first hidden markup = record {
  component = component;
  part = 0;
  count = 0;
  first = first;
  is_hidden = hidden;
  is_chosen = false;
  items = [];
  slots = no_slots;
  markup = markup;
}

-- an element with parts that opens in its slot
unfoldable pub complex_item : Entry → Open → Part → Entry → ContentSize → Laid → Acted
complex_item entry top part inner size laid = record {
  laid = complex_opened part.component (declared_in inner) size inner.around (begun_slot entry top part (steps_of inner) laid).laid;
  tops = record {
    top = with_item top (next (begun_slot entry top part (steps_of inner) laid).laid) (one_more top.count)
        (begun_slot entry top part (steps_of inner) laid).slots;
    inner = Some (opened part.component (next (begun_slot entry top part (steps_of inner) laid).laid) top.is_hidden
        (begun_slot entry top part (steps_of inner) laid).laid.here.markup);
  };
}

-- the value of a simple element that is missing: its default, and else none, for the cause
abbrev pub filled : Bool → Option Value → Cell
filled hidden None = cell.Faulty (cause_of hidden)
filled hidden (Some value) = cell.Given value

-- how many occurrences there are behind it: only the first of those that are missing is laid
abbrev pub filled_count : Part → ℕ → Option Value → ℕ
filled_count part count None = part.least
filled_count part count (Some value) = one_more count

-- an element without parts as an occurrence, so that there are so many: a simple one that is this, a calculated one, one that isn't laid yet, and one with
-- parts that is missing
unfoldable pub simple_item : Entry → Open → Part → Entry → SimpleSort → Cell → ℕ → Laid → Acted
simple_item entry top part inner own is count laid =
    item_laid entry top part (steps_of inner) count (with_simple part.component own inner.around is) laid

unfoldable pub calculated_item : Entry → Open → Part → Entry → Laid → Acted
calculated_item entry top part inner laid = item_laid entry top part (steps_of inner) (one_more top.count) with_calculated laid

unfoldable pub unbuilt_item : Entry → Open → Part → Entry → Laid → Acted
unbuilt_item entry top part inner laid = item_laid entry top part (steps_of inner) (one_more top.count) with_unbuilt laid

unfoldable pub missed_item : Entry → Open → Part → Entry → ContentSize → Laid → Acted
missed_item entry top part inner size laid =
    item_laid entry top part (steps_of inner) part.least
    (complex_missed part.component (declared_in inner) size inner.around (cause_of false)) laid

-- an item of a part is laid that the infoset has
abbrev pub taken_by : Entry → Open → Part → Entry → Sort → Cell → Laid → Acted
taken_by entry top part inner (Sequence separating) is laid = idle top laid
taken_by entry top part inner Choice is laid = idle top laid
taken_by entry top part inner (Complex size) is laid = complex_item entry top part inner size laid
taken_by entry top part inner (Simple own) is laid = simple_item entry top part inner own is (one_more top.count) laid
taken_by entry top part inner Calculated is laid = calculated_item entry top part inner laid
taken_by entry top part inner Hidden is laid = idle top laid
taken_by entry top part inner Unbuilt is laid = unbuilt_item entry top part inner laid

-- an element with parts that the infoset doesn't have: a hidden one opens, as what is hidden in it is laid by itself; another is missing
abbrev pub filled_complex : Entry → Open → Part → Entry → ContentSize → Laid → Acted
filled_complex entry top part inner size laid =
    if top.is_hidden then complex_item entry top part inner size laid else missed_item entry top part inner size laid

-- an occurrence that the infoset doesn't have
abbrev pub filled_by : Entry → Open → Part → Entry → Sort → Laid → Acted
filled_by entry top part inner (Sequence separating) laid = idle top laid
filled_by entry top part inner Choice laid = idle top laid
filled_by entry top part inner (Complex size) laid = filled_complex entry top part inner size laid
filled_by entry top part inner (Simple own) laid =
    simple_item entry top part inner own (filled top.is_hidden own.default) (filled_count part top.count own.default) laid
filled_by entry top part inner Calculated laid = calculated_item entry top part inner laid
filled_by entry top part inner Hidden laid = idle top laid
filled_by entry top part inner Unbuilt laid = unbuilt_item entry top part inner laid

-- a slot without an occurrence
abbrev pub blank_laid : Entry → Open → Part → Laid → Acted
blank_laid entry top part laid = record {
  laid = (ended_slot entry top part top.count 0 (begun_slot entry top part 0 laid).slots (begun_slot entry top part 0 laid).laid).laid;
  tops = only (record top {
    count = one_more top.count;
    slots = (ended_slot entry top part top.count 0 (begun_slot entry top part 0 laid).slots (begun_slot entry top part 0 laid).laid).slots;
  });
}

-- where laying is behind a part: a choice has one alone
abbrev pub part_behind : Sort → ℕ → ℕ
part_behind (Sequence separating) part = min (part + 1) no_part
part_behind Choice part = no_part
part_behind (Complex size) part = min (part + 1) no_part
part_behind (Simple own) part = min (part + 1) no_part
part_behind Calculated part = min (part + 1) no_part
part_behind Hidden part = min (part + 1) no_part
part_behind Unbuilt part = min (part + 1) no_part

-- no item of a part comes any more
abbrev pub passed : Entry → Open → Part → Laid → Acted
passed entry top part laid = record {
  laid = if part.is_element then given (first_of top part) (cell.Items top.items) laid else laid;
  tops = only (record top { part = part_behind entry.sort top.part; count = 0; items = [] });
}

-- a group is hidden in one that is, and in a sequence that hides it
abbrev pub hides : Sort → Bool
hides (Sequence separating) = false
hides Choice = false
hides (Complex size) = false
hides (Simple own) = false
hides Calculated = false
hides Hidden = true
hides Unbuilt = false

-- the list of separators
abbrev pub separators_of : Option Separating → Option ℕ
separators_of None = None
separators_of (Some own) = Some own.list

-- a group is gone into
abbrev pub entered : Entry → Open → Part → Entry → Laid → Acted
entered entry top part inner laid = record {
  laid = group_opened part.component inner.around (separators_of (separating_of inner.sort)) (begun_slot entry top part 0 laid).laid;
  tops = record {
    top = record top { count = one_more top.count; slots = (begun_slot entry top part 0 laid).slots };
    inner = Some (opened part.component (first_of top part) (top.is_hidden || hides inner.sort) (begun_slot entry top part 0 laid).laid.here.markup);
  };
}

-- so many elements have no item, from an unknown of occurrences on
unfoldable pub emptied : ℕ → ℕ → Laid → Laid
emptied first zero laid = laid
emptied first (suc count) laid = emptied (first + 1) count (given first (cell.Items []) laid)

-- those from one place up to another, counted from an unknown on
abbrev pub emptied_between : ℕ → ℕ → ℕ → Laid → Laid
emptied_between first from to laid =
    emptied (min (first + from) no_part) (min (first + to) no_part - min (first + from) no_part) laid

-- a branch is taken: the elements of all others have no item
abbrev pub others_emptied : Entry → ℕ → Option Part → Laid → Laid
others_emptied entry first None laid = laid
others_emptied entry first (Some part) laid =
    emptied_between first (min (part.first + part.declared) no_part) entry.declared (emptied_between first 0 part.first laid)

abbrev pub chosen : Entry → Open → ℕ → Laid → Acted
chosen entry top branch laid = record {
  laid = others_emptied entry top.first (slice_get entry.parts branch) laid;
  tops = only (record top { part = branch; is_chosen = true });
}

-- there is none to take
abbrev pub unbranched : Entry → Open → Laid → Acted
unbranched entry top laid = record {
  laid = branchless top.first entry.declared (cause_of top.is_hidden) laid;
  tops = only (record top { part = no_part; is_chosen = true });
}

-- what is done with a part, where laying is at one that there is
abbrev pub filled_in : Entry → Open → Part → Option Entry → Laid → Acted
filled_in entry top part None laid = idle top laid
filled_in entry top part (Some inner) laid = filled_by entry top part inner inner.sort laid

abbrev pub filled_at : List Entry → Entry → Open → Option Part → Laid → Acted
filled_at layout entry top None laid = idle top laid
filled_at layout entry top (Some part) laid = filled_in entry top part (slice_get layout part.component) laid

abbrev pub blank_at : Entry → Open → Option Part → Laid → Acted
blank_at entry top None laid = idle top laid
blank_at entry top (Some part) laid = blank_laid entry top part laid

abbrev pub passed_at : Entry → Open → Option Part → Laid → Acted
passed_at entry top None laid = idle top laid
passed_at entry top (Some part) laid = passed entry top part laid

abbrev pub entered_in : Entry → Open → Part → Option Entry → Laid → Acted
entered_in entry top part None laid = idle top laid
entered_in entry top part (Some inner) laid = entered entry top part inner laid

abbrev pub entered_at : List Entry → Entry → Open → Option Part → Laid → Acted
entered_at layout entry top None laid = idle top laid
entered_at layout entry top (Some part) laid = entered_in entry top part (slice_get layout part.component) laid

abbrev pub taken_in : Entry → Open → Part → Option Entry → Cell → Laid → Acted
taken_in entry top part None is laid = idle top laid
taken_in entry top part (Some inner) is laid = taken_by entry top part inner inner.sort is laid

abbrev pub taken_at : List Entry → Entry → Open → Option Part → Cell → Laid → Acted
taken_at layout entry top None is laid = idle top laid
taken_at layout entry top (Some part) is laid = taken_in entry top part (slice_get layout part.component) is laid

-- one act inside of what is open innermost; nothing is done where an event is wanted, or where that ends
abbrev pub acted_in : List Entry → Act → Entry → Open → Laid → Acted
acted_in layout Wait entry top laid = idle top laid
acted_in layout Take entry top laid = idle top laid
acted_in layout act.End entry top laid = idle top laid
acted_in layout Leave entry top laid = idle top laid
acted_in layout Pass entry top laid = passed_at entry top (slice_get entry.parts top.part) laid
acted_in layout Fill entry top laid = filled_at layout entry top (slice_get entry.parts top.part) laid
acted_in layout Blank entry top laid = blank_at entry top (slice_get entry.parts top.part) laid
acted_in layout Enter entry top laid = entered_at layout entry top (slice_get entry.parts top.part) laid
acted_in layout (Choose branch) entry top laid = chosen entry top branch laid
acted_in layout Branchless entry top laid = unbranched entry top laid

-- what is open then
abbrev pub with_inner : Option Open → List Open → List Open
with_inner None stack = stack
with_inner (Some inner) stack = inner ∷ stack

abbrev pub run_with : Acted → List Open → Run
run_with one outer = record { laid = one.laid; stack = with_inner one.tops.inner (one.tops.top ∷ outer) }

-- what a component ends with
abbrev pub closed_by : Entry → Open → Sort → Laid → Laid
closed_by entry top (Sequence separating) laid =
    group_closed top.component entry.around top.markup (slots_ended top.component separating top.slots laid)
closed_by entry top Choice laid = group_closed top.component entry.around top.markup laid
closed_by entry top (Complex size) laid = complex_closed top.component size entry.around laid
closed_by entry top (Simple own) laid = laid
closed_by entry top Calculated laid = laid
closed_by entry top Hidden laid = group_closed top.component entry.around top.markup laid
closed_by entry top Unbuilt laid = laid

-- behind a component the slot ends that it stands in
abbrev pub ended_part : Entry → Open → Part → ℕ → Laid → Acted
ended_part entry top part steps laid = record {
  laid = (ended_slot entry top part (top.count - 1) steps top.slots laid).laid;
  tops = only (record top { slots = (ended_slot entry top part (top.count - 1) steps top.slots laid).slots });
}

abbrev pub ended_at : Entry → Open → Option Part → ℕ → Laid → Acted
ended_at entry top None steps laid = idle top laid
ended_at entry top (Some part) steps laid = ended_part entry top part steps laid

abbrev pub ended_in : Option Entry → Open → ℕ → Laid → Acted
ended_in None top steps laid = idle top laid
ended_in (Some entry) top steps laid = ended_at entry top (slice_get entry.parts top.part) steps laid

-- behind the root the document ends
abbrev pub ended_behind : List Entry → Entry → Laid → List Open → Run
ended_behind layout entry laid [] = record { laid = document_ended entry.around.fill laid; stack = [] }
ended_behind layout entry laid (top ∷ outer) = run_with (ended_in (slice_get layout top.component) top (steps_of entry) laid) outer

-- a component ends
abbrev pub left : List Entry → Entry → Open → Laid → List Open → Run
left layout entry top laid outer = ended_behind layout entry (closed_by entry top entry.sort laid) outer

-- the act is to end what is open innermost
abbrev pub is_leave : Act → Bool
is_leave Wait = false
is_leave Take = false
is_leave act.End = false
is_leave Leave = true
is_leave Pass = false
is_leave Fill = false
is_leave Blank = false
is_leave Enter = false
is_leave (Choose branch) = false
is_leave Branchless = false

-- one act
abbrev pub acted_by : List Entry → Act → Entry → Open → Laid → List Open → Run
acted_by layout act entry top laid outer =
    if is_leave act then left layout entry top laid outer else run_with (acted_in layout act entry top laid) outer

abbrev pub acted_on : List Entry → Act → Option Entry → Open → Laid → List Open → Run
acted_on layout act None top laid outer = record { laid = laid; stack = top ∷ outer }
acted_on layout act (Some entry) top laid outer = acted_by layout act entry top laid outer

abbrev pub acted : List Entry → Act → Laid → List Open → Run
acted layout act laid [] = record { laid = laid; stack = [] }
acted layout act laid (top ∷ outer) = acted_on layout act (slice_get layout top.component) top laid outer

-- acts one after another, as long as none wants an event, with what is aimed at
pub data Runs (layout : List Entry) (aim : Aim) : Run → Run → Type 0 where
  stops : {run : Run} → is_stop (act_at layout aim run.stack) ≡ true → Runs layout aim run run
  goes : {run other : Run} → is_stop (act_at layout aim run.stack) ≡ false
      → Runs layout aim (acted layout (act_at layout aim run.stack) run.laid run.stack) other → Runs layout aim run other

-- the item that is aimed at is laid, where laying has come to it
abbrev pub taken_on : List Entry → Cell → Option Entry → Open → Laid → List Open → Run
taken_on layout is None top laid outer = record { laid = laid; stack = top ∷ outer }
taken_on layout is (Some entry) top laid outer = run_with (taken_at layout entry top (slice_get entry.parts top.part) is laid) outer

abbrev pub taken_of : List Entry → Cell → Laid → List Open → Run
taken_of layout is laid [] = record { laid = laid; stack = [] }
taken_of layout is laid (top ∷ outer) = taken_on layout is (slice_get layout top.component) top laid outer

-- the act is to lay the item
abbrev pub is_take : Act → Bool
is_take Wait = false
is_take Take = true
is_take act.End = false
is_take Leave = false
is_take Pass = false
is_take Fill = false
is_take Blank = false
is_take Enter = false
is_take (Choose branch) = false
is_take Branchless = false

abbrev pub taken : List Entry → Aim → Cell → Run → Run
taken layout aim is run = if is_take (act_at layout aim run.stack) then taken_of layout is run.laid run.stack else run

-- the act is to end the element
abbrev pub is_end : Act → Bool
is_end Wait = false
is_end Take = false
is_end act.End = true
is_end Leave = false
is_end Pass = false
is_end Fill = false
is_end Blank = false
is_end Enter = false
is_end (Choose branch) = false
is_end Branchless = false

abbrev pub ended : List Entry → Run → Run
ended layout run = if is_end (act_at layout aim.End run.stack) then acted layout Leave run.laid run.stack else run

-- what was laid of the root, and what opened, if something did
pub record Rooted : Type 0 where
  pub laid : Laid
  pub inner : Option Open

-- the root opens in the document, where it has parts
abbrev pub rooted_complex : ℕ → Entry → ContentSize → Laid → Rooted
rooted_complex root entry size laid = record {
  laid = complex_opened root (declared_in entry) size entry.around laid;
  inner = Some (opened root (next laid) false laid.here.markup);
}

-- it is laid, and behind it the document ends
abbrev pub rooted_whole : Entry → Laid → Rooted
rooted_whole entry laid = record { laid = document_ended entry.around.fill laid; inner = None }

-- the root is laid in the document
abbrev pub rooted_by : ℕ → Entry → Sort → Cell → Laid → Rooted
rooted_by root entry (Sequence separating) is laid = record { laid = laid; inner = None }
rooted_by root entry Choice is laid = record { laid = laid; inner = None }
rooted_by root entry (Complex size) is laid = rooted_complex root entry size laid
rooted_by root entry (Simple own) is laid = rooted_whole entry (with_simple root own entry.around is laid)
rooted_by root entry Calculated is laid = rooted_whole entry (with_calculated laid)
rooted_by root entry Hidden is laid = record { laid = laid; inner = None }
rooted_by root entry Unbuilt is laid = rooted_whole entry (with_unbuilt laid)

abbrev pub rooted_if : ℕ → Option Entry → Cell → Laid → Rooted
rooted_if root None is laid = record { laid = laid; inner = None }
rooted_if root (Some entry) is laid = rooted_by root entry entry.sort is laid

abbrev pub rooted : Rooted → Run
rooted one = record { laid = one.laid; stack = with_inner one.inner [] }

-- the start of the root is the unknown behind those of its value and its lengths
abbrev pub start_by : Entry → Sort → ℕ
start_by entry (Sequence separating) = 0
start_by entry Choice = 0
start_by entry (Complex size) = min (declared_in entry + 2) no_part
start_by entry (Simple own) = 3
start_by entry Calculated = 3
start_by entry Hidden = 0
start_by entry Unbuilt = 3

abbrev pub start_of : Option Entry → ℕ
start_of None = 0
start_of (Some entry) = start_by entry entry.sort

-- ---- events ----

-- a run, how many elements are open inside of an item that has no place, itself counted in, and the component that is the root
pub record State : Type 0 where
  pub run : Run
  pub surplus : ℕ
  pub root : ℕ

-- the document, before its root
abbrev pub begin : List Entry → ℕ → State
begin layout root = record { run = record { laid = nothing_laid (start_of (slice_get layout root)); stack = [] }; surplus = 0; root = root }

-- the root was laid, or has begun
abbrev pub is_begun : Run → Bool
is_begun run = nat_lt 0 run.laid.elements

-- the unknown of the occurrences of an element that the innermost open one declares
abbrev pub child_of : Laid → ℕ → ℕ
child_of laid child = min (laid.here.first + child) no_part

-- an item of it has a place: its occurrences aren't determined yet
abbrev pub has_place : Laid → ℕ → Bool
has_place laid child = nat_lt child laid.here.declared && is_waiting (slice_get laid.book.cells (child_of laid child))

-- one more, where an element opens
abbrev pub one_inside : Bool → ℕ → ℕ
one_inside opens surplus = if opens then one_more surplus else surplus

-- one that is open inside of nothing, where an element opens
abbrev pub one_open : Bool → ℕ
one_open opens = if opens then 1 else 0

-- laying goes on to the place of the item, lays it, and goes on as far as no event is wanted
pub record LaysItem (layout : List Entry) (child : ℕ) (is : Cell) (old new : Run) : Type 0 where
  pub at_place : Run
  pub comes : Runs layout (aim.Child (child_of old.laid child)) old at_place
  pub goes_on : Runs layout aim.Nothing (taken layout (aim.Child (child_of old.laid child)) is at_place) new

-- an item comes: inside of one that has no place nothing is laid; the first is the root; one that has no place is laid as an unknown that is faulty, for U10
pub record TakesItem (layout : List Entry) (child : ℕ) (is : Cell) (opens : Bool) (old new : State) : Type 0 where
  pub inside : nat_lt 0 old.surplus ≡ true → new ≡ record old { surplus = one_inside opens old.surplus }
  pub first : nat_lt 0 old.surplus ≡ false → is_begun old.run ≡ false
      → Runs layout aim.Nothing (rooted (rooted_if old.root (slice_get layout old.root) is old.run.laid)) new.run × (new ≡ record old { run = new.run })
  pub placed : nat_lt 0 old.surplus ≡ false → is_begun old.run ≡ true → has_place old.run.laid child ≡ true
      → LaysItem layout child is old.run new.run × (new ≡ record old { run = new.run })
  pub unplaced : nat_lt 0 old.surplus ≡ false → is_begun old.run ≡ true → has_place old.run.laid child ≡ false
      → new ≡ record old { run = record { laid = with_surplus 10 old.run.laid; stack = old.run.stack }; surplus = one_open opens }

-- an element is there whose value is calculated: laying goes on to it, if it wasn't laid yet
pub record TakesCalculated (layout : List Entry) (child : ℕ) (old new : State) : Type 0 where
  pub placed : nat_lt 0 old.surplus ≡ false → has_place old.run.laid child ≡ true
      → LaysItem layout child cell.Waiting old.run new.run × (new ≡ record old { run = new.run })
  pub inside : nat_lt 0 old.surplus ≡ true → new ≡ old
  pub unplaced : has_place old.run.laid child ≡ false → new ≡ old

-- laying goes on to the end of the innermost open element, ends it, and goes on
pub record LaysEnd (layout : List Entry) (old new : Run) : Type 0 where
  pub at_end : Run
  pub comes : Runs layout aim.End old at_end
  pub goes_on : Runs layout aim.Nothing (ended layout at_end) new

-- an element ends
pub record TakesEnd (layout : List Entry) (old new : State) : Type 0 where
  pub inside : nat_lt 0 old.surplus ≡ true → new ≡ record old { surplus = old.surplus - 1 }
  pub other : nat_lt 0 old.surplus ≡ false → LaysEnd layout old.run new.run × (new ≡ record old { run = new.run })

-- what an event does
abbrev pub TakesEvent : List Entry → Said → State → State → Type 0
TakesEvent layout (said.Start child) old new = TakesItem layout child cell.Waiting true old new
TakesEvent layout (said.Simple child value) old new = TakesItem layout child (cell.Given value) false old new
TakesEvent layout (said.Nil child) old new = TakesItem layout child cell.Nil false old new
TakesEvent layout (said.Calculated child) old new = TakesCalculated layout child old new
TakesEvent layout said.End old new = TakesEnd layout old new
