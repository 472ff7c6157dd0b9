-- What a schema is for laying, by its components, their tables, and how each is written. 'Framing', 'Lengths', 'Sequence Groups', 'Choices',
-- 'Properties for Array Elements and Optional Elements'.
use Rattle.std.specs.Prelude.{ℕ, zero, suc, ◌+◌, ◌-◌, ◌^◌, min, ◌&&◌, ◌||◌, not, nat_le, nat_lt, Bool, true, false, List, [], ◌∷◌, length, map, get_or, slice_get, if◌then◌else◌, Option, None, Some, is_some}
use Rattle.std.specs.List.{range_with_len}
use Rattle.dfdl_forms.specs.declared.simple.Simple.{Simple}
use Rattle.dfdl_forms.specs.declared.simple.Simple.TheVariants as simple_type
use Rattle.dfdl_order.specs.Folds.{value_by}
use Rattle.dfdl_order.specs.Parts.{uses_of}
use Rattle.dfdl_separators.specs.declared.policy.SeparatorSuppressionPolicy.{SeparatorSuppressionPolicy}
use Rattle.dfdl_separators.specs.declared.policy.SeparatorSuppressionPolicy.TheVariants.{Never, TrailingEmpty, TrailingEmptyStrict, AnyEmpty}
use Rattle.dfdl_terms.specs.declared.delimiters.Delimiter.{Delimiter}
use Rattle.dfdl_terms.specs.declared.delimiters.Delimiters.{Delimiters}
use Rattle.dfdl_terms.specs.declared.framing.Framing.{Framing}
use Rattle.dfdl_terms.specs.declared.occurs.Occurs.{Occurs}
use Rattle.dfdl_terms.specs.declared.prefix.Prefix.{Prefix}
use Rattle.dfdl_terms.specs.declared.representations.Representations.{Representations}
use Rattle.dfdl_terms.specs.declared.row.Primitive.{Primitive}
use Rattle.dfdl_terms.specs.declared.row.Primitive.TheVariants as primitive
use Rattle.dfdl_terms.specs.declared.statement.Statement.{Statement}
use Rattle.dfdl_terms.specs.declared.statement.Statement.TheVariants as statement
use Rattle.dfdl_terms.specs.declared.statement.Statements.{Statements}
use Rattle.dfdl_terms.specs.declared.text.TextForm.{TextForm}
use Rattle.dfdl_terms.specs.declared.text.TextSize.{TextSize}
use Rattle.dfdl_terms.specs.declared.text.TextSize.TheVariants as size
use Rattle.dfdl_terms.specs.declared.writing.Writing.{Writing}
use Rattle.dfdl_value.specs.declared.value.Value.{Value}
use Rattle.dfdl_rows.specs.Components.{component_at, framing_in}
use Rattle.dfdl_rows.specs.Framing.{has_framing}
use Rattle.dfdl_rows.specs.declared.component.Component.{Component}
use Rattle.dfdl_rows.specs.declared.component.Component.TheVariants.{Sequence, Choice, ComplexElement, SimpleElement, CalculatedElement, Hidden}
use Rattle.dfdl_rows.specs.declared.component.ContentBox.{ContentBox}
use Rattle.dfdl_rows.specs.declared.component.ContentBox.TheVariants as box
use Rattle.dfdl_rows.specs.declared.component.Counted.{Counted}
use Rattle.dfdl_rows.specs.declared.component.Counted.TheVariants.{ByBounds, Parsed, Told}
use Rattle.dfdl_rows.specs.declared.component.LeafLength.{LeafLength}
use Rattle.dfdl_rows.specs.declared.component.LeafLength.TheVariants as leaf_length
use Rattle.dfdl_rows.specs.declared.component.Separated.{Separated}
use Rattle.dfdl_writings.specs.Delimiters.{delimiter}
use Rattle.dfdl_cells.specs.Pieces.{bits_of, delimiter_of}
use Rattle.dfdl_cells.specs.Plans.{Plan, writing_of}
use Rattle.dfdl_outline.specs.declared.entry.Around.{Around}
use Rattle.dfdl_outline.specs.declared.entry.ContentSize.{ContentSize}
use Rattle.dfdl_outline.specs.declared.entry.ContentSize.TheVariants.{Unbounded, Sized, Prefixed}
use Rattle.dfdl_outline.specs.declared.entry.Edge.{Edge}
use Rattle.dfdl_outline.specs.declared.entry.Entry.{Entry}
use Rattle.dfdl_outline.specs.declared.entry.LengthPrefix.{LengthPrefix}
use Rattle.dfdl_outline.specs.declared.entry.Needs.{Needs}
use Rattle.dfdl_outline.specs.declared.entry.Separating.{Separating}
use Rattle.dfdl_outline.specs.declared.entry.SimpleSort.{SimpleSort}
use Rattle.dfdl_outline.specs.declared.entry.Sort.{Sort}
use Rattle.dfdl_outline.specs.declared.entry.Sort.TheVariants as sort
use Rattle.dfdl_outline.specs.declared.part.Part.{Part}
use Rattle.dfdl_outline.specs.declared.part.Slot.{Slot}
use Rattle.dfdl_outline.specs.declared.part.Slot.TheVariants as slot
use Rattle.dfdl_planning.specs.Sizes.{is_pattern, is_whole_box, is_whole_framing, is_whole_leaf, prefix_bits}
use Rattle.dfdl_planning.specs.declared.outline.Outline.{Outline}
use Rattle.dfdl_planning.specs.declared.outline.Taking.{Taking}
use Rattle.dfdl_planning.specs.declared.outline.Taking.TheVariants as taking
use Rattle.dfdl_planning.specs.declared.outlines.Told.{Told as ToldOf}

-- ---- what stands around a content ----

-- how many bits a delimiter is written as
abbrev pub written_bits : Writing → Delimiters → ℕ
written_bits writing list = bits_of (delimiter writing.text.new_line list)

-- an initiator or a terminator of a component
abbrev pub edge_if : Plan → ℕ → Option Delimiter → Option Edge
edge_if plan component None = None
edge_if plan component (Some own) = Some (record {
  list = own.list;
  bits = bits_of (delimiter_of plan component own.list);
  in_nil = own.in_nil;
  in_empty = own.in_empty;
})

-- the bits of fill of a component
abbrev pub fill_in : Option Writing → ℕ
fill_in None = 0
fill_in (Some writing) = writing.fill

abbrev pub around_framing : Plan → ℕ → Framing → Around
around_framing plan component framing = record {
  fill = fill_in (writing_of plan component);
  leading_skip = framing.leading_skip;
  alignment = framing.alignment;
  initiator = edge_if plan component framing.initiator;
  terminator = edge_if plan component framing.terminator;
  trailing_skip = framing.trailing_skip;
}

-- what stands around the content of the component of a number, which is this
abbrev pub around_by : Plan → ℕ → Component → Around
around_by plan number component = around_framing plan number (framing_in component)

-- a length prefix; a pattern is none
abbrev pub length_prefix : Plan → Prefix → Option LengthPrefix
length_prefix plan prefix = if is_pattern plan prefix then None else Some (record { prefix = prefix; bits = prefix_bits plan prefix })

-- ---- what is known of a component by its parts ----

-- an occurrence of a component needs an item, where its elements are hidden or aren't
abbrev pub is_needy : Bool → Outline → Bool
is_needy hidden outline = nat_lt 0 outline.least && (if hidden then outline.needs.hidden else outline.needs.shown)

-- the outline of what is no component
abbrev pub unknown_outline : Outline
unknown_outline = record {
  declared = 0;
  is_element = false;
  least = 0;
  most = 0;
  taking = taking.Slotless;
  needs = record { shown = false; hidden = false };
  is_whole = true;
}

-- what is told of parts: how many elements they declare, as far as 32 bits count, whether one of them or all need an item where elements are shown or hidden, and
-- whether all are of whole bytes
abbrev pub nothing_told : ToldOf
nothing_told = record { declared = 0; one_shown = false; one_hidden = false; all_shown = true; all_hidden = true; is_whole = true }

abbrev pub told_more : ToldOf → Outline → ToldOf
told_more told part = record {
  declared = min (told.declared + part.declared) (2 ^ 32 - 1);
  one_shown = told.one_shown || is_needy false part;
  one_hidden = told.one_hidden || is_needy true part;
  all_shown = told.all_shown && is_needy false part;
  all_hidden = told.all_hidden && is_needy true part;
  is_whole = told.is_whole && part.is_whole;
}

abbrev pub told_from : ToldOf → List Outline → ToldOf
told_from told [] = told
told_from told (part ∷ parts) = told_from (told_more told part) parts

abbrev pub one_needs : ToldOf → Needs
one_needs told = record { shown = told.one_shown; hidden = told.one_hidden }

-- a group without parts and framing has no slot
abbrev pub taking_group : Framing → Bool → Taking
taking_group framing empty = if empty && not (has_framing framing) then taking.Slotless else taking.Required

-- a group is required once where it stands
abbrev pub group : Taking → ToldOf → Needs → Bool → Outline
group taken told needs whole = record {
  declared = told.declared;
  is_element = false;
  least = 1;
  most = 1;
  taking = taken;
  needs = needs;
  is_whole = told.is_whole && whole;
}

-- an element is required by its bounds alone; by an expression, and of occursCountKind parsed, any number is right
abbrev pub least_of : Occurs → Counted → ℕ
least_of occurs ByBounds = occurs.least
least_of occurs Parsed = 0
least_of occurs (Told question) = 0

abbrev pub most_of : Occurs → Counted → ℕ
most_of occurs ByBounds = min (occurs.further + occurs.least) (2 ^ 64 - 1)
most_of occurs Parsed = 2 ^ 64 - 1
most_of occurs (Told question) = 2 ^ 64 - 1

abbrev pub taking_bounded : Occurs → Taking
taking_bounded occurs =
    if nat_lt 0 occurs.further then taking.ByPolicy else if nat_lt 0 occurs.least then taking.Required else taking.Slotless

abbrev pub taking_of : Occurs → Counted → Taking
taking_of occurs ByBounds = taking_bounded occurs
taking_of occurs Parsed = taking.IfLong
taking_of occurs (Told question) = taking.Required

abbrev pub element : Occurs → Counted → Needs → Bool → Outline
element occurs counted needs whole = record {
  declared = 1;
  is_element = true;
  least = least_of occurs counted;
  most = most_of occurs counted;
  taking = taking_of occurs counted;
  needs = needs;
  is_whole = whole;
}

-- an element whose value is calculated has no slot, and needs no item
abbrev pub calculated : Outline
calculated = record {
  declared = 1;
  is_element = true;
  least = 1;
  most = 1;
  taking = taking.Slotless;
  needs = record { shown = false; hidden = false };
  is_whole = true;
}

-- a statement gives the value by which an element is written
abbrev pub is_computing : Option Statement → Bool
is_computing None = false
is_computing (Some (statement.Pattern test)) = false
is_computing (Some (statement.Expression test)) = false
is_computing (Some (statement.Setting setting)) = false
is_computing (Some (statement.Calculation calculation)) = true
is_computing (Some (statement.Question question)) = false
is_computing (Some (statement.Opening opening)) = false

-- one of so many statements from a number on does
abbrev pub computing_from : Plan → ℕ → ℕ → Bool
computing_from plan first zero = false
computing_from plan first (suc count) = is_computing (slice_get plan.table.statements first) || computing_from plan (first + 1) count

abbrev pub are_computing : Plan → Statements → Bool
are_computing plan statements = computing_from plan statements.first statements.count

abbrev pub has_default : Option Writing → Bool
has_default None = false
has_default (Some writing) = is_some writing.default

-- a simple element needs an item where it has no value of its own
abbrev pub simple_needs : Plan → ℕ → Framing → Needs
simple_needs plan number framing = record {
  shown = not (has_default (writing_of plan number) || are_computing plan framing.behind);
  hidden = not (has_default (writing_of plan number) || are_computing plan framing.behind);
}

abbrev pub is_empty : List Outline → Bool
is_empty [] = true
is_empty (part ∷ parts) = false

-- what is known of the component of a number, by its parts: a sequence needs what one of its parts does, a choice what all do; an element with parts needs its own item where it is
-- shown, and where it is hidden what its content needs
abbrev pub outline_told : Plan → ℕ → Component → Bool → ToldOf → Outline
outline_told plan number (Sequence framing separated initiated) empty told =
    group (taking_group framing empty) told (one_needs told) (is_whole_framing framing)
outline_told plan number (Choice framing initiated dispatch) empty told =
    group (taking_group framing empty) told (record { shown = told.all_shown; hidden = told.all_hidden }) (is_whole_framing framing)
outline_told plan number (ComplexElement name framing content_box occurs often) empty told =
    element occurs often (record { shown = true; hidden = told.one_hidden }) (is_whole_framing framing && (told.is_whole && is_whole_box plan content_box))
outline_told plan number (SimpleElement name simple prim framing own_length tried scanned occurs often) empty told =
    element occurs often (simple_needs plan number framing) (is_whole_framing framing && is_whole_leaf plan prim own_length)
outline_told plan number (CalculatedElement name simple statement framing) empty told = calculated
outline_told plan number Hidden empty told = group taking.Required told (record { shown = told.one_hidden; hidden = told.one_hidden }) true

abbrev pub outline_by : Plan → ℕ → Component → List Outline → Outline
outline_by plan number component parts = outline_told plan number component (is_empty parts) (told_from nothing_told parts)

abbrev pub outline_from : Plan → ℕ → List Outline → Outline
outline_from plan number parts = outline_by plan number (component_at plan.schema.components number) parts

-- the outline of the component of a number
abbrev pub outline_in : Plan → ℕ → Outline
outline_in plan c = value_by plan.schema.uses (outline_from plan) unknown_outline c

-- those of all
abbrev pub outlines_in : Plan → List Outline
outlines_in plan = map (outline_in plan) (range_with_len 0 (length plan.schema.uses))

abbrev pub outline_at : List Outline → ℕ → Outline
outline_at outlines c = get_or outlines c unknown_outline

-- ---- what a component is ----

-- the separators of a sequence
abbrev pub separating_of : Option Separated → Option Separating
separating_of None = None
separating_of (Some own) = Some (record { list = own.list; position = own.position })

-- the box of a content with parts; an expression for its length isn't laid
abbrev pub box_or : Option LengthPrefix → ContentSize
box_or None = Unbounded
box_or (Some prefix) = Prefixed prefix

abbrev pub complex_sort : Plan → ContentBox → Sort
complex_sort plan box.Unbounded = sort.Complex Unbounded
complex_sort plan (box.Sized bits) = sort.Complex (Sized bits)
complex_sort plan (box.Prefixed prefix) = sort.Complex (box_or (length_prefix plan prefix))
complex_sort plan (box.Measured measure) = sort.Unbuilt

-- the prefix of a simple content
abbrev pub leaf_prefix : Plan → LeafLength → Option LengthPrefix
leaf_prefix plan leaf_length.Own = None
leaf_prefix plan (leaf_length.Prefixed prefix) = length_prefix plan prefix
leaf_prefix plan (leaf_length.Measured measure) = None

abbrev pub is_measured : LeafLength → Bool
is_measured leaf_length.Own = false
is_measured (leaf_length.Prefixed prefix) = false
is_measured (leaf_length.Measured measure) = true

-- strings and hexBinary values have an empty representation
abbrev pub is_emptiable : Simple → Bool
is_emptiable simple_type.String = true
is_emptiable simple_type.HexBinary = true
is_emptiable simple_type.Boolean = false
is_emptiable simple_type.Decimal = false
is_emptiable simple_type.Integer = false
is_emptiable simple_type.NonNegativeInteger = false
is_emptiable simple_type.Byte = false
is_emptiable simple_type.Short = false
is_emptiable simple_type.Int = false
is_emptiable simple_type.Long = false
is_emptiable simple_type.UnsignedByte = false
is_emptiable simple_type.UnsignedShort = false
is_emptiable simple_type.UnsignedInt = false
is_emptiable simple_type.UnsignedLong = false

abbrev pub default_in : Option Writing → Option Value
default_in None = None
default_in (Some writing) = writing.default

-- the list of a terminator
abbrev pub list_if : Option Delimiter → Option ℕ
list_if None = None
list_if (Some own) = Some own.list

abbrev pub scanned_by : Bool → Framing → Option ℕ
scanned_by scanned framing = if scanned then list_if framing.terminator else None

-- a text that begins on a whole byte before its content: one that is in no box of bits or bytes
abbrev pub is_moved_size : TextSize → Bool
is_moved_size (size.Bits bits) = false
is_moved_size (size.Characters count) = true
is_moved_size (size.Delimited scan) = true

abbrev pub is_moved_prim : Option Primitive → Bool
is_moved_prim None = false
is_moved_prim (Some (primitive.Integer form)) = false
is_moved_prim (Some (primitive.Packed form)) = false
is_moved_prim (Some (primitive.Truth form)) = false
is_moved_prim (Some (primitive.Octets form)) = false
is_moved_prim (Some (primitive.Text form)) = is_moved_size form.size
is_moved_prim (Some (primitive.NilOctets form)) = false
is_moved_prim (Some (primitive.Default form)) = false
is_moved_prim (Some (primitive.NilValues form)) = false
is_moved_prim (Some (primitive.Pattern form)) = false

abbrev pub is_moved : Plan → ℕ → Bool
is_moved plan prim = is_moved_prim (slice_get plan.table.primitives prim)

-- a simple element whose value is the infoset's or its default; where something may leave a place that is on no whole byte, its text moves
abbrev pub simple_sort : Plan → Bool → ℕ → Simple → ℕ → Framing → LeafLength → Representations → Bool → SimpleSort
simple_sort plan moves number simple prim framing own_length tried scanned = record {
  default = default_in (writing_of plan number);
  prefix = leaf_prefix plan own_length;
  nillable = is_some tried.nil;
  empties = is_emptiable simple;
  is_text = moves && is_moved plan prim;
  scanned = scanned_by scanned framing;
}

-- what a component is; what takes an expression for its value or its length isn't laid
abbrev pub sort_by : Plan → Bool → ℕ → Component → Sort
sort_by plan moves number (Sequence framing separated initiated) = sort.Sequence (separating_of separated)
sort_by plan moves number (Choice framing initiated dispatch) = sort.Choice
sort_by plan moves number (ComplexElement name framing content_box occurs often) = complex_sort plan content_box
sort_by plan moves number (SimpleElement name simple prim framing own_length tried scanned occurs often) =
    if is_measured own_length || are_computing plan framing.behind
    then sort.Unbuilt
    else sort.Simple (simple_sort plan moves number simple prim framing own_length tried scanned)
sort_by plan moves number (CalculatedElement name simple statement framing) = sort.Calculated
sort_by plan moves number Hidden = sort.Hidden

-- ---- its parts ----

-- the slots of occurrences that aren't required by a policy
abbrev pub slot_by : SeparatorSuppressionPolicy → Slot
slot_by Never = slot.Always
slot_by TrailingEmpty = slot.IfLater
slot_by TrailingEmptyStrict = slot.IfLater
slot_by AnyEmpty = slot.IfLong

-- those of a part that is taken so
abbrev pub slot_taken : SeparatorSuppressionPolicy → Taking → Slot
slot_taken policy taking.Slotless = slot.Absent
slot_taken policy taking.Required = slot.Always
slot_taken policy taking.ByPolicy = slot_by policy
slot_taken policy taking.IfLong = slot.IfLong

-- without separators there are none
abbrev pub slot_of : Option Separated → Taking → Slot
slot_of None taken = slot.Absent
slot_of (Some own) taken = slot_taken own.policy taken

abbrev pub is_slotted : Taking → Bool
is_slotted taking.Slotless = false
is_slotted taking.Required = true
is_slotted taking.ByPolicy = true
is_slotted taking.IfLong = true

-- the separators in the content of a component
abbrev pub separated_of : Component → Option Separated
separated_of (Sequence framing separated initiated) = separated
separated_of (Choice framing initiated dispatch) = None
separated_of (ComplexElement name framing content_box occurs often) = None
separated_of (SimpleElement name simple prim framing own_length tried scanned occurs often) = None
separated_of (CalculatedElement name simple statement framing) = None
separated_of Hidden = None

-- behind how many parts there is no slot any more
abbrev pub slots_end : ℕ → ℕ → List Outline → ℕ
slots_end at end [] = end
slots_end at end (part ∷ parts) = slots_end (at + 1) (if is_slotted part.taking then at + 1 else end) parts

-- the part of a number, before which so many elements are declared
abbrev pub part_with : Option Separated → Bool → ℕ → ℕ → Outline → Part
part_with separated last first component outline = record {
  component = component;
  first = first;
  declared = outline.declared;
  is_element = outline.is_element;
  least = outline.least;
  most = outline.most;
  slot = slot_of separated outline.taking;
  is_last = last;
}

-- parts one behind the other
abbrev pub parts_from : (ℕ → Outline) → Option Separated → ℕ → ℕ → ℕ → List ℕ → List Part
parts_from outline separated end at first [] = []
parts_from outline separated end at first (part ∷ parts) =
    part_with separated (nat_le end (at + 1)) first part (outline part)
    ∷ parts_from outline separated end (at + 1) (min (first + (outline part).declared) (2 ^ 32 - 1)) parts

-- those of a component
abbrev pub parts_by : (ℕ → Outline) → Option Separated → List ℕ → List Part
parts_by outline separated parts = parts_from outline separated (slots_end 0 0 (map outline parts)) 0 0 parts

-- ---- the layout ----

-- the component of a number for laying
abbrev pub entry_by : Plan → (ℕ → Outline) → Bool → ℕ → Component → List ℕ → Entry
entry_by plan outline moves number component parts = record {
  sort = sort_by plan moves number component;
  parts = parts_by outline (separated_of component) parts;
  declared = (outline number).declared;
  needs = (outline number).needs;
  around = around_by plan number component;
}

-- something may leave a place that is on no whole byte
abbrev pub has_moves : Plan → Bool
has_moves plan = not (outline_at (outlines_in plan) plan.root).is_whole

abbrev pub entry_in : Plan → ℕ → Entry
entry_in plan number =
    entry_by plan (outline_at (outlines_in plan)) (has_moves plan) number (component_at plan.schema.components number) (uses_of plan.schema.uses number)

-- the components of a schema for laying
abbrev pub layout_in : Plan → List Entry
layout_in plan = map (entry_in plan) (range_with_len 0 (length plan.schema.uses))
