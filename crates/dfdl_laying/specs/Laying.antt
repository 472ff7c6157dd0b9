-- What was laid, and what each act of laying adds to it. Pieces, and steps of the content that they lie in, are laid in the order of the data; unknowns are made by
-- element, in the order of value, value length, content length, start, and the bits of each piece. 'Framing', 'Lengths', 'DFDL Data Syntax Grammar'.
use Rattle.std.specs.Prelude.{ℕ, zero, suc, ◌+◌, ◌-◌, ◌&&◌, ◌||◌, not, nat_lt, Bool, true, false, List, [], ◌∷◌, ◌++◌, length, slice_get, if◌then◌else◌, Option, None, Some}
use Rattle.dfdl_terms.specs.declared.prefix.Prefix.{Prefix}
use Rattle.dfdl_cells.specs.Books.{Book, numbers_or}
use Rattle.dfdl_cells.specs.Growing.{inside_of, with_cell, with_complex, with_given, with_markup, with_piece, with_step}
use Rattle.dfdl_cells.specs.declared.cell.Cell.{Cell}
use Rattle.dfdl_cells.specs.declared.cell.Cell.TheVariants.{Waiting, Faulty, ValueLength, ContentLength, Reached, Boxed, Bits}
use Rattle.dfdl_cells.specs.declared.complex.Complex.{Complex}
use Rattle.dfdl_cells.specs.declared.piece.Bound.{Bound}
use Rattle.dfdl_cells.specs.declared.piece.Piece.{Piece}
use Rattle.dfdl_cells.specs.declared.piece.Piece.TheVariants as piece
use Rattle.dfdl_cells.specs.declared.step.Mark.{Mark}
use Rattle.dfdl_cells.specs.declared.step.Place.{Place}
use Rattle.dfdl_cells.specs.declared.step.Step.{Step}
use Rattle.dfdl_cells.specs.declared.step.Step.TheVariants as step
use Rattle.dfdl_outline.specs.declared.entry.Around.{Around}
use Rattle.dfdl_outline.specs.declared.entry.ContentSize.{ContentSize}
use Rattle.dfdl_outline.specs.declared.entry.ContentSize.TheVariants.{Unbounded, Sized, Prefixed}
use Rattle.dfdl_outline.specs.declared.entry.Edge.{Edge}
use Rattle.dfdl_outline.specs.declared.entry.LengthPrefix.{LengthPrefix}
use Rattle.dfdl_outline.specs.declared.entry.SimpleSort.{SimpleSort}
use Rattle.dfdl_laying.specs.declared.spot.Own.{Own}
use Rattle.dfdl_laying.specs.declared.spot.Spot.{Spot}
use Rattle.dfdl_laying.specs.declared.spot.Whole.{Whole}

-- the book, the element of each unknown, how many elements were laid, the innermost open element with parts, and those around it, the innermost first
pub record Laid : Type 0 where
  pub book : Book
  pub owners : List ℕ
  pub elements : ℕ
  pub here : Spot
  pub around : List Spot

-- one unknown more, of an element
abbrev pub with_unknown : ℕ → Cell → Laid → Laid
with_unknown owner cell laid = record laid { book = with_cell cell laid.book; owners = laid.owners ++ owner ∷ [] }

-- the number of the next unknown
abbrev pub next : Laid → ℕ
next laid = length laid.book.cells

-- an unknown that waits is this
abbrev pub given : ℕ → Cell → Laid → Laid
given cell is laid = record laid { book = with_given cell is laid.book }

-- a piece, and the unknown of its bits
abbrev pub lays : ℕ → Piece → Laid → Laid
lays owner piece laid = with_unknown owner (Bits (length laid.book.pieces)) (record laid { book = with_piece piece laid.book })

-- a step in the innermost content
abbrev pub stepped : Step → Laid → Laid
stepped step laid = record laid { book = with_step laid.here.complex step laid.book }

-- how many steps lie in it
abbrev pub steps_here : Laid → ℕ
steps_here laid = length (inside_of (slice_get laid.book.complexes laid.here.complex))

-- the place behind all of them, and that before so many of the last
abbrev pub place_before : ℕ → Laid → Place
place_before last laid = record {
  around = Some laid.here.complex;
  after = laid.here.after;
  first = laid.here.since;
  count = steps_here laid - laid.here.since - last;
}

abbrev pub place_here : Laid → Place
place_here laid = place_before 0 laid

-- an element begins here, whose start this is
abbrev pub begun : ℕ → Laid → Laid
begun start laid = record laid { elements = laid.elements + 1; here = record laid.here { after = Some start; since = steps_here laid } }

-- a skip of so many bits, where they are some
abbrev pub skipped : ℕ → ℕ → ℕ → Laid → Laid
skipped owner fill bits laid =
    if nat_lt 0 bits
    then stepped (step.Fixed bits) (lays owner (piece.Skip bits fill (place_here laid) laid.here.bound) laid)
    else laid

-- an alignment to a multiple of so many bits, where they are more than one
abbrev pub filled_to : ℕ → ℕ → ℕ → Laid → Laid
filled_to owner fill bits laid =
    if nat_lt 1 bits
    then stepped (step.Align bits) (lays owner (piece.Align bits fill (place_here laid) laid.here.bound) laid)
    else laid

-- an initiator or terminator that always stands, where there is one
abbrev pub delimited : ℕ → ℕ → Option Edge → Laid → Laid
delimited owner component None laid = laid
delimited owner component (Some edge) laid = stepped (step.Fixed edge.bits) (lays owner (piece.Delimiter component edge.list) laid)

-- fill and an initiator before a content
abbrev pub led_in : ℕ → ℕ → Around → Laid → Laid
led_in owner component around laid =
    delimited owner component around.initiator (filled_to owner around.fill around.alignment (skipped owner around.fill around.leading_skip laid))

-- a delimiter of a simple element stands in each of its representations
abbrev pub always_stands : SimpleSort → Edge → Bool
always_stands simple edge = (edge.in_nil || not simple.nillable) && (edge.in_empty || not simple.empties)

-- when it stands
abbrev pub mark_of : Own → SimpleSort → Edge → Mark
mark_of own simple edge = record {
  bits = edge.bits;
  in_nil = edge.in_nil;
  in_empty = edge.in_empty;
  empties = simple.empties;
  value = own.first;
  length = own.length;
}

-- a delimiter of a simple element that stands in some of its representations
abbrev pub marked : Own → SimpleSort → Edge → Laid → Laid
marked own simple edge laid =
    stepped (step.Marked (mark_of own simple edge)) (lays own.owner (piece.Marked own.component edge.list (mark_of own simple edge)) laid)

-- an initiator or terminator of a simple element, where there is one
abbrev pub edged : Own → SimpleSort → Option Edge → Laid → Laid
edged own simple None laid = laid
edged own simple (Some edge) laid =
    if always_stands simple edge
    then delimited own.owner own.component (Some edge) laid
    else marked own simple edge laid

-- a length prefix that tells the length of a content, of an element whose value this is if it is simple
abbrev pub prefixed : ℕ → ℕ → ℕ → Option ℕ → ℕ → Option LengthPrefix → Laid → Laid
prefixed owner component length value markup None laid = laid
prefixed owner component length value markup (Some own) laid =
    stepped (step.Fixed own.bits) (lays owner (piece.Prefix component own.prefix length value markup) laid)

-- text begins at a whole byte
abbrev pub moved : ℕ → ℕ → Bool → Laid → Laid
moved owner fill is_text laid = if is_text then filled_to owner fill 8 laid else laid

-- a list of markup that is open inside of those that are open here, where there is one, and the number of the list of all then
abbrev pub scoped : Option ℕ → Laid → Laid
scoped None laid = laid
scoped (Some list) laid =
    record laid { book = with_markup (numbers_or (slice_get laid.book.markups laid.here.markup) ++ list ∷ []) laid.book }

abbrev pub markup_of : Option ℕ → Laid → ℕ
markup_of None laid = laid.here.markup
markup_of (Some list) laid = length laid.book.markups

-- the list of a terminator
abbrev pub list_of : Option Edge → Option ℕ
list_of None = None
list_of (Some edge) = Some edge.list

-- the unknowns of a simple element that is this: its value, two lengths, its start
abbrev pub value_known : ℕ → Cell → Laid → Laid
value_known component value laid =
    with_unknown laid.elements (ValueLength component (next laid)) (with_unknown laid.elements value laid)

abbrev pub simple_own : ℕ → ℕ → Cell → Laid → Own
simple_own component markup value laid = record {
  component = component;
  owner = laid.elements;
  first = next laid;
  length = next (value_known component value laid);
  markup = markup;
}

abbrev pub lengths_known : ℕ → ℕ → Cell → Laid → Laid
lengths_known component markup value laid =
    with_unknown laid.elements (ContentLength component (next laid) markup) (value_known component value laid)

abbrev pub simple_begun : ℕ → ℕ → Cell → Laid → Laid
simple_begun component markup value laid =
    begun (next (lengths_known component markup value laid))
    (with_unknown laid.elements (Reached (place_here laid)) (lengths_known component markup value laid))

-- what stands before the content of a simple element
abbrev pub simple_before : Own → SimpleSort → Around → Laid → Laid
simple_before own simple around laid =
    moved own.owner around.fill simple.is_text
    (prefixed own.owner own.component own.length (Some own.first) own.markup simple.prefix
    (edged own simple around.initiator
    (filled_to own.owner around.fill around.alignment (skipped own.owner around.fill around.leading_skip laid))))

-- its content
abbrev pub contented : Own → Laid → Laid
contented own laid =
    stepped (step.Length own.length) (lays own.owner (piece.Content own.component own.first own.markup (place_here laid)) laid)

-- what stands behind it
abbrev pub simple_behind : Own → SimpleSort → Around → Laid → Laid
simple_behind own simple around laid =
    skipped own.owner around.fill around.trailing_skip (edged own simple around.terminator laid)

-- a simple element in the data
abbrev pub simple_laid : Own → SimpleSort → Around → Laid → Laid
simple_laid own simple around laid = simple_behind own simple around (contented own (simple_before own simple around laid))

-- a simple element that is this
unfoldable pub with_simple : ℕ → SimpleSort → Around → Cell → Laid → Laid
with_simple component simple around value laid =
    simple_laid (simple_own component (markup_of simple.scanned laid) value (scoped simple.scanned laid)) simple around
    (simple_begun component (markup_of simple.scanned laid) value (scoped simple.scanned laid))

-- the unknowns of an element whose value is calculated: its value, two lengths of no bit, its start; it has no piece
abbrev pub calculated_known : Laid → Laid
calculated_known laid =
    with_unknown laid.elements (Boxed (Some 0) (next laid))
    (with_unknown laid.elements (Boxed (Some 0) (next laid)) (with_unknown laid.elements Waiting laid))

unfoldable pub with_calculated : Laid → Laid
with_calculated laid =
    begun (next (calculated_known laid)) (with_unknown laid.elements (Reached (place_here laid)) (calculated_known laid))

-- an element that isn't laid yet: its unknowns, and a piece that is never known
unfoldable pub with_unbuilt : Laid → Laid
with_unbuilt laid = lays laid.elements piece.Missing (with_calculated laid)

-- so many unknowns of an element that wait
unfoldable pub with_waiting : ℕ → ℕ → Laid → Laid
with_waiting owner zero laid = laid
with_waiting owner (suc count) laid = with_waiting owner count (with_unknown owner Waiting laid)

-- the unknowns of the value of an element with parts: the occurrences of each element that it declares, and its value length; of a missing one the first is faulty, for a
-- cause
abbrev pub values_known : ℕ → Option ℕ → Laid → Laid
values_known declared None laid = with_unknown laid.elements Waiting (with_waiting laid.elements declared laid)
values_known declared (Some cause) laid = with_waiting laid.elements declared (with_unknown laid.elements (Faulty cause) laid)

-- the size of a box that is known
abbrev pub size_of : ContentSize → Option ℕ
size_of Unbounded = None
size_of (Sized bits) = Some bits
size_of (Prefixed prefix) = None

-- its content length
abbrev pub content_known : ℕ → ContentSize → Option ℕ → Laid → Laid
content_known declared size cause laid =
    with_unknown laid.elements (Boxed (size_of size) (next (values_known declared cause laid) - 1)) (values_known declared cause laid)

abbrev pub whole_of : ℕ → ℕ → ContentSize → Option ℕ → Laid → Whole
whole_of component declared size cause laid = record {
  component = component;
  owner = laid.elements;
  first = next laid;
  inside = next (values_known declared cause laid) - 1;
  content = next (values_known declared cause laid);
  start = next (content_known declared size cause laid);
}

-- and its start, at which it begins
abbrev pub complex_begun : ℕ → ContentSize → Option ℕ → Laid → Laid
complex_begun declared size cause laid =
    begun (next (content_known declared size cause laid))
    (with_unknown laid.elements (Reached (place_here laid)) (content_known declared size cause laid))

-- the prefix of a box
abbrev pub prefix_of : ContentSize → Option LengthPrefix
prefix_of Unbounded = None
prefix_of (Sized bits) = None
prefix_of (Prefixed prefix) = Some prefix

-- steps of what stands around a content
abbrev pub skip_steps : ℕ → List Step
skip_steps bits = if nat_lt 0 bits then step.Fixed bits ∷ [] else []

abbrev pub align_steps : ℕ → List Step
align_steps bits = if nat_lt 1 bits then step.Align bits ∷ [] else []

abbrev pub edge_steps : Option Edge → List Step
edge_steps None = []
edge_steps (Some edge) = step.Fixed edge.bits ∷ []

abbrev pub prefix_steps : Option LengthPrefix → List Step
prefix_steps None = []
prefix_steps (Some own) = step.Fixed own.bits ∷ []

-- what lies between the start of an element with parts and its content
abbrev pub lead_of : Around → ContentSize → List Step
lead_of around size =
    ((skip_steps around.leading_skip ++ align_steps around.alignment) ++ edge_steps around.initiator) ++ prefix_steps (prefix_of size)

-- the steps of a terminator and of a skip, where there are such
abbrev pub stepped_edge : Option Edge → Laid → Laid
stepped_edge None laid = laid
stepped_edge (Some edge) laid = stepped (step.Fixed edge.bits) laid

abbrev pub stepped_skip : ℕ → Laid → Laid
stepped_skip bits laid = if nat_lt 0 bits then stepped (step.Fixed bits) laid else laid

-- an element with parts in the content around it: the pieces before its content, and all of its steps
abbrev pub complex_before : Whole → ContentSize → Around → Laid → Laid
complex_before whole size around laid =
    stepped_skip around.trailing_skip
    (stepped_edge around.terminator
    (stepped (step.Length whole.content)
    (prefixed whole.owner whole.component whole.content None laid.here.markup (prefix_of size)
    (led_in whole.owner whole.component around laid))))

-- the pieces behind its content, the steps of which are the last ones
abbrev pub edge_behind : ℕ → ℕ → Option Edge → Laid → Laid
edge_behind owner component None laid = laid
edge_behind owner component (Some edge) laid = lays owner (piece.Delimiter component edge.list) laid

abbrev pub skip_behind : ℕ → ℕ → ℕ → Laid → Laid
skip_behind owner fill bits laid =
    if nat_lt 0 bits then lays owner (piece.Skip bits fill (place_before 1 laid) laid.here.bound) laid else laid

abbrev pub complex_behind : ℕ → ℕ → Around → Laid → Laid
complex_behind owner component around laid =
    skip_behind owner around.fill around.trailing_skip (edge_behind owner component around.terminator laid)

-- the list of no number, or of one
abbrev pub one_list : Option ℕ → List ℕ
one_list None = []
one_list (Some list) = list ∷ []

-- the markup that is open inside: in a box none of what is open around it
abbrev pub box_scoped : ContentSize → Option ℕ → Laid → Laid
box_scoped Unbounded list laid = scoped list laid
box_scoped (Sized bits) list laid = record laid { book = with_markup (one_list list) laid.book }
box_scoped (Prefixed prefix) list laid = record laid { book = with_markup (one_list list) laid.book }

abbrev pub box_markup : ContentSize → Option ℕ → Laid → ℕ
box_markup Unbounded list laid = markup_of list laid
box_markup (Sized bits) list laid = length laid.book.markups
box_markup (Prefixed prefix) list laid = length laid.book.markups

-- the innermost box inside
abbrev pub bound_of : ContentSize → ℕ → Option Bound → Option Bound
bound_of Unbounded complex bound = bound
bound_of (Sized bits) complex bound = Some (record { complex = complex; bits = bits })
bound_of (Prefixed prefix) complex bound = bound

-- an element with parts and nothing in it yet, inside of which laying goes on, where this markup is open
abbrev pub gone_in : Whole → ℕ → ContentSize → Around → ℕ → Laid → Laid
gone_in whole declared size around markup laid = record laid {
  book = with_complex (record { around = Some laid.here.complex; start = whole.start; lead = lead_of around size; inside = [] }) laid.book;
  here = record {
    complex = length laid.book.complexes;
    owner = whole.owner;
    first = whole.first;
    declared = declared;
    length = whole.inside;
    after = None;
    since = 0;
    bound = bound_of size (length laid.book.complexes) laid.here.bound;
    markup = markup;
  };
  around = laid.here ∷ laid.around;
}

-- the same with the list of markup
abbrev pub gone_inside : Whole → ℕ → ContentSize → Around → Laid → Laid
gone_inside whole declared size around laid =
    gone_in whole declared size around (box_markup size (list_of around.terminator) laid) (box_scoped size (list_of around.terminator) laid)

-- an element with parts opens
unfoldable pub complex_opened : ℕ → ℕ → ContentSize → Around → Laid → Laid
complex_opened component declared size around laid =
    gone_inside (whole_of component declared size None laid) declared size around
    (complex_before (whole_of component declared size None laid) size around (complex_begun declared size None laid))

-- one that is missing, for a cause: its framing, and a piece that is never known
unfoldable pub complex_missed : ℕ → ℕ → ContentSize → Around → ℕ → Laid → Laid
complex_missed component declared size around cause laid =
    complex_behind laid.elements component around
    (lays laid.elements piece.Missing
    (complex_before (whole_of component declared size (Some cause) laid) size around (complex_begun declared size (Some cause) laid)))

-- the fill of a box of known size behind what is in it
abbrev pub rest_laid : ContentSize → ℕ → Laid → Laid
rest_laid Unbounded fill laid = laid
rest_laid (Sized bits) fill laid = lays laid.here.owner (piece.Rest laid.here.length bits fill (place_here laid)) laid
rest_laid (Prefixed prefix) fill laid = laid

-- the content around goes on; the document has none around it
abbrev pub gone_out_to : List Spot → Laid → Laid
gone_out_to [] laid = laid
gone_out_to (spot ∷ around) laid = record laid { here = spot; around = around }

abbrev pub gone_out : Laid → Laid
gone_out laid = gone_out_to laid.around laid

-- an element with parts ends: its value length is told, its box is filled, and what stands behind it is laid
unfoldable pub complex_closed : ℕ → ContentSize → Around → Laid → Laid
complex_closed component size around laid =
    complex_behind laid.here.owner component around
    (gone_out (rest_laid size around.fill (given laid.here.length (Reached (place_here laid)) laid)))

-- a list of markup opens here, where there is one
abbrev pub marked_up : Option ℕ → Laid → Laid
marked_up list laid =
    record (scoped list laid) { here = record laid.here { markup = markup_of list laid } }

-- a group begins: its framing belongs to the element around
unfoldable pub group_opened : ℕ → Around → Option ℕ → Laid → Laid
group_opened component around separators laid =
    marked_up separators (marked_up (list_of around.terminator) (led_in laid.here.owner component around laid))

-- it ends, and this markup is open again
unfoldable pub group_closed : ℕ → Around → ℕ → Laid → Laid
group_closed component around markup laid =
    skipped laid.here.owner around.fill around.trailing_skip
    (delimited laid.here.owner component around.terminator (record laid { here = record laid.here { markup = markup } }))

-- a choice without a branch: the occurrences of its first element are faulty, and a piece is never known
abbrev pub branchless : ℕ → ℕ → ℕ → Laid → Laid
branchless first declared cause laid =
    lays laid.here.owner piece.Missing (if nat_lt 0 declared then given first (Faulty cause) laid else laid)

-- an item that has no place: one unknown alone, which is faulty
abbrev pub with_surplus : ℕ → Laid → Laid
with_surplus cause laid = record (with_unknown laid.elements (Faulty cause) laid) { elements = laid.elements + 1 }

-- a book with the document alone, which is an element with parts: the root is what it has inside
abbrev pub document_of : ℕ → Book
document_of start = record {
  cells = [];
  pieces = [];
  complexes = record { around = None; start = start; lead = []; inside = [] } ∷ [];
  markups = [] ∷ [];
}

-- nothing was laid yet: the document's content begins where the root does, whose start has this number
abbrev pub nothing_laid : ℕ → Laid
nothing_laid start = record {
  book = document_of start;
  owners = [];
  elements = 0;
  here = record {
    complex = 0;
    owner = 0;
    first = 0;
    declared = 0;
    length = 0;
    after = None;
    since = 0;
    bound = None;
    markup = 0;
  };
  around = [];
}

-- the document ends: the last byte is filled
abbrev pub document_ended : ℕ → Laid → Laid
document_ended fill laid = lays 0 (piece.End fill (place_here laid)) laid
