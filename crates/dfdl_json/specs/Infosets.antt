-- What a JSON value says as an infoset: the events of its elements in schema order, or why it is none
-- ('The DFDL Information Set').
use Rattle.std.specs.Prelude.{ℕ, suc, ◌-◌, Bool, true, false, nat_lt, if◌then◌else◌, List, [], ◌∷◌, ◌++◌, length, Option, None, Some, Result, Ok, Err}
use Rattle.std.specs.List.{list_all, flat_map}
use Rattle.std.specs.Str.{bytes_eq}
use Rattle.serde_json.specs.Data.{Data, null, boolean, number, string, array, object, Items, no_items, item as one_item, Members, no_members, member}
use Rattle.serde_json.specs.Find.{get_member}
use Rattle.dfdl_forms.specs.declared.simple.Simple.{Simple}
use Rattle.dfdl_value.specs.declared.value.Value.{Value}
use Rattle.dfdl_value.specs.ReadValues.{Reading, reading_of}
use Rattle.dfdl_report.specs.Paths.{whole_path}
use Rattle.dfdl_report.specs.declared.cause.InfosetCause.{InfosetCause}
use Rattle.dfdl_report.specs.declared.cause.InfosetCause.TheVariants.{RootExpected, UnknownMember, ObjectExpected, ArrayExpected, StringExpected, NotAValue, NullNotAllowed}
use Rattle.dfdl_terms.specs.Arrays.{is_item}
use Rattle.dfdl_terms.specs.Rows.{Table}
use Rattle.dfdl_terms.specs.declared.row.Row.{Row}
use Rattle.dfdl_terms.specs.declared.row.Row.TheVariants.{Leaf, Elem, Group, Skip, Align, Initiator, Terminator, Separator, Scope, Boxed, PrefixedLeaf, PrefixedBox, MeasuredLeaf, MeasuredBox, Repeat, Counted, Optional, Choice, Dispatch, Statement, Concluded, Hidden, Spanned, Instance, Separated}
use Rattle.dfdl_terms.specs.declared.event.Event.{Event}
use Rattle.dfdl_terms.specs.declared.event.Event.TheVariants.{Start, Simple as SimpleElement, Nil, End}
use Rattle.dfdl_json.specs.ByRows.{by_rows}
use Rattle.dfdl_json.specs.Children.{root_row, name_of}
use Rattle.dfdl_json.specs.Members.{is_declared, members_in}
use Rattle.dfdl_json.specs.Paths.{Names, path_of, step_to}

-- why an infoset is refused, and the path of the element at which it is
pub record Refusal : Type 0 where
  pub cause : InfosetCause
  pub path : List ℕ

-- a refusal, and how many elements stand around what is refused
pub record Placed : Type 0 where
  pub level : ℕ
  pub refusal : Refusal

-- what one place in an infoset says: an event, or that it is refused
pub data Finding : Type 0 where
  Says : Event → Finding
  Refuses : Placed → Finding

-- the value that a text writes; it is none of the type's texts, or a number outside of the type, in one cause
abbrev pub value_if : Reading → Result Value InfosetCause
value_if (Ok value) = Ok value
value_if (Err fault) = Err NotAValue

-- what a member says of its simple element: a string writes a value of the type, and nothing else does
abbrev pub value_in : Simple → Data → Result Value InfosetCause
value_in kind (string text) = value_if (reading_of kind text)
value_in kind null = Err NullNotAllowed
value_in kind (boolean b) = Err StringExpected
value_in kind (number n) = Err StringExpected
value_in kind (array items) = Err StringExpected
value_in kind (object entries) = Err StringExpected

-- the element of these names is refused
abbrev pub refused : InfosetCause → Names → Finding
refused cause names = Refuses (record { level = length names - 1; refusal = record { cause = cause; path = path_of names } })

-- a member of the element of these names is refused; it stands beside the children
abbrev pub unknown_in : Names → Finding
unknown_in names =
    Refuses (record { level = length names; refusal = record { cause = UnknownMember; path = path_of names } })

-- a simple element says its value, or is refused
abbrev pub simple_findings : ℕ → Names → Result Value InfosetCause → List Finding
simple_findings row names (Ok value) = Says (SimpleElement row value) ∷ []
simple_findings row names (Err cause) = refused cause names ∷ []

-- the names of an object's members
abbrev pub names_of : Members → List (List ℕ)
names_of no_members = []
names_of (member name content rest) = name ∷ names_of rest

-- each member has the name of one of the elements of these rows
abbrev pub are_known : Table → List ℕ → Members → Bool
are_known t elements entries = list_all (is_declared t elements) (names_of entries)

-- what members say beside the elements that are declared: one refusal where a member has no such name
abbrev pub unknown_findings : Table → List ℕ → Names → Members → List Finding
unknown_findings t elements names entries = if are_known t elements entries then [] else unknown_in names ∷ []

-- what the items of an array say of its element, from a place on, one after another
abbrev pub items_findings : (Option ℕ → Data → Names → List Finding) → Names → ℕ → Items → List Finding
items_findings inside around place no_items = []
items_findings inside around place (one_item content rest) =
    inside (Some place) content around ++ items_findings inside around (suc place) rest

-- what content says of an element of this name whose occurrences are items: it is an array of them; an empty one says nothing,
-- as if there were no member
abbrev pub array_findings : (Option ℕ → Data → Names → List Finding) → List ℕ → Names → Data → List Finding
array_findings inside name around (array items) = items_findings inside around 1 items
array_findings inside name around null = refused ArrayExpected (name ∷ around) ∷ []
array_findings inside name around (boolean b) = refused ArrayExpected (name ∷ around) ∷ []
array_findings inside name around (number n) = refused ArrayExpected (name ∷ around) ∷ []
array_findings inside name around (string text) = refused ArrayExpected (name ∷ around) ∷ []
array_findings inside name around (object entries) = refused ArrayExpected (name ∷ around) ∷ []

-- what the member of an element says of it: an array, where its occurrences are items, and else the one occurrence; an
-- absent member says nothing
abbrev pub member_findings : Table → (ℕ → Option ℕ → Data → Names → List Finding) → Names → ℕ → Option Data → List Finding
member_findings t inside around row None = []
member_findings t inside around row (Some content) =
    if is_item t.rows row then array_findings (inside row) (name_of t row) around content else inside row None content around

-- what an object says of these elements, in schema order
abbrev pub children_findings : Table → (ℕ → Option ℕ → Data → Names → List Finding) → List ℕ → Names → Members → List Finding
children_findings t inside elements names entries =
    flat_map (λ row. member_findings t inside names row (get_member (name_of t row) entries)) elements

-- a complex element is an object: it begins, unknown members are refused before all that is inside, and it ends
abbrev pub complex_findings : Table → (ℕ → Option ℕ → Data → Names → List Finding) → ℕ → List ℕ → Names → Data → List Finding
complex_findings t inside row elements names (object entries) =
    Says (Start row) ∷ (unknown_findings t elements names entries
    ++ (children_findings t inside elements names entries ++ Says End ∷ []))
complex_findings t inside row elements names null = refused NullNotAllowed names ∷ []
complex_findings t inside row elements names (boolean b) = refused ObjectExpected names ∷ []
complex_findings t inside row elements names (number n) = refused ObjectExpected names ∷ []
complex_findings t inside row elements names (string text) = refused ObjectExpected names ∷ []
complex_findings t inside row elements names (array items) = refused ObjectExpected names ∷ []

-- an element with this content is nil: it is null, and the element has a nil representation, of this primitive
abbrev pub is_nil : Option ℕ → Data → Bool
is_nil None content = false
is_nil (Some prim) null = true
is_nil (Some prim) (boolean b) = false
is_nil (Some prim) (number n) = false
is_nil (Some prim) (string text) = false
is_nil (Some prim) (array items) = false
is_nil (Some prim) (object entries) = false

-- an element that is nil says that alone
abbrev pub unless_nil : Bool → ℕ → List Finding → List Finding
unless_nil nil row others = if nil then Says (Nil row) ∷ [] else others

-- what content says of an occurrence of a row's element, which stands in elements of these names and has this place, if it
-- is an item, where `inside` has what it says of the rows below
abbrev pub findings_by : Table → (ℕ → Option ℕ → Data → Names → List Finding) → ℕ → Option Row → Option ℕ → Data → Names → List Finding
findings_by t inside row (Some (Elem name (Some kind) tried behind body)) place content around =
    unless_nil (is_nil tried.nil content) row (simple_findings row (step_to name place ∷ around) (value_in kind content))
findings_by t inside row (Some (Elem name None tried behind body)) place content around =
    unless_nil (is_nil tried.nil content) row (complex_findings t inside row (members_in t body) (step_to name place ∷ around) content)
findings_by t inside row (Some (Leaf prim)) place content around = []
findings_by t inside row (Some (Group children)) place content around = []
findings_by t inside row (Some (Skip bits)) place content around = []
findings_by t inside row (Some (Align bits)) place content around = []
findings_by t inside row (Some (Initiator delimiter)) place content around = []
findings_by t inside row (Some (Terminator delimiter separators)) place content around = []
findings_by t inside row (Some Separator) place content around = []
findings_by t inside row (Some (Scope list body)) place content around = []
findings_by t inside row (Some (Boxed bits body)) place content around = []
findings_by t inside row (Some (PrefixedLeaf prefix prim)) place content around = []
findings_by t inside row (Some (PrefixedBox prefix body)) place content around = []
findings_by t inside row (Some (MeasuredLeaf measure prim)) place content around = []
findings_by t inside row (Some (MeasuredBox measure body)) place content around = []
findings_by t inside row (Some (Repeat count body)) place content around = []
findings_by t inside row (Some (Counted question body)) place content around = []
findings_by t inside row (Some (Optional most item initiated body)) place content around = []
findings_by t inside row (Some (Choice branches initiated)) place content around = []
findings_by t inside row (Some (Dispatch question keys)) place content around = []
findings_by t inside row (Some (Statement statement)) place content around = []
findings_by t inside row (Some (Concluded behind body)) place content around = []
findings_by t inside row (Some (Hidden body)) place content around = []
findings_by t inside row (Some (Spanned body)) place content around = []
findings_by t inside row (Some (Instance statement body)) place content around = []
findings_by t inside row (Some (Separated policy position initiated slots)) place content around = []
findings_by t inside row None place content around = []

-- what content says of an occurrence of the element of this row
abbrev pub findings : Table → ℕ → Option ℕ → Data → Names → List Finding
findings t row = by_rows (findings_by t) (λ place content around. []) t.rows row

-- the content of the root element: the whole is an object whose only member has its name
abbrev pub content_in : List ℕ → Data → Option Data
content_in root (object (member name content no_members)) = if bytes_eq root name then Some content else None
content_in root (object no_members) = None
content_in root (object (member first content (member second more rest))) = None
content_in root null = None
content_in root (boolean b) = None
content_in root (number n) = None
content_in root (string text) = None
content_in root (array items) = None

-- what the content of the root element says, if there is one
abbrev pub root_findings : Table → Option Data → List Finding
root_findings t None =
    Refuses (record { level = 0; refusal = record { cause = RootExpected; path = whole_path } }) ∷ []
root_findings t (Some content) = findings t (root_row t) None content []

-- the events that are said
abbrev pub events_said : List Finding → List Event
events_said [] = []
events_said (Says event ∷ rest) = event ∷ events_said rest
events_said (Refuses placed ∷ rest) = events_said rest

-- of a refusal and what counts of those behind it: the outer one, and of one level the first
abbrev pub outer : Placed → Option Placed → Placed
outer first None = first
outer first (Some later) = if nat_lt later.level first.level then later else first

-- the refusal that counts: that at the outermost level, and there the first in schema order
abbrev pub counting : List Finding → Option Placed
counting [] = None
counting (Says event ∷ rest) = counting rest
counting (Refuses placed ∷ rest) = Some (outer placed (counting rest))

-- the refusal, if there is one, else the events
abbrev pub unless_refused : Option Placed → List Event → Result (List Event) Refusal
unless_refused None events = Ok events
unless_refused (Some placed) events = Err placed.refusal

-- what findings come to
abbrev pub answer_of : List Finding → Result (List Event) Refusal
answer_of found = unless_refused (counting found) (events_said found)

-- the events of a JSON value, or why it is no infoset
abbrev pub events_in : Table → Data → Result (List Event) Refusal
events_in t whole = answer_of (root_findings t (content_in (name_of t (root_row t)) whole))
