-- How the pieces of the data are laid while the events of an infoset come ('DFDL Data Syntax Grammar').
use Rattle.std.specs.Prelude.{ℕ, Bool, false, nat_eq, if◌then◌else◌, List, [], ◌∷◌, Option, None, Some, slice_get}
use Rattle.std.specs.Option.{option_and_then}
use Rattle.dfdl_forms.specs.declared.binary.IntForm.{IntForm}
use Rattle.dfdl_value.specs.declared.value.Value.{Value}
use Rattle.dfdl_terms.specs.declared.event.Event.{Event}
use Rattle.dfdl_terms.specs.declared.event.Event.TheVariants.{Start, Simple, Nil, End}
use Rattle.dfdl_terms.specs.declared.row.Primitive.{Primitive}
use Rattle.dfdl_terms.specs.declared.row.Primitive.TheVariants.{Integer, Packed, Truth, Octets, Text, NilOctets, Default, NilValues, Pattern}
use Rattle.dfdl_terms.specs.declared.row.Row.{Row}
use Rattle.dfdl_terms.specs.declared.row.Row.TheVariants.{Leaf, Elem, Group, Skip, Align, Initiator, Terminator, Separator, Scope, Boxed, PrefixedLeaf, PrefixedBox, MeasuredLeaf, MeasuredBox, Repeat, Counted, Optional, Choice, Dispatch, Statement, Concluded, Hidden, Spanned, Instance, Separated}
use Rattle.dfdl_terms.specs.Rows.{Table}
use Rattle.dfdl_json.specs.ByRows.{by_rows}
use Rattle.dfdl_json.specs.Children.{root_row}
use Rattle.dfdl_json.specs.Paths.{Names, path_of}
use Rattle.dfdl_pieces.specs.Pieces.{piece_of}
use Rattle.dfdl_pieces.specs.declared.unparsing.Unparsed.{Unparsed}

-- what is done next in laying pieces
pub data Laying : Type 0 where
  -- the root element is written
  Ended : Laying
  -- a piece of data, and what is done behind it
  Lays : List ℕ → Laying → Laying
  -- the next event decides, or that there is none
  Takes : (Option Event → Laying) → Laying
  -- the required element of this path has no event, and no more is written
  Misses : List ℕ → Laying

-- the form of a primitive that is a binary integer
abbrev pub integer_form : Primitive → Option IntForm
integer_form (Integer form) = Some form
integer_form (Packed form) = None
integer_form (Truth form) = None
integer_form (Octets form) = None
integer_form (Text form) = None
integer_form (NilOctets form) = None
integer_form (Default form) = None
integer_form (NilValues form) = None
integer_form (Pattern form) = None

-- the form of the binary integer that a row writes
abbrev pub form_in : Table → Option Row → Option IntForm
form_in t (Some (Leaf prim)) = option_and_then integer_form (slice_get t.primitives prim)
form_in t (Some (Elem name simple tried behind body)) = None
form_in t (Some (Group children)) = None
form_in t (Some (Skip bits)) = None
form_in t (Some (Align bits)) = None
form_in t (Some (Initiator delimiter)) = None
form_in t (Some (Terminator delimiter separators)) = None
form_in t (Some Separator) = None
form_in t (Some (Scope list body)) = None
form_in t (Some (Boxed bits body)) = None
form_in t (Some (PrefixedLeaf prefix prim)) = None
form_in t (Some (PrefixedBox prefix body)) = None
form_in t (Some (MeasuredLeaf measure prim)) = None
form_in t (Some (MeasuredBox measure body)) = None
form_in t (Some (Repeat count body)) = None
form_in t (Some (Counted question body)) = None
form_in t (Some (Optional most item initiated body)) = None
form_in t (Some (Choice branches initiated)) = None
form_in t (Some (Dispatch question keys)) = None
form_in t (Some (Statement statement)) = None
form_in t (Some (Concluded behind body)) = None
form_in t (Some (Hidden body)) = None
form_in t (Some (Spanned body)) = None
form_in t (Some (Instance statement body)) = None
form_in t (Some (Separated policy position initiated slots)) = None
form_in t None = None

-- the form of the binary integer that the row of this number writes
abbrev pub form_at : Table → ℕ → Option IntForm
form_at t row = form_in t (slice_get t.rows row)

-- the bytes of a value by a form; without a form there are none
abbrev pub piece_by : Option IntForm → Value → List ℕ
piece_by None value = []
piece_by (Some form) value = piece_of form value

-- the value that an event gives the simple element of a row
abbrev pub value_for : ℕ → Option Event → Option Value
value_for row (Some (Simple elem value)) = if nat_eq elem row then Some value else None
value_for row (Some (Start elem)) = None
value_for row (Some (Nil elem)) = None
value_for row (Some End) = None
value_for row None = None

-- the event begins the complex element of a row
abbrev pub begins : ℕ → Option Event → Bool
begins row (Some (Start elem)) = nat_eq elem row
begins row (Some (Simple elem value)) = false
begins row (Some (Nil elem)) = false
begins row (Some End) = false
begins row None = false

-- a simple element of these names, with its value if it has one
abbrev pub value_laying : Names → Option IntForm → Laying → Option Value → Laying
value_laying names form more (Some value) = Lays (piece_by form value) more
value_laying names form more None = Misses (path_of names)

-- a complex element of these names, if it begins: what is inside is laid next
abbrev pub begun_laying : Names → Laying → Bool → Laying
begun_laying names inside here = if here then inside else Misses (path_of names)

-- rows one after another
abbrev pub in_turn : (ℕ → Names → Laying → Laying) → List ℕ → Names → Laying → Laying
in_turn inside [] around more = more
in_turn inside (row ∷ rows) around more = inside row around (in_turn inside rows around more)

-- how a row in elements of these names is laid before others, where `inside` says it of the rows below; a complex
-- element takes the event of its end behind all that is inside
abbrev pub laying_by : Table → (ℕ → Names → Laying → Laying) → ℕ → Option Row → Names → Laying → Laying
laying_by t inside row (Some (Elem name (Some kind) tried behind body)) around more =
    Takes (λ event. value_laying (name ∷ around) (form_at t body) more (value_for row event))
laying_by t inside row (Some (Elem name None tried behind body)) around more =
    Takes (λ event. begun_laying (name ∷ around) (inside body (name ∷ around) (Takes (λ end. more))) (begins row event))
laying_by t inside row (Some (Group children)) around more = in_turn inside children around more
laying_by t inside row (Some (Leaf prim)) around more = more
laying_by t inside row (Some (Skip bits)) around more = more
laying_by t inside row (Some (Align bits)) around more = more
laying_by t inside row (Some (Initiator delimiter)) around more = more
laying_by t inside row (Some (Terminator delimiter separators)) around more = more
laying_by t inside row (Some Separator) around more = more
laying_by t inside row (Some (Scope list body)) around more = more
laying_by t inside row (Some (Boxed bits body)) around more = more
laying_by t inside row (Some (PrefixedLeaf prefix prim)) around more = more
laying_by t inside row (Some (PrefixedBox prefix body)) around more = more
laying_by t inside row (Some (MeasuredLeaf measure prim)) around more = more
laying_by t inside row (Some (MeasuredBox measure body)) around more = more
laying_by t inside row (Some (Repeat count body)) around more = inside body around more
laying_by t inside row (Some (Counted question body)) around more = more
laying_by t inside row (Some (Optional most item initiated body)) around more = more
laying_by t inside row (Some (Choice branches initiated)) around more = more
laying_by t inside row (Some (Dispatch question keys)) around more = more
laying_by t inside row (Some (Statement statement)) around more = more
laying_by t inside row (Some (Concluded behind body)) around more = more
laying_by t inside row (Some (Hidden body)) around more = more
laying_by t inside row (Some (Spanned body)) around more = inside body around more
laying_by t inside row (Some (Instance statement body)) around more = more
laying_by t inside row (Some (Separated policy position initiated slots)) around more = more
laying_by t inside row None around more = more

-- how the row of this number is laid before others
abbrev pub laying : Table → ℕ → Names → Laying → Laying
laying t row = by_rows (laying_by t) (λ around more. more) t.rows row

-- one more piece before the others
abbrev pub with_piece : List ℕ → Unparsed → Unparsed
with_piece piece rest = record { pieces = piece ∷ rest.pieces; missing = rest.missing }

-- what is laid by these events
unfoldable pub laid : Laying → List Event → Unparsed
laid Ended events = record { pieces = []; missing = None }
laid (Lays piece more) events = with_piece piece (laid more events)
laid (Takes more) [] = laid (more None) []
laid (Takes more) (event ∷ events) = laid (more (Some event)) events
laid (Misses path) events = record { pieces = []; missing = Some path }

-- what the events of an infoset are unparsed to
abbrev pub unparsed_of : Table → List Event → Unparsed
unparsed_of t events = laid (laying t (root_row t) [] Ended) events
