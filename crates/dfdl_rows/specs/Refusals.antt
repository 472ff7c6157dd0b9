-- Which refusal of several counts: the first in schema order. Beside the refusals of components by themselves there is one
-- of an element whose name an earlier element of the same complex element has, through sequences, choices and groups in one
-- another, hidden or not, unless they stand in different branches of a choice ('DFDL Schema Component Model').
use Rattle.std.specs.Prelude.{ℕ, Bool, List, [], ◌∷◌, ◌++◌, get_or, Option, None, Some, if◌then◌else◌}
use Rattle.std.specs.List.{list_any}
use Rattle.std.specs.Str.{bytes_eq}
use Rattle.dfdl_report.specs.declared.cause.SchemaCause.TheVariants.{ElementTwice}
use Rattle.dfdl_report.specs.declared.place.Place.{Place}
use Rattle.dfdl_order.specs.Folds.{value_by}
use Rattle.dfdl_rows.specs.Components.{Schema, component_at, place_at}
use Rattle.dfdl_rows.specs.declared.component.Component.{Component}
use Rattle.dfdl_rows.specs.declared.component.Component.TheVariants.{Sequence, Choice, ComplexElement, SimpleElement, CalculatedElement, Hidden}
use Rattle.dfdl_rows.specs.declared.refusal.Refusal.{Refusal}

-- the local names of the elements so far that stand in one complex element
abbrev pub Names : Type 0
Names = List (List ℕ)

-- what looking at components in schema order comes to: these are the names of their elements, or it ends at a refusal
pub data Looked : Type 0 where
  Behind : Names → Looked
  Ends : Refusal → Looked

-- looking at a component, behind elements of some names
abbrev pub Look : Type 0
Look = Names → Looked

-- the names of others stand behind these
abbrev pub with_names : Names → Looked → Looked
with_names names (Behind others) = Behind (names ++ others)
with_names names (Ends refusal) = Ends refusal

-- what comes next is looked at behind elements of some names and those that were looked at, where nothing was refused
abbrev pub go_on : Looked → Names → Look → Looked
go_on (Behind new) names next = with_names new (next (names ++ new))
go_on (Ends refusal) names next = Ends refusal

-- one after another
abbrev pub in_order : List Look → Look
in_order [] names = Behind []
in_order (look ∷ others) names = go_on (look names) names (in_order others)

-- another branch is looked at behind elements of some names alone, where nothing was refused
abbrev pub go_beside : Looked → Names → Look → Looked
go_beside (Behind new) names next = with_names new (next names)
go_beside (Ends refusal) names next = Ends refusal

-- the branches of a choice
abbrev pub in_branches : List Look → Look
in_branches [] names = Behind []
in_branches (look ∷ others) names = go_beside (look names) names (in_branches others)

-- one of the names is this one
abbrev pub is_among : Names → List ℕ → Bool
is_among names name = list_any (λ other. bytes_eq other name) names

-- an element with what it has inside, none of whose elements counts for its own
abbrev pub behind_element : List ℕ → Looked → Looked
behind_element name (Behind inside) = Behind (name ∷ [])
behind_element name (Ends refusal) = Ends refusal

-- an element that begins at a place: it is refused where its name was there, and else what it has inside is looked at
abbrev pub at_element : Place → List ℕ → Look → Look
at_element place name inside names =
    if is_among names name then Ends (record { cause = ElementTwice; place = place })
    else behind_element name (inside [])

-- a component that isn't refused by itself, where its parts are looked at so
abbrev pub at_component : Component → Place → List Look → Look
at_component (Sequence framing separated initiated) place parts = in_order parts
at_component (Choice framing initiated dispatch) place parts = in_branches parts
at_component (ComplexElement name framing box occurs often) place parts = at_element place name (in_order parts)
at_component (SimpleElement name simple prim framing own_length tried scanned occurs often) place parts = at_element place name (in_order parts)
at_component (CalculatedElement name simple statement framing) place parts = at_element place name (in_order parts)
at_component Hidden place parts = in_order parts

-- the refusal of a component's own
abbrev pub own_refusal : Schema → ℕ → Option Refusal
own_refusal s c = get_or s.refusals c None

-- a refusal of a component's own ends it before all else
abbrev pub unless_refused : Option Refusal → Look → Look
unless_refused None look names = look names
unless_refused (Some refusal) look names = Ends refusal

-- a component, where each of its parts is looked at so
abbrev pub look_from : Schema → ℕ → List Look → Look
look_from s c parts = unless_refused (own_refusal s c) (at_component (component_at s.components c) (place_at s.places c) parts)

-- nothing is there to be looked at
abbrev pub no_look : Look
no_look names = Behind []

-- a component with all that is reached from it, in schema order, each use in its turn
abbrev pub look_at : Schema → ℕ → Look
look_at s c = value_by s.uses (look_from s) no_look c

-- the refusal at which looking ended
abbrev pub refusal_in : Looked → Option Refusal
refusal_in (Behind names) = None
refusal_in (Ends refusal) = Some refusal

-- the first refusal of the components that are reached from one, in schema order
abbrev pub first_refusal : Schema → ℕ → Option Refusal
first_refusal s c = refusal_in (look_at s c [])
