-- Where paths lead among the declared elements, and what types they have. 'DFDL Expression Language'.
use Rattle.std.specs.Prelude.{ℕ, ◌==◌, Bool, true, false, if◌then◌else◌, Option, Some, None, List, [], ◌∷◌}
use Rattle.std.specs.List.{flat_map}
use Rattle.dfdl_forms.specs.declared.simple.Simple.{Simple}
use Rattle.dfdl_expression_types.specs.declared.statics.Element.{Element}
use Rattle.dfdl_expression_types.specs.declared.statics.Place.{Place}
use Rattle.dfdl_expression_types.specs.declared.statics.Place.TheVariants.{Above, At, Inside}
use Rattle.dfdl_expression_types.specs.declared.statics.Statics.{Statics}
use Rattle.dfdl_expression_types.specs.declared.types.Types.{Types}
use Rattle.dfdl_expression_types.specs.Declarations.{element_at}
use Rattle.dfdl_expression_types.specs.TypeSets.{only, every, no_type, either, type_of}

abbrev pub children_by : Option Element → List ℕ
children_by None = []
children_by (Some element) = element.children.items

-- the elements to which a step by name may lead from a place: above all stands the root element, which is the first
abbrev pub below : Statics → Place → List ℕ
below s Above = 0 ∷ []
below s (At number) = children_by (element_at s number)
below s (Inside number) = []

abbrev pub has_name : Option ℕ → Option Element → Bool
has_name (Some name) (Some element) = element.name == name
has_name _ _ = false

-- whether the element of a number has the local name of this number, if there is one
abbrev pub is_named : Statics → Option ℕ → ℕ → Bool
is_named s name number = has_name name (element_at s number)

-- those of some elements that have this name
abbrev pub named_places : Statics → Option ℕ → List ℕ → List Place
named_places s name [] = []
named_places s name (n ∷ numbers) = if is_named s name n then At n ∷ named_places s name numbers else named_places s name numbers

-- where a step by name leads: to each element of this name below one of the places
abbrev pub children_of : Statics → Option ℕ → List Place → List Place
children_of s name places = flat_map (λ place. named_places s name (below s place)) places

abbrev pub parent_by : Option Element → Option ℕ
parent_by None = None
parent_by (Some element) = element.parent

-- the element around a place
abbrev pub around : Statics → Place → Option ℕ
around s Above = None
around s (At number) = parent_by (element_at s number)
around s (Inside number) = Some number

-- whether a number is the one before it
abbrev pub is_same : Option ℕ → ℕ → Bool
is_same None number = false
is_same (Some before) number = before == number

-- an element around a place, before those around the next ones: once, where it is that of the place before, too
abbrev pub parent_then : Option ℕ → (Option ℕ → List Place) → Option ℕ → List Place
parent_then before next None = next before
parent_then before next (Some number) = if is_same before number then next before else At number ∷ next (Some number)

-- where `..` leads behind places, of which the last one's is given
abbrev pub parents_behind : Statics → Option ℕ → List Place → List Place
parents_behind s before [] = []
parents_behind s before (place ∷ places) = parent_then before (λ last. parents_behind s last places) (around s place)

abbrev pub parents_of : Statics → List Place → List Place
parents_of s places = parents_behind s None places

-- where `.` stays: only an element is a place to which a path can lead
abbrev pub stays : Place → List Place
stays Above = []
stays (At number) = At number ∷ []
stays (Inside number) = []

abbrev pub elements_of : List Place → List Place
elements_of places = flat_map stays places

abbrev pub types_by : Option Simple → Types
types_by None = every
types_by (Some simple) = only (type_of simple)

abbrev pub types_in : Option Element → Types
types_in None = every
types_in (Some element) = types_by element.simple

-- the types of an element: a complex one fits each
abbrev pub types_at : Statics → Place → Types
types_at s Above = every
types_at s (At number) = types_in (element_at s number)
types_at s (Inside number) = every

-- these types, and those of some places: a path fits where one of them does
abbrev pub types_with : Statics → Types → List Place → Types
types_with s types [] = types
types_with s types (place ∷ places) = types_with s (either types (types_at s place)) places

abbrev pub types_of_places : Statics → List Place → Types
types_of_places s places = types_with s no_type places

abbrev pub is_nowhere : List Place → Bool
is_nowhere [] = true
is_nowhere (place ∷ places) = false

-- the types of a path that leads to these places: one that leads nowhere has no declaration
abbrev pub path_types : Statics → List Place → Types
path_types s places = if is_nowhere places then every else types_of_places s places
