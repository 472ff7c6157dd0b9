-- Mirror for the prover: what is known of components before others are looked at, and what is left to be looked at.
use Rattle.std.specs.Prelude.{◌≡◌, ℕ, ◌+◌, ◌<◌, Bool, true, false, ◌&&◌, List, [], ◌∷◌, ◌++◌, length, map, All, get_or, is_none, Option, None, Some}
use denote.Ref.{Bor}
use Rattle.dfdl_report.specs.declared.cause.SchemaCause.TheVariants.{ElementTwice}
use Rattle.dfdl_report.specs.declared.place.Place.{Place}
use Rattle.dfdl_order.specs.Parts.{IsOrder, Places}
use Rattle.dfdl_order.specs.Folds.{value_by}
use Rattle.dfdl_rows.specs.Components.{Schema, component_at}
use Rattle.dfdl_rows.specs.Sizes.{total}
use Rattle.dfdl_rows.specs.Refusals.{Names, Looked, Behind, Ends, in_order, is_among, look_at, own_refusal, first_refusal, refusal_in}
use Rattle.dfdl_rows.specs.declared.component.Component.{Component}
use Rattle.dfdl_rows.specs.declared.component.Component.TheVariants.{Sequence, Choice, ComplexElement, SimpleElement, CalculatedElement, Hidden}
use Rattle.dfdl_rows.specs.declared.looking.Level.{Level}
use Rattle.dfdl_rows.specs.declared.looking.Task.{Task}
use Rattle.dfdl_rows.specs.declared.looking.Task.TheVariants.{Visit, Turn, Close}
use Rattle.dfdl_rows.specs.declared.refusal.Refusal.{Refusal}

-- a component is an element
abbrev pub is_element : Component → Bool
is_element (Sequence framing separated initiated) = false
is_element (Choice framing initiated dispatch) = false
is_element (ComplexElement name framing box occurs often) = true
is_element (SimpleElement name simple prim framing own_length tried scanned occurs often) = true
is_element (CalculatedElement name simple statement framing) = true
is_element Hidden = false

-- a component is none
abbrev pub is_plain : Component → Bool
is_plain (Sequence framing separated initiated) = true
is_plain (Choice framing initiated dispatch) = true
is_plain (ComplexElement name framing box occurs often) = false
is_plain (SimpleElement name simple prim framing own_length tried scanned occurs often) = false
is_plain (CalculatedElement name simple statement framing) = false
is_plain Hidden = true

-- all of these
abbrev pub are_all : List Bool → Bool
are_all [] = true
are_all (b ∷ others) = b && are_all others

-- neither a refusal nor an element comes of a component
abbrev pub idle_from : Schema → ℕ → List Bool → Bool
idle_from s c parts = is_none (own_refusal s c) && (is_plain (component_at s.components c) && are_all parts)

abbrev pub idle_of : Schema → ℕ → Bool
idle_of s c = value_by s.uses (idle_from s) false c

-- how many tasks come of a component at most, itself among them
abbrev pub looks_from : ℕ → List ℕ → ℕ
looks_from c parts = 2 + (length parts + total parts)

abbrev pub looks_of : Schema → ℕ → ℕ
looks_of s c = value_by s.uses looks_from 0 c

-- how many are still to be done
abbrev pub looks_left : Schema → List Task → ℕ
looks_left s [] = 0
looks_left s (Visit c ∷ ts) = looks_of s c + looks_left s ts
looks_left s (Turn ∷ ts) = 1 + looks_left s ts
looks_left s (Close ∷ ts) = 1 + looks_left s ts

-- the components that are still to be looked at
abbrev pub visits : List Task → List ℕ
visits [] = []
visits (Visit c ∷ ts) = c ∷ visits ts
visits (Turn ∷ ts) = visits ts
visits (Close ∷ ts) = visits ts

-- the tasks of the branches of a choice
abbrev pub branch_tasks : List ℕ → List Task
branch_tasks [] = []
branch_tasks (p ∷ ps) = Visit p ∷ Turn ∷ branch_tasks ps

-- the names of a branch so far, and those of the branches of its choice before it; outside of all choices the names so far, and none
pub record Side : Type 0 where
  pub own : Names
  pub others : Names

-- the same of each choice that is open, the innermost one first
pub record Stand : Type 0 where
  pub own : Names
  pub others : Names
  pub outer : List Side

abbrev pub names_in : List (Bor (List ℕ)) → Names
names_in names = map (λ name. name.now) names

abbrev pub side_of : Level → Side
side_of level = record { own = names_in level.own.items; others = names_in level.others.items }

abbrev pub stand_of : Level → List Level → Stand
stand_of level outer = record { own = names_in level.own.items; others = names_in level.others.items; outer = map side_of outer }

-- the same, from its parts
abbrev pub stand : Names → Names → List Side → Stand
stand own others outer = record { own = own; others = others; outer = outer }

-- the names that stand before all that is in the innermost choice
abbrev pub names_before : List Side → Names
names_before [] = []
names_before (side ∷ outer) = names_before outer ++ side.own

-- the names behind which the next component is looked at
abbrev pub names_at : Stand → Names
names_at st = names_before st.outer ++ st.own

-- more names
abbrev pub with_more : Stand → Names → Stand
with_more st new = stand (st.own ++ new) st.others st.outer

-- a branch is done
abbrev pub turned : Stand → Stand
turned st = stand [] (st.others ++ st.own) st.outer

-- a choice is begun
abbrev pub opened : Stand → Stand
opened st = stand [] [] (record { own = st.own; others = st.others } ∷ st.outer)

-- the innermost choice is done
abbrev pub closed_in : List Side → Stand → Stand
closed_in [] st = st
closed_in (side ∷ outer) st = stand (side.own ++ (st.others ++ st.own)) side.others outer

abbrev pub closed : Stand → Stand
closed st = closed_in st.outer st

-- what follows a component that was looked at
abbrev pub left_from : Looked → (Names → Option Refusal) → Option Refusal
left_from (Behind new) next = next new
left_from (Ends refusal) next = Some refusal

-- the first refusal in what is left
unfoldable pub refusal_left : Schema → List Task → Stand → Option Refusal
refusal_left s [] st = None
refusal_left s (Visit c ∷ ts) st = left_from (look_at s c (names_at st)) (λ new. refusal_left s ts (with_more st new))
refusal_left s (Turn ∷ ts) st = refusal_left s ts (turned st)
refusal_left s (Close ∷ ts) st = refusal_left s ts (closed st)

-- the first refusal in components one after another, behind elements of these names
abbrev pub refusal_behind : Schema → List ℕ → Names → Option Refusal
refusal_behind s parts names = refusal_in (in_order (map (look_at s) parts) names)

-- the test has exactly these names
pub record HasNames (has : Bor (List ℕ) → Bool) (names : Names) : Type 0 where
  pub exactly : (name : Bor (List ℕ)) → has name ≡ is_among names name.now

-- none of the names is among others
abbrev pub AreNew : Names → Names → Type 0
AreNew names others = (name : List ℕ) → is_among names name ≡ true → is_among others name ≡ false

-- the names of each choice are none of those before it
abbrev pub AreSidesNew : List Side → Type 0
AreSidesNew [] = Unit {0}
AreSidesNew (side ∷ outer) = AreNew side.own (names_before outer) × AreNew side.others (names_before outer) × AreSidesNew outer

-- the test has the names behind which the next component is looked at, and those of each choice are none of those before it
pub record IsKept (has : Bor (List ℕ) → Bool) (st : Stand) : Type 0 where
  pub names : HasNames has (names_at st)
  pub own : AreNew st.own (names_before st.outer)
  pub others : AreNew st.others (names_before st.outer)
  pub outer : AreSidesNew st.outer

-- The first refusal of each element that stands in an order before a place is known, and so are the components from
-- which nothing comes.
pub record AreKnown (s : Schema) (idle : List Bool) (known : List (Option Refusal)) (order : Places) (bound : ℕ) : Type 0 where
  pub is_order : IsOrder s.uses order
  pub idle_are : (c : ℕ) → c < length s.uses → get_or idle c false ≡ idle_of s c
  pub idle_count : length idle ≡ length s.uses
  pub count : length known ≡ length s.uses
  pub each : (c : ℕ) → c < length s.uses → get_or order.rank c 0 < bound → is_element (component_at s.components c) ≡ true
      → get_or known c None ≡ first_refusal s c

-- the first refusal of every element is known
abbrev pub HasRefusals : Schema → List Bool → List (Option Refusal) → Type 0
HasRefusals s idle known = (order : Places) × AreKnown s idle known order (length s.uses)

-- these components stand in an order before a place up to which all is known
pub record AreReady (s : Schema) (idle : List Bool) (known : List (Option Refusal)) (parts : List ℕ) : Type 0 where
  pub order : Places
  pub bound : ℕ
  pub are_known : AreKnown s idle known order bound
  pub within : All (λ t. t < length s.uses) parts
  pub before : All (λ t. get_or order.rank t 0 < bound) parts

-- what one step comes to: a refusal, which is the first in what was left, or what is left has the same first one
abbrev pub IsStep : Schema → List Task → Stand → List Task → Stand → (Bor (List ℕ) → Bool) → Option Refusal → Type 0
IsStep s before old after new has (Some refusal) = refusal_left s before old ≡ Some refusal
IsStep s before old after new has None = IsKept has new × (refusal_left s after new ≡ refusal_left s before old)

-- an element comes behind elements of some names: it is refused where its name was there, and else its name is added and
-- the refusal is the one inside
pub record IsAdded (old : Names) (name : List ℕ) (place : Place) (inside : Option Refusal) (has : Bor (List ℕ) → Bool) (own new : List (Bor (List ℕ))) (found : Option Refusal) : Type 0 where
  pub twice : is_among old name ≡ true → found ≡ Some (record { cause = ElementTwice; place = place })
  pub same : is_among old name ≡ false → found ≡ inside
  pub names : is_among old name ≡ false → HasNames has (old ++ name ∷ []) × (names_in new ≡ names_in own ++ name ∷ [])
