-- Mirror for the prover: spans of numbers in which elements are, and steps that lead from one place to one place at most.
use Rattle.std.specs.Prelude.{◌≡◌, ◌<◌, ◌≤◌, ℕ, Bool, true, false, nat_lt, if◌then◌else◌, List, [], ◌∷◌, length, drop, take, Option, Some, None}
use Rattle.dfdl_expressions.specs.declared.path.Step.{Step}
use Rattle.dfdl_expressions.specs.declared.path.Step.TheVariants.{Here, Up, Down}
use Rattle.dfdl_region.specs.declared.node.Node.{Node}
use Rattle.dfdl_paths.specs.declared.place.Place.{Place}
use Rattle.dfdl_paths.specs.declared.place.Place.TheVariants.{Above, At, Inside}
use Rattle.dfdl_paths.specs.declared.found.Found.{Found}
use Rattle.dfdl_paths.specs.declared.found.Found.TheVariants as found
use Rattle.dfdl_paths.specs.declared.reach.Course.{Course}
use Rattle.dfdl_paths.specs.declared.walk.Next.{Next}
use Rattle.dfdl_paths.specs.declared.walk.Next.TheVariants.{Nowhere, One, Many}
use Rattle.dfdl_paths.specs.declared.walk.Reach.{Reach}
use Rattle.dfdl_paths.specs.Elements.{around, is_place}
use Rattle.dfdl_paths.specs.Numbers.{those_below}
use Rattle.dfdl_paths.specs.Leads.{after, follow, left_behind, only_at}

-- each element is in a span that stands at a place, or at an element in the span
pub record IsAround (nodes : List Node) (place : Place) (from end : ℕ) : Type 0 where
  pub order : from ≤ end
  pub within : end ≤ length nodes
  pub first : (number : ℕ) → number < length nodes → is_place place (around nodes number) ≡ true → (from ≤ number) × (number < end)
  pub more : (number outer : ℕ) → number < length nodes → around nodes number ≡ At outer → from ≤ outer → outer < end
      → (from ≤ number) × (number < end)

-- a step is `..`
abbrev pub is_up : Step → Bool
is_up Here = false
is_up Up = true
is_up (Down name indexed) = false

-- where `..` leads from a place
abbrev pub outer_of : List Node → Place → Option Place
outer_of nodes Above = None
outer_of nodes (At number) = if nat_lt number (length nodes) then Some (around nodes number) else None
outer_of nodes (Inside number) = Some (At number)

-- the indexes that are left behind steps
unfoldable pub behind_all : List Step → List ℕ → List ℕ
behind_all [] indexes = indexes
behind_all (step ∷ steps) indexes = behind_all steps (left_behind step indexes)

-- the only place to which a step leads, if there is one
abbrev pub next_in : Option Place → Next
next_in None = Nowhere
next_in (Some place) = One place

-- a step leads from a place to one, or none, which it is, if it can't lead to more
abbrev pub IsNext : List (Option ℕ) → List Node → Step → ℕ → Place → Next → Type 0
IsNext numbers nodes step index place Nowhere = (q : Place) → after numbers nodes step index (only_at (Some place)) q ≡ false
IsNext numbers nodes step index place (One next) =
    (q : Place) → after numbers nodes step index (only_at (Some place)) q ≡ only_at (Some next) q
IsNext numbers nodes step index place Many = Unit {0}

-- the first steps of a path lead to one place, and the others go on from there
pub record IsReach (numbers : List (Option ℕ)) (nodes : List Node) (begin : Place) (steps : List Step) (indexes : List ℕ)
    (reach : Reach) : Type 0 where
  pub within : reach.steps ≤ length steps
  pub same : (q : Place) → follow numbers nodes (only_at (Some begin)) steps indexes q
      ≡ follow numbers nodes (only_at (Some reach.place)) (drop reach.steps steps) (drop reach.indexes indexes) q

-- a path leads to no place
abbrev pub LeadsNowhere : List (Option ℕ) → List Node → Place → List Step → List ℕ → Type 0
LeadsNowhere numbers nodes begin steps indexes = (q : Place) → follow numbers nodes (only_at (Some begin)) steps indexes q ≡ false

-- what the first so many steps of a course reach
abbrev pub reached_first : Course → ℕ → Place → Bool
reached_first course count =
    follow course.names.now course.nodes.now (only_at (Some course.from)) (take count course.steps.now) course.indexes.now

-- what all of them reach
abbrev pub reached_by : Course → Place → Bool
reached_by course = follow course.names.now course.nodes.now (only_at (Some course.from)) course.steps.now course.indexes.now

-- the elements that they lead to
abbrev pub items_by : Course → List ℕ
items_by course = those_below (λ n. reached_by course (At n)) (length course.nodes.now)

-- the elements that steps lead to from one place
abbrev pub items_from : List (Option ℕ) → List Node → Place → List Step → List ℕ → List ℕ
items_from numbers nodes from steps indexes = those_below (λ n. follow numbers nodes (only_at (Some from)) steps indexes (At n)) (length nodes)

-- the steps lead to no element outside of a span
pub record IsSpan (numbers : List (Option ℕ)) (nodes : List Node) (place : Place) (steps : List Step) (indexes : List ℕ)
    (from end : ℕ) : Type 0 where
  pub order : from ≤ end
  pub within : end ≤ length nodes
  pub before : (number : ℕ) → number < from → follow numbers nodes (only_at (Some place)) steps indexes (At number) ≡ false
  pub behind : (number : ℕ) → end ≤ number → number < length nodes → follow numbers nodes (only_at (Some place)) steps indexes (At number) ≡ false

abbrev pub IsSpanOf : Course → ℕ → ℕ → Type 0
IsSpanOf course from end = IsSpan course.names.now course.nodes.now course.from course.steps.now course.indexes.now from end

-- the first step is a name
abbrev pub is_down : Step → Bool
is_down Here = false
is_down Up = false
is_down (Down name indexed) = true

abbrev pub begins_down : List Step → Bool
begins_down [] = false
begins_down (step ∷ steps) = is_down step

-- what is found with one element more
abbrev pub with_one : Found → ℕ → Found
with_one found.None number = found.One number
with_one (found.One other) number = found.Several
with_one found.Several number = found.Several

-- with one more, or none
abbrev pub with_item : Found → List ℕ → Found
with_item before [] = before
with_item before (number ∷ rest) = with_one before number
