-- How many rows components have.
use Rattle.std.specs.Prelude.{ℕ, ◌+◌, List, [], ◌∷◌, Option, None}
use Rattle.dfdl_order.specs.Folds.{value_by}
use Rattle.dfdl_terms.specs.declared.framing.Framing.{Framing}
use Rattle.dfdl_rows.specs.Components.{Schema, component_at, slots_at}
use Rattle.dfdl_rows.specs.Framing.{conclusion_size, framing_size, opened_size}
use Rattle.dfdl_rows.specs.Scopes.{list_of, scanned_list, scope_size}
use Rattle.dfdl_rows.specs.Slots.{separator_list, slots_size}
use Rattle.dfdl_rows.specs.declared.component.Separated.{Separated}
use Rattle.dfdl_rows.specs.declared.times.Times.{Times}
use Rattle.dfdl_rows.specs.declared.component.Component.{Component}
use Rattle.dfdl_rows.specs.declared.component.Component.TheVariants.{Sequence, Choice, ComplexElement, SimpleElement, CalculatedElement, Hidden}

-- the rows of a sequence or choice that are not its parts', which occur so often: those of separators, of scopes, of what frames its
-- content, of instances and of what is done behind it among them, and those that repeat and try its parts
abbrev pub group_size : Framing → Option Separated → List Times → ℕ
group_size framing separated slots =
    1 + slots_size separated slots + scope_size (separator_list separated) + scope_size (list_of framing.terminator)
    + opened_size framing (separator_list separated) + conclusion_size framing.behind

-- the rows of a component that are not its parts', which occur so often: for an element those of the scope of its terminator, of a box
-- and of what frames its content among them
abbrev pub own_size : Component → List Times → ℕ
own_size (Sequence framing separated initiated) slots = group_size framing separated slots
own_size (Choice framing initiated dispatch) slots = group_size framing None slots
own_size (ComplexElement name framing box occurs often) slots = 2 + scope_size (list_of framing.terminator) + framing_size framing None
own_size (SimpleElement name simple prim framing own_length tried scanned occurs often) slots =
    2 + scope_size (scanned_list scanned framing.terminator) + framing_size framing None
own_size (CalculatedElement name simple statement framing) slots = 2 + framing_size framing None
own_size Hidden slots = 1

-- numbers added up
abbrev pub total : List ℕ → ℕ
total [] = 0
total (n ∷ others) = n + total others

-- the rows of a component, where its parts have so many
abbrev pub size_from : Schema → ℕ → List ℕ → ℕ
size_from s c of_parts = own_size (component_at s.components c) (slots_at s c) + total of_parts

-- how many rows a component has, with those of its parts once for each use
abbrev pub size_of : Schema → ℕ → ℕ
size_of s c = value_by s.uses (size_from s) 0 c
