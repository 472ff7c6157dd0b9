-- How deep elements are nested in one another.
use Rattle.std.specs.Prelude.{ℕ, ◌+◌, List, [], ◌∷◌, max}
use Rattle.dfdl_order.specs.Folds.{value_by}
use Rattle.dfdl_rows.specs.Components.{Schema, component_at}
use Rattle.dfdl_rows.specs.declared.component.Component.{Component}
use Rattle.dfdl_rows.specs.declared.component.Component.TheVariants.{Sequence, Choice, ComplexElement, SimpleElement, CalculatedElement, Hidden}

-- one for an element
abbrev pub own_depth : Component → ℕ
own_depth (Sequence framing separated initiated) = 0
own_depth (Choice framing initiated dispatch) = 0
own_depth (ComplexElement name framing box occurs often) = 1
own_depth (SimpleElement name simple prim framing own_length tried scanned occurs often) = 1
own_depth (CalculatedElement name simple statement framing) = 1
own_depth Hidden = 0

-- the greatest of some numbers
abbrev pub greatest : List ℕ → ℕ
greatest [] = 0
greatest (n ∷ others) = max n (greatest others)

-- the elements that are nested in one another in a component, itself among them
abbrev pub depth_from : List Component → ℕ → List ℕ → ℕ
depth_from components c of_parts = own_depth (component_at components c) + greatest of_parts

-- the greatest number of elements that are nested in one another, from a component on
abbrev pub depth_of : Schema → ℕ → ℕ
depth_of s c = value_by s.uses (depth_from s.components) 0 c
