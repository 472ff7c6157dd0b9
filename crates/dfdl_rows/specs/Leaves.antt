-- Where the values of the simple elements of rows are read or calculated.
use Rattle.std.specs.Prelude.{◌≡◌, ℕ, Bool, List, Option, None, Some, slice_get}
use Rattle.dfdl_forms.specs.declared.simple.Simple.{Simple}
use Rattle.dfdl_terms.specs.declared.representations.Representations.{Representations}
use Rattle.dfdl_terms.specs.Leaves.{ReadsBy}
use Rattle.dfdl_terms.specs.declared.framing.Framing.{Framing}
use Rattle.dfdl_terms.specs.declared.occurs.Occurs.{Occurs}
use Rattle.dfdl_terms.specs.declared.row.Row.{Row}
use Rattle.dfdl_terms.specs.declared.row.Row.TheVariants.{Leaf, Elem, Group, Skip, Align, Initiator, Terminator, Separator, Scope, Boxed, PrefixedLeaf, PrefixedBox, MeasuredLeaf, MeasuredBox, Repeat, Counted as CountedRow, Optional, Choice, Dispatch, Statement, Concluded, Hidden, Spanned, Instance, Separated}
use Rattle.dfdl_terms.specs.declared.statement.Statements.{Statements}
use Rattle.dfdl_rows.specs.declared.component.Counted.{Counted}
use Rattle.dfdl_rows.specs.declared.component.LeafLength.{LeafLength}
use Rattle.dfdl_rows.specs.declared.component.Component.{Component}
use Rattle.dfdl_rows.specs.declared.component.Component.TheVariants.{SimpleElement, CalculatedElement}

-- one of the components is a simple element of this type, read by the primitive of this number, whatever gives the length of its content
abbrev pub IsAmong : List Component → Simple → ℕ → Type 0
IsAmong components simple prim =
    (number : ℕ) × (name : List ℕ) × (framing : Framing) × (own_length : LeafLength) × (tried : Representations)
    × (scanned : Bool) × (occurs : Occurs) × (often : Counted) × (slice_get components number ≡ Some (SimpleElement name simple prim framing own_length tried scanned occurs often))

-- one of the components is an element of this type, whose value is calculated by the statement of this number
abbrev pub IsCalculated : List Component → Simple → ℕ → Type 0
IsCalculated components simple statement =
    (number : ℕ) × (name : List ℕ) × (framing : Framing) × (slice_get components number ≡ Some (CalculatedElement name simple statement framing))

-- the body of each simple element reads a value by the primitive of a component of its type, or calculates one by the statement of such a
-- component
abbrev pub HaveLeaves : List Component → List Row → Type 0
HaveLeaves components rows = (row : ℕ) (name : List ℕ) (simple : Simple) (tried : Representations) (behind : Statements) (body : ℕ)
    → slice_get rows row ≡ Some (Elem name (Some simple) tried behind body)
    → ReadsBy rows (IsAmong components simple) (IsCalculated components simple) body

-- there is a row, and it is a leaf with neither a prefix nor an expression for its length, of the primitive of a component of the type
abbrev pub IsLeafOf : List Component → Simple → Option Row → Type 0
IsLeafOf components simple (Some (Leaf prim)) = IsAmong components simple prim
IsLeafOf components simple (Some (Elem name other tried behind body)) = ⊥
IsLeafOf components simple (Some (Group children)) = ⊥
IsLeafOf components simple (Some (Skip bits)) = ⊥
IsLeafOf components simple (Some (Align bits)) = ⊥
IsLeafOf components simple (Some (Initiator delimiter)) = ⊥
IsLeafOf components simple (Some (Terminator delimiter separators)) = ⊥
IsLeafOf components simple (Some Separator) = ⊥
IsLeafOf components simple (Some (Scope list body)) = ⊥
IsLeafOf components simple (Some (Boxed bits body)) = ⊥
IsLeafOf components simple (Some (PrefixedLeaf prefix prim)) = ⊥
IsLeafOf components simple (Some (PrefixedBox prefix body)) = ⊥
IsLeafOf components simple (Some (MeasuredLeaf measure prim)) = ⊥
IsLeafOf components simple (Some (MeasuredBox measure body)) = ⊥
IsLeafOf components simple (Some (Repeat count body)) = ⊥
IsLeafOf components simple (Some (CountedRow question body)) = ⊥
IsLeafOf components simple (Some (Optional most item initiated body)) = ⊥
IsLeafOf components simple (Some (Choice branches initiated)) = ⊥
IsLeafOf components simple (Some (Dispatch question keys)) = ⊥
IsLeafOf components simple (Some (Statement statement)) = ⊥
IsLeafOf components simple (Some (Concluded behind body)) = ⊥
IsLeafOf components simple (Some (Hidden body)) = ⊥
IsLeafOf components simple (Some (Spanned body)) = ⊥
IsLeafOf components simple (Some (Instance statement body)) = ⊥
IsLeafOf components simple (Some (Separated policy position initiated slots)) = ⊥
IsLeafOf components simple None = ⊥

-- the body of each simple element is itself the leaf of a component of its type
abbrev pub HaveBareLeaves : List Component → List Row → Type 0
HaveBareLeaves components rows = (row : ℕ) (name : List ℕ) (simple : Simple) (tried : Representations) (behind : Statements) (body : ℕ)
    → slice_get rows row ≡ Some (Elem name (Some simple) tried behind body) → IsLeafOf components simple (slice_get rows body)
