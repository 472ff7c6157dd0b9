-- What the rows of a root are, with the first refusal of a component that is reached, or why it has none. Of several reasons the depth counts
-- first, then the first refusal, then the number of rows.
use Rattle.std.specs.Prelude.{◌≡◌, ℕ, ◌<◌, ◌≤◌, ◌-◌, List, length, Option, None, Some, option_map, slice_get}
use Rattle.dfdl_report.specs.declared.cause.LimitCause.{LimitCause}
use Rattle.dfdl_report.specs.declared.cause.LimitCause.TheVariants.{Input, Window, Nodes, Text, Depth, Cells, Held, Schema as SchemaSize, Schemas, Rows}
use Rattle.dfdl_terms.specs.declared.row.Row.{Row}
use Rattle.dfdl_terms.specs.declared.row.Row.TheVariants.{Elem}
use Rattle.dfdl_rows.specs.Components.{Schema, no_trials}
use Rattle.dfdl_rows.specs.Refusals.{first_refusal}
use Rattle.dfdl_rows.specs.Depths.{depth_of}
use Rattle.dfdl_rows.specs.Positions.{refused_row}
use Rattle.dfdl_rows.specs.Sizes.{size_of}
use Rattle.dfdl_rows.specs.RowLists.{rows_of}
use Rattle.dfdl_rows.specs.declared.component.Component.{Component}
use Rattle.dfdl_rows.specs.declared.component.Component.TheVariants.{Sequence, Choice, ComplexElement, SimpleElement, CalculatedElement, Hidden}
use Rattle.dfdl_rows.specs.declared.refusal.Refusal.{Refusal}
use Rattle.dfdl_rows.specs.declared.refusal.RefusedRow.{RefusedRow}
use Rattle.dfdl_rows.specs.declared.fault.RowsFault.{RowsFault}
use Rattle.dfdl_rows.specs.declared.fault.RowsFault.TheVariants.{Refused, Limit, OutOfMemory}

-- a component as the root, with the greatest depth and number of rows
pub record Asked : Type 0 where
  pub schema : Schema
  pub root : ℕ
  pub depth : ℕ
  pub rows : ℕ

-- the same, from its parts
abbrev pub asked : Schema → ℕ → ℕ → ℕ → Asked
asked schema root depth rows = record { schema = schema; root = root; depth = depth; rows = rows }

-- elements are nested no deeper than the limit
abbrev pub IsFlat : Asked → Type 0
IsFlat a = depth_of a.schema a.root ≤ a.depth

-- no component that is reached is refused
abbrev pub IsSound : Asked → Type 0
IsSound a = first_refusal a.schema a.root ≡ None

-- the root has so many rows as the limit allows
abbrev pub IsShort : Asked → Type 0
IsShort a = size_of a.schema a.root ≤ a.rows

-- a limit that was reached
abbrev pub IsLimitOf : Asked → LimitCause → ℕ → Type 0
IsLimitOf a Input quantity = ⊥
IsLimitOf a Window quantity = ⊥
IsLimitOf a Nodes quantity = ⊥
IsLimitOf a Text quantity = ⊥
IsLimitOf a Depth quantity = (quantity ≡ a.depth) × (a.depth < depth_of a.schema a.root)
IsLimitOf a Cells quantity = ⊥
IsLimitOf a Held quantity = ⊥
IsLimitOf a SchemaSize quantity = ⊥
IsLimitOf a Schemas quantity = ⊥
IsLimitOf a Rows quantity = (quantity ≡ a.rows) × IsFlat a × IsSound a × (a.rows < size_of a.schema a.root)

-- why there are no rows where there are more than so many: the first refusal, if there is one
abbrev pub past_rows : ℕ → Option Refusal → RowsFault
past_rows most None = Limit Rows most
past_rows most (Some refusal) = Refused refusal

-- why there are no rows
abbrev pub IsFaultOf : Asked → RowsFault → Type 0
IsFaultOf a (Refused refusal) = IsFlat a × (first_refusal a.schema a.root ≡ Some refusal) × (a.rows < size_of a.schema a.root)
IsFaultOf a (Limit cause quantity) = IsLimitOf a cause quantity
IsFaultOf a OutOfMemory = Unit {0}

-- the rows of the root, with the first refusal at its row
pub record AreRowsOf (a : Asked) (rows : List Row) (refused : Option RefusedRow) : Type 0 where
  pub flat : IsFlat a
  pub short : IsShort a
  pub rows_are : rows ≡ rows_of a.schema a.root
  pub refused_is : refused ≡ option_map (refused_row a.schema a.root) (first_refusal a.schema a.root)

-- where a component is an element, the last of the rows is its own
abbrev pub EndsWith : Component → List Row → Type 0
EndsWith (Sequence framing separated initiated) rows = Unit {0}
EndsWith (Choice framing initiated dispatch) rows = Unit {0}
EndsWith (ComplexElement name framing box occurs often) rows = slice_get rows (length rows - 1) ≡ Some (Elem name None no_trials framing.behind (length rows - 2))
EndsWith (SimpleElement name simple prim framing own_length tried scanned occurs often) rows = slice_get rows (length rows - 1) ≡ Some (Elem name (Some simple) tried framing.behind (length rows - 2))
EndsWith (CalculatedElement name simple statement framing) rows =
    slice_get rows (length rows - 1) ≡ Some (Elem name (Some simple) no_trials framing.behind (length rows - 2))
EndsWith Hidden rows = Unit {0}
